-- What the test of bodies that share a word knows of the bodies it has passed. Assumes nothing.
use Rattle.std.specs.Prelude.{ℕ, ◌+◌, ◌≤◌, ◌<◌, List}
use Rattle.image.specs.declared.Table.TheVariants.{Functions}
use Rattle.image.specs.Image.{cell}
use Rattle.image_bodies.specs.declared.overlap.Span.{Span}

-- the first word of a body
abbrev pub body_start : List ℕ → ℕ → ℕ
body_start img f = cell Functions img f 0

-- the word after the last of a body
abbrev pub body_end : List ℕ → ℕ → ℕ
body_end img f = cell Functions img f 0 + cell Functions img f 1

-- the bodies before body g lie in a span
pub record Spans (img : List ℕ) (g : ℕ) (span : Span) : Type 0 where
  pub above : (f : ℕ) → f < g → span.low ≤ body_start img f
  pub below : (f : ℕ) → f < g → body_end img f ≤ span.high
