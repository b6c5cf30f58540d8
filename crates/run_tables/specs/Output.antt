-- Words are put out one after another, to be counted or to be written. Assumes nothing.
use Rattle.std.specs.Prelude.{ℕ, ◌+◌, ◌-◌, ◌^◌, ◌≤◌, ◌≡◌, List, [], ◌∷◌, length, slice_set, refl}
use Rattle.std.proofs.Common.{length-set}
use Rattle.run_tables.specs.declared.output.Counter.{Counter}
use Rattle.run_tables.specs.declared.output.Writer.{Writer}

-- what takes words: as it is once a word is put at a place, and how many places it has
pub record Sink (S : Type 0) : Type 0 where
  pub put : S → ℕ → ℕ → S
  pub places : S → ℕ

-- what takes words, and where the next goes
pub record Target (S : Type 0) : Type 0 where
  pub out : S
  pub next : ℕ

abbrev pub target : {S : Type 0} → S → ℕ → Target S
target out next = record { out = out; next = next }

module _ {S : Type 0} (k : Sink S) where
  -- words are put one after another
  abbrev pub emit : Target S → List ℕ → Target S
  emit s [] = s
  emit s (x ∷ xs) = emit (target (k.put s.out s.next x) (s.next + 1)) xs

  -- there is room for n words more
  abbrev pub has_room : Target S → ℕ → Type 0
  has_room s n = s.next + n ≤ k.places s.out

  -- a word leaves the number of places as it is
  pub record Lawful : Type 0 where
    pub kept : (s : S) (i x : ℕ) → k.places (k.put s i x) ≡ k.places s

-- words are counted, as many as fit a word
abbrev pub counting : Sink Counter
counting = record { put = λ s i x. s; places = λ s. 2 ^ 32 - 1 }

pub counting_lawful : Lawful counting
counting_lawful = record { kept = λ s i x. refl }

-- words are written
abbrev pub writing : Sink Writer
writing =
    record {
      put = λ s i x. record s { table = record s.table { now = slice_set s.table.now i x } };
      places = λ s. length s.table.now;
    }

pub writing_lawful : Lawful writing
writing_lawful = record { kept = λ s i x. length-set s.table.now i x }
