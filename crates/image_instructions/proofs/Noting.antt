-- Noting one function, several and none, and the invariant of a loop that reads and notes. Assumes nothing.
use Rattle.std.proofs.Common.{◌≡◌, ℕ, zero, suc, ◌<◌, ◌≤◌, Bool, true, false, not, ◌&&◌, List, [], ◌∷◌, ◌++◌, length, get_or, set, refl, sym, ap, subst, ◌∙◌, arith, length-set, Some}
use Rattle.std.proofs.Math.Option.{Option, none, some}
use Rattle.std.proofs.Math.ListN.{replicate}
use Rattle.std.proofs.Math.Seq.{get_or-set_same, get_or-set_other}
use Rattle.std.proofs.Math.Dec.{ltb}
use native.Mathlib.Decide.{ℕ_discrete}
use borrow.Author.Tests.{lt-ltb, le-ltb, eq-eqb, ne_eqb}
use Rattle.image.specs.Nesting.{member, name_each}
use Rattle.image.specs.Read.{Read, nothing, got, followed}
use Rattle.image_instructions.specs.declared.marks.BodyReader.{BodyReader}
use Rattle.image_instructions.specs.Marks.{note, Stands, misnested, nested, Noting, Noted}
use Rattle.image_instructions.specs.Reads.{left}

-- f names g: g is too small, or named already, or named for the first time
note_small : (f g : ℕ) (s : Option (List ℕ)) → g ≤ f → note f (g ∷ []) s ≡ none
unfolding note name_each
note_small f g none h = refl
note_small f g (some named) h = rw (le-ltb f g h, name_each)

pub stands_small : (f g : ℕ) (m : List Bool) (s : Option (List ℕ)) → g ≤ f → 0 < length m → Stands (set m 0 true) (note f (g ∷ []) s)
stands_small f g m s h l = rw (note_small f g s h) (misnested (get_or-set_same m 0 true false l))

module _ (f g : ℕ) (m : List Bool) (h : f < g) (l : g < length m) where
  note_again : get_or m g false ≡ true → {s : Option (List ℕ)} → Stands m s → note f (g ∷ []) s ≡ none
  unfolding note name_each
  note_again e (misnested p) = refl
  note_again e (nested {named} p q) =
      let r : member g named ≡ true = sym (q g l) ∙ e in
      rw (lt-ltb f g h, r, name_each)

  pub stands_again : get_or m g false ≡ true → {s : Option (List ℕ)} → Stands m s → Stands (set m 0 true) (note f (g ∷ []) s)
  stands_again e p = rw (note_again e p) (misnested (get_or-set_same m 0 true false (omega arith)))

  marked_more : (named : List ℕ) → ((k : ℕ) → k < length m → get_or m k false ≡ member k named) → (k : ℕ) → k < length (set m g true) → get_or (set m g true) k false ≡ member k (g ∷ named)
  unfolding member
  marked_more named q k u = go (ℕ_discrete k g)
    where
      go : Dec (k ≡ g) → get_or (set m g true) k false ≡ member k (g ∷ named)
      go (yes e) = rw (eq-eqb k g e, member, e, get_or-set_same m g true false l)
      go (no e) = rw (ne_eqb k g e, member, get_or-set_other m g k true false e) (q k (simp length-set at u))

  pub stands_first : get_or m g false ≡ false → {s : Option (List ℕ)} → Stands m s → Stands (set m g true) (note f (g ∷ []) s)
  unfolding note name_each
  stands_first e (misnested p) = misnested (rw (get_or-set_other m g 0 true false (λ z. omega arith)) p)
  stands_first e (nested {named} p q) =
      let r : member g named ≡ false = sym (q g l) ∙ e in
      rw (lt-ltb f g h, r, name_each)
      (nested (rw (get_or-set_other m g 0 true false (λ z. omega arith)) p) (marked_more named q))

-- marks of none
unmarked : (n g : ℕ) → get_or (replicate n false) g false ≡ false
unmarked zero g = refl
unmarked (suc n) zero = refl
unmarked (suc n) (suc g) = unmarked n g

pub stands_none : (n : ℕ) → Stands (replicate n false) (some [])
unfolding member
stands_none n = nested (unmarked n 0) (λ g k. unmarked n g)

-- noting nothing, and in a row
note_none : (f : ℕ) (s : Option (List ℕ)) → note f [] s ≡ s
unfolding note name_each
note_none f none = refl
note_none f (some named) = refl

note_row : (f : ℕ) (gs hs : List ℕ) (s : Option (List ℕ)) → note f (gs ++ hs) s ≡ note f hs (note f gs s)
unfolding note name_each
note_row f gs hs none = refl
note_row f [] hs (some named) = refl
note_row f (g ∷ gs) hs (some named) = go (ltb f g && not (member g named)) refl (note_row f gs hs (some (g ∷ named)))
  where
    go : (b : Bool) → (ltb f g && not (member g named)) ≡ b → name_each f (gs ++ hs) (g ∷ named) ≡ note f hs (name_each f gs (g ∷ named)) → note f ((g ∷ gs) ++ hs) (some named) ≡ note f hs (note f (g ∷ gs) (some named))
    go true e q = rw (e, name_each) q
    go false e q = rw (e, name_each)

pub noting_none : {n : ℕ} (r : BodyReader n) → Noting [] r r
noting_none r = record { limits = refl; function = refl; stands = λ {s} p. rw (note_none r.function s) p }

pub noting_row : {n : ℕ} {gs hs : List ℕ} {r₀ r₁ r₂ : BodyReader n} → Noting gs r₀ r₁ → Noting hs r₁ r₂ → Noting (gs ++ hs) r₀ r₂
noting_row {n} {gs} {hs} {r₀} {r₁} {r₂} a b =
    record {
      limits = b.limits ∙ a.limits;
      function = b.function ∙ a.function;
      stands = λ {s} p. rw (note_row r₀.function gs hs s) (subst (λ (f : ℕ). Stands r₂.named (note f hs (note r₀.function gs s))) a.function (b.stands (a.stands p)));
    }

-- the value of a reader that leaves some words
pub got_of : {A : Type 0} (o : Read A) {rest : List ℕ} → left o ≡ Some rest → (a : A) × (o ≡ got a rest)
unfolding left
got_of nothing e = cc
got_of (got a ws) {rest} e = let q : ws ≡ rest = cc in (a, rw q)

-- a reader that only makes another value of what it read, with what that value names
pub noted_made : {n : ℕ} {A B : Type 0} {names : B → List ℕ} {gs : List ℕ} (o : Read A) {p : Read B} {r r₁ : BodyReader n} {rest : List ℕ} (g : A → B) → ((a : A) → names (g a) ≡ gs) → p ≡ followed o (λ a ws. got (g a) ws) → left o ≡ Some rest → Noting gs r r₁ → Noted names p r r₁ rest
unfolding followed
noted_made o g q e l n =
    let v = got_of o l in
    record { value = g v.0; reads = e ∙ ap (λ x. followed x (λ a ws. got (g a) ws)) v.1; noting = rw (q v.0) n }
