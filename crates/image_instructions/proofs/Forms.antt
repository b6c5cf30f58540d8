-- The table of forms: each row says what the definition's says. Assumes nothing.
use Rattle.std.proofs.Common.{◌≡◌, ℕ, zero, suc, ◌<◌, ◌≤◌, List, [], ◌∷◌, map, length, get_or, refl, ap, sym, Bor}
use Rattle.std.proofs.Math.Dec.{ltb}
use Rattle.std.proofs.Math.ListN.{get_elem?}
use Rattle.std.specs.Prelude.{Option, Some, None, slice_get, IfSome, is_some}
use Rattle.std.specs.Option.{option_copied}
use Rattle.std.proofs.lemmas.Option.{slice_get_past, slice_get_read}
use borrow.Author.Tests.{ltb-true, ltb-false}
use Rattle.image.specs.Kind as said
use Rattle.image_instructions.specs.declared.form.Form.{Form}
use Rattle.image_instructions.specs.declared.form.TheConstants.{FORMS}
use Rattle.image_instructions.specs.Forms.{aux_said, items_said, SaysForm}

shown : said.Form → said.Aux × said.Items
shown s = (s.aux, s.items)

said_by : Form → said.Aux × said.Items
said_by f = (aux_said f.0, items_said f.1)

-- tables that agree as a whole agree at each entry
agreed : (fs : List Form) (ss : List said.Form) → map said_by fs ≡ map shown ss → (k : ℕ) → SaysForm (slice_get fs k) (get_elem? ss k)
unfolding said_by shown
agreed [] [] e k = refl
agreed [] (s ∷ ss) e k = cc
agreed (f ∷ fs) [] e k = cc
agreed (f ∷ fs) (s ∷ ss) e zero =
    let p : said_by f ≡ shown s = cc in
    (s, refl, record { aux = ap (λ (x : said.Aux × said.Items). x.0) p; items = ap (λ (x : said.Aux × said.Items). x.1) p })
agreed (f ∷ fs) (s ∷ ss) e (suc k) = agreed fs ss (cc) k

pub forms_said : (k : ℕ) → SaysForm (slice_get FORMS k) (said.form_of k)
unfolding said_by shown said.forms said.form_of
forms_said k = agreed FORMS said.forms refl k

-- what `get` gives of a list
pub got_copied : {X : Type 0} (xs : List X) (k : ℕ) (r : Option (Bor X)) → is_some r ≡ ltb k (length xs) → IfSome r (λ x. x.now ≡ get_or xs k x.now) → option_copied r ≡ slice_get xs k
got_copied xs k None e h = let l : length xs ≤ k = ltb-false k (length xs) (sym e) in rw (slice_get_past xs k l)
got_copied xs k (Some x) e h = let l : k < length xs = ltb-true k (length xs) (sym e) in rw (slice_get_read xs (length xs) k x.now refl l h)
