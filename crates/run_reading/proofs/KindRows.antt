-- The table of kinds: each row is the kind of its number. Assumes nothing.
use Rattle.std.proofs.Common.{ℕ, ◌≡◌, ◌≤◌, ◌<◌, arith, refl, sym, ap, ◌∙◌, Bool, true, length, get_or, Option, Some, None, Bor}
use Rattle.std.proofs.Math.Dec.{ltb, eqb}
use Rattle.std.specs.Prelude.{IfSome, is_some}
use Rattle.std.specs.Option.{option_copied, ok_or}
use Rattle.std.proofs.lemmas.Bool.{ltb-true, ltb-false, eqb-true}
use Rattle.run_reading.specs.Kinds.{word_of, Decodes}
use Rattle.run_reading.specs.declared.kind.Kind.{Kind}
use Rattle.run_reading.specs.declared.kind.Kind.TheVariants.{LoadLocal, LoadContext, DeclareLocal, DeclareContext, StoreLocal, StoreContext, Destructure, Primitive, JSXText, BinaryExpression, NewExpression, CallExpression, MethodCall, UnaryExpression, TypeCastExpression, JsxExpression, ObjectExpression, ObjectMethod, ArrayExpression, JsxFragment, RegExpLiteral, MetaProperty, PropertyStore, PropertyLoad, PropertyDelete, ComputedStore, ComputedLoad, ComputedDelete, LoadGlobal, StoreGlobal, FunctionExpression, TaggedTemplateExpression, TemplateLiteral, Await, GetIterator, IteratorNext, NextPropertyOf, PrefixUpdate, PostfixUpdate, Debugger, StartMemoize, FinishMemoize}
use Rattle.run_reading.specs.declared.kind.UnknownKind.{UnknownKind}
use Rattle.run_reading.specs.declared.kind.TheConstants.{KINDS}
use Rattle.run_reading.proofs.AllFrom.{all_from, all_at}

numbered : ℕ → Kind → Bool
numbered k kind = eqb (word_of kind) k

kinds_numbered : all_from numbered 0 KINDS ≡ true
unfolding all_from numbered
kinds_numbered = refl

row_is : (w : ℕ) (d : Kind) → w < length KINDS → word_of (get_or KINDS w d) ≡ w
unfolding numbered
row_is w d l = eqb-true _ _ (all_at numbered d 0 KINDS kinds_numbered w w (omega arith) l)

-- what `get` finds for a word, or the error for a word past the table
pub decoded : (w : ℕ) (e : UnknownKind) (r : Option (Bor Kind)) → e.0 ≡ w → is_some r ≡ ltb w (length KINDS) → IfSome r (λ x. x.now ≡ get_or KINDS w x.now) → Decodes w (ok_or (option_copied r) e)
decoded w e None q s h = let l : length KINDS ≤ w = ltb-false w (length KINDS) (sym s) in (q, omega arith)
decoded w e (Some x) q s h = let l : w < length KINDS = ltb-true w (length KINDS) (sym s) in ap word_of h ∙ row_is w x.now l

-- each kind stands in the row of its number
row_back : (kind : Kind) → get_or KINDS (word_of kind) LoadLocal ≡ kind
row_back LoadLocal = refl
row_back LoadContext = refl
row_back DeclareLocal = refl
row_back DeclareContext = refl
row_back StoreLocal = refl
row_back StoreContext = refl
row_back Destructure = refl
row_back Primitive = refl
row_back JSXText = refl
row_back BinaryExpression = refl
row_back NewExpression = refl
row_back CallExpression = refl
row_back MethodCall = refl
row_back UnaryExpression = refl
row_back TypeCastExpression = refl
row_back JsxExpression = refl
row_back ObjectExpression = refl
row_back ObjectMethod = refl
row_back ArrayExpression = refl
row_back JsxFragment = refl
row_back RegExpLiteral = refl
row_back MetaProperty = refl
row_back PropertyStore = refl
row_back PropertyLoad = refl
row_back PropertyDelete = refl
row_back ComputedStore = refl
row_back ComputedLoad = refl
row_back ComputedDelete = refl
row_back LoadGlobal = refl
row_back StoreGlobal = refl
row_back FunctionExpression = refl
row_back TaggedTemplateExpression = refl
row_back TemplateLiteral = refl
row_back Await = refl
row_back GetIterator = refl
row_back IteratorNext = refl
row_back NextPropertyOf = refl
row_back PrefixUpdate = refl
row_back PostfixUpdate = refl
row_back Debugger = refl
row_back StartMemoize = refl
row_back FinishMemoize = refl

-- so no two have the same
pub same_kind : {kind other : Kind} → word_of kind ≡ word_of other → kind ≡ other
same_kind {kind} {other} e = sym (row_back kind) ∙ ap (λ (w : ℕ). get_or KINDS w LoadLocal) e ∙ row_back other
