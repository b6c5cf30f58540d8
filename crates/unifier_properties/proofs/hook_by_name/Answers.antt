use mathlib.Core.Path.{sym, ◌∙◌}
use Rattle.unifier_properties.proofs.Lookups.{no_hook_name, no_hook_type, hook_type_found}
use Rattle.unifier_properties.proofs.hook_by_name.Goals as goal

pub returns-then-not-is_hook_name : goal.returns-then-not-is_hook_name
returns-then-not-is_hook_name c = no_hook_name _ _ (sym c.is_hook_name.ensures ∙ c.if-not-is_hook_name.true)

pub returns-then-hook : goal.returns-then-hook
returns-then-hook c =
    no_hook_type _ _ (sym c.is_hook_name.ensures ∙ c.if-not-is_hook_name.false) (rw c.image.ensures at c.word-hook.ensures) c.if-hook.true

pub returns : goal.returns
returns c =
    hook_type_found _ _ (sym c.is_hook_name.ensures ∙ c.if-not-is_hook_name.false) (rw c.image.ensures at c.word-hook.ensures) c.if-hook.false
