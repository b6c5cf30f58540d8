use Rattle.std.proofs.Common.{◌≡◌, ◌∙◌}
use Rattle.std.specs.Prelude.{slice_get}
use Rattle.image_instructions.specs.declared.form.TheConstants.{FORMS}
use Rattle.image_instructions.proofs.Forms.{forms_said, got_copied}
use Rattle.image_instructions.proofs.form.form_of.Goals as goal

pub returns : goal.returns
returns c =
    let e : c.copied.result ≡ slice_get FORMS c.args.kind = c.copied.ensures ∙ got_copied FORMS _ _ c.get.ensures.lookup.0 c.get.ensures.lookup.1 in
    rw e (forms_said c.args.kind)
