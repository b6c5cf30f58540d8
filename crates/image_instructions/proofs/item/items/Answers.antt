use Rattle.std.proofs.Common.{arith}
use Rattle.image_instructions.specs.Forms.{tags_said}
use Rattle.image_instructions.proofs.Items.{places_out, places_in, pattern_out, pattern_in}
use Rattle.image_instructions.proofs.item.items.Goals as goal

pub returns-in_err-others-in-PlacesThen : goal.returns-in_err-others-in-PlacesThen
returns-in_err-others-in-PlacesThen c =
    rw (c.from_residual.ensures, c.in-PlacesThen.is) (places_out c.args.limits c.args.aux c.args.n _ _ (tags_said c.in-PlacesThen.tags) (omega (arith, c.in_err-others-in-PlacesThen.ensures)))

pub returns-in_err-elements-in-Pattern : goal.returns-in_err-elements-in-Pattern
returns-in_err-elements-in-Pattern c =
    rw (c.from_residual-in_err-elements-in-Pattern.ensures, c.in-Pattern.is) (pattern_out c.args.limits c.args.aux c.args.n _ (omega (arith, c.in_err-elements-in-Pattern.ensures)))

pub returns-in_ok-others-in-PlacesThen : goal.returns-in_ok-others-in-PlacesThen
returns-in_ok-others-in-PlacesThen c =
    rw (c.in-PlacesThen.is, places_in c.args.limits c.args.aux c.args.n c.args.words.now c.in-PlacesThen.places (tags_said c.in-PlacesThen.tags) c.in_ok-others-in-PlacesThen.others (omega (arith, c.in_ok-others-in-PlacesThen.ensures))) c.runs.ensures

pub returns-in_ok-elements-in-Pattern : goal.returns-in_ok-elements-in-Pattern
returns-in_ok-elements-in-Pattern c =
    rw (c.in-Pattern.is, pattern_in c.args.limits c.args.aux c.args.n c.args.words.now c.in_ok-elements-in-Pattern.elements (omega (arith, c.in_ok-elements-in-Pattern.ensures)), ← c.pattern_tags.ensures) c.runs-in-Pattern.ensures
