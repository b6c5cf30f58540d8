-- The definition opened, for what is proved of it by computing. Assumes nothing.
use Rattle.names.specs.Names.{names_compute}
use Rattle.names.specs.Digits.{digits_compute}
use Rattle.image.specs.Ty.{ty_compute}
use Rattle.image.specs.Image.{image_compute}
use Rattle.image.specs.Kind.{kind_compute}
use Rattle.image.specs.Read.{read_compute}
use Rattle.image.specs.Body.{body_compute}
use Rattle.image.specs.Nesting.{nesting_compute}
use Rattle.image.specs.Check.{check_compute}
use Rattle.image.specs.Program.{program_compute}
use Rattle.unifier_definition.specs.Cases.{cases_compute}
use Rattle.unifier_definition.specs.Equal.{equal_compute}
use Rattle.unifier_definition.specs.Log.{log_compute}
use Rattle.unifier_definition.specs.Outcome.{outcome_compute}
use Rattle.unifier_definition.specs.Property.{property_compute}
use Rattle.unifier_definition.specs.Resolve.{resolve_compute}
use Rattle.unifier_definition.specs.Unify.{unify_compute}
use Rattle.unifier_definition.specs.Counts.{counts_compute}
use Rattle.run_definition.specs.Items.{items_compute}
use Rattle.run_definition.specs.Equations.{equations_compute}
use Rattle.run_definition.specs.Generate.{generate_compute}
use Rattle.run_definition.specs.Visits.{visits_compute}
use Rattle.run_definition.specs.Tables.{tables_compute}
use Rattle.run_definition.specs.Infer.{infer_compute}
use Rattle.run_definition.specs.More.{more_compute}

-- To unfold this one is to unfold the whole definition.
unfoldable pub compute : Unit {0}
unfolding names_compute digits_compute ty_compute image_compute kind_compute read_compute body_compute nesting_compute check_compute program_compute cases_compute equal_compute log_compute outcome_compute property_compute resolve_compute unify_compute counts_compute items_compute equations_compute generate_compute visits_compute tables_compute infer_compute more_compute
compute = tt
