use Rattle.unifier_properties.proofs.Lookups.{no_shape, gives_shape, gives_none}
use Rattle.unifier_properties.proofs.shape_of.Goals as goal

pub returns-in-Object : goal.returns-in-Object
returns-in-Object c = gives_shape c.in-Object.is c.some_shape.ensures

pub returns-in-Function : goal.returns-in-Function
returns-in-Function c = gives_shape c.in-Function.is c.some_shape-in-Function.ensures

pub returns-in-Var : goal.returns-in-Var
returns-in-Var c = gives_none c.in-Var.is

pub returns-in-Phi : goal.returns-in-Phi
returns-in-Phi c = gives_shape c.in-Phi.is no_shape
