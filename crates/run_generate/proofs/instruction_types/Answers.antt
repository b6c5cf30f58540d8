use Rattle.std.proofs.Common.{refl, arith, true, false}
use Rattle.image.specs.Ty.{function_kind}
use Rattle.image.specs.Kind.{forms}
use Rattle.run_definition.specs.Fitting.{least_items}
use Rattle.run_reading.specs.declared.kind.Kind.TheVariants.{LoadLocal, StoreLocal, StoreContext, Destructure, BinaryExpression, NewExpression, CallExpression, MethodCall, PropertyStore, PropertyLoad, ComputedLoad, FunctionExpression, TaggedTemplateExpression}
use Rattle.run_generate.proofs.KindTable.{items_there}
use Rattle.run_walk.proofs.Composing.{names_in}
use Rattle.run_generate.proofs.Dispatch.{alias_items, update_items, operand_inside, same_kind, primitive_done, update_done, binary_done, store_local_done, store_context_done, alias_done, jsx_done, object_expression_done, object_method_done, array_done, fragment_done, load_global_done, new_done, method_done, tagged_done, silent_done}
use Rattle.run_generate.proofs.instruction_types.Goals as goal

pub load_local-requires-clause-items : goal.load_local-requires-clause-items
unfolding forms least_items
load_local-requires-clause-items c = items_there c.args.on.now LoadLocal c.in-LoadLocal.ensures (omega arith)

pub store_local-requires-clause-items : goal.store_local-requires-clause-items
unfolding forms least_items
store_local-requires-clause-items c = items_there c.args.on.now StoreLocal c.in-StoreLocal.ensures (omega arith)

pub store_context-requires-clause-items : goal.store_context-requires-clause-items
unfolding forms least_items
store_context-requires-clause-items c = items_there c.args.on.now StoreContext c.in-StoreContext.ensures (omega arith)

pub destructure-requires-clause-items : goal.destructure-requires-clause-items
unfolding forms least_items
destructure-requires-clause-items c = items_there c.args.on.now Destructure c.in-Destructure.ensures (omega arith)

pub binary-requires-clause-items : goal.binary-requires-clause-items
unfolding forms least_items
binary-requires-clause-items c = items_there c.args.on.now BinaryExpression c.in-BinaryExpression.ensures (omega arith)

pub call_expression-requires-clause-items : goal.call_expression-requires-clause-items
unfolding forms least_items
call_expression-requires-clause-items c = items_there c.args.on.now CallExpression c.in-CallExpression.ensures (omega arith)

pub property_store-requires-clause-items : goal.property_store-requires-clause-items
unfolding forms least_items
property_store-requires-clause-items c = items_there c.args.on.now PropertyStore c.in-PropertyStore.ensures (omega arith)

pub property_load-requires-clause-items : goal.property_load-requires-clause-items
unfolding forms least_items
property_load-requires-clause-items c = items_there c.args.on.now PropertyLoad c.in-PropertyLoad.ensures (omega arith)

pub computed_load-requires-clause-items : goal.computed_load-requires-clause-items
unfolding forms least_items
computed_load-requires-clause-items c = items_there c.args.on.now ComputedLoad c.in-ComputedLoad.ensures (omega arith)

pub operand-requires : goal.operand-requires
unfolding forms least_items
operand-requires c = items_there c.args.on.now NewExpression c.in-NewExpression.ensures (omega arith)

pub call-requires-clause-callee : goal.call-requires-clause-callee
unfolding forms least_items
call-requires-clause-callee c = operand_inside c.args.on.now c.requires.ready {k = 0} (items_there c.args.on.now NewExpression c.in-NewExpression.ensures (omega arith)) c.operand.ensures

pub call-requires-clause-kind : goal.call-requires-clause-kind
unfolding function_kind
call-requires-clause-kind c = (true, refl)

pub operand-requires-in-MethodCall : goal.operand-requires-in-MethodCall
unfolding forms least_items
operand-requires-in-MethodCall c = items_there c.args.on.now MethodCall c.in-MethodCall.ensures (omega arith)

pub call-requires-in-MethodCall-clause-callee : goal.call-requires-in-MethodCall-clause-callee
unfolding forms least_items
call-requires-in-MethodCall-clause-callee c = operand_inside c.args.on.now c.requires.ready {k = 1} (items_there c.args.on.now MethodCall c.in-MethodCall.ensures (omega arith)) c.operand-in-MethodCall.ensures

pub call-requires-in-MethodCall-clause-kind : goal.call-requires-in-MethodCall-clause-kind
unfolding function_kind
call-requires-in-MethodCall-clause-kind c = (false, refl)

pub operand-requires-in-TaggedTemplateExpression : goal.operand-requires-in-TaggedTemplateExpression
unfolding forms least_items
operand-requires-in-TaggedTemplateExpression c = items_there c.args.on.now TaggedTemplateExpression c.in-TaggedTemplateExpression.ensures (omega arith)

pub call-requires-in-TaggedTemplateExpression-clause-callee : goal.call-requires-in-TaggedTemplateExpression-clause-callee
unfolding forms least_items
call-requires-in-TaggedTemplateExpression-clause-callee c = operand_inside c.args.on.now c.requires.ready {k = 0} (items_there c.args.on.now TaggedTemplateExpression c.in-TaggedTemplateExpression.ensures (omega arith)) c.operand-in-TaggedTemplateExpression.ensures

pub call-requires-in-TaggedTemplateExpression-clause-kind : goal.call-requires-in-TaggedTemplateExpression-clause-kind
unfolding function_kind
call-requires-in-TaggedTemplateExpression-clause-kind c = (false, refl)

pub alias-requires-clause-items : goal.alias-requires-clause-items
alias-requires-clause-items c = alias_items c.args.on.now c.kind.ensures c.in-TypeCastExpression.is

pub primitives-requires-clause-items : goal.primitives-requires-clause-items
primitives-requires-clause-items c = update_items c.args.on.now c.kind.ensures c.in-PrefixUpdate.is

pub returns-in-LoadLocal : goal.returns-in-LoadLocal
unfolding forms
returns-in-LoadLocal c = same_kind c.args.on.now c.requires.ready LoadLocal c.in-LoadLocal.ensures c.load_local.ensures

pub returns-in-Destructure : goal.returns-in-Destructure
unfolding forms
returns-in-Destructure c = same_kind c.args.on.now c.requires.ready Destructure c.in-Destructure.ensures c.destructure.ensures

pub returns-in-CallExpression : goal.returns-in-CallExpression
unfolding forms
returns-in-CallExpression c = same_kind c.args.on.now c.requires.ready CallExpression c.in-CallExpression.ensures c.call_expression.ensures

pub returns-in-PropertyStore : goal.returns-in-PropertyStore
unfolding forms
returns-in-PropertyStore c = same_kind c.args.on.now c.requires.ready PropertyStore c.in-PropertyStore.ensures c.property_store.ensures

pub returns-in-PropertyLoad : goal.returns-in-PropertyLoad
unfolding forms
returns-in-PropertyLoad c = same_kind c.args.on.now c.requires.ready PropertyLoad c.in-PropertyLoad.ensures c.property_load.ensures

pub returns-in-ComputedLoad : goal.returns-in-ComputedLoad
unfolding forms
returns-in-ComputedLoad c = same_kind c.args.on.now c.requires.ready ComputedLoad c.in-ComputedLoad.ensures c.computed_load.ensures

pub returns-in-StoreLocal : goal.returns-in-StoreLocal
returns-in-StoreLocal c = store_local_done c.args.on.now c.requires.ready c.in-StoreLocal.ensures c.store_local.ensures

pub returns-in-StoreContext : goal.returns-in-StoreContext
returns-in-StoreContext c = store_context_done c.args.on.now c.requires.ready c.in-StoreContext.ensures c.store_context.ensures

pub returns-in-BinaryExpression : goal.returns-in-BinaryExpression
returns-in-BinaryExpression c = binary_done c.args.on.now c.requires.ready c.in-BinaryExpression.ensures c.binary.ensures

pub jsx_expression-requires-clause-names : goal.jsx_expression-requires-clause-names
jsx_expression-requires-clause-names c = names_in c.requires.ready

pub returns-in-JsxExpression : goal.returns-in-JsxExpression
returns-in-JsxExpression c = jsx_done c.args.on.now c.requires.ready c.in-JsxExpression.ensures c.jsx_expression.ensures

pub returns-in-ObjectExpression : goal.returns-in-ObjectExpression
returns-in-ObjectExpression c = object_expression_done c.args.on.now c.requires.ready c.in-ObjectExpression.ensures c.object_expression.ensures

pub returns-in-ObjectMethod : goal.returns-in-ObjectMethod
returns-in-ObjectMethod c = object_method_done c.args.on.now c.requires.ready c.in-ObjectMethod.ensures c.object_method.ensures

pub returns-in-ArrayExpression : goal.returns-in-ArrayExpression
returns-in-ArrayExpression c = array_done c.args.on.now c.requires.ready c.in-ArrayExpression.ensures c.object.ensures

pub returns-in-JsxFragment : goal.returns-in-JsxFragment
returns-in-JsxFragment c = fragment_done c.args.on.now c.requires.ready c.in-JsxFragment.ensures c.object-in-JsxFragment.ensures

pub returns-in-LoadGlobal : goal.returns-in-LoadGlobal
returns-in-LoadGlobal c = load_global_done c.args.on.now c.requires.ready c.in-LoadGlobal.ensures c.load_global.ensures

pub returns-in-FunctionExpression : goal.returns-in-FunctionExpression
unfolding forms
returns-in-FunctionExpression c = same_kind c.args.on.now c.requires.ready FunctionExpression c.in-FunctionExpression.ensures c.function_expression.ensures

pub returns-in-Primitive : goal.returns-in-Primitive
returns-in-Primitive c = primitive_done c.args.on.now c.requires.ready c.kind.ensures c.in-Primitive.is c.primitive.ensures

pub returns-in-TypeCastExpression : goal.returns-in-TypeCastExpression
returns-in-TypeCastExpression c = alias_done c.args.on.now c.requires.ready c.kind.ensures c.in-TypeCastExpression.is c.alias.ensures

pub returns-in-PrefixUpdate : goal.returns-in-PrefixUpdate
returns-in-PrefixUpdate c = update_done c.args.on.now c.requires.ready c.kind.ensures c.in-PrefixUpdate.is c.primitives.ensures

pub returns-in-NewExpression : goal.returns-in-NewExpression
returns-in-NewExpression c = new_done c.args.on.now c.requires.ready c.in-NewExpression.ensures c.operand.ensures c.call.ensures

pub returns-in-MethodCall : goal.returns-in-MethodCall
returns-in-MethodCall c = method_done c.args.on.now c.requires.ready c.in-MethodCall.ensures c.operand-in-MethodCall.ensures c.call-in-MethodCall.ensures

pub returns-in-TaggedTemplateExpression : goal.returns-in-TaggedTemplateExpression
returns-in-TaggedTemplateExpression c = tagged_done c.args.on.now c.requires.ready c.in-TaggedTemplateExpression.ensures c.operand-in-TaggedTemplateExpression.ensures c.call-in-TaggedTemplateExpression.ensures

pub returns-in-LoadContext : goal.returns-in-LoadContext
returns-in-LoadContext c = silent_done c.args.on.now c.requires.ready c.kind.ensures c.in-LoadContext.is
