use Rattle.unifier_nodes.proofs.Promised.{handed_on}
use Rattle.run_naming.proofs.Logging.{local_asked, local_refused, name_asked, local_gives}
use Rattle.run_naming.proofs.load_local.Goals as goal

pub equal-requires : goal.equal-requires
equal-requires c = local_asked c.args.on.now c.requires.ready c.requires.items c.slot.ensures c.operand.ensures

pub returns-in_err-equal : goal.returns-in_err-equal
returns-in_err-equal c =
    rw (handed_on _ c.from_residual.ensures.1) (local_refused c.args.on.now c.requires.ready c.requires.items c.slot.ensures c.operand.ensures c.in_err-equal.ensures)

pub log_name-requires : goal.log_name-requires
log_name-requires c = name_asked c.args.on.now c.requires.ready c.requires.items c.slot.ensures c.operand.ensures c.in_ok-equal.ensures c.item.ensures

pub returns : goal.returns
returns c =
    local_gives c.args.on.now c.requires.ready c.requires.items c.slot.ensures c.operand.ensures c.in_ok-equal.ensures c.item.ensures c.lvalue.ensures c.log_name.ensures
