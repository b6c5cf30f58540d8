use Rattle.run_naming.proofs.Accessing.{computed_gives}
use Rattle.run_naming.proofs.computed_load.Goals as goal

pub returns : goal.returns
returns c = computed_gives c.args.on.now c.requires.ready c.requires.items c.item.ensures c.slot.ensures _ c.property.ensures
