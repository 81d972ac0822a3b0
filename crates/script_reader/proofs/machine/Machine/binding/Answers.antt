use Rattle.script_reader.proofs.Standing.{memory_told}
use Rattle.script_reader.proofs.machine.Machine.binding.Goals as goal

pub returns-clause-told : goal.returns-clause-told
returns-clause-told c = memory_told _ c.args.reading.trees.now c.with.result c.with.ensures
