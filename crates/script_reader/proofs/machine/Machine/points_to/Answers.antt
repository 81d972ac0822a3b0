use Rattle.script_reader.proofs.machine.Machine.points_to.Goals as goal

pub returns-clause-told : goal.returns-clause-told
returns-clause-told c = c.done.ensures.told c.args.reading.trees.now
