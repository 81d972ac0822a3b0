use Rattle.script_reader.proofs.machine.Machine.name.Goals as goal

pub returns-in-Some-True-clause-told : goal.returns-in-Some-True-clause-told
returns-in-Some-True-clause-told c = c.done.ensures.told c.args.reading.trees.now

pub returns-in-Some-False-clause-told : goal.returns-in-Some-False-clause-told
returns-in-Some-False-clause-told c = c.done-in-Some-False.ensures.told c.args.reading.trees.now

pub returns-in-Some-Empty-clause-told : goal.returns-in-Some-Empty-clause-told
returns-in-Some-Empty-clause-told c = c.done-in-Some-Empty.ensures.told c.args.reading.trees.now
