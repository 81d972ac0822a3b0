use Rattle.script_reader.proofs.machine.Machine.step.Goals as goal

pub returns-in-Join-clause-told : goal.returns-in-Join-clause-told
returns-in-Join-clause-told c = c.join.ensures.told c.args.reading.trees.now

pub returns-in-Negate-clause-told : goal.returns-in-Negate-clause-told
returns-in-Negate-clause-told c = c.negate.ensures.told c.args.reading.trees.now

pub returns-in-Quantify-clause-told : goal.returns-in-Quantify-clause-told
returns-in-Quantify-clause-told c = c.quantify.ensures.told c.args.reading.trees.now
