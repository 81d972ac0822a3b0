use Rattle.model_check.proofs.OnlyLocals.{universal_constructive}
use Rattle.counter_model.proofs.first_heaps.is_counter.Goals as goal

pub satisfied-requires-clause-formula : goal.satisfied-requires-clause-formula
satisfied-requires-clause-formula c = universal_constructive c.args.antecedent.now c.requires.universal
