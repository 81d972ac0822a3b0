use Rattle.counter_model.proofs.laws.counter_models_refute.Goals as goal

pub returns : goal.returns
returns c = λ ds a bs s h k holds. k.disjuncts (holds s h k.antecedent)
