use Rattle.model_check.proofs.OnlyLocals.{inside_all}
use Rattle.general_models.proofs.Permuted.{stage_moved}
use Rattle.general_models.proofs.laws.permutations_keep_stages.Goals as goal

pub returns : goal.returns
returns c = λ move twice h leaves ds n p vs. stage_moved move twice h leaves ds n p vs h (inside_all h)
