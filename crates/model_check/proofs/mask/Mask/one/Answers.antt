use Rattle.std.proofs.Common.{sym, subst, ap, ◌∙◌, List, ℕ}
use Rattle.model_check.specs.WideMasks.{number, IsNormal}
use Rattle.model_check.proofs.WideWords.{number_bit, normal_bit}
use Rattle.model_check.proofs.mask.Mask.one.Goals as goal

pub invariant_of-result : goal.invariant_of-result
invariant_of-result c = subst (λ (ws : List ℕ). IsNormal ws) (sym c.in_ok-words.ensures) (normal_bit c.args.place)

pub returns : goal.returns
returns c = ap number c.in_ok-words.ensures ∙ number_bit c.args.place
