use Rattle.std.proofs.Common.{ap}
use Rattle.cyc_basics.specs.declared.limits.Limits.{Limits}
use Rattle.script_formulas.proofs.limits.widest_limits.Goals as goal

pub returns-clause-pure : goal.returns-clause-pure
returns-clause-pure c = ap (λ (most : Limits). most.pure) c.limits.ensures.value

pub returns-clause-spatial : goal.returns-clause-spatial
returns-clause-spatial c = ap (λ (most : Limits). most.spatial) c.limits.ensures.value
