use Rattle.derivations.proofs.LogicFound.{each_is_proof}
use Rattle.derivations.proofs.found.laws.found_is_proof.Goals as goal

pub returns : goal.returns
returns g c =
    let r = c.args._rules.now in
    each_is_proof (g.L.Logic.logic c.args._logic.now) (g.C.Rules.calculus r) (g.C.Rules.occurs r) (g.C.Rules.allows r)
    c.requires
