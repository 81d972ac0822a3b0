use Rattle.derivations.proofs.TableauFound.{all_small}
use Rattle.derivations.proofs.tableaux.found_is_small.Goals as goal

pub returns : goal.returns
returns g c = all_small (g.C.Rules.calculus c.args._rules.now) (g.C.Rules.occurs c.args._rules.now)
    (g.C.Rules.allows c.args._rules.now) c.requires.fair
