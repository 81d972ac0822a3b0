use Rattle.derivations.proofs.TableauFound.{all_edged}
use Rattle.derivations.proofs.tableaux.found_has_edges.Goals as goal

pub returns : goal.returns
returns g c limit states most depth j d occurs h = all_edged (g.C.Rules.calculus c.args._rules.now)
    (g.C.Rules.occurs c.args._rules.now) (g.C.Rules.allows c.args._rules.now)
    c.requires.fair limit states most depth j d occurs h
