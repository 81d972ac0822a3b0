use Rattle.derivations.proofs.TableauFound.{all_rooted, all_reasoned, all_standing, all_offered}
use Rattle.derivations.proofs.tableaux.found_derives.Goals as goal

pub returns-clause-root : goal.returns-clause-root
returns-clause-root g c limit states most depth j d occurs h = all_rooted (g.C.Rules.calculus c.args._rules.now)
    (g.C.Rules.occurs c.args._rules.now) (g.C.Rules.allows c.args._rules.now)
    c.requires.fair limit states most depth j d occurs h

pub returns-clause-reasons : goal.returns-clause-reasons
returns-clause-reasons g c limit states most depth j d occurs h = all_reasoned (g.C.Rules.calculus c.args._rules.now)
    (g.C.Rules.occurs c.args._rules.now) (g.C.Rules.allows c.args._rules.now)
    c.requires.fair limit states most depth j d occurs h

pub returns-clause-nodes : goal.returns-clause-nodes
returns-clause-nodes g c limit states most depth j d occurs h = all_standing (g.C.Rules.calculus c.args._rules.now)
    (g.C.Rules.occurs c.args._rules.now) (g.C.Rules.allows c.args._rules.now)
    c.requires.fair limit states most depth j d occurs h

pub returns-clause-offered : goal.returns-clause-offered
returns-clause-offered g c limit states most depth j d occurs h = all_offered (g.C.Rules.calculus c.args._rules.now)
    (g.C.Rules.occurs c.args._rules.now) (g.C.Rules.allows c.args._rules.now)
    c.requires.fair limit states most depth j d occurs h
