use Rattle.derivations.proofs.TableauFound.{all_premised, all_apart}
use Rattle.derivations.proofs.tableaux.found_has_premises.Goals as goal

pub returns-clause-premises : goal.returns-clause-premises
returns-clause-premises g c limit states most depth j d occurs h = all_premised (g.C.Rules.calculus c.args._rules.now)
    (g.C.Rules.occurs c.args._rules.now) (g.C.Rules.allows c.args._rules.now)
    c.requires.fair limit states most depth j d occurs h

pub returns-clause-apart : goal.returns-clause-apart
returns-clause-apart g c limit states most depth j d occurs h = all_apart (g.C.Rules.calculus c.args._rules.now)
    (g.C.Rules.occurs c.args._rules.now) (g.C.Rules.allows c.args._rules.now)
    c.requires.fair limit states most depth j d occurs h
