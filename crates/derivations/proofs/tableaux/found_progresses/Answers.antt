use Rattle.derivations.proofs.TableauFound.{all_graphs, all_progressing}
use Rattle.derivations.proofs.tableaux.found_progresses.Goals as goal

pub returns-clause-graph : goal.returns-clause-graph
returns-clause-graph g c limit states most depth j d occurs h = all_graphs (g.C.Rules.calculus c.args._rules.now)
    (g.C.Rules.occurs c.args._rules.now) (g.C.Rules.allows c.args._rules.now)
    c.requires.fair limit states most depth j d occurs h

pub returns-clause-lassos : goal.returns-clause-lassos
returns-clause-lassos g c limit states most depth j d occurs h = all_progressing (g.C.Rules.calculus c.args._rules.now)
    (g.C.Rules.occurs c.args._rules.now) (g.C.Rules.allows c.args._rules.now)
    c.requires.fair limit states most depth j d occurs h
