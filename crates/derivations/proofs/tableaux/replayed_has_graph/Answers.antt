use Rattle.derivations.proofs.Replays.{all_replayed}
use Rattle.derivations.proofs.tableaux.replayed_has_graph.Goals as goal

pub returns : goal.returns
returns g c j d t occurs all' h some' = all_replayed (g.C.Rules.calculus c.args._rules.now)
    (g.C.Rules.occurs c.args._rules.now) (g.C.Rules.allows c.args._rules.now) c.requires.fair j d t occurs all' h some'
