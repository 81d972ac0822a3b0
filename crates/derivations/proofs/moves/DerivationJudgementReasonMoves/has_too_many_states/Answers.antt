use Rattle.std.proofs.Common.{refl, sym, ◌∙◌}
use Rattle.derivations.specs.Derivations.{search_in}
use Rattle.derivations.proofs.Nexts.{complete_is}
use Rattle.derivations.proofs.moves.DerivationJudgementReasonMoves.has_too_many_states.Goals as goal

pub is_above_states-requires-clause-complete : goal.is_above_states-requires-clause-complete
is_above_states-requires-clause-complete g c = sym
    (complete_is g.L.Rules.calculus g.L.Rules.occurs g.L.Rules.allows c.args.self.now c.requires.order)
    ∙ c.requires.complete (search_in g.L.Rules.calculus c.args.self.now) refl
