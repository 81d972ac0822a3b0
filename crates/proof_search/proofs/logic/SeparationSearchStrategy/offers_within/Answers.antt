use Rattle.std.proofs.Common.{arith}
use Rattle.derivations.proofs.Leaving.{none_out}
use Rattle.proof_search.specs.Calculus.{calculus_of}
use Rattle.proof_search.specs.Moves.{theory_in}
use Rattle.proof_search.proofs.Closing.{closing_left}
use Rattle.proof_search.proofs.Proofs.{are_small}
use Rattle.proof_search.proofs.logic.SeparationSearchStrategy.offers_within.Goals as goal

pub closing_offers-requires-clause-small : goal.closing_offers-requires-clause-small
closing_offers-requires-clause-small c =
    are_small (theory_in c.args.self.now) c.args.goal.now.premise.judgement c.requires.occur.goal

pub returns-then-most-gt0-clause-rules : goal.returns-then-most-gt0-clause-rules
returns-then-most-gt0-clause-rules c =
    none_out (calculus_of (theory_in c.args.self.now)) c.args.made.now c.args.goal.now c.args.most _ _
    c.in_ok-offers.ensures.rules

pub returns-clause-rules : goal.returns-clause-rules
returns-clause-rules c =
    closing_left (theory_in c.args.self.now) c.args.made.now c.args.goal.now c.args.most
    c.in_ok-offered.offered.rules.items _ (omega (arith, c.if-most-gt0.false)) c.in_ok-as_rules.ensures
    c.in_ok-offered.ensures.rules c.in_ok-offered.ensures.offered
