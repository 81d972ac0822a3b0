use Rattle.derivations.specs.declared.search.TheConstants.{DERIVATION_LIMIT}
use Rattle.rule_logics.specs.declared.search.TheConstants.{MOST_NODES}
use Rattle.rule_logics.proofs.Suits.{rules_fair, is_search, same_of, same_outcome, same_proof}
use Rattle.rule_logics.proofs.search.prove.Goals as goal

pub new-requires-clause-fair : goal.new-requires-clause-fair
new-requires-clause-fair g c = rules_fair (g.T.RuleLogic.rules c.args.logic.now)
    (g.met.T.RuleLogic.laws c.args.logic.now)

pub search_proof-requires-clause-of : goal.search_proof-requires-clause-of
search_proof-requires-clause-of g c =
    same_of g.T.RuleLogic.rules c.in_ok-start.start c.args.logic.now MOST_NODES c.in_ok-root.root c.args.goal.now
    c.in_ok-start.ensures.subject c.in_ok-root.ensures (is_search (g.T.RuleLogic.rules c.args.logic.now)
    (g.met.T.RuleLogic.laws c.args.logic.now))

pub returns-clause-outcome : goal.returns-clause-outcome
returns-clause-outcome g c =
    same_outcome g.T.RuleLogic.rules c.in_ok-start.start c.args.logic.now MOST_NODES c.in_ok-root.root c.args.goal.now
    c.in_ok-start.ensures.subject c.in_ok-root.ensures c.search_proof.result DERIVATION_LIMIT c.args.depth
    c.search_proof.ensures.outcome

pub returns-clause-proved : goal.returns-clause-proved
returns-clause-proved g c =
    same_proof g.T.RuleLogic.rules c.in_ok-start.start c.args.logic.now MOST_NODES c.in_ok-root.root c.args.goal.now
    c.in_ok-start.ensures.subject c.in_ok-root.ensures c.search_proof.result c.search_proof.ensures.proved
