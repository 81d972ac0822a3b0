use Rattle.std.proofs.Common.{List, ◌++◌, ap, ◌∙◌}
use Rattle.fo_formula.specs.declared.nodes.FoReason.{FoReason}
use Rattle.search_moves.proofs.Rest.{step_on}
use Rattle.fo_search.specs.Calculus.{links_to_node}
use Rattle.fo_search.proofs.Small.{small_at}
use Rattle.fo_search.proofs.offering.links_to_nodes.Goals as goal

pub links_to_node-requires-clause-companion : goal.links_to_node-requires-clause-companion
links_to_node-requires-clause-companion c =
    small_at c.args.theory.now c.args.made.now c.args.goal.now c.requires.occur c.loop-number.number
    c.index-made-number.result c.loop-number-test.true c.index-made-number.is

pub loop-number-preserved : goal.loop-number-preserved
loop-number-preserved c =
    let added = c.in_ok-push_links.ensures ∙ ap (λ (more : List FoReason). c.loop-number.reasons.items ++ more)
    c.in_ok-links.ensures in
    step_on (links_to_node c.args.goal.now.premise.judgement)
    c.loop-number.number c.args.made.now c.index-made-number.result c.loop-number.reasons.items
    c.push_links.new.reasons.items _ c.loop-number-test.true c.index-made-number.is added c.loop-number.invariant
