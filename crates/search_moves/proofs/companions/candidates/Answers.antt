use Rattle.search_moves.specs.Offering.{links_to}
use Rattle.search_moves.proofs.Rest.{step_on}
use Rattle.search_moves.proofs.companions.candidates.Goals as goal

pub loop-number-preserved : goal.loop-number-preserved
loop-number-preserved c =
    step_on (links_to 1000000 c.args.program.now c.args.judgement.now) c.loop-number.number c.args.made.now
    c.index-made-number.result c.loop-number.links.items c.push_links_to.new.links.items _ c.loop-number-test.true
    c.index-made-number.is c.in_ok-push_links_to.ensures c.loop-number.invariant
