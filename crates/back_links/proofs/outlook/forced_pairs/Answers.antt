use Rattle.back_links.proofs.Openings.{forced_pushed}
use Rattle.back_links.proofs.outlook.forced_pairs.Goals.{in-Some+in_ok-push, in_default}
use Rattle.back_links.proofs.outlook.forced_pairs.Goals as goal

pub loop-n-preserved : goal.loop-n-preserved
loop-n-preserved c =
    elim c.match-forced_value.branch [
      | in-Some+in_ok-push w ↦ rw w.pairs-is
          (forced_pushed c.args.search.now c.args.places.now c.loop-n.pairs.items w.push.new.self.items c.loop-n.n-index
          c.forced_value.result w.in-Some.v c.loop-n-test.true c.forced_value.ensures w.in-Some.is
          w.in_ok-push.ensures.items c.loop-n.invariant)
      | in_default w ↦ rw w.pairs-is c.loop-n.invariant
    ]
