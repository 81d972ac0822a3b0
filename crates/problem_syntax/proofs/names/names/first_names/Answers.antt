use Rattle.problem_syntax.proofs.Inserting.{inserted-more}
use Rattle.problem_syntax.proofs.names.names.first_names.Goals as goal

pub loop-name-preserved : goal.loop-name-preserved
loop-name-preserved c = inserted-more c.args.uses.now c.loop-name.name-index _ c.loop-name.all.keys _
    c.loop-name-test.true c.loop-name.invariant c.in_ok-insert.ensures.keys
