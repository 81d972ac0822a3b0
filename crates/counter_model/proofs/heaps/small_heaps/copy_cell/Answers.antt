use Rattle.counter_model.proofs.UnionsOf.{put_elsewhere, put_either}
use Rattle.counter_model.proofs.heaps.small_heaps.copy_cell.Goals as goal

pub returns-in_ok-put-in-Some-clause-at : goal.returns-in_ok-put-in-Some-clause-at
returns-in_ok-put-in-Some-clause-at c =
    put_either c.args.from.now c.args.to.now c.put.new.self c.args.address c.in-Some.fields.now
    c.in_ok-fields-in-Some.fields.items c.in-Some.ensures.value c.in_ok-fields-in-Some.ensures.items
    c.in_ok-put-in-Some.ensures.ok

pub returns-in_ok-put-in-Some-clause-others : goal.returns-in_ok-put-in-Some-clause-others
returns-in_ok-put-in-Some-clause-others c = λ a n.
    put_elsewhere c.args.to.now c.put.new.self c.args.address a c.in_ok-fields-in-Some.fields.items
    c.in_ok-put-in-Some.ensures.ok n
