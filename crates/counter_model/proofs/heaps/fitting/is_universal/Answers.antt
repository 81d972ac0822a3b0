use Rattle.std.proofs.Common.{refl}
use Rattle.counter_model.proofs.Complete.{universal_test}
use Rattle.counter_model.proofs.heaps.fitting.is_universal.Goals as goal

pub returns : goal.returns
returns c = universal_test c.args.heap.now c.exists_in_heap.result _ c.exists_in_heap.ensures.value refl
