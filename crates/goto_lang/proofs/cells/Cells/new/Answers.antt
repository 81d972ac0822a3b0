use Rattle.goto_lang.proofs.Maps.{empty_is_heap}
use Rattle.goto_lang.proofs.cells.Cells.new.Goals as goal

pub invariant_of-result : goal.invariant_of-result
invariant_of-result c = rw c.new.ensures.empty empty_is_heap
