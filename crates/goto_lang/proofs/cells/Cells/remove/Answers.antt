use Rattle.std.proofs.Common.{sym, subst}
use Rattle.heap_formula.specs.Cells.{IsHeap}
use Rattle.goto_lang.proofs.Maps.{removed_is, removed_is_heap}
use Rattle.goto_lang.proofs.cells.Cells.remove.Goals as goal

pub invariant_of-self : goal.invariant_of-self
invariant_of-self c =
    subst IsHeap
    (sym (removed_is c.self.inside.cells.entries c.remove.new.self.entries c.args.address
    c.remove.ensures.updates.0)) (removed_is_heap _ c.args.address c.self.invariant)

pub returns : goal.returns
returns c = rw (← c.self.view_is)
    (removed_is c.self.inside.cells.entries c.remove.new.self.entries c.args.address c.remove.ensures.updates.0)
