use Rattle.std.proofs.Common.{sym, subst}
use Rattle.heap_formula.specs.Cells.{IsHeap}
use Rattle.goto_lang.proofs.Maps.{put_is, put_is_heap}
use Rattle.goto_lang.proofs.cells.Cells.put.Goals as goal

pub invariant_of-self-2 : goal.invariant_of-self-2
invariant_of-self-2 c =
    subst IsHeap
    (sym (put_is c.self.inside.cells.entries c.insert.new.self.entries c.args.address c.args.fields.items
    c.in_ok-insert.ensures.updates.0))
    (put_is_heap _ c.args.address c.args.fields.items c.self.invariant c.requires.positive c.requires.some)

pub returns-clause-ok : goal.returns-clause-ok
returns-clause-ok c = rw (← c.self.view_is)
    (put_is c.self.inside.cells.entries c.insert.new.self.entries c.args.address c.args.fields.items
    c.in_ok-insert.ensures.updates.0)
