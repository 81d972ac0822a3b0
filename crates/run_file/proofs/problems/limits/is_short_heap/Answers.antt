use Rattle.std.proofs.Common.{ℕ, ◌∙◌, ap, arith}
use Rattle.std.specs.List.{list_all}
use Rattle.heap_formula.specs.Cells.{cell_at}
use Rattle.run_file.specs.Places.{is_short_place}
use Rattle.run_file.proofs.Fields.{heap_refused, heap_tested}
use Rattle.run_file.proofs.problems.limits.is_short_heap.Goals as goal

pub returns-then-len-most : goal.returns-then-len-most
returns-then-len-most c = heap_refused c.args.most c.args.heap.now (omega arith)

pub returns : goal.returns
returns c =
    let h = c.args.heap.now in
    heap_tested c.args.most h c.are_short_places.result (omega arith)
    (c.are_short_places.ensures ∙ ap (list_all (λ (a : ℕ). is_short_place c.args.most (cell_at h a) a))
    (c.deref.ensures.value ∙ c.in_ok-addresses.ensures.value))
