use Rattle.std.proofs.Common.{◌∙◌, map, ap}
use Rattle.std.proofs.lemmas.List.{map_push}
use Rattle.heap_formula.specs.Cells.{cell_at}
use Rattle.model_file.specs.Trees.{cell_of}
use Rattle.run_file.proofs.EntryCells.{entry_address, entry_there, entry_short, entry_next}
use Rattle.run_file.proofs.trees.cells.Goals as goal

pub cell-requires-clause-there : goal.cell-requires-clause-there
cell-requires-clause-there c =
    let here = entry_address c.args.heap.now c.deref-address-items.result.now c.loop-address.address-index
    (c.deref-address-items.ensures.value ∙ c.in_ok-addresses.ensures.value) c.loop-address-test.true in
    entry_there c.args.heap.now c.loop-address.address-index _ here.0 here.1

pub cell-requires-clause-short : goal.cell-requires-clause-short
cell-requires-clause-short c =
    let here = entry_address c.args.heap.now c.deref-address-items.result.now c.loop-address.address-index
    (c.deref-address-items.ensures.value ∙ c.in_ok-addresses.ensures.value) c.loop-address-test.true in
    entry_short c.args.heap.now c.loop-address.address-index _ here.0 here.1 c.requires

pub loop-address-preserved : goal.loop-address-preserved
loop-address-preserved c =
    let h = c.args.heap.now in
    let i = c.loop-address.address-index in
    let here = entry_address h c.deref-address-items.result.now i
    (c.deref-address-items.ensures.value ∙ c.in_ok-addresses.ensures.value) c.loop-address-test.true in
    let tree = c.in_ok-cell.field-0 in
    let is = c.in_ok-cell.ensures in
    let own = entry_next h i tree.address (is.0 ∙ here.0) here.1 (map cell_of c.loop-address.trees.items)
    tree.fields.items (ap (cell_at h) is.0 ∙ is.1) c.loop-address.invariant in
    rw (c.in_ok-push.ensures.items, map_push) own
