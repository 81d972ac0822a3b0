use Rattle.std.proofs.Common.{◌<◌, ◌-◌, ◌∙◌, ℕ, List, length, sym, subst, arith}
use Rattle.model_file.specs.declared.syntax.tree.CellTree.{CellTree}
use Rattle.model_file.specs.Trees.{cell_of}
use Rattle.model_file.specs.Small.{IsSmallCell}
use Rattle.run_file.proofs.Taken.{small_at}
use Rattle.run_file.proofs.values.cells.Goals as goal

pub put-requires-clause-positive : goal.put-requires-clause-positive
put-requires-clause-positive c =
    let small = subst (λ (x : CellTree). IsSmallCell (cell_of x)) (sym c.index-trees-count.is)
    (small_at c.args.trees.now (length c.args.trees.now - 1 - c.loop-i.i) _ c.requires
    (omega (arith, c.loop-i-test.true))) in
    subst (λ (n : ℕ). 0 < n) (sym c.from.ensures) small.positive

pub put-requires-clause-some : goal.put-requires-clause-some
put-requires-clause-some c =
    let small = subst (λ (x : CellTree). IsSmallCell (cell_of x)) (sym c.index-trees-count.is)
    (small_at c.args.trees.now (length c.args.trees.now - 1 - c.loop-i.i) _ c.requires
    (omega (arith, c.loop-i-test.true))) in
    subst (λ (ns : List ℕ). 0 < length ns) (sym (c.in_ok-wide_numbers.ensures ∙ c.deref.ensures.value)) small.some
