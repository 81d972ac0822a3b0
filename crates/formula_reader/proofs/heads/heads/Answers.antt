use Rattle.std.proofs.Common.{◌<◌, ◌^◌, length, sym, subst, arith}
use Rattle.problem_syntax.specs.declared.numbering.tree.NumberedDefinition.{NumberedDefinition}
use Rattle.formula_reader.proofs.Counts.{arity_fits}
use Rattle.formula_reader.proofs.heads.heads.Goals as goal

pub overflow_cast-len : goal.overflow_cast-len
overflow_cast-len c =
    let h = arity_fits c.args.trees.now c.loop-tree.tree-index c.tree-item.result c.loop-tree-test.true
    c.loop-tree.invariant.1 in
    let few = subst (λ (d : NumberedDefinition). length d.parameters.items < 2 ^ 32) (sym c.tree-item.is) h in
    omega (arith, c.len.ensures, few)
