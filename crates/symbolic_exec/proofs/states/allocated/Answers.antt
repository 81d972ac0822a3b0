use Rattle.std.proofs.Common.{ap, ◌∙◌}
use Rattle.std.proofs.lemmas.Result.{IfOk-weaker}
use Rattle.heap_formula.specs.Substitution.{Bindings, apply_heap}
use Rattle.rule_table.specs.ExecTable.{with_cell}
use Rattle.symbolic_exec.proofs.states.allocated.Goals as goal

pub returns : goal.returns
returns c =
    let old = c.in_ok-old.ensures ∙ ap (λ (s : Bindings). apply_heap s c.args.a.now) c.in_ok-subst.ensures in
    IfOk-weaker c.with_cell.result _ _ (λ h made. made ∙ (λ i. with_cell (old i) c.args.x (c.variables.ensures i)))
    c.with_cell.ensures
