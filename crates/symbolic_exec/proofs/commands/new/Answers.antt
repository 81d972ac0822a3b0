use Rattle.std.proofs.Common.{◌+◌, min, sym, ap, ◌∙◌}
use Rattle.heap_formula.specs.Symbolic.{SymbolicHeap}
use Rattle.rule_table.specs.Answer.{one}
use Rattle.rule_table.specs.ExecTable.{at_line}
use Rattle.heap_formula.specs.Fresh.{variables_from}
use Rattle.symbolic_exec.specs.States.{variables_up_to}
use Rattle.symbolic_exec.proofs.FreshNumbers.{new_with, new_same, new_over}
use Rattle.symbolic_exec.proofs.Limits.{new_short, as_numbered}
use Rattle.symbolic_exec.proofs.commands.new.Goals as goal

pub returns : goal.returns
returns c =
    let a = c.args.a.now in
    let x = c.args.x in
    let n = c.args.at.fresh in
    let k = c.args.k in
    let i = c.args.at.line + 1 in
    let short = new_short c.args.at.most i x n a (variables_from (n + 1) k) ∙ sym c.has_room.ensures
    ∙ c.if-not-has_room.false in
    as_numbered c.args.at.most i a (new_with x n a n (variables_from (n + 1) k))
    (new_with x n a (min n 65535) (variables_up_to (n + 1) k)) c.numbered.result c.in_ok-only_at_line.field-0.items
    (c.in_ok-only_at_line.ensures ∙ ap (λ (b : SymbolicHeap). one (at_line i a b)) c.in_ok-after.ensures) short
    (new_same x n a k) (new_over x n a k) c.numbered.ensures
