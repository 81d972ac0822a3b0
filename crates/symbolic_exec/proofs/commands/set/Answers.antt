use Rattle.std.proofs.Common.{◌+◌, min, sym, ap, ◌∙◌}
use Rattle.heap_formula.specs.declared.atoms.Pure.TheVariants.{Eq}
use Rattle.heap_formula.specs.declared.terms.Term.TheVariants.{Univ}
use Rattle.heap_formula.specs.Symbolic.{SymbolicHeap}
use Rattle.rule_table.specs.Answer.{one}
use Rattle.rule_table.specs.ExecTable.{at_line, renamed_term}
use Rattle.symbolic_exec.proofs.FreshNumbers.{set_to, set_same, set_over}
use Rattle.symbolic_exec.proofs.Limits.{set_short, as_numbered}
use Rattle.symbolic_exec.proofs.commands.set.Goals as goal

pub returns : goal.returns
returns c =
    let a = c.args.a.now in
    let x = c.args.x in
    let n = c.args.at.fresh in
    let t = c.args.t in
    let i = c.args.at.line + 1 in
    let short = set_short c.args.at.most i x n a (Eq (Univ x) (renamed_term x n t)) ∙ sym c.has_room.ensures
    ∙ c.if-not-has_room.false in
    as_numbered c.args.at.most i a (set_to x n a n t) (set_to x n a (min n 65535) t)
    c.numbered.result c.in_ok-only_at_line.field-0.items
    (c.in_ok-only_at_line.ensures ∙ ap (λ (b : SymbolicHeap). one (at_line i a b)) c.in_ok-after.ensures) short
    (set_same x n a t) (set_over x n a t) c.numbered.ensures
