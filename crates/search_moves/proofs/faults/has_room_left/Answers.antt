use Rattle.std.proofs.Common.{◌≡◌, Some, sym, ap, ◌∙◌, arith}
use Rattle.std.specs.Prelude.{max}
use Rattle.heap_formula.specs.declared.atoms.Spatial.{Spatial}
use Rattle.rule_table.specs.RuleBook.{variables_of}
use Rattle.search_moves.specs.Rooms.{judgement_numbers}
use Rattle.search_moves.proofs.LeftNumbers.{parts_go}
use Rattle.search_moves.proofs.faults.has_room_left.Goals as goal

pub returns-then-are_disjuncts_short : goal.returns-then-are_disjuncts_short
returns-then-are_disjuncts_short c = λ e.
    let number : c.max-number.result ≡ max (variables_of c.args.program.now c.args.judgement.now)
    (judgement_numbers c.args.judgement.now) = omega (
      arith,
      c.max-number.ensures,
      c.variables_of-variables.ensures,
      c.numbers_in.ensures.value,
    ) in
    parts_go c.args.defs.now.most c.args.defs.now.list (variables_of c.args.program.now c.args.judgement.now)
    c.args.judgement.now c.args.k c.in-Some-Pred.q c.in-Some-Pred.field-0-1 c.antecedent-a.result.now
    c.max-number.result c.most.result c.most-then-are_disjuncts_short.result c.cases.result.now
    c.antecedent-a.ensures number c.most.ensures.value c.most-then-are_disjuncts_short.ensures.value c.cases.ensures
    (c.in-Some-Pred.ensures ∙ ap (λ (x : Spatial). Some x) c.in-Some-Pred.field-0-is)
    (sym c.are_disjuncts_short.ensures ∙ c.if-are_disjuncts_short.true)
    (sym c.have_room_from.ensures ∙ e)
