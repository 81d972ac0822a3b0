use Rattle.std.proofs.Common.{◌≡◌, List, length, map, sym, ap, ◌∙◌, subst, arith, None}
use Rattle.std.proofs.lemmas.List.{length-map}
use Rattle.heap_formula.specs.Words.{Each}
use Rattle.heap_formula.specs.Judgements.{antecedent}
use Rattle.std.specs.List.{list_all}
use Rattle.pred_defs.specs.Book.{DefinitionBook}
use Rattle.pred_defs.specs.Faults.{closed_fault}
use Rattle.goto_lang.specs.Faults.{program_fault}
use Rattle.heap_syntax.specs.Versions.{limits}
use Rattle.heap_reader.specs.LineValues.{line_value, variable_value}
use Rattle.heap_reader.specs.EndSmall.{IsSmallEnd}
use Rattle.heap_reader.specs.EndValues.{end_value, ended_value, lines_with_ends}
use Rattle.heap_syntax.specs.declared.ends.tree.EndTree.{EndTree}
use Rattle.problem_syntax.specs.declared.numbering.tree.NumberedTerm.{NumberedTerm}
use Rattle.problem_syntax.specs.declared.numbering.tree.NumberedDefinition.{NumberedDefinition}
use Rattle.problem_syntax.specs.Numbered.{definition_of, end_of, problem_of}
use Rattle.formula_reader.specs.Flaws.{heading}
use Rattle.formula_reader.specs.Values.{term_value, definition_value, goal_value}
use Rattle.heap_reader.specs.Small.{is_short_heap}
use Rattle.formula_reader.specs.Problems.{goal_heaps, goal_fault, has_line}
use Rattle.formula_reader.specs.Small.{IsSmallDefinition}
use Rattle.formula_reader.proofs.Keeping.{small_of, is_closed, is_known, has_universal_antecedent, is_short}
use Rattle.formula_reader.proofs.Keeping.{has_its_line}
use Rattle.formula_reader.proofs.Within.{said_within}
use Rattle.formula_reader.proofs.reading.problem_of_tree.Goals as goal
use Rattle.rule_table.specs.Tests.{is_universal_heap}

pub definitions-requires-clause-small : goal.definitions-requires-clause-small
definitions-requires-clause-small c =
    let small = small_of (problem_of c.args.tree.now) c.requires.text c.requires.right in
    subst (λ (ds : List NumberedDefinition). Each IsSmallDefinition (map definition_of ds)) (sym c.deref.ensures.value)
    small.definitions

pub definitions-requires-clause-few : goal.definitions-requires-clause-few
definitions-requires-clause-few c =
    let p = problem_of c.args.tree.now in
    let small = small_of p c.requires.text c.requires.right in
    let few = small.few in
    omega (arith, few, ap length c.requires.known, length-map p.definitions heading)

pub program-requires-clause-lines : goal.program-requires-clause-lines
program-requires-clause-lines c =
    let small = small_of (problem_of c.args.tree.now) c.requires.text c.requires.right in
    subst (λ ls. program_fault (map (line_value variable_value) ls) ≡ None) (sym c.deref-2.ensures.value) small.program

pub program-requires-clause-ends : goal.program-requires-clause-ends
program-requires-clause-ends c =
    let small = small_of (problem_of c.args.tree.now) c.requires.text c.requires.right in
    (λ i. program_fault (lines_with_ends 0 (map (line_value variable_value) (c.deref-2.ensures.value i))
    (map (end_value term_value (c.requires.known i)) (map end_of (c.deref-3.ensures.value i))))) ∙ small.ended

pub program-requires-clause-small : goal.program-requires-clause-small
program-requires-clause-small c =
    let small = small_of (problem_of c.args.tree.now) c.requires.text c.requires.right in
    subst (λ (es : List (EndTree NumberedTerm)). Each (IsSmallEnd term_value) (map end_of es))
    (sym c.deref-3.ensures.value) small.ends

pub program-requires-clause-few : goal.program-requires-clause-few
program-requires-clause-few c =
    let p = problem_of c.args.tree.now in
    let few = (small_of p c.requires.text c.requires.right).few in
    omega (arith, few, ap length c.requires.known, length-map p.definitions heading)

pub goal-requires-clause-small : goal.goal-requires-clause-small
goal-requires-clause-small c =
    let small = small_of (problem_of c.args.tree.now) c.requires.text c.requires.right in
    small.goal

pub goal-requires-clause-few : goal.goal-requires-clause-few
goal-requires-clause-few c =
    let p = problem_of c.args.tree.now in
    let small = small_of p c.requires.text c.requires.right in
    let few = small.few in
    omega (arith, few, ap length c.requires.known, length-map p.definitions heading)

pub from_vec-requires-clause-few : goal.from_vec-requires-clause-few
from_vec-requires-clause-few c =
    let small = small_of (problem_of c.args.tree.now) c.requires.text c.requires.right in
    let few = small.few in
    omega (
      arith,
      few,
      length-map c.args.tree.now.definitions.items definition_of,
      ap length c.deref.ensures.value,
      c.in_ok-definitions.ensures.size,
    )

pub invariant_of-result : goal.invariant_of-result
invariant_of-result c =
    let p = problem_of c.args.tree.now in
    let text = c.requires.text in
    let right = c.requires.right in
    let same = c.requires.known in
    let definitions_are = ap (λ (b : DefinitionBook). b.list) c.from_vec.ensures ∙ c.in_ok-definitions.ensures.value
    ∙ (λ i. map (definition_value (same i)) (map definition_of (c.deref.ensures.value i))) in
    let lines_are = c.in_ok-program.ensures ∙ (λ i. ended_value term_value (same i) (c.deref-2.ensures.value i)
    (map end_of (c.deref-3.ensures.value i))) in
    let goal_is = c.in_ok-goal.ensures ∙ (λ i. goal_value (same i) p.goal) in
    let limit_is = ap (λ (b : DefinitionBook). b.most) c.from_vec.ensures ∙ c.limits.ensures.value in
    record {
      limit = limit_is;
      within = ∣ said_within p text right c.from_vec.result.most c.from_vec.result.list c.in_ok-program.program
          c.in_ok-goal.goal limit_is definitions_are lines_are goal_is ∣₁;
      closed = (λ i. closed_fault (definitions_are i)) ∙ is_closed p text right;
      known = (λ i. goal_fault (definitions_are i) (goal_is i)) ∙ is_known p text right;
      universal = (λ i. is_universal_heap (antecedent (goal_is i))) ∙ has_universal_antecedent p text right;
      short = (λ i. list_all (is_short_heap (limits p.version)) (goal_heaps (goal_is i))) ∙ is_short p text right;
      line = (λ i. has_line (length (lines_are i)) (goal_is i)) ∙ has_its_line p text right;
    }
