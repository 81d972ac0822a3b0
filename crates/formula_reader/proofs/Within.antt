-- What a text without a flaw says is within the limits of the formats, in terms of its values.
use Rattle.std.proofs.Common.{◌≡◌, ℕ, ◌+◌, ◌<◌, ◌≤◌, Bool, true, false, List, [], ◌∷◌, length, map, take, Option, Some}
use Rattle.std.proofs.Common.{None}
use Rattle.std.proofs.Common.{refl, sym, subst, arith}
use Rattle.std.specs.Prelude.{not, ◌||◌, nat_eq, nat_lt, nat_le, is_some}
use Rattle.std.proofs.Math.Logic.{∥∥₁_elim}
use Rattle.std.proofs.lemmas.Bool.{ltb-false, or_parts, eqb-false}
use Rattle.std.proofs.lemmas.List.{length-map}
use Rattle.cyc_basics.specs.declared.limits.Limits.{Limits}
use Rattle.cyc_basics.specs.Limits.{AreLimits}
use Rattle.heap_formula.specs.declared.terms.Term.{Term}
use Rattle.heap_formula.specs.declared.commands.Command.{Command}
use Rattle.heap_formula.specs.declared.commands.Command.TheVariants.{Ends}
use Rattle.heap_formula.specs.declared.judgements.Judgement.{Judgement}
use Rattle.heap_formula.specs.Closedness.{InHeap}
use Rattle.heap_formula.specs.Definitions.{Definition as DefinitionValue}
use Rattle.heap_formula.specs.Fresh.{univ_bound, exist_bound}
use Rattle.heap_formula.specs.Judgements.{antecedent}
use Rattle.heap_formula.specs.Words.{Each}
use Rattle.goto_lang.specs.Lines.{IsLineOf, IsUniversalCommand, IsProgram}
use Rattle.goto_lang.proofs.Faultless.{faultless_is_program}
use Rattle.pred_defs.specs.declared.faults.DefFault.{DefFault}
use Rattle.pred_defs.specs.Faults.{case_fault, definition_fault, first_fault, or_later as then_fault}
use Rattle.rule_book.specs.Limits.{IsHeapWithin, IsJudgementWithin, IsCaseWithin, IsDefinitionWithin}
use Rattle.rule_book.specs.Limits.{IsCommandWithin}
use Rattle.rule_book.proofs.Heaps.{IsLow}
use Rattle.cyc_lex.specs.declared.fault.What.TheVariants.{Cases, Disjuncts, Locals, Predicates, Variable}
use Rattle.cyc_lex.specs.declared.fault.What.TheVariants.{ProgramVariables}
use Rattle.cyc_lex.specs.declared.fault.IllFault.TheVariants.{Duplicate, NoLine, Parameter}
use Rattle.cyc_grammar.specs.Syntax.{Syntax, Class}
use Rattle.cyc_grammar.specs.Classes.{is_free_name}
use Rattle.heap_syntax.specs.Grammar as shared
use Rattle.heap_syntax.specs.Words.{reserved, bar, closing_brace, or_word, semicolon}
use Rattle.heap_syntax.specs.Trees.{Heap as AnyHeap}
use Rattle.heap_syntax.specs.EndGrammar as endings
use Rattle.heap_syntax.specs.LineGrammar.{has_ends}
use Rattle.heap_syntax.specs.declared.version.Version.{Version}
use Rattle.heap_syntax.specs.declared.lines.tree.ChangeTree.TheVariants.{New, Assign, Load, Store}
use Rattle.heap_syntax.specs.declared.lines.tree.CommandTree.{CommandTree}
use Rattle.heap_syntax.specs.declared.lines.tree.CommandTree.TheVariants.{Stop, Goto, Free, IfAny, If, StoreAtNil}
use Rattle.heap_syntax.specs.declared.lines.tree.CommandTree.TheVariants.{Change}
use Rattle.heap_syntax.specs.declared.lines.tree.LineTree.{LineTree}
use Rattle.problem_syntax.specs.Trees as named
use Rattle.problem_syntax.specs.Grammar.{terms, spatial, heap, cases, definition, definitions, disjuncts, state, entailment}
use Rattle.problem_syntax.specs.Grammar.{goal}
use Rattle.problem_syntax.specs.Grammar.{last_part, body, problem}
use Rattle.heap_reader.specs.Trees.{Heading}
use Rattle.heap_reader.specs.Spans.{heap_span}
use Rattle.heap_reader.specs.Flaws.{ill_if, over_if, or_later, arity_in, heap_flaw, counted_flaw, heaps_flaw}
use Rattle.heap_reader.specs.LineFlaws.{lines_flaw}
use Rattle.heap_reader.specs.Values.{heap_value}
use Rattle.heap_reader.specs.LineValues.{command_value, line_value, variable_value, program_value}
use Rattle.heap_reader.specs.EndFlaws.{stops_at, end_flaw, ends_flaw}
use Rattle.heap_reader.specs.EndSmall.{IsSmallEnd}
use Rattle.heap_reader.specs.EndSpans.{end_span}
use Rattle.heap_reader.specs.EndValues.{LineEnd, end_value, ended_value, lines_with_ends}
use Rattle.heap_reader.proofs.EndFitting.{end_heaps, ended_commands, ended_each, ended_universal}
use Rattle.heap_reader.proofs.Programs.{lines_universal}
use Rattle.heap_syntax.specs.Versions.{limits}
use Rattle.heap_reader.specs.Small.{IsSmallHeap}
use Rattle.heap_reader.proofs.Fitting.{most_fits, HasFewAtoms, heap_few, heaps_few, heaps_small}
use Rattle.heap_reader.proofs.NoFlaw.{neither, not_over, not_ill, at_most, below, each_of as each_flawless}
use Rattle.problem_syntax.specs.declared.numbering.tree.NumberedTerm.{NumberedTerm}
use Rattle.problem_syntax.specs.declared.numbering.tree.NumberedTerm.TheVariants.{Nil, Universal, Existential}
use Rattle.problem_syntax.specs.Names.{Name, firsts}
use Rattle.problem_syntax.specs.Occurrences.{primed_names}
use Rattle.problem_syntax.specs.Numbered.{Heap, Definition, Problem}
use Rattle.problem_syntax.specs.Numbering as numbers
use Rattle.problem_syntax.specs.Numbering.{numbered}
use Rattle.formula_reader.specs.declared.problem.Problem.{Problem as ProblemValue}
use Rattle.formula_reader.specs.declared.terms.Scope.TheVariants.{Goal as InGoal, End as InEnd, Case as InCase}
use Rattle.formula_reader.specs.Spans.{term_span, variable_span, lines_span, parameters_span, definition_span}
use Rattle.formula_reader.specs.Spans.{definitions_span}
use Rattle.formula_reader.specs.Flaws.{headings, term_flaw, variable_flaw, parameters_flaw, head_flaw, cases_flaw}
use Rattle.formula_reader.specs.Flaws.{definition_flaw}
use Rattle.formula_reader.specs.Flaws.{definitions_flaw, goal_flaw, problem_flaw}
use Rattle.formula_reader.specs.Small.{IsSmallDefinition, IsSmallGoal}
use Rattle.formula_reader.specs.Values.{term_value, definition_value, goal_value}
use Rattle.formula_reader.proofs.Universal.{universal_heap}
use Rattle.formula_reader.specs.Problems.{IsOfText, goal_fault, has_line}
use Rattle.formula_reader.proofs.Fitting.{term_small, parameters_few, definition_small, lines_place}
use Rattle.formula_reader.proofs.Fitting.{ends_place, goal_place, problem_parts}
use Rattle.formula_reader.proofs.Keeping.{small_of, is_closed, is_known, has_universal_antecedent, has_its_line}
use Rattle.formula_reader.proofs.Keeping.{end_right}
use Rattle.formula_reader.proofs.HeapsWithin.{heap_within}
use Rattle.heap_reader.proofs.HeapTerms.{heap_keeps, in_heap_each, heap_bounded, heap_open}
use Rattle.formula_reader.proofs.OwnNames.{own_names}
use Rattle.formula_reader.proofs.LinesWithin.{lines_known}
use Rattle.formula_reader.specs.Within.{IsCommandOf, IsProblemWithin}
use Rattle.formula_reader.proofs.OneWay.{within_prop}
use Rattle.heap_formula.proofs.AllMembers.{each_at, each_imply}
use Rattle.heap_reader.proofs.Members.{many_fit, behind_fit}
use Rattle.rule_table.specs.Tests.{is_universal_heap}

-- ---- lists

-- no member is at fault where none is the first
each_right : {X : Type 0} (f : X → Option DefFault) (xs : List X) → first_fault f xs ≡ None → Each (λ x. f x ≡ None) xs
each_right f [] e = tt
each_right f (x ∷ xs) e = by_fault (f x) refl e (each_right f xs)
  where
    by_fault : (o : Option DefFault) → f x ≡ o → then_fault o (first_fault f xs) ≡ None
        → (first_fault f xs ≡ None → Each (λ y. f y ≡ None) xs) → (f x ≡ None) × Each (λ y. f y ≡ None) xs
    by_fault None h g rest = (h, rest g)
    by_fault (Some fault) h g rest = absurd cc

-- a list of heaps of a text has a member, and each has a text
heaps_parts : {T : Type 0} (between behind : Class (Unit {0})) (a : Syntax (AnyHeap T)) (xs : List (AnyHeap T))
    → (shared.heaps between behind a).fits xs → (0 < length xs) × Each a.fits xs
unfolding shared.listed
heaps_parts between behind a [] f = let none = f.0 in absurd (omega arith)
heaps_parts between behind a (x ∷ xs) f = (f.0, (f.1.0, behind_fit between a xs f.1.1))

-- ---- terms

-- a term of a case of a predicate with so many parameters, which may have so many locals
record IsCaseTerm (arity locals : ℕ) (t : Term) : Type 0 where
  low : IsLow t
  parameter : univ_bound t ≤ arity
  few : exist_bound t ≤ locals

case_term : (arity locals : ℕ) → arity ≤ 8 → locals ≤ 64 → (k : ℕ) (t : NumberedTerm)
    → term_flaw (InCase arity locals) k t ≡ None → IsCaseTerm arity locals (term_value t)
case_term arity locals narrow few k Nil e = record { low = omega arith; parameter = omega arith; few = omega arith }
case_term arity locals narrow few k (Universal n primed) e =
    let h = below arity n (not_ill (nat_le arity n) Parameter k e) in
    record { low = omega arith; parameter = omega arith; few = omega arith }
case_term arity locals narrow few k (Existential n primed) e =
    let h = below locals n (not_over (nat_le locals n) Locals k e) in
    record { low = omega arith; parameter = omega arith; few = omega arith }

goal_term : (k : ℕ) (t : NumberedTerm) → term_flaw InGoal k t ≡ None → IsLow (term_value t)
goal_term k Nil e = omega arith
goal_term k (Universal n primed) e = let h = at_most 65534 n (not_over (nat_lt 65534 n) Variable k e) in omega arith
goal_term k (Existential n primed) e = let h = at_most 65534 n (not_over (nat_lt 65534 n) Variable k e) in omega arith

-- ---- definitions

module _ (limit : Limits) (bounded : AreLimits limit) (hs : List Heading) where
  abbrev HasCaseTerms : ℕ → Heap → Type 0
  HasCaseTerms arity h = InHeap (IsCaseTerm arity limit.locals) (heap_value term_value hs h)

  -- what a definition without a flaw keeps
  record IsGood (d : Definition) : Type 0 where
    small : IsSmallDefinition d
    parameters : length d.parameters ≤ limit.arguments
    short : Each (HasFewAtoms limit) d.cases
    few : length d.cases ≤ limit.cases
    terms : Each (HasCaseTerms (length d.parameters)) d.cases

  good : (n k : ℕ) (d : Definition) → definition_flaw limit hs n k d ≡ None → IsGood d
  good n k d e =
      let p = k + 3 + parameters_span d.parameters + 1 in
      let arity = length d.parameters in
      let small = (definition_small limit bounded hs n k d e).1 in
      let flaw = term_flaw (InCase arity limit.locals) in
      let a = neither (head_flaw limit hs n k d) (cases_flaw limit hs arity p d.cases) e in
      let b = neither (over_if (nat_le 4096 n) Predicates k)
      (or_later (ill_if (is_some (arity_in (take n hs) d.name)) Duplicate (k + 1))
      (parameters_flaw limit (k + 3) d.parameters)) a.0 in
      let c = neither (ill_if (is_some (arity_in (take n hs) d.name)) Duplicate (k + 1))
      (parameters_flaw limit (k + 3) d.parameters) b.1 in
      let cases = heaps_small flaw term_span term_value
      (term_small (InCase arity limit.locals)
      (small.parameters, bounded.locals)) limit bounded hs Cases p d.cases a.1 in
      record {
        small = small;
        parameters = parameters_few limit (k + 3) d.parameters c.1;
        short = heaps_few flaw term_span limit hs Cases p d.cases a.1;
        few = cases.1;
        terms = each_flawless (counted_flaw flaw term_span limit hs Cases) (heap_span term_span)
            (HasCaseTerms arity) (λ m j x g. heap_keeps flaw term_span term_value (IsCaseTerm arity limit.locals)
            (case_term arity limit.locals small.parameters bounded.locals) limit hs j x
            (neither (over_if (nat_le limit.cases m) Cases j) (heap_flaw flaw term_span limit hs j x) g).1)
            0 p d.cases a.1;
      }

  module _ (ds : List DefinitionValue) where
    case_within : (ps : List Name) (arity : ℕ) (h : named.Heap) → (heap false).fits h
        → IsSmallHeap term_value (numbers.case ps h) → HasFewAtoms limit (numbers.case ps h)
        → HasCaseTerms arity (numbers.case ps h)
        → case_fault ds (heap_value term_value hs (numbers.case ps h)) ≡ None
        → IsCaseWithin limit ds arity (heap_value term_value hs (numbers.case ps h))
    unfolding numbers.case
    case_within ps arity h fits small short terms known =
        let scope = numbers.Case ps (numbers.locals ps h) in
        let a = heap_value term_value hs (numbers.heap scope h) in
        record {
          heap = heap_within limit hs scope ds false h fits small short
              (in_heap_each (IsCaseTerm arity limit.locals) IsLow (λ t c. c.low) a terms) known;
          parameters = heap_bounded arity a (in_heap_each (IsCaseTerm arity limit.locals) (λ t. univ_bound t ≤ arity)
              (λ t c. c.parameter) a terms);
          locals = heap_open limit.locals a (in_heap_each (IsCaseTerm arity limit.locals)
              (λ t. exist_bound t ≤ limit.locals) (λ t c. c.few) a terms);
        }

    cases_within : (ps : List Name) (arity : ℕ) (xs : List named.Heap) → Each (heap false).fits xs
        → Each (IsSmallHeap term_value) (map (numbers.case ps) xs)
        → Each (HasFewAtoms limit) (map (numbers.case ps) xs)
        → Each (HasCaseTerms arity) (map (numbers.case ps) xs)
        → Each (λ c. case_fault ds c ≡ None) (map (heap_value term_value hs) (map (numbers.case ps) xs))
        → Each (IsCaseWithin limit ds arity) (map (heap_value term_value hs) (map (numbers.case ps) xs))
    cases_within ps arity [] fits small short terms known = tt
    cases_within ps arity (x ∷ xs) fits small short terms known = (
      case_within ps arity x fits.0 small.0 short.0 terms.0 known.0,
      cases_within ps arity xs fits.1 small.1 short.1 terms.1 known.1,
    )

    definition_within : (d : named.Definition) → definition.fits d → IsGood (numbers.definition d)
        → definition_fault ds (definition_value hs (numbers.definition d)) ≡ None
        → IsDefinitionWithin limit ds (definition_value hs (numbers.definition d))
    unfolding definition cases
    definition_within d fits g known =
        let ps = numbers.parameter_names d in
        let trees = map (numbers.case ps) d.cases in
        let parts = heaps_parts bar closing_brace (heap false) d.cases fits.1.1.1 in
        let some = parts.0 in
        let few = g.few in
        let m = length-map d.cases (numbers.case ps) in
        let n = length-map trees (heap_value term_value hs) in
        record {
          arity = g.parameters;
          some_case = omega arith;
          few = omega arith;
          cases = cases_within ps (length d.parameters) d.cases parts.1 g.small.cases g.short g.terms
              (each_right (case_fault ds) (map (heap_value term_value hs) trees) known);
        }

    definitions_within : (xs : List named.Definition) → Each definition.fits xs
        → Each IsGood (map numbers.definition xs) → Each (λ d. definition_fault ds d ≡ None)
        (map (definition_value hs) (map numbers.definition xs))
        → Each (IsDefinitionWithin limit ds) (map (definition_value hs) (map numbers.definition xs))
    definitions_within [] fits g known = tt
    definitions_within (x ∷ xs) fits g known = (
      definition_within x fits.0 g.0 known.0,
      definitions_within xs fits.1 g.1 known.1,
    )

  -- ---- names

  definition_free : (d : named.Definition) → definition.fits d → is_free_name reserved d.name ≡ true
  unfolding definition
  definition_free d fits = fits.1.0

  definitions_free : (xs : List named.Definition) → Each definition.fits xs
      → Each (λ (d : DefinitionValue). is_free_name reserved d.name ≡ true)
      (map (definition_value hs) (map numbers.definition xs))
  definitions_free [] fits = tt
  definitions_free (x ∷ xs) fits = (definition_free x fits.0, definitions_free xs fits.1)

-- ---- goals

line_of : (count i : ℕ) → not (nat_eq i 0 || nat_lt count i) ≡ true → IsLineOf count i
line_of count i e =
    by_test (nat_eq i 0 || nat_lt count i) refl e
  where
    by_test : (b : Bool) → (nat_eq i 0 || nat_lt count i) ≡ b → not b ≡ true → IsLineOf count i
    by_test true h g = absurd cc
    by_test false h g =
        let parts = or_parts (nat_eq i 0) (nat_lt count i) h in
        let some = eqb-false i 0 parts.0 in
        let most = ltb-false count i parts.1 in
        (omega arith, omega arith)

module _ (limit : Limits) (hs : List Heading) (ds : List DefinitionValue) where
  goal_heap_terms : (k : ℕ) (h : Heap) → heap_flaw (term_flaw InGoal) term_span limit hs k h ≡ None
      → InHeap IsLow (heap_value term_value hs h)
  goal_heap_terms k h e = heap_keeps (term_flaw InGoal) term_span term_value IsLow goal_term limit hs k h e

  disjunct_within : (us : List Name) (h : named.Heap) → (heap true).fits h
      → IsSmallHeap term_value (numbers.disjunct us h) → HasFewAtoms limit (numbers.disjunct us h)
      → InHeap IsLow (heap_value term_value hs (numbers.disjunct us h))
      → case_fault ds (heap_value term_value hs (numbers.disjunct us h)) ≡ None
      → IsHeapWithin limit ds (heap_value term_value hs (numbers.disjunct us h))
  unfolding numbers.disjunct
  disjunct_within us h fits small short low known = heap_within limit hs (numbers.Disjunct us (firsts (primed_names h)))
      ds true h fits small short low known

  disjuncts_within : (us : List Name) (xs : List named.Heap) → Each (heap true).fits xs
      → Each (IsSmallHeap term_value) (map (numbers.disjunct us) xs)
      → Each (HasFewAtoms limit) (map (numbers.disjunct us) xs)
      → Each (λ h. InHeap IsLow (heap_value term_value hs h)) (map (numbers.disjunct us) xs)
      → Each (λ c. case_fault ds c ≡ None) (map (heap_value term_value hs) (map (numbers.disjunct us) xs))
      → Each (IsHeapWithin limit ds) (map (heap_value term_value hs) (map (numbers.disjunct us) xs))
  disjuncts_within us [] fits small short low known = tt
  disjuncts_within us (x ∷ xs) fits small short low known = (
    disjunct_within us x fits.0 small.0 short.0 low.0 known.0,
    disjuncts_within us xs fits.1 small.1 short.1 low.1 known.1,
  )

  goal_within : (us : List Name) (count k : ℕ) (g : named.Goal) → goal.fits g
      → goal_flaw limit hs count k (numbers.goal us g) ≡ None → IsSmallGoal (numbers.goal us g)
      → goal_fault ds (goal_value hs (numbers.goal us g)) ≡ None
      → is_universal_heap (antecedent (goal_value hs (numbers.goal us g))) ≡ true → (n : ℕ)
      → has_line n (goal_value hs (numbers.goal us g)) ≡ true
      → IsJudgementWithin limit ds n (goal_value hs (numbers.goal us g))
  unfolding goal entailment state disjuncts
  goal_within us count k (named.Entailment h xs) fits right small known universal n line =
      let left = numbers.heap (numbers.Antecedent us) h in
      let trees = map (numbers.disjunct us) xs in
      let p = k + 1 + heap_span term_span left in
      let flaws = neither (heap_flaw (term_flaw InGoal) term_span limit hs (k + 1) left)
      (heaps_flaw (term_flaw InGoal) term_span limit hs Disjuncts p trees) right in
      let low = each_flawless (counted_flaw (term_flaw InGoal) term_span limit hs Disjuncts) (heap_span term_span)
      (λ c. InHeap IsLow (heap_value term_value hs c)) (λ m j c g.
      goal_heap_terms j c (neither (over_if (nat_le 16 m) Disjuncts j)
      (heap_flaw (term_flaw InGoal) term_span limit hs j c) g).1) 0 p trees flaws.1 in
      let each_known = each_right (case_fault ds) (heap_value term_value hs left ∷ map (heap_value term_value hs) trees)
      known in
      let parts = heaps_parts or_word semicolon (heap true) xs fits.1.1 in
      let some = small.1.some in
      let few = small.1.few in
      let m = length-map trees (heap_value term_value hs) in
      record {
        heaps = (
          heap_within limit hs (numbers.Antecedent us) ds true h fits.1.0 small.0
              (heap_few (term_flaw InGoal) term_span limit hs (k + 1) left flaws.0)
              (goal_heap_terms (k + 1) left flaws.0) each_known.0,
          disjuncts_within us xs parts.1 small.1.heaps
              (heaps_few (term_flaw InGoal) term_span limit hs Disjuncts p trees flaws.1) low each_known.1,
        );
        universal = universal_heap (heap_value term_value hs left) universal;
        form = (omega arith, omega arith);
      }
  goal_within us count k (named.From i h) fits right small known universal n line =
      let left = numbers.heap (numbers.Antecedent us) h in
      let flaws = neither (ill_if (nat_eq i 0 || nat_lt count i) NoLine (k + 2))
      (heap_flaw (term_flaw InGoal) term_span limit hs (k + 4) left) right in
      let each_known = each_right (case_fault ds) (heap_value term_value hs left ∷ []) known in
      record {
        heaps = (
          heap_within limit hs (numbers.Antecedent us) ds true h fits.1.1 small
              (heap_few (term_flaw InGoal) term_span limit hs (k + 4) left flaws.1)
              (goal_heap_terms (k + 4) left flaws.1) each_known.0,
          tt,
        );
        universal = universal_heap (heap_value term_value hs left) universal;
        form = line_of n i line;
      }

-- ---- ends, each as a succedent

end_term : (k : ℕ) (t : NumberedTerm) → term_flaw InEnd k t ≡ None → IsLow (term_value t)
end_term k Nil e = omega arith
end_term k (Universal n primed) e =
    let h = at_most 63 n (not_over (nat_lt 63 n) ProgramVariables k e) in omega arith
end_term k (Existential n primed) e = let h = at_most 65534 n (not_over (nat_lt 65534 n) Variable k e) in omega arith

module _ (limit : Limits) (definitions : List Definition) (us : List Name) where
  abbrev hs_of : List Heading
  hs_of = headings definitions

  abbrev ds_of : List DefinitionValue
  ds_of = map (definition_value (headings definitions)) definitions

  end_within : (k : ℕ) (e : named.End) → (shared.heaps or_word semicolon (heap true)).fits e.disjuncts
      → heaps_flaw (term_flaw InEnd) term_span limit hs_of Disjuncts k (numbers.end us e).disjuncts ≡ None
      → IsSmallEnd term_value (numbers.end us e)
      → IsCommandWithin limit ds_of (Ends (end_value term_value hs_of (numbers.end us e)).1)
  end_within k e fits right small =
      let trees = map (numbers.disjunct us) e.disjuncts in
      let parts = heaps_parts or_word semicolon (heap true) e.disjuncts fits in
      let low = each_flawless (counted_flaw (term_flaw InEnd) term_span limit hs_of Disjuncts) (heap_span term_span)
      (λ c. InHeap IsLow (heap_value term_value hs_of c)) (λ m j c g.
      heap_keeps (term_flaw InEnd) term_span term_value IsLow end_term limit hs_of j c
      (neither (over_if (nat_le 16 m) Disjuncts j) (heap_flaw (term_flaw InEnd) term_span limit hs_of j c) g).1) 0 k
      trees right in
      let known = each_right (case_fault ds_of) (map (heap_value term_value hs_of) trees)
      (end_right limit definitions k trees right) in
      let some = small.some in
      let few = small.few in
      let m = length-map trees (heap_value term_value hs_of) in (
        disjuncts_within limit hs_of ds_of us e.disjuncts parts.1 small.heaps
            (heaps_few (term_flaw InEnd) term_span limit hs_of Disjuncts k trees right) low known,
        omega arith,
        omega arith,
      )

  all_within : (stops : ℕ → Bool) (before k : ℕ) (es : List named.End)
      → Each (λ (e : named.End). (shared.heaps or_word semicolon (heap true)).fits e.disjuncts) es
      → ends_flaw (term_flaw InEnd) term_span limit hs_of stops before k (map (numbers.end us) es) ≡ None
      → Each (IsSmallEnd term_value) (map (numbers.end us) es)
      → Each (λ (e : LineEnd). IsCommandWithin limit ds_of (Ends e.1))
      (map (end_value term_value hs_of) (map (numbers.end us) es))
  all_within stops before k [] fits right small = tt
  all_within stops before k (e ∷ es) fits right small =
      let tree = numbers.end us e in
      let behind = k + end_span term_span tree in
      let both = neither (end_flaw (term_flaw InEnd) term_span limit hs_of stops before k tree)
      (ends_flaw (term_flaw InEnd) term_span limit hs_of stops tree.number behind (map (numbers.end us) es)) right in (
        end_within (k + 3) e fits.0 (end_heaps (term_flaw InEnd) term_span limit hs_of stops before k tree both.0)
            small.0,
        all_within stops tree.number behind es fits.1 both.1 small.1,
      )

-- a line is within whatever limits, where it has no end
line_within : (limit : Limits) (ds : List DefinitionValue) (c : CommandTree ℕ)
    → IsCommandWithin limit ds (command_value variable_value c)
line_within limit ds Stop = tt
line_within limit ds (IfAny n) = tt
line_within limit ds (Goto n) = tt
line_within limit ds (Free t) = tt
line_within limit ds (If t true u n) = tt
line_within limit ds (If t false u n) = tt
line_within limit ds (StoreAtNil n t) = tt
line_within limit ds (Change v (New n)) = tt
line_within limit ds (Change v (Assign t)) = tt
line_within limit ds (Change v (Load t n)) = tt
line_within limit ds (Change v (Store n t)) = tt

lines_within : (limit : Limits) (ds : List DefinitionValue) (ls : List (LineTree ℕ))
    → Each (IsCommandWithin limit ds) (program_value ls)
lines_within limit ds [] = tt
lines_within limit ds (l ∷ ls) = (line_within limit ds l.command, lines_within limit ds ls)

-- the program that a tree says
abbrev pub program_said : Problem → List Command
program_said p = ended_value term_value (headings p.definitions) p.lines p.ends

ends_of_version : (version : Version) (us : List Name) (hs : List Heading) (es : List named.End)
    → Each (λ (e : named.End). (has_ends version ≡ true)
    × (shared.heaps or_word semicolon (heap true)).fits e.disjuncts) es
    → Each (λ (e : LineEnd). has_ends version ≡ true) (map (end_value term_value hs) (map (numbers.end us) es))
ends_of_version version us hs [] has = tt
ends_of_version version us hs (e ∷ es) has = (has.0.0, ends_of_version version us hs es has.1)

-- what a text with ends says of its version, and of each of them
ends_where : (b : Bool) (version : Version) (es : List named.End) → has_ends version ≡ b
    → (endings.ends_where b (terms true) (spatial true)).fits es → Each (λ (e : named.End). (has_ends version ≡ true)
    × (shared.heaps or_word semicolon (heap true)).fits e.disjuncts) es
unfolding endings.end
ends_where true version [] has f = tt
ends_where true version (e ∷ es) has f = ((has, f.0.1.1), ends_where true version es has f.1)
ends_where false version [] has f = tt
ends_where false version (e ∷ es) has f = absurd f.0

-- ---- problems

-- what a tree with names says
text_within : (names : named.Problem) → problem.fits names → problem_flaw (numbered names) ≡ None
    → IsProblemWithin names.version (limits names.version)
    (map (definition_value (headings (numbered names).definitions)) (numbered names).definitions)
    (program_said (numbered names)) (goal_value (headings (numbered names).definitions) (numbered names).goal)
unfolding problem body definitions last_part endings.ends
text_within names fits right =
    let tree = numbered names in
    let limit = limits names.version in
    let text : IsOfText tree = (names, fits, refl) in
    let hs = headings tree.definitions in
    let ds = map (definition_value hs) tree.definitions in
    let variables = numbers.program_variables names in
    let lines = map (line_value variable_value) tree.lines in
    let commands = program_value tree.lines in
    let said = map (end_value term_value hs) tree.ends in
    let parts = problem_parts tree right in
    let small = small_of tree text right in
    let each_fits = many_fit definition names.definitions fits.1.1.0 in
    let each_good = each_flawless (definition_flaw limit hs) definition_span (IsGood limit (most_fits names.version) hs)
    (good limit (most_fits names.version) hs) 0 4 tree.definitions parts.0 in
    let each_end = ends_where (has_ends names.version) names.version names.ends refl fits.1.1.1.1.0 in
    let few = small.few in
    let m = length-map tree.definitions (definition_value hs) in
    record {
      few = omega arith;
      definitions = definitions_within limit (most_fits names.version) hs ds names.definitions each_fits each_good
          (each_right (definition_fault ds) ds (is_closed tree text right));
      program = subst IsProgram (ended_commands 0 lines said)
          (faultless_is_program (lines_with_ends 0 lines said) small.ended
          (subst (Each IsUniversalCommand) (sym (ended_commands 0 lines said))
          (ended_universal 0 commands said (lines_universal variable_value tree.lines))));
      commands = ended_each (IsCommandOf names.version limit) 0 commands said
          (lines_known names.version limit variables names.lines fits.1.1.1.0 (lines_place tree) parts.1)
          (ends_of_version names.version variables hs names.ends each_end);
      ends = ended_each (IsCommandWithin limit ds) 0 commands said (lines_within limit ds tree.lines)
          (all_within limit tree.definitions variables (stops_at tree.lines) 0 (ends_place tree) names.ends
          (each_imply _ _ (λ e both. both.1) names.ends each_end) parts.2 small.ends);
      goal = goal_within limit hs ds (numbers.universals names) (length tree.lines)
          (goal_place tree) names.goal fits.1.1.1.1.1 parts.3 small.goal (is_known tree text right)
          (has_universal_antecedent tree text right) (length (program_said tree)) (has_its_line tree text right);
      free = λ q d at_q. each_at (λ (v : DefinitionValue). is_free_name reserved v.name ≡ true) ds q d at_q
          (definitions_free limit (most_fits names.version) hs names.definitions each_fits);
      own = own_names limit tree.definitions hs parts.0;
    }

-- what a numbered tree of a text says
pub said_within : (tree : Problem) → IsOfText tree → problem_flaw tree ≡ None
    → (most : Limits) (ds : List DefinitionValue) (lines : List Command) (judgement : Judgement)
    → most ≡ limits tree.version → ds ≡ map (definition_value (headings tree.definitions)) tree.definitions
    → lines ≡ program_said tree → judgement ≡ goal_value (headings tree.definitions) tree.goal
    → IsProblemWithin tree.version most ds lines judgement
said_within tree text right most ds lines judgement limit definitions program goal =
    let Said = λ (t : Problem). IsProblemWithin t.version (limits t.version)
    (map (definition_value (headings t.definitions)) t.definitions) (program_said t)
    (goal_value (headings t.definitions) t.goal) in
    let said = subst (λ (t : Problem). problem_flaw t ≡ None → Said t) text.2 (text_within text.0 text.1) right in
    let read = map (definition_value (headings tree.definitions)) tree.definitions in
    let with_goal = subst (λ (x : Judgement). IsProblemWithin tree.version (limits tree.version) read
    (program_said tree) x) (sym goal) said in
    let with_lines = subst (λ (x : List Command). IsProblemWithin tree.version (limits tree.version)
    read x judgement) (sym program) with_goal in
    let with_definitions = subst (λ (x : List DefinitionValue). IsProblemWithin tree.version (limits tree.version)
    x lines judgement) (sym definitions) with_lines in
    subst (λ (x : Limits). IsProblemWithin tree.version x ds lines judgement) (sym limit) with_definitions

-- what a problem keeps
pub problem_keeps : (p : ProblemValue) → IsProblemWithin p.version p.defs.most p.defs.list p.program p.goal
problem_keeps p = ∥∥₁_elim p.within (within_prop p.version p.defs.most p.defs.list p.program p.goal) (λ w. w)
