-- What a problem keeps follows from its text.
use Rattle.std.proofs.Common.{◌≡◌, ℕ, suc, ◌+◌, ◌≤◌, Bool, true, false, not, ◌&&◌, ◌||◌, List, [], ◌∷◌, length, map}
use Rattle.std.proofs.Common.{Option, Some, None, refl, sym, ap, ◌∙◌, subst, arith, if◌then◌else◌}
use Rattle.std.specs.Prelude.{nat_eq, nat_lt, nat_le, slice_get}
use Rattle.std.specs.List.{list_all}
use Rattle.std.specs.Str.{bytes_eq}
use Rattle.std.proofs.lemmas.Bool.{and_from, le-leb}
use Rattle.std.proofs.lemmas.List.{length-map}
use Rattle.cyc_lex.specs.declared.fault.What.{What}
use Rattle.cyc_lex.specs.declared.fault.What.TheVariants.{Cases, Disjuncts, Spatial as SpatialAtoms}
use Rattle.cyc_lex.specs.declared.fault.IllFault.TheVariants.{NoLine, Arity}
use Rattle.cyc_basics.specs.declared.limits.Limits.{Limits}
use Rattle.heap_formula.specs.Definitions.{Definition as DefinitionValue}
use Rattle.heap_formula.specs.Words.{Each}
use Rattle.heap_formula.specs.Judgements.{antecedent}
use Rattle.pred_defs.specs.declared.faults.DefFault.{DefFault}
use Rattle.pred_defs.specs.Faults.{arity_fault, use_fault, case_fault, definition_fault, closed_fault, first_fault}
use Rattle.pred_defs.specs.Faults.{or_later as then_fault}
use Rattle.rule_table.specs.Tests.{is_universal, are_universal, is_universal_pure, is_universal_spatial}
use Rattle.rule_table.specs.Tests.{is_universal_heap}
use Rattle.heap_syntax.specs.declared.tree.PureTree.{PureTree}
use Rattle.heap_syntax.specs.Trees.{Cell, Predicate, pure_of}
use Rattle.problem_syntax.specs.Trees as named
use Rattle.problem_syntax.specs.Trees.{Named, Nil, Plain, Primed}
use Rattle.heap_syntax.specs.Versions.{limits}
use Rattle.heap_reader.specs.Trees.{Heading}
use Rattle.heap_reader.specs.Spans.{heap_span, pure_span, pures_span, spatial_span}
use Rattle.heap_reader.specs.Flaws.{ill_if, over_if, or_later, listed_flaw, arguments_flaw, pure_flaw, spatial_flaw}
use Rattle.heap_reader.specs.Flaws.{arity_in, use_flaw, heap_flaw, counted_flaw, heaps_flaw}
use Rattle.heap_reader.specs.Flaws.{heap_limit}
use Rattle.heap_reader.specs.LineFlaws.{lines_flaw}
use Rattle.heap_reader.specs.Values.{place_of, pure_value, spatial_value, heap_value}
use Rattle.heap_reader.specs.LineValues.{line_value, variable_value, program_value}
use Rattle.heap_reader.specs.EndValues.{end_value, ended_value}
use Rattle.heap_reader.proofs.EndFitting.{as_many_commands}
use Rattle.heap_reader.proofs.NoFlaw.{neither, not_ill, each_of}
use Rattle.problem_syntax.specs.Names.{Name}
use Rattle.problem_syntax.specs.Numbering as numbers
use Rattle.problem_syntax.specs.Numbering.{Antecedent}
use Rattle.problem_syntax.specs.Numbered.{Spatial, Heap, Definition, Goal, Entailment, From, Problem}
use Rattle.formula_reader.specs.declared.terms.Scope.{Scope}
use Rattle.formula_reader.specs.declared.terms.Scope.TheVariants.{Goal as InGoal, End as InEnd, Case as InCase}
use Rattle.formula_reader.specs.Spans.{term_span, variable_span, lines_span, parameters_span, definition_span}
use Rattle.formula_reader.specs.Spans.{definitions_span}
use Rattle.formula_reader.specs.Flaws.{headings, term_flaw, variable_flaw, head_flaw, cases_flaw, definition_flaw}
use Rattle.formula_reader.specs.Flaws.{definitions_flaw, goal_flaw, problem_flaw}
use Rattle.formula_reader.specs.Values.{term_value, definition_value, goal_value}
use Rattle.formula_reader.specs.Small.{IsSmallProblem}
use Rattle.heap_reader.specs.Small.{is_short_heap}
use Rattle.formula_reader.specs.Problems.{IsOfText, goal_heaps, goal_fault, has_line}
use Rattle.formula_reader.proofs.Fitting.{goal_place, problem_parts, problem_small}
use Rattle.heap_reader.proofs.Fitting.{HasFewAtoms, heap_few, heaps_few}
use Rattle.formula_reader.proofs.SpanLaws.{text_ends_some, text_some}
use Rattle.std.proofs.lemmas.Option.{same_Some}

pub small_of : (p : Problem) → IsOfText p → problem_flaw p ≡ None → IsSmallProblem p
small_of p text right = problem_small p (text_ends_some p text) (text_some p text) right

-- ---- predicates are known

none_is_some : {X : Type 0} (x : X) → None ≡ Some x → ⊥
none_is_some x e = cc

-- the definition at a known name's place has its arity
found : (hs : List Heading) (ds : List Definition) (name : List ℕ) (arity : ℕ)
    → arity_in (headings ds) name ≡ Some arity → (d : DefinitionValue)
    × (slice_get (map (definition_value hs) ds) (place_of (headings ds) name) ≡ Some d) × (d.arity ≡ arity)
found hs [] name arity e = absurd (none_is_some arity e)
found hs (d ∷ ds) name arity e = by (bytes_eq d.name name) e (found hs ds name arity)
  where
    Found-at : ℕ → Type 0
    Found-at k = (v : DefinitionValue) × (slice_get (map (definition_value hs) (d ∷ ds)) k ≡ Some v) × (v.arity ≡ arity)

    by : (b : Bool) → (if b then Some (length d.parameters) else arity_in (headings ds) name) ≡ Some arity
        → (arity_in (headings ds) name ≡ Some arity → (v : DefinitionValue)
        × (slice_get (map (definition_value hs) ds) (place_of (headings ds) name) ≡ Some v) × (v.arity ≡ arity))
        → Found-at (if b then 0 else suc (place_of (headings ds) name))
    by true h rest = (definition_value hs d, refl, same_Some (length d.parameters) arity h)
    by false h rest = rest h

same_number : (n m : ℕ) → not (nat_eq n m) ≡ false → nat_eq n m ≡ true
same_number n m e = by (nat_eq n m) e
  where
    by : (b : Bool) → not b ≡ false → b ≡ true
    by true h = refl
    by false h = cc

if_true : {X : Type 0} (b : Bool) (x : Option X) → b ≡ true → (if b then None else x) ≡ None
if_true true x e = refl
if_true false x e = absurd cc

-- a use without a flaw has no fault
use_right : (gs : List Heading) (ds : List Definition) (name : List ℕ) (n k : ℕ)
    → use_flaw (arity_in (headings ds) name) n k ≡ None → arity_fault
    (slice_get (map (definition_value gs) ds) (place_of (headings ds) name)) n ≡ None
use_right gs ds name n k e = by (arity_in (headings ds) name) refl e
  where
    by : (o : Option ℕ) → arity_in (headings ds) name ≡ o → use_flaw o n k ≡ None
        → arity_fault (slice_get (map (definition_value gs) ds) (place_of (headings ds) name)) n ≡ None
    by None h u = absurd cc
    by (Some arity) h u =
        let f = found gs ds name arity h in
        let same = same_number n arity (not_ill (not (nat_eq n arity)) Arity k u) in
        let equal : nat_eq n f.0.arity ≡ true = subst (λ a. nat_eq n a ≡ true) (sym f.2) same in
        ap (λ o. arity_fault o n) f.1 ∙ if_true (nat_eq n f.0.arity) _ equal

none_first : {X Y : Type 0} (f : Y → Option DefFault) (value : X → Y) (xs : List X) → Each (λ x. f (value x) ≡ None) xs
    → first_fault f (map value xs) ≡ None
none_first f value [] e = refl
none_first f value (x ∷ xs) e = (λ i. then_fault (e.0 i) (first_fault f (map value xs))) ∙ none_first f value xs e.1

module _ (most : Limits) (ds : List Definition) (scope : Scope) where
  values : List DefinitionValue
  values = map (definition_value (headings ds)) ds

  atom_right : (n k : ℕ) (x : Spatial) → spatial_flaw (term_flaw scope) term_span most (headings ds) n k x ≡ None
      → use_fault values (spatial_value term_value (headings ds) x) ≡ None
  unfolding values
  atom_right n k (Cell t ts) e = refl
  atom_right n k (Predicate name ts) e =
      let a = neither (use_flaw (arity_in (headings ds) name) (length ts) k)
      (or_later (over_if (nat_le most.spatial n) SpatialAtoms k) (arguments_flaw (term_flaw scope) term_span most
      (k + 2) ts)) e
      in
      subst (λ (m : ℕ). arity_fault (slice_get values (place_of (headings ds) name)) m ≡ None)
      (sym (length-map ts term_value)) (use_right (headings ds) ds name (length ts) k a.0)

  heap_right : (k : ℕ) (h : Heap) → heap_flaw (term_flaw scope) term_span most (headings ds) k h ≡ None
      → case_fault values (heap_value term_value (headings ds) h) ≡ None
  heap_right k h e =
      let p = k + pures_span term_span h.pure in
      let a = neither (listed_flaw (pure_flaw (term_flaw scope) term_span most) (pure_span term_span) 0 k h.pure)
      (listed_flaw (spatial_flaw (term_flaw scope) term_span most (headings ds)) (spatial_span term_span)
      0 p h.spatial) e in
      none_first (use_fault values) (spatial_value term_value (headings ds)) h.spatial
      (each_of (spatial_flaw (term_flaw scope) term_span most (headings ds)) (spatial_span term_span)
      (λ x. use_fault values (spatial_value term_value (headings ds) x) ≡ None) atom_right 0 p h.spatial a.1)

  heaps_right : (what : What) (k : ℕ) (hs : List Heap)
      → heaps_flaw (term_flaw scope) term_span most (headings ds) what k hs ≡ None
      → first_fault (case_fault values) (map (heap_value term_value (headings ds)) hs) ≡ None
  heaps_right what k hs e =
      none_first (case_fault values) (heap_value term_value (headings ds)) hs
      (each_of (counted_flaw (term_flaw scope) term_span most (headings ds) what) (heap_span term_span)
      (λ h. case_fault values (heap_value term_value (headings ds) h) ≡ None)
      (λ n j h g. heap_right j h (neither (over_if (nat_le (heap_limit most what) n) what j)
      (heap_flaw (term_flaw scope) term_span most (headings ds) j h) g).1) 0 k hs e)

module _ (most : Limits) (ds : List Definition) where
  definition_right : (n k : ℕ) (d : Definition) → definition_flaw most (headings ds) n k d ≡ None
      → definition_fault (map (definition_value (headings ds)) ds) (definition_value (headings ds) d) ≡ None
  unfolding values
  definition_right n k d e =
      let p = k + 3 + parameters_span d.parameters + 1 in
      let arity = length d.parameters in
      let a = neither (head_flaw most (headings ds) n k d) (cases_flaw most (headings ds) arity p d.cases) e in
      heaps_right most ds (InCase arity most.locals) Cases p d.cases a.1

  goal_right : (count k : ℕ) (g : Goal) → goal_flaw most (headings ds) count k g ≡ None
      → goal_fault (map (definition_value (headings ds)) ds) (goal_value (headings ds) g) ≡ None
  unfolding values
  goal_right count k (Entailment h hs) e =
      let p = k + 1 + heap_span term_span h in
      let a = neither (heap_flaw (term_flaw InGoal) term_span most (headings ds) (k + 1) h)
      (heaps_flaw (term_flaw InGoal) term_span most (headings ds) Disjuncts p hs) e in
      (λ i. then_fault (heap_right most ds InGoal (k + 1) h a.0 i) (heaps_right most ds InGoal Disjuncts p hs a.1 i))
  goal_right count k (From n h) e =
      let a = neither (ill_if (nat_eq n 0 || nat_lt count n) NoLine (k + 2))
      (heap_flaw (term_flaw InGoal) term_span most (headings ds) (k + 4) h) e in
      (λ i. then_fault (heap_right most ds InGoal (k + 4) h a.1 i) None)

-- the disjuncts of an end use what is defined
pub end_right : (most : Limits) (ds : List Definition) (k : ℕ) (hs : List Heap)
    → heaps_flaw (term_flaw InEnd) term_span most (headings ds) Disjuncts k hs ≡ None
    → first_fault (case_fault (map (definition_value (headings ds)) ds)) (map (heap_value term_value (headings ds)) hs)
    ≡ None
unfolding values
end_right most ds k hs e = heaps_right most ds InEnd Disjuncts k hs e

-- ---- the line of the goal

line_right : (most : Limits) (hs gs : List Heading) (count k : ℕ) (g : Goal) → goal_flaw most hs count k g ≡ None
    → has_line count (goal_value gs g) ≡ true
line_right most hs gs count k (Entailment h ds) e = refl
line_right most hs gs count k (From n h) e =
    let a = neither (ill_if (nat_eq n 0 || nat_lt count n) NoLine (k + 2))
    (heap_flaw (term_flaw InGoal) term_span most hs (k + 4) h) e in
    ap not (not_ill (nat_eq n 0 || nat_lt count n) NoLine (k + 2) a.0)

-- ---- the goal's heaps are short

module _ (most : Limits) (hs : List Heading) where
  short : (h : Heap) → HasFewAtoms most h → is_short_heap most (heap_value term_value hs h) ≡ true
  short h few =
      let pures = map (pure_value term_value) h.pure in
      let atoms = map (spatial_value term_value hs) h.spatial in
      let m = length-map h.pure (pure_value term_value) in
      let n = length-map h.spatial (spatial_value term_value hs) in
      let few_pures = few.0 in
      let few_atoms = few.1 in
      and_from (nat_le (length pures) most.pure) (nat_le (length atoms) most.spatial)
      (le-leb (length pures) most.pure (omega arith)) (le-leb (length atoms) most.spatial (omega arith))

  all_short : (xs : List Heap) → Each (HasFewAtoms most) xs
      → list_all (is_short_heap most) (map (heap_value term_value hs) xs) ≡ true
  all_short [] e = refl
  all_short (x ∷ xs) e = λ i. short x e.0 i && all_short xs e.1 i

  goal_short : (count k : ℕ) (g : Goal) → goal_flaw most hs count k g ≡ None
      → list_all (is_short_heap most) (goal_heaps (goal_value hs g)) ≡ true
  goal_short count k (Entailment h ds) e =
      let p = k + 1 + heap_span term_span h in
      let a = neither (heap_flaw (term_flaw InGoal) term_span most hs (k + 1) h)
      (heaps_flaw (term_flaw InGoal) term_span most hs Disjuncts p ds) e in
      let left = short h (heap_few (term_flaw InGoal) term_span most hs (k + 1) h a.0) in
      let right = all_short ds (heaps_few (term_flaw InGoal) term_span most hs Disjuncts p ds a.1) in
      λ i. left i && right i
  goal_short count k (From n h) e =
      let a = neither (ill_if (nat_eq n 0 || nat_lt count n) NoLine (k + 2))
      (heap_flaw (term_flaw InGoal) term_span most hs (k + 4) h) e in
      let state = short h (heap_few (term_flaw InGoal) term_span most hs (k + 4) h a.1) in
      λ i. state i && true

-- ---- antecedents are universal

module _ (us : List Name) where
  term_universal : (t : Named) → is_universal (term_value (numbers.term (Antecedent us) t)) ≡ true
  term_universal Nil = refl
  term_universal (Plain s) = refl
  term_universal (Primed s) = refl

  terms_universal : (ts : List Named) → are_universal (map term_value (map (numbers.term (Antecedent us)) ts)) ≡ true
  terms_universal [] = refl
  terms_universal (t ∷ ts) = λ i. term_universal t i && terms_universal ts i

  pure_universal : (x : PureTree Named) → is_universal_pure (pure_value term_value
      (pure_of (numbers.term (Antecedent us)) x)) ≡ true
  pure_universal x = by x.is_equation
    where
      by : (b : Bool) → is_universal_pure (pure_value term_value
          (record {
            left = numbers.term (Antecedent us) x.left;
            is_equation = b;
            right = numbers.term (Antecedent us) x.right;
          })) ≡ true
      by true = λ i. term_universal x.left i && term_universal x.right i
      by false = λ i. term_universal x.left i && term_universal x.right i

  spatial_universal : (hs : List Heading) (x : named.Spatial)
      → is_universal_spatial (spatial_value term_value hs (numbers.spatial (Antecedent us) x)) ≡ true
  spatial_universal hs (Cell t ts) = λ i. term_universal t i && terms_universal ts i
  spatial_universal hs (Predicate name ts) = terms_universal ts

  pures_universal : (xs : List (PureTree Named)) → list_all is_universal_pure
      (map (pure_value term_value) (map (pure_of (numbers.term (Antecedent us))) xs)) ≡ true
  pures_universal [] = refl
  pures_universal (x ∷ xs) = λ i. pure_universal x i && pures_universal xs i

  spatials_universal : (hs : List Heading) (xs : List named.Spatial)
      → list_all is_universal_spatial (map (spatial_value term_value hs) (map (numbers.spatial (Antecedent us)) xs))
      ≡ true
  spatials_universal hs [] = refl
  spatials_universal hs (x ∷ xs) = λ i. spatial_universal hs x i && spatials_universal hs xs i

  goal_universal : (hs : List Heading) (g : named.Goal)
      → is_universal_heap (antecedent (goal_value hs (numbers.goal us g))) ≡ true
  goal_universal hs (named.Entailment h ds) = λ i. pures_universal h.pure i && spatials_universal hs h.spatial i
  goal_universal hs (named.From n h) = λ i. pures_universal h.pure i && spatials_universal hs h.spatial i

-- ---- problems

module _ (p : Problem) (text : IsOfText p) (right : problem_flaw p ≡ None) where
  pub is_closed : closed_fault (map (definition_value (headings p.definitions)) p.definitions) ≡ None
  is_closed =
      let ds = p.definitions in
      let vs = map (definition_value (headings ds)) ds in
      none_first (definition_fault vs) (definition_value (headings ds)) ds
      (each_of (definition_flaw (limits p.version) (headings ds)) definition_span
      (λ d. definition_fault vs (definition_value (headings ds) d) ≡ None)
      (definition_right (limits p.version) ds) 0 4 ds (problem_parts p right).0)

  pub is_known : goal_fault (map (definition_value (headings p.definitions)) p.definitions)
      (goal_value (headings p.definitions) p.goal) ≡ None
  is_known = goal_right (limits p.version) p.definitions (length p.lines)
      (goal_place p) p.goal (problem_parts p right).3

  pub has_its_line : has_line (length (ended_value term_value (headings p.definitions) p.lines p.ends))
      (goal_value (headings p.definitions) p.goal) ≡ true
  has_its_line =
      let lines = map (line_value variable_value) p.lines in
      let same = as_many_commands 0 (program_value p.lines) (map (end_value term_value (headings p.definitions)) p.ends)
      ∙ length-map lines _ ∙ length-map p.lines (line_value variable_value) in
      subst (λ (n : ℕ). has_line n (goal_value (headings p.definitions) p.goal) ≡ true) (sym same)
      (line_right (limits p.version) (headings p.definitions) (headings p.definitions) (length p.lines)
      (goal_place p) p.goal (problem_parts p right).3)

  pub is_short : list_all (is_short_heap (limits p.version))
      (goal_heaps (goal_value (headings p.definitions) p.goal)) ≡ true
  is_short = goal_short (limits p.version) (headings p.definitions) (length p.lines)
      (goal_place p) p.goal (problem_parts p right).3

  pub has_universal_antecedent : is_universal_heap (antecedent (goal_value (headings p.definitions) p.goal)) ≡ true
  has_universal_antecedent =
      subst (λ (q : Problem). is_universal_heap (antecedent (goal_value (headings p.definitions) q.goal)) ≡ true) text.2
      (goal_universal (numbers.universals text.0) (headings p.definitions) text.0.goal)
