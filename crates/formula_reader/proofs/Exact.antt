-- No limit is passed exactly where the values are within all of them.
use Rattle.std.proofs.Common.{◌≡◌, ℕ, zero, suc, ◌+◌, ◌<◌, ◌≤◌, Bool, true, false, List, [], ◌∷◌, length, take, Option}
use Rattle.std.proofs.Common.{Some, None, refl, sym, ap, ◌∙◌, subst, arith, leb-true, le-leb}
use Rattle.std.specs.Prelude.{not, ◌&&◌, ◌||◌, nat_eq, nat_lt, nat_le, is_none, slice_get}
use Rattle.std.specs.List.{list_all}
use Rattle.std.specs.Str.{bytes_eq}
use Rattle.std.specs.Option.{option_map, option_or}
use Rattle.std.proofs.lemmas.Bool.{and_from, and_parts, or_parts, or_from, ltb-false, le-ltb, ltb-true, lt-ltb}
use Rattle.std.proofs.lemmas.Bool.{eqb-false, ne_eqb}
use Rattle.std.proofs.lemmas.Slice.Eq.{bytes_eq-Decides}
use Rattle.cyc_basics.specs.declared.limits.Limits.{Limits}
use Rattle.heap_formula.specs.declared.atoms.Spatial.{Spatial}
use Rattle.heap_formula.specs.declared.atoms.Spatial.TheVariants.{Cell, Pred}
use Rattle.heap_formula.specs.declared.commands.Command.{Command}
use Rattle.heap_formula.specs.declared.commands.Command.TheVariants as commands
use Rattle.heap_formula.specs.declared.judgements.Judgement.{Judgement}
use Rattle.heap_formula.specs.declared.judgements.Judgement.TheVariants.{Entail, Term as Runs}
use Rattle.heap_formula.specs.Definitions.{Definition}
use Rattle.heap_formula.specs.Fresh.{heap_bound, heap_exists}
use Rattle.heap_formula.specs.Symbolic.{SymbolicHeap}
use Rattle.heap_formula.specs.Words.{Each}
use Rattle.heap_formula.proofs.Members.{each_from}
use Rattle.goto_lang.specs.Lines.{IsProgram}
use Rattle.pred_defs.specs.Faults.{or_later, first_fault, use_fault, has_name}
use Rattle.pred_defs.specs.declared.faults.DefFault.{DefFault}
use Rattle.rule_table.specs.Answer.{is_short, has_numbers}
use Rattle.rule_table.specs.Tests.{is_universal_heap}
use Rattle.cyc_grammar.specs.Classes.{is_free_name}
use Rattle.heap_syntax.specs.Words.{reserved}
use Rattle.heap_syntax.specs.declared.version.Version.{Version}
use Rattle.rule_book.specs.Limits.{HasFields, IsHeapWithin, IsJudgementWithin, IsCaseWithin, IsDefinitionWithin}
use Rattle.rule_book.specs.Limits.{IsCommandWithin, AreEndsWithin}
use Rattle.heap_formula.proofs.AllMembers.{each_imply, each_at}
use Rattle.cyc_basics.proofs.Options.{none_is, neither_some}
use Rattle.formula_reader.specs.declared.limits.excess.HeapExcess.TheVariants.{Atoms, Variable, Predicate, Fields}
use Rattle.formula_reader.specs.declared.limits.excess.CaseExcess.TheVariants.{Heap, Parameter, Locals}
use Rattle.formula_reader.specs.declared.limits.excess.DefinitionExcess.TheVariants.{Name, Duplicate, Parameters, Cases}
use Rattle.formula_reader.specs.declared.limits.excess.DefinitionExcess.TheVariants.{Case}
use Rattle.formula_reader.specs.declared.limits.excess.JudgementExcess.{JudgementExcess}
use Rattle.formula_reader.specs.declared.limits.excess.JudgementExcess.TheVariants.{Line, Antecedent, Disjunct}
use Rattle.formula_reader.specs.declared.limits.excess.JudgementExcess.TheVariants.{Existential}
use Rattle.formula_reader.specs.declared.limits.excess.ProblemExcess.{ProblemExcess}
use Rattle.formula_reader.specs.declared.limits.excess.ProblemExcess.TheVariants.{Definition as OfDefinition}
use Rattle.formula_reader.specs.declared.limits.excess.ProblemExcess.TheVariants.{Command as OfCommand, End as OfEnd}
use Rattle.formula_reader.specs.declared.limits.excess.ProblemExcess.TheVariants.{Goal as OfGoal}
use Rattle.formula_reader.specs.Within.{HaveOwnNames, IsCommandOf, IsProblemWithin}
use Rattle.formula_reader.specs.Excess.{first_of, has_fields, is_use, heap_excess, case_excess, case_at}
use Rattle.formula_reader.specs.Excess.{definition_excess, definition_at, definitions_excess, is_command_of, line_at}
use Rattle.formula_reader.specs.Excess.{lines_excess, end_disjunct_at, end_at, ends_excess, antecedent_excess}
use Rattle.formula_reader.specs.Excess.{disjunct_at}
use Rattle.formula_reader.specs.Excess.{judgement_excess, problem_excess}
use Rattle.formula_reader.proofs.Universal.{universal_heap, universal_heap_passes}
use Rattle.formula_reader.proofs.Firsts.{each_passes, all_pass, not_chosen, none_chosen, chosen_none, none_where}
use Rattle.formula_reader.proofs.Firsts.{passed, not_failed, unmapped, mapped_none, both_none, none_of_each}
use Rattle.formula_reader.proofs.Firsts.{each_of_none}

-- ---- atoms

fields_pass : (x : Spatial) → HasFields x → has_fields x ≡ true
fields_pass (Cell t ts) f = and_from (nat_lt 0 (length ts)) (nat_le (length ts) 8) (lt-ltb 0 (length ts) f.0)
    (le-leb (length ts) 8 f.1)
fields_pass (Pred q ts) f = refl

fields_are : (x : Spatial) → has_fields x ≡ true → HasFields x
fields_are (Cell t ts) e =
    let b = and_parts (nat_lt 0 (length ts)) (nat_le (length ts) 8) e in
    (ltb-true 0 (length ts) b.0, leb-true (length ts) 8 b.1)
fields_are (Pred q ts) e = tt

uses_known : (ds : List Definition) (xs : List Spatial) → list_all (is_use ds) xs ≡ true
    → first_fault (use_fault ds) xs ≡ None
uses_known ds [] e = refl
uses_known ds (x ∷ xs) e =
    let b = and_parts (is_use ds x) (list_all (is_use ds) xs) e in
    let here = none_is (use_fault ds x) b.0 in
    subst (λ (o : Option DefFault). or_later o (first_fault (use_fault ds) xs) ≡ None) (sym here) (uses_known ds xs b.1)

known_used : (ds : List Definition) (xs : List Spatial) → first_fault (use_fault ds) xs ≡ None
    → list_all (is_use ds) xs ≡ true
known_used ds [] e = refl
known_used ds (x ∷ xs) e =
    by_fault (use_fault ds x) (first_fault (use_fault ds) xs) e (known_used ds xs)
  where
    by_fault : (o rest : Option DefFault) → or_later o rest ≡ None → (rest ≡ None → list_all (is_use ds) xs ≡ true)
        → is_none o && list_all (is_use ds) xs ≡ true
    by_fault None rest h later = later h
    by_fault (Some f) rest h later = absurd cc

-- ---- heaps

module _ (most : Limits) (ds : List Definition) where
  pub heap_exact : (a : SymbolicHeap) → heap_excess most ds a ≡ None → IsHeapWithin most ds a
  heap_exact a e =
      let known = list_all (is_use ds) a.spatial in
      let fields = list_all has_fields a.spatial in
      let first = not_chosen (not (is_short most a)) Atoms _ e in
      let second = not_chosen (not (has_numbers a)) Variable _ first.1 in
      let third = not_chosen (not known) Predicate _ second.1 in
      let fourth = not_chosen (not fields) Fields None third.1 in
      record {
        short = passed (is_short most a) first.0;
        numbers = passed (has_numbers a) second.0;
        known = uses_known ds a.spatial (passed known third.0);
        fields = each_passes has_fields HasFields fields_are a.spatial (passed fields fourth.0);
      }

  pub heap_none : (a : SymbolicHeap) → IsHeapWithin most ds a → heap_excess most ds a ≡ None
  heap_none a w =
      let known = list_all (is_use ds) a.spatial in
      let fields = list_all has_fields a.spatial in
      none_chosen (not (is_short most a)) Atoms _ (not_failed (is_short most a) w.short)
      (none_chosen (not (has_numbers a)) Variable _ (not_failed (has_numbers a) w.numbers)
      (none_chosen (not known) Predicate _ (not_failed known (known_used ds a.spatial w.known))
      (none_chosen (not fields) Fields None (not_failed fields
      (all_pass has_fields a.spatial (each_imply HasFields (λ x. has_fields x ≡ true)
      fields_pass a.spatial w.fields))) refl)))

  -- ---- cases

  case_exact : (arity : ℕ) (c : SymbolicHeap) → case_excess most ds arity c ≡ None → IsCaseWithin most ds arity c
  case_exact arity c e =
      let parts = neither_some (option_map Heap (heap_excess most ds c)) _ e in
      let first = not_chosen (nat_lt arity (heap_bound c)) Parameter _ parts.1 in
      let second = not_chosen (nat_lt most.locals (heap_exists c)) Locals None first.1 in
      record {
        heap = heap_exact c (unmapped Heap (heap_excess most ds c) parts.0);
        parameters = ltb-false arity (heap_bound c) first.0;
        locals = ltb-false most.locals (heap_exists c) second.0;
      }

  case_none : (arity : ℕ) (c : SymbolicHeap) → IsCaseWithin most ds arity c → case_excess most ds arity c ≡ None
  case_none arity c w =
      both_none (option_map Heap (heap_excess most ds c)) _
      (mapped_none Heap (heap_excess most ds c) (heap_none c w.heap))
      (none_chosen (nat_lt arity (heap_bound c)) Parameter _ (le-ltb arity (heap_bound c) w.parameters)
      (none_chosen (nat_lt most.locals (heap_exists c)) Locals None (le-ltb most.locals (heap_exists c) w.locals) refl))

  cases_exact : (arity : ℕ) (cs : List SymbolicHeap) → first_of (case_at most ds arity) 0 cs ≡ None
      → Each (IsCaseWithin most ds arity) cs
  cases_exact arity cs e =
      each_from (IsCaseWithin most ds arity) cs (λ i c at. case_exact arity c
      (unmapped (Case (0 + i)) (case_excess most ds arity c) (none_of_each (case_at most ds arity) 0 cs e i c at)))

  cases_none : (arity : ℕ) (cs : List SymbolicHeap) → Each (IsCaseWithin most ds arity) cs
      → first_of (case_at most ds arity) 0 cs ≡ None
  cases_none arity cs w =
      each_of_none (case_at most ds arity) 0 cs (λ i c at. mapped_none (Case (0 + i)) (case_excess most ds arity c)
      (case_none arity c (each_at (IsCaseWithin most ds arity) cs i c at w)))

  -- ---- definitions

  -- what a definition keeps of its own, and of those before it
  record IsGood (n : ℕ) (d : Definition) : Type 0 where
    within : IsDefinitionWithin most ds d
    free : is_free_name reserved d.name ≡ true
    new : has_name (take n ds) d.name ≡ false

  some_cases : (n : ℕ) → (nat_eq n 0 || nat_lt most.cases n) ≡ false → (0 < n) × (n ≤ most.cases)
  some_cases n e =
      let b = or_parts (nat_eq n 0) (nat_lt most.cases n) e in
      let some = eqb-false n 0 b.0 in
      let few = ltb-false most.cases n b.1 in
      (omega arith, few)

  cases_some : (n : ℕ) → 0 < n → n ≤ most.cases → (nat_eq n 0 || nat_lt most.cases n) ≡ false
  cases_some n some few = or_from (nat_eq n 0) (nat_lt most.cases n) (ne_eqb n 0 (λ e. omega (arith, e)))
      (le-ltb most.cases n few)

  definition_exact : (n : ℕ) (d : Definition) → definition_excess most ds n d ≡ None → IsGood n d
  definition_exact n d e =
      let free = is_free_name reserved d.name in
      let count = length d.cases in
      let first = not_chosen (not free) Name _ e in
      let second = not_chosen (has_name (take n ds) d.name) Duplicate _ first.1 in
      let third = not_chosen (nat_lt most.arguments d.arity) Parameters _ second.1 in
      let fourth = not_chosen (nat_eq count 0 || nat_lt most.cases count) Cases _ third.1 in
      let size = some_cases count fourth.0 in
      record {
        within = record {
          arity = ltb-false most.arguments d.arity third.0;
          some_case = size.0;
          few = size.1;
          cases = cases_exact d.arity d.cases fourth.1;
        };
        free = passed free first.0;
        new = second.0;
      }

  definition_none : (n : ℕ) (d : Definition) → IsGood n d → definition_excess most ds n d ≡ None
  definition_none n d g =
      let free = is_free_name reserved d.name in
      let count = length d.cases in
      none_chosen (not free) Name _ (not_failed free g.free)
      (none_chosen (has_name (take n ds) d.name) Duplicate _ g.new
      (none_chosen (nat_lt most.arguments d.arity) Parameters _ (le-ltb most.arguments d.arity g.within.arity)
      (none_chosen (nat_eq count 0 || nat_lt most.cases count) Cases _
      (cases_some count g.within.some_case g.within.few)
      (cases_none d.arity d.cases g.within.cases))))

-- ---- names

-- a definition before that has the name is found
name_found : (xs : List Definition) (p n : ℕ) (e : Definition) (name : List ℕ) → slice_get xs p ≡ Some e → e.name ≡ name
    → p < n → has_name (take n xs) name ≡ true
name_found [] p n e name at same less = absurd cc
name_found (x ∷ xs) p zero e name at same less = absurd (omega arith)
name_found (x ∷ xs) zero (suc n) e name at same less =
    let here : x ≡ e = cc in
    let named = (bytes_eq-Decides x.name name).1 (ap (λ (d : Definition). d.name) here ∙ same) in
    ap (λ (b : Bool). b || has_name (take n xs) name) named
name_found (x ∷ xs) (suc p) (suc n) e name at same less =
    by_test (bytes_eq x.name name) (name_found xs p n e name at same (omega arith))
  where
    by_test : (b : Bool) → has_name (take n xs) name ≡ true → b || has_name (take n xs) name ≡ true
    by_test true rest = refl
    by_test false rest = rest

-- none is found where none before has the name
name_new : (xs : List Definition) (n : ℕ) (name : List ℕ)
    → ((p : ℕ) (e : Definition) → p < n → slice_get xs p ≡ Some e → e.name ≡ name → ⊥)
    → has_name (take n xs) name ≡ false
name_new [] zero name h = refl
name_new [] (suc n) name h = refl
name_new (x ∷ xs) zero name h = refl
name_new (x ∷ xs) (suc n) name h =
    by_test (bytes_eq x.name name) refl (name_new xs n name (λ p e less at same. h (suc p) e (omega arith) at same))
  where
    by_test : (b : Bool) → bytes_eq x.name name ≡ b → has_name (take n xs) name ≡ false
        → (b || has_name (take n xs) name) ≡ false
    by_test true e rest = absurd (h 0 x (omega arith) refl ((bytes_eq-Decides x.name name).0 e))
    by_test false e rest = rest

true_not_false : (b : Bool) → b ≡ true → b ≡ false → ⊥
true_not_false b e h = cc

equal_unless_apart : (p q : ℕ) → (p < q → ⊥) → (q < p → ⊥) → p ≡ q
equal_unless_apart p q f g = omega arith

module _ (ds : List Definition) where
  own_names : ((n : ℕ) (d : Definition) → slice_get ds n ≡ Some d → has_name (take n ds) d.name ≡ false)
      → HaveOwnNames ds
  own_names new p q d e at_p at_q same =
      equal_unless_apart p q
      (λ less. true_not_false (has_name (take q ds) e.name) (name_found ds p q d e.name at_p same less) (new q e at_q))
      (λ less. true_not_false (has_name (take p ds) d.name) (name_found ds q p e d.name at_q (sym same) less)
      (new p d at_p))

  names_new : HaveOwnNames ds → (n : ℕ) (d : Definition) → slice_get ds n ≡ Some d → has_name (take n ds) d.name ≡ false
  names_new own n d at =
      name_new ds n d.name (λ p e less at_p same. (
      let equal = own p n e d at_p at same in
      omega arith))

-- ---- lines

command_is : (version : Version) (most : Limits) (c : Command) → is_command_of version most c ≡ true
    → IsCommandOf version most c
command_is version most (commands.IfAny j) e = e
command_is version most (commands.Assign x t) e = tt
command_is version most (commands.Load x t k) e = leb-true k most.arguments e
command_is version most (commands.Store t k u) e = leb-true k most.arguments e
command_is version most (commands.New x k) e = leb-true k most.arguments e
command_is version most (commands.Free t) e = tt
command_is version most (commands.IfEq t u j) e = tt
command_is version most (commands.IfNeq t u j) e = tt
command_is version most (commands.Goto j) e = tt
command_is version most commands.Stop e = tt
command_is version most (commands.Ends bs) e = e

command_passes : (version : Version) (most : Limits) (c : Command) → IsCommandOf version most c
    → is_command_of version most c ≡ true
command_passes version most (commands.IfAny j) e = e
command_passes version most (commands.Assign x t) e = refl
command_passes version most (commands.Load x t k) e = le-leb k most.arguments e
command_passes version most (commands.Store t k u) e = le-leb k most.arguments e
command_passes version most (commands.New x k) e = le-leb k most.arguments e
command_passes version most (commands.Free t) e = refl
command_passes version most (commands.IfEq t u j) e = refl
command_passes version most (commands.IfNeq t u j) e = refl
command_passes version most (commands.Goto j) e = refl
command_passes version most commands.Stop e = refl
command_passes version most (commands.Ends bs) e = e

lines_exact : (version : Version) (most : Limits) (cs : List Command) → lines_excess version most cs ≡ None
    → Each (IsCommandOf version most) cs
lines_exact version most cs e =
    each_from (IsCommandOf version most) cs (λ i c at. command_is version most c
    (chosen_none (is_command_of version most c) (OfCommand (0 + i + 1))
    (none_of_each (line_at version most) 0 cs e i c at)))

lines_none : (version : Version) (most : Limits) (cs : List Command) → Each (IsCommandOf version most) cs
    → lines_excess version most cs ≡ None
lines_none version most cs w =
    each_of_none (line_at version most) 0 cs (λ i c at. none_where (is_command_of version most c) (OfCommand
    (0 + i + 1))
    (command_passes version most c (each_at (IsCommandOf version most) cs i c at w)))

-- ---- judgements

module _ (most : Limits) (ds : List Definition) where
  antecedent_exact : (a : SymbolicHeap) → antecedent_excess most ds a ≡ None
      → IsHeapWithin most ds a × (is_universal_heap a ≡ true)
  antecedent_exact a e =
      let parts = neither_some (option_map Antecedent (heap_excess most ds a)) _ e in (
        heap_exact most ds a (unmapped Antecedent (heap_excess most ds a) parts.0),
        chosen_none (is_universal_heap a) Existential parts.1,
      )

  antecedent_none : (a : SymbolicHeap) → IsHeapWithin most ds a → is_universal_heap a ≡ true
      → antecedent_excess most ds a ≡ None
  antecedent_none a w u =
      both_none (option_map Antecedent (heap_excess most ds a)) _
      (mapped_none Antecedent (heap_excess most ds a) (heap_none most ds a w))
      (none_where (is_universal_heap a) Existential u)

  disjuncts_exact : (bs : List SymbolicHeap) → first_of (disjunct_at most ds) 0 bs ≡ None
      → Each (IsHeapWithin most ds) bs
  disjuncts_exact bs e =
      each_from (IsHeapWithin most ds) bs (λ i b at. heap_exact most ds b
      (unmapped (Disjunct (0 + i)) (heap_excess most ds b) (none_of_each (disjunct_at most ds) 0 bs e i b at)))

  disjuncts_none : (bs : List SymbolicHeap) → Each (IsHeapWithin most ds) bs
      → first_of (disjunct_at most ds) 0 bs ≡ None
  disjuncts_none bs w =
      each_of_none (disjunct_at most ds) 0 bs (λ i b at. mapped_none (Disjunct (0 + i)) (heap_excess most ds b)
      (heap_none most ds b (each_at (IsHeapWithin most ds) bs i b at w)))

  pub entailment_exact : (count : ℕ) (a : SymbolicHeap) (bs : List SymbolicHeap) → 0 < length bs → length bs ≤ 16
      → judgement_excess most ds count (Entail a bs) ≡ None → IsJudgementWithin most ds count (Entail a bs)
  entailment_exact count a bs some few e =
      let parts = neither_some (antecedent_excess most ds a) (first_of (disjunct_at most ds) 0 bs) e in
      let first = antecedent_exact a parts.0 in
      record { heaps = (first.0, disjuncts_exact bs parts.1); universal = universal_heap a first.1; form = (some, few) }

  pub state_exact : (count i : ℕ) (a : SymbolicHeap) → judgement_excess most ds count (Runs i a) ≡ None
      → IsJudgementWithin most ds count (Runs i a)
  state_exact count i a e =
      let parts = not_chosen (nat_eq i 0 || nat_lt count i) Line (antecedent_excess most ds a) e in
      let line = or_parts (nat_eq i 0) (nat_lt count i) parts.0 in
      let some = eqb-false i 0 line.0 in
      let there = ltb-false count i line.1 in
      let first = antecedent_exact a parts.1 in
      record { heaps = (first.0, tt); universal = universal_heap a first.1; form = (omega arith, there) }

  pub judgement_none : (count : ℕ) (j : Judgement) → IsJudgementWithin most ds count j
      → judgement_excess most ds count j ≡ None
  judgement_none count (Entail a bs) w =
      both_none (antecedent_excess most ds a) (first_of (disjunct_at most ds) 0 bs)
      (antecedent_none a w.heaps.0 (universal_heap_passes a w.universal)) (disjuncts_none bs w.heaps.1)
  judgement_none count (Runs i a) w =
      let some = w.form.0 in
      none_chosen (nat_eq i 0 || nat_lt count i) Line (antecedent_excess most ds a)
      (or_from (nat_eq i 0) (nat_lt count i) (ne_eqb i 0 (λ e. omega (arith, e))) (le-ltb count i w.form.1))
      (antecedent_none a w.heaps.0 (universal_heap_passes a w.universal))

  -- ---- what is found of a judgement, by the cases of its code

  -- what is found tells whether the judgement is within the limits
  abbrev pub TellsOf : ℕ → Judgement → Option JudgementExcess → Type 0
  TellsOf count j r = (r ≡ None → IsJudgementWithin most ds count j) × (IsJudgementWithin most ds count j → r ≡ None)

  tells_some : (count : ℕ) (j : Judgement) (e : JudgementExcess) → (IsJudgementWithin most ds count j → Some e ≡ None)
      → TellsOf count j (Some e)
  tells_some count j e over = (λ none. absurd cc, over)

  pub antecedent_over : (count : ℕ) (j : Judgement) (a : SymbolicHeap) (bs : List SymbolicHeap) → j ≡ Entail a bs
      → (r : Option JudgementExcess) (e : JudgementExcess) → r ≡ antecedent_excess most ds a → r ≡ Some e
      → TellsOf count j (Some e)
  antecedent_over count j a bs is r e found here =
      tells_some count j e (λ w. (
      let within = subst (IsJudgementWithin most ds count) is w in
      sym here ∙ found ∙ (neither_some (antecedent_excess most ds a) (first_of (disjunct_at most ds) 0 bs)
      (judgement_none count (Entail a bs) within)).0))

  pub disjuncts_over : (count : ℕ) (j : Judgement) (a : SymbolicHeap) (bs : List SymbolicHeap) → j ≡ Entail a bs
      → (q r : Option JudgementExcess) (heaps : List SymbolicHeap) → q ≡ antecedent_excess most ds a → q ≡ None
      → heaps ≡ bs → r ≡ first_of (disjunct_at most ds) 0 heaps → 0 < length bs → length bs ≤ 16 → TellsOf count j r
  disjuncts_over count j a bs is q r heaps first none same found some few =
      let antecedent = antecedent_excess most ds a in
      let others = first_of (disjunct_at most ds) 0 bs in
      let found_here : r ≡ others = found ∙ ap (first_of (disjunct_at most ds) 0) same in (
        (λ nothing. subst (IsJudgementWithin most ds count) (sym is)
            (entailment_exact count a bs some few (both_none antecedent others (sym first ∙ none)
            (sym found_here ∙ nothing)))),
        (λ w. (
            let within = subst (IsJudgementWithin most ds count) is w in
            found_here ∙ (neither_some antecedent others (judgement_none count (Entail a bs) within)).1)),
      )

  pub state_over : (count : ℕ) (j : Judgement) (i : ℕ) (a : SymbolicHeap) → j ≡ Runs i a → (r : Option JudgementExcess)
      → (i ≡ 0 → ⊥) → i ≤ count → r ≡ antecedent_excess most ds a → TellsOf count j r
  state_over count j i a is r some there found =
      let line = or_from (nat_eq i 0) (nat_lt count i) (ne_eqb i 0 some) (le-ltb count i there) in (
        (λ nothing. subst (IsJudgementWithin most ds count) (sym is)
            (state_exact count i a (none_chosen (nat_eq i 0 || nat_lt count i) Line (antecedent_excess most ds a) line
            (sym found ∙ nothing)))),
        (λ w. (
            let within = subst (IsJudgementWithin most ds count) is w in
            found ∙ (not_chosen (nat_eq i 0 || nat_lt count i) Line (antecedent_excess most ds a)
            (judgement_none count (Runs i a) within)).1)),
      )

-- ---- ends

module _ (most : Limits) (ds : List Definition) where
  -- the disjuncts of an end
  pub end_exact : (line : ℕ) (bs : List SymbolicHeap) → first_of (end_disjunct_at most ds line) 0 bs ≡ None
      → Each (IsHeapWithin most ds) bs
  end_exact line bs e =
      each_from (IsHeapWithin most ds) bs (λ i b at. heap_exact most ds b
      (unmapped (OfEnd line (0 + i)) (heap_excess most ds b)
      (none_of_each (end_disjunct_at most ds line) 0 bs e i b at)))

  end_none : (n : ℕ) (c : Command) → IsCommandWithin most ds c → end_at most ds n c ≡ None
  end_none n (commands.Ends bs) w =
      each_of_none (end_disjunct_at most ds (n + 1)) 0 bs (λ i b at. mapped_none (OfEnd (n + 1) (0 + i))
      (heap_excess most ds b) (heap_none most ds b (each_at (IsHeapWithin most ds) bs i b at w.0)))
  end_none n (commands.Assign x t) w = refl
  end_none n (commands.Load x t k) w = refl
  end_none n (commands.Store t k u) w = refl
  end_none n (commands.New x k) w = refl
  end_none n (commands.Free t) w = refl
  end_none n (commands.IfEq t u j) w = refl
  end_none n (commands.IfNeq t u j) w = refl
  end_none n (commands.IfAny j) w = refl
  end_none n (commands.Goto j) w = refl
  end_none n commands.Stop w = refl

  ends_none : (cs : List Command) → AreEndsWithin most ds cs → ends_excess most ds cs ≡ None
  ends_none cs w = each_of_none (end_at most ds) 0 cs
      (λ i c at. end_none (0 + i) c (each_at (IsCommandWithin most ds) cs i c at w))

-- ---- problems

module _ (version : Version) (most : Limits) (ds : List Definition) (lines : List Command) (goal : Judgement) where
  pub problem_exact : length ds ≤ 4096 → IsProgram lines → IsJudgementWithin most ds (length lines) goal
      → definitions_excess most ds ≡ None → lines_excess version most lines ≡ None → AreEndsWithin most ds lines
      → IsProblemWithin version most ds lines goal
  problem_exact few program judged none known ends =
      let good = λ (n : ℕ) (d : Definition) (at : slice_get ds n ≡ Some d). definition_exact most ds (0 + n) d
      (unmapped (OfDefinition (0 + n)) (definition_excess most ds (0 + n) d)
      (none_of_each (definition_at most ds) 0 ds none n d at)) in
      record {
        few = few;
        definitions = each_from (IsDefinitionWithin most ds) ds (λ n d at. (good n d at).within);
        free = λ n d at. (good n d at).free;
        own = own_names ds (λ n d at. (
            let here : 0 + n ≡ n = omega arith in
            subst (λ (m : ℕ). has_name (take m ds) d.name ≡ false) here (good n d at).new));
        program = program;
        commands = lines_exact version most lines known;
        ends = ends;
        goal = judged;
      }

  pub problem_none : IsProblemWithin version most ds lines goal → problem_excess version most ds lines goal ≡ None
  problem_none w =
      let definitions = each_of_none (definition_at most ds) 0 ds
      (λ n d at. mapped_none (OfDefinition (0 + n)) (definition_excess most ds (0 + n) d)
      (definition_none most ds (0 + n) d (record {
        within = each_at (IsDefinitionWithin most ds) ds n d at w.definitions;
        free = w.free n d at;
        new = (
            let here : n ≡ 0 + n = omega arith in
            subst (λ (m : ℕ). has_name (take m ds) d.name ≡ false) here (names_new ds w.own n d at));
      }))) in
      both_none (definitions_excess most ds) _ definitions
      (both_none (lines_excess version most lines) _ (lines_none version most lines w.commands)
      (both_none (ends_excess most ds lines) _ (ends_none most ds lines w.ends)
      (mapped_none OfGoal (judgement_excess most ds (length lines) goal)
      (judgement_none most ds (length lines) goal w.goal))))

  -- ---- what is found of a problem, by the cases of its code

  -- what is found tells whether the problem is within the limits
  abbrev pub TellsOfAll : Option ProblemExcess → Type 0
  TellsOfAll r = (r ≡ None → IsProblemWithin version most ds lines goal)
      × (IsProblemWithin version most ds lines goal → r ≡ None)

  -- the parts of what is found of a problem that is within them
  parts_none : IsProblemWithin version most ds lines goal
      → (definitions_excess most ds ≡ None) × (lines_excess version most lines ≡ None)
      × (ends_excess most ds lines ≡ None) × (judgement_excess most ds (length lines) goal ≡ None)
  parts_none w =
      let judged = judgement_excess most ds (length lines) goal in
      let behind = option_or (ends_excess most ds lines) (option_map OfGoal judged) in
      let first = neither_some (definitions_excess most ds) (option_or (lines_excess version most lines) behind)
      (problem_none w) in
      let second = neither_some (lines_excess version most lines) behind first.1 in
      let third = neither_some (ends_excess most ds lines) (option_map OfGoal judged) second.1 in
      (first.0, second.0, third.0, unmapped OfGoal judged third.1)

  pub definitions_over : (r : Option ProblemExcess) (e : ProblemExcess) → r ≡ definitions_excess most ds → r ≡ Some e
      → TellsOfAll (Some e)
  definitions_over r e found here = (λ none. absurd cc, λ w. sym here ∙ found ∙ (parts_none w).0)

  pub lines_over : (r : Option ProblemExcess) (e : ProblemExcess) (cs : List Command) → cs ≡ lines
      → r ≡ lines_excess version most cs → r ≡ Some e → TellsOfAll (Some e)
  lines_over r e cs same found here = (
    λ none. absurd cc,
    λ w. sym here ∙ found ∙ ap (lines_excess version most) same
        ∙ (parts_none w).1,
  )

  pub ends_over : (r : Option ProblemExcess) (e : ProblemExcess) (cs : List Command) → cs ≡ lines
      → r ≡ ends_excess most ds cs → r ≡ Some e → TellsOfAll (Some e)
  ends_over r e cs same found here = (
    λ none. absurd cc,
    λ w. sym here ∙ found ∙ ap (ends_excess most ds) same ∙ (parts_none w).2,
  )

  pub goal_over : (r : Option JudgementExcess) (e : JudgementExcess) → r ≡ judgement_excess most ds (length lines) goal
      → r ≡ Some e → TellsOfAll (Some (OfGoal e))
  goal_over r e found here = (
    λ none. absurd cc,
    λ w. (
        let none : Some e ≡ None = sym here ∙ found ∙ (parts_none w).3 in
        absurd cc),
  )
