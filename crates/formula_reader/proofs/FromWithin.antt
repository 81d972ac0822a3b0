-- What the definitions and the goal keep where they are within the limits.
use Rattle.std.proofs.Common.{◌≡◌, ℕ, true, not, List, [], ◌∷◌, length, Option, None, refl, sym, ap, subst, arith}
use Rattle.std.specs.Prelude.{nat_eq, nat_lt, nat_le}
use Rattle.std.specs.List.{list_all}
use Rattle.std.proofs.lemmas.Bool.{and_parts, or_from, le-ltb, ne_eqb}
use Rattle.cyc_basics.specs.declared.limits.Limits.{Limits}
use Rattle.heap_formula.specs.declared.judgements.Judgement.{Judgement}
use Rattle.heap_formula.specs.declared.judgements.Judgement.TheVariants.{Entail, Term as Halting}
use Rattle.heap_formula.specs.Definitions.{Definition}
use Rattle.heap_formula.specs.Words.{Each}
use Rattle.pred_defs.specs.declared.faults.DefFault.{DefFault}
use Rattle.pred_defs.specs.Faults.{case_fault, definition_fault, closed_fault, first_fault, or_later}
use Rattle.rule_table.specs.Answer.{heaps_of}
use Rattle.heap_reader.specs.Small.{is_short_heap}
use Rattle.heap_formula.proofs.AllMembers.{each_imply}
use Rattle.rule_book.specs.Limits.{IsHeapWithin, IsJudgementWithin, IsCaseWithin, IsDefinitionWithin}
use Rattle.formula_reader.proofs.Firsts.{all_pass}
use Rattle.formula_reader.specs.Problems.{goal_heaps, goal_fault, has_line}

no_fault : {X : Type 0} (f : X → Option DefFault) (xs : List X) → Each (λ x. f x ≡ None) xs → first_fault f xs ≡ None
no_fault f [] e = refl
no_fault f (x ∷ xs) e = subst (λ (o : Option DefFault). or_later o (first_fault f xs) ≡ None) (sym e.0)
    (no_fault f xs e.1)

module _ (most : Limits) (ds : List Definition) where
  definition_closed : (d : Definition) → IsDefinitionWithin most ds d → definition_fault ds d ≡ None
  definition_closed d w =
      no_fault (case_fault ds) d.cases (each_imply (IsCaseWithin most ds d.arity) (λ c. case_fault ds c ≡ None)
      (λ c x. x.heap.known) d.cases w.cases)

  pub within_closed : Each (IsDefinitionWithin most ds) ds → closed_fault ds ≡ None
  within_closed w =
      no_fault (definition_fault ds) ds (each_imply (IsDefinitionWithin most ds) (λ d. definition_fault ds d ≡ None)
      definition_closed ds w)

  heaps_same : (j : Judgement) → goal_heaps j ≡ heaps_of j
  heaps_same (Entail a bs) = refl
  heaps_same (Halting i a) = refl

  goal_each : (count : ℕ) (j : Judgement) → IsJudgementWithin most ds count j
      → Each (IsHeapWithin most ds) (goal_heaps j)
  goal_each count j w = subst (Each (IsHeapWithin most ds)) (sym (heaps_same j)) w.heaps

  pub within_known : (count : ℕ) (j : Judgement) → IsJudgementWithin most ds count j → goal_fault ds j ≡ None
  within_known count j w =
      no_fault (case_fault ds) (goal_heaps j) (each_imply (IsHeapWithin most ds) (λ a. case_fault ds a ≡ None)
      (λ a x. x.known) (goal_heaps j) (goal_each count j w))

  pub within_short : (count : ℕ) (j : Judgement) → IsJudgementWithin most ds count j
      → list_all (is_short_heap most) (goal_heaps j) ≡ true
  within_short count j w =
      all_pass (is_short_heap most) (goal_heaps j)
      (each_imply (IsHeapWithin most ds) (λ a. is_short_heap most a ≡ true)
      (λ a x. x.short) (goal_heaps j)
      (goal_each count j w))

  pub within_line : (count : ℕ) (j : Judgement) → IsJudgementWithin most ds count j → has_line count j ≡ true
  within_line count (Entail a bs) w = refl
  within_line count (Halting i a) w =
      let some = w.form.0 in
      ap not (or_from (nat_eq i 0) (nat_lt count i) (ne_eqb i 0 (λ e. omega (arith, e))) (le-ltb count i w.form.1))
