-- The limits of the premise of UnfoldRight.
use Rattle.std.proofs.Common.{◌≡◌, ℕ, ◌+◌, ◌<◌, ◌≤◌, Bool, true, false, ◌&&◌, List, [], ◌∷◌, ◌++◌, map, length, get_or}
use Rattle.std.proofs.Common.{refl, sym, ap, ◌∙◌, arith, leb-true, length-append}
use Rattle.std.specs.Prelude.{nat_le, Result, Ok, Vec}
use Rattle.std.specs.declared.alloc.Global.{Global}
use Rattle.std.proofs.lemmas.List.{length-map}
use Rattle.cyc_basics.specs.declared.limits.Limits.{Limits}
use Rattle.heap_formula.specs.declared.terms.Term.{Term}
use Rattle.heap_formula.specs.declared.judgements.Premise.{Premise}
use Rattle.heap_formula.specs.declared.proof_rules.RuleError.{RuleError}
use Rattle.heap_formula.specs.declared.proof_rules.RuleFault.TheVariants.{NoFreshVariable}
use Rattle.heap_formula.specs.Symbolic.{SymbolicHeap}
use Rattle.heap_formula.specs.Substitution.{in_pure, in_spatial, in_heap}
use Rattle.heap_formula.specs.Positions.{without}
use Rattle.heap_formula.proofs.Places.{length-without}
use Rattle.rule_table.specs.Table.{with_right, right_term}
use Rattle.rule_table.specs.RuleUnfold.{unfolded}
use Rattle.rule_table.specs.Answer.{needs, limited, is_short, has_numbers, each_heap, heaps_of, one, number_bound}
use Rattle.rule_table.specs.Answered.{IsAnswer}
use Rattle.rule_table.specs.Changes.{changed}
use Rattle.rule_table.specs.declared.changes.Change.TheVariants.{Right}
use Rattle.rule_table.proofs.LimitedPremises.{limited_changed}
use Rattle.unfold_rule.specs.Unfolding.{right_by, right_fits}
use Rattle.unfold_rule.proofs.JoinedNumbers.{joined_same, joined_numbers, right_same, right_over}
use Rattle.std.proofs.lemmas.Bool.{and_parts}
use Rattle.std.specs.List.{list_all}
use Rattle.cyc_basics.proofs.Tests.{le_same}

module _ (a b : SymbolicHeap) (k : ℕ) (case : SymbolicHeap) where
  pub right_short : (most : Limits) (f : Term → Term) → k < length b.spatial
      → each_heap (is_short most) (one (right_by a b k f case)) ≡ right_fits most a b case
  right_short most f k_in =
      let pure : nat_le (length (b.pure ++ map (in_pure f) case.pure)) most.pure
      ≡ nat_le (length b.pure + length case.pure) most.pure =
      (let l = length-append b.pure (map (in_pure f) case.pure) in let m = length-map case.pure (in_pure f) in
      le_same _ _ _ _ (λ h. omega arith) (λ h. omega arith)) in
      let spatial : nat_le (length (without k b.spatial ++ map (in_spatial f) case.spatial)) most.spatial
      ≡ nat_le (length b.spatial + length case.spatial) (most.spatial + 1) =
      (let l = length-append (without k b.spatial) (map (in_spatial f) case.spatial) in
      let m = length-map case.spatial (in_spatial f) in let w = length-without b.spatial k k_in in
      le_same _ _ _ _ (λ h. omega arith) (λ h. omega arith)) in
      ends (is_short most a) (is_short most (unfolded b k (in_heap f case)))
      ∙ (λ i. is_short most a && (pure i && spatial i))
    where
      ends : (p q : Bool) → (p && (q && true)) && true ≡ p && q
      ends true true = refl
      ends true false = refl
      ends false q = refl

  module _ (f g : Term → Term) (same : (t : Term) → number_bound (g t) ≤ 65535 → f t ≡ g t)
      (over : (t : Term) → number_bound (f t) ≤ 65535 → number_bound (g t) ≤ 65535) where
    pub right_numbers : each_heap has_numbers (one (right_by a b k f case))
        ≡ each_heap has_numbers (one (right_by a b k g case))
    right_numbers =
        let e = joined_numbers b.pure (without k b.spatial) f g same over case in
        λ i. (has_numbers a && (e i && true)) && true

    pub right_same_premise : each_heap has_numbers (one (right_by a b k g case)) ≡ true
        → one (right_by a b k f case) ≡ one (right_by a b k g case)
    right_same_premise e =
        let c = and_parts (list_all has_numbers (heaps_of (right_by a b k g case).judgement)) true e in
        let d = and_parts (has_numbers a) (has_numbers (unfolded b k (in_heap g case)) && true) c.0 in
        let n = and_parts (has_numbers (unfolded b k (in_heap g case))) true d.1 in
        let body = joined_same b.pure (without k b.spatial) f g same over case (leb-true _ _ n.0) in
        λ i. one (with_right a (unfolded b k (body i) ∷ []))

pub right_made : (most : Limits) (a b : SymbolicHeap) (k : ℕ) (args : List Term) (n : ℕ) (case : SymbolicHeap)
    (r : Result (Vec Premise Global) RuleError) (xs : List Premise) → k < length b.spatial
    → right_fits most a b case ≡ true → xs ≡ one (right_by a b k (changed (Right args n)) case)
    → IsAnswer r (needs (each_heap has_numbers xs) NoFreshVariable (Ok xs))
    → IsAnswer r (limited most (one (right_by a b k (right_term args n) case)))
right_made most a b k args n case r xs k_in fit made is =
    limited_changed most r (one (right_by a b k (right_term args n) case))
    (one (right_by a b k (changed (Right args n)) case)) xs made
    (right_short a b k case most (right_term args n) k_in ∙ fit)
    (right_numbers a b k case (changed (Right args n)) (right_term args n) (right_same args n) (right_over args n))
    (right_same_premise a b k case (changed (Right args n)) (right_term args n) (right_same args n)
    (right_over args n)) is

pub only_one : {X : Type 0} (xs : List X) (x : X) → 1 ≤ length xs → length xs < 2 → x ≡ get_or xs 0 x → xs ≡ x ∷ []
only_one [] x l m e = absurd (omega arith)
only_one (y ∷ []) x l m e = ap (λ z. z ∷ []) (sym e)
only_one (y ∷ z ∷ ys) x l m e = absurd (omega arith)
