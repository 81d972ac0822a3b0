-- The limits of the premises of Cut.
use Rattle.std.proofs.Common.{◌≡◌, ℕ, suc, ◌+◌, ◌≤◌, Bool, true, false, ◌&&◌, not, List, [], ◌∷◌, ◌++◌, map, length}
use Rattle.std.proofs.Common.{refl, ◌∙◌, arith, leb-true, le-leb, length-append}
use Rattle.std.specs.Prelude.{nat_le, Result, Ok, Vec}
use Rattle.std.specs.declared.alloc.Global.{Global}
use Rattle.std.proofs.lemmas.List.{length-map}
use Rattle.cyc_basics.specs.declared.limits.Limits.{Limits}
use Rattle.heap_formula.specs.declared.terms.Term.{Term}
use Rattle.heap_formula.specs.declared.judgements.Judgement.{Judgement}
use Rattle.heap_formula.specs.declared.judgements.Premise.{Premise}
use Rattle.heap_formula.specs.declared.proof_rules.RuleError.{RuleError}
use Rattle.heap_formula.specs.declared.proof_rules.RuleFault.TheVariants.{NoFreshVariable}
use Rattle.heap_formula.specs.Symbolic.{SymbolicHeap}
use Rattle.heap_formula.specs.Substitution.{in_pure, in_spatial, in_heap, opened_term}
use Rattle.heap_formula.specs.Positions.{chosen, chosen_step, chosen_place, others_of, pairs_from}
use Rattle.heap_formula.specs.Judgements.{antecedent, with_antecedent}
use Rattle.rule_table.specs.RuleCut.{cut_left, cut_right}
use Rattle.rule_table.specs.Answer.{needs, limited, is_short, has_numbers, each_heap, heaps_of, disjuncts, two}
use Rattle.rule_table.specs.Answer.{number_bound}
use Rattle.rule_table.specs.Answered.{IsAnswer}
use Rattle.rule_table.specs.Changes.{changed}
use Rattle.rule_table.specs.declared.changes.Change.TheVariants.{Opened}
use Rattle.rule_table.proofs.LimitedPremises.{and_assoc, heaps_short, any_numbers, any_first, limited_changed}
use Rattle.unfold_rule.specs.Joining.{joined}
use Rattle.unfold_rule.specs.Cutting.{cut_right_by, cut_fits}
use Rattle.unfold_rule.proofs.JoinedNumbers.{joined_same, joined_numbers, opened_same, opened_over}
use Rattle.std.proofs.lemmas.Bool.{and_from as and_both, and_parts}
use Rattle.std.specs.List.{list_all}
use Rattle.cyc_basics.proofs.Tests.{bool_same, le_same}

-- what is chosen and what is not are the whole list
chosen_count : {X : Type 0} (p : ℕ → Bool) (xs : List X)
    → length (chosen p xs) + length (chosen (others_of p) xs) ≡ length xs
chosen_count p [] = omega arith
chosen_count p (x ∷ xs) = step (p 0) x (chosen (λ k. p (suc k)) xs) (chosen (λ k. others_of p (suc k)) xs) xs
    (chosen_count (λ k. p (suc k)) xs)
  where
    step : {X : Type 0} (b : Bool) (x : X) (ys zs xs : List X) → length ys + length zs ≡ length xs
        → length (chosen_step b x ys) + length (chosen_step (not b) x zs) ≡ length (x ∷ xs)
    step true x ys zs xs h = omega arith
    step false x ys zs xs h = omega arith

module _ (most : Limits) (j : Judgement) (p : ℕ → Bool) (formula : SymbolicHeap) where
  right_short : (f : Term → Term) → list_all (is_short most) (heaps_of (cut_right_by j p f formula).judgement)
      ≡ nat_le (length (antecedent j).pure + length formula.pure) most.pure &&
      (nat_le (length (chosen (others_of p) (antecedent j).spatial) + length formula.spatial) most.spatial && list_all
      (is_short most) (disjuncts j))
  right_short f =
      let a = antecedent j in
      let kept = chosen (others_of p) a.spatial in
      let pure : nat_le (length (a.pure ++ map (in_pure f) formula.pure)) most.pure
      ≡ nat_le (length a.pure + length formula.pure) most.pure =
      (let l = length-append a.pure (map (in_pure f) formula.pure) in let m = length-map formula.pure (in_pure f) in
      le_same _ _ _ _ (λ h. omega arith) (λ h. omega arith)) in
      let spatial : nat_le (length (kept ++ map (in_spatial f) formula.spatial)) most.spatial
      ≡ nat_le (length kept + length formula.spatial) most.spatial =
      (let l = length-append kept (map (in_spatial f) formula.spatial) in
      let m = length-map formula.spatial (in_spatial f) in le_same _ _ _ _ (λ h. omega arith) (λ h. omega arith)) in
      heaps_short most j (joined a.pure kept (in_heap f formula))
      ∙ and_assoc (nat_le (length (a.pure ++ map (in_pure f) formula.pure)) most.pure)
      (nat_le (length (kept ++ map (in_spatial f) formula.spatial)) most.spatial) (list_all (is_short most) (disjuncts j))
      ∙ (λ i. pure i && (spatial i && list_all (is_short most) (disjuncts j)))

  left_short : length (antecedent j).pure + length formula.pure ≤ most.pure
      → length (chosen (others_of p) (antecedent j).spatial) + length formula.spatial ≤ most.spatial
      → length (antecedent j).spatial ≤ length (chosen (others_of p) (antecedent j).spatial) + most.spatial
      → list_all (is_short most) (heaps_of (cut_left (antecedent j) p formula).judgement) ≡ true
  left_short pure spatial inside =
      let n = chosen_count p (antecedent j).spatial in
      let a : length (antecedent j).pure ≤ most.pure = omega arith in
      let b : length (chosen p (antecedent j).spatial) ≤ most.spatial = omega arith in
      let c : length formula.pure ≤ most.pure = omega arith in
      let d : length formula.spatial ≤ most.spatial = omega arith in
      and_both (is_short most (record { pure = (antecedent j).pure; spatial = chosen p (antecedent j).spatial }))
      (is_short most formula && true) (and_both (nat_le (length (antecedent j).pure) most.pure)
      (nat_le (length (chosen p (antecedent j).spatial)) most.spatial) (le-leb _ _ a) (le-leb _ _ b))
      (and_both (is_short most formula) true (and_both (nat_le (length formula.pure) most.pure)
      (nat_le (length formula.spatial) most.spatial) (le-leb _ _ c) (le-leb _ _ d)) refl)

  left_inside : list_all (is_short most) (heaps_of (cut_left (antecedent j) p formula).judgement) ≡ true
      → length (antecedent j).spatial ≤ length (chosen (others_of p) (antecedent j).spatial) + most.spatial
  left_inside e =
      let n = chosen_count p (antecedent j).spatial in
      let x = and_parts (is_short most (record {
        pure = (antecedent j).pure;
        spatial = chosen p (antecedent j).spatial;
      })) (is_short most formula && true) e in
      let y = and_parts (nat_le (length (antecedent j).pure) most.pure)
      (nat_le (length (chosen p (antecedent j).spatial)) most.spatial) x.0 in
      let z = leb-true (length (chosen p (antecedent j).spatial)) most.spatial y.1 in omega arith

  pub cut_short : (f : Term → Term) → each_heap (is_short most)
      (two (cut_left (antecedent j) p formula) (cut_right_by j p f formula))
      ≡ cut_fits most j (length (chosen (others_of p) (antecedent j).spatial)) formula
  cut_short f =
      let kept = length (chosen (others_of p) (antecedent j).spatial) in
      let left = list_all (is_short most) (heaps_of (cut_left (antecedent j) p formula).judgement) in
      let room = nat_le (length (antecedent j).spatial) (kept + most.spatial) in
      let pure = nat_le (length (antecedent j).pure + length formula.pure) most.pure in
      let rest = nat_le (kept + length formula.spatial) most.spatial && list_all (is_short most) (disjuncts j) in
      (λ i. left && (right_short f i && true)) ∙ bool_same (left && ((pure && rest) && true)) (room && (pure && rest))
      (λ e.
      let x = and_parts left ((pure && rest) && true) e in
      let y = and_parts (pure && rest) true x.1 in
      and_both room (pure && rest) (le-leb _ _ (left_inside x.0)) y.0) (λ e.
      let x = and_parts room (pure && rest) e in
      let y = and_parts pure rest x.1 in
      let z = and_parts (nat_le (kept + length formula.spatial) most.spatial) (list_all (is_short most) (disjuncts j)) y.1 in
      and_both left ((pure && rest) && true) (left_short (leb-true _ _ y.0) (leb-true _ _ z.0) (leb-true _ _ x.0))
      (and_both (pure && rest) true x.1 refl))

  module _ (f g : Term → Term) (same : (t : Term) → number_bound (g t) ≤ 65535 → f t ≡ g t)
      (over : (t : Term) → number_bound (f t) ≤ 65535 → number_bound (g t) ≤ 65535) where
    pub cut_numbers : each_heap has_numbers (two (cut_left (antecedent j) p formula) (cut_right_by j p f formula))
        ≡ each_heap has_numbers (two (cut_left (antecedent j) p formula) (cut_right_by j p g formula))
    cut_numbers =
        let kept = chosen (others_of p) (antecedent j).spatial in
        λ i. list_all has_numbers (heaps_of (cut_left (antecedent j) p formula).judgement) &&
        (any_numbers j (joined (antecedent j).pure kept (in_heap f formula))
        (joined (antecedent j).pure kept (in_heap g formula))
        (joined_numbers (antecedent j).pure kept f g same over formula) i && true)

    pub cut_same : each_heap has_numbers (two (cut_left (antecedent j) p formula) (cut_right_by j p g formula)) ≡ true
        → two (cut_left (antecedent j) p formula) (cut_right_by j p f formula)
        ≡ two (cut_left (antecedent j) p formula) (cut_right_by j p g formula)
    cut_same e =
        let kept = chosen (others_of p) (antecedent j).spatial in
        let b = and_parts (list_all has_numbers (heaps_of (cut_left (antecedent j) p formula).judgement))
        (list_all has_numbers (heaps_of (cut_right_by j p g formula).judgement) && true) e in
        let d = and_parts (list_all has_numbers (heaps_of (cut_right_by j p g formula).judgement)) true b.1 in
        let n = any_first j (joined (antecedent j).pure kept (in_heap g formula)) d.0 in
        let body = joined_same (antecedent j).pure kept f g same over formula (leb-true _ _ n) in
        λ i. two (cut_left (antecedent j) p formula) (record {
          judgement = with_antecedent j (joined (antecedent j).pure kept (body i));
          pairs = pairs_from (chosen_place (others_of p) (antecedent j).spatial) 0 kept;
        })

pub cut_made : (most : Limits) (j : Judgement) (p : ℕ → Bool) (formula : SymbolicHeap) (n : ℕ)
    (r : Result (Vec Premise Global) RuleError) (xs : List Premise)
    → cut_fits most j (length (chosen (others_of p) (antecedent j).spatial)) formula ≡ true
    → xs ≡ two (cut_left (antecedent j) p formula) (cut_right_by j p (changed (Opened n)) formula)
    → IsAnswer r (needs (each_heap has_numbers xs) NoFreshVariable (Ok xs))
    → IsAnswer r (limited most (two (cut_left (antecedent j) p formula) (cut_right j p formula n)))
cut_made most j p formula n r xs fit made is =
    limited_changed most r (two (cut_left (antecedent j) p formula) (cut_right_by j p (opened_term n) formula))
    (two (cut_left (antecedent j) p formula) (cut_right_by j p (changed (Opened n)) formula)) xs made
    (cut_short most j p formula (opened_term n) ∙ fit) (cut_numbers most j p formula (changed (Opened n))
    (opened_term n) (opened_same n) (opened_over n)) (cut_same most j p formula (changed (Opened n)) (opened_term n)
    (opened_same n) (opened_over n)) is
