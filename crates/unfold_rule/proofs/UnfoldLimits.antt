-- The limits of the premises of Unfold.
use Rattle.std.proofs.Common.{◌≡◌, ℕ, suc, ◌+◌, ◌<◌, ◌≤◌, true, ◌&&◌, List, [], ◌∷◌, ◌++◌, map, length, refl, ap, ◌∙◌}
use Rattle.std.proofs.Common.{arith, leb-true, length-append}
use Rattle.std.specs.Prelude.{nat_le, Result, Ok, Vec}
use Rattle.std.specs.declared.alloc.Global.{Global}
use Rattle.std.proofs.lemmas.List.{length-map}
use Rattle.cyc_basics.specs.declared.limits.Limits.{Limits}
use Rattle.heap_formula.specs.declared.terms.Term.{Term}
use Rattle.heap_formula.specs.declared.atoms.Pure.{Pure}
use Rattle.heap_formula.specs.declared.atoms.Spatial.{Spatial}
use Rattle.heap_formula.specs.declared.atoms.Spatial.TheVariants.{Cell, Pred}
use Rattle.heap_formula.specs.declared.judgements.Judgement.{Judgement}
use Rattle.heap_formula.specs.declared.judgements.Premise.{Premise}
use Rattle.heap_formula.specs.declared.judgements.Pair.{Pair}
use Rattle.heap_formula.specs.declared.proof_rules.RuleError.{RuleError}
use Rattle.heap_formula.specs.declared.proof_rules.RuleFault.TheVariants.{NoFreshVariable}
use Rattle.heap_formula.specs.Symbolic.{SymbolicHeap}
use Rattle.heap_formula.specs.Substitution.{in_pure, in_spatial, in_heap, case_term}
use Rattle.heap_formula.specs.Positions.{without, before, kept_pairs, child_pairs, pairs_from}
use Rattle.heap_formula.specs.Judgements.{antecedent, with_antecedent}
use Rattle.heap_formula.proofs.Places.{length-without}
use Rattle.rule_table.specs.RuleUnfold.{unfolded}
use Rattle.rule_table.specs.Answer.{needs, limited, is_short, has_numbers, each_heap, heaps_of, disjuncts, number_bound}
use Rattle.rule_table.specs.Answered.{IsAnswer}
use Rattle.rule_table.specs.Changes.{changed}
use Rattle.rule_table.specs.declared.changes.Change.TheVariants.{Left}
use Rattle.rule_table.proofs.LimitedPremises.{and_assoc, heaps_short, any_numbers, any_first, limited_changed}
use Rattle.unfold_rule.specs.Joining.{joined}
use Rattle.unfold_rule.specs.Unfolding.{unfolded_by, case_fits}
use Rattle.unfold_rule.proofs.JoinedNumbers.{joined_same, joined_numbers, left_same, left_over}
use Rattle.std.proofs.lemmas.Bool.{and_parts}
use Rattle.std.specs.List.{list_all}
use Rattle.cyc_basics.proofs.Tests.{le_same}

module _ (j : Judgement) (k : ℕ) (k_in : k < length (antecedent j).spatial) where
  case_short : (most : Limits) (f : Term → Term) (case : SymbolicHeap)
      → list_all (is_short most) (heaps_of (unfolded_by j k f case).judgement) ≡ case_fits most j case
  case_short most f case =
      let a = antecedent j in
      let pure : nat_le (length (a.pure ++ map (in_pure f) case.pure)) most.pure
      ≡ nat_le (length a.pure + length case.pure) most.pure =
      (let l = length-append a.pure (map (in_pure f) case.pure) in let m = length-map case.pure (in_pure f) in
      le_same _ _ _ _ (λ h. omega arith) (λ h. omega arith)) in
      let spatial : nat_le (length (without k a.spatial ++ map (in_spatial f) case.spatial)) most.spatial
      ≡ nat_le (length a.spatial + length case.spatial) (most.spatial + 1) =
      (let l = length-append (without k a.spatial) (map (in_spatial f) case.spatial) in
      let m = length-map case.spatial (in_spatial f) in let w = length-without a.spatial k k_in in
      le_same _ _ _ _ (λ h. omega arith) (λ h. omega arith)) in
      heaps_short most j (unfolded a k (in_heap f case))
      ∙ and_assoc (nat_le (length (a.pure ++ map (in_pure f) case.pure)) most.pure)
      (nat_le (length (without k a.spatial ++ map (in_spatial f) case.spatial)) most.spatial)
      (list_all (is_short most) (disjuncts j)) ∙ (λ i. pure i &&
      (spatial i && list_all (is_short most) (disjuncts j)))

  pub cases_short : (most : Limits) (f : Term → Term) (cases : List SymbolicHeap)
      → each_heap (is_short most) (map (unfolded_by j k f) cases) ≡ list_all (case_fits most j) cases
  cases_short most f [] = refl
  cases_short most f (c ∷ cs) = λ i. case_short most f c i && cases_short most f cs i

  module _ (f g : Term → Term) (same : (t : Term) → number_bound (g t) ≤ 65535 → f t ≡ g t)
      (over : (t : Term) → number_bound (f t) ≤ 65535 → number_bound (g t) ≤ 65535) where
    pub cases_numbers : (cases : List SymbolicHeap)
        → each_heap has_numbers (map (unfolded_by j k f) cases) ≡ each_heap has_numbers (map (unfolded_by j k g) cases)
    cases_numbers [] = refl
    cases_numbers (c ∷ cs) =
        λ i. any_numbers j (unfolded (antecedent j) k (in_heap f c)) (unfolded (antecedent j) k (in_heap g c))
        (joined_numbers (antecedent j).pure (without k (antecedent j).spatial) f g same over c)
        i && cases_numbers cs i

    pub cases_same : (cases : List SymbolicHeap) → each_heap has_numbers (map (unfolded_by j k g) cases) ≡ true
        → map (unfolded_by j k f) cases ≡ map (unfolded_by j k g) cases
    cases_same [] e = refl
    cases_same (c ∷ cs) e =
        let b = and_parts (list_all has_numbers (heaps_of (unfolded_by j k g c).judgement))
        (each_heap has_numbers (map (unfolded_by j k g) cs)) e in
        let n = any_first j (unfolded (antecedent j) k (in_heap g c)) b.0 in
        let body = joined_same (antecedent j).pure (without k (antecedent j).spatial) f g same over c (leb-true _ _ n)
        in
        λ i. record {
          judgement = with_antecedent j (unfolded (antecedent j) k (body i));
          pairs = kept_pairs k (antecedent j).spatial
              ++ child_pairs k (length (without k (antecedent j).spatial)) (body i).spatial;
        } ∷ cases_same cs b.1 i

pub unfold_made : (most : Limits) (j : Judgement) (k : ℕ) (args : List Term) (n : ℕ) (cases : List SymbolicHeap)
    (r : Result (Vec Premise Global) RuleError) (xs : List Premise) → k < length (antecedent j).spatial
    → list_all (case_fits most j) cases ≡ true → xs ≡ map (unfolded_by j k (changed (Left args n))) cases
    → IsAnswer r (needs (each_heap has_numbers xs) NoFreshVariable (Ok xs))
    → IsAnswer r (limited most (map (unfolded_by j k (case_term args n)) cases))
unfold_made most j k args n cases r xs k_in fit made is =
    limited_changed most r (map (unfolded_by j k (case_term args n)) cases)
    (map (unfolded_by j k (changed (Left args n))) cases) xs made
    (cases_short j k k_in most (case_term args n) cases ∙ fit)
    (cases_numbers j k k_in (changed (Left args n)) (case_term args n) (left_same args n) (left_over args n) cases)
    (cases_same j k k_in (changed (Left args n)) (case_term args n) (left_same args n) (left_over args n) cases) is

-- a map of terms keeps which atoms are predicates
pub children_of : (f : Term → Term) (k n : ℕ) (xs : List Spatial)
    → child_pairs k n xs ≡ child_pairs k n (map (in_spatial f) xs)
children_of f k n [] = refl
children_of f k n (Cell t ts ∷ xs) = children_of f k (suc n) xs
children_of f k n (Pred p ts ∷ xs) = λ i. record { old = k; new = n; progress = true } ∷ children_of f k (suc n) xs i

pub unfolded_is : (j : Judgement) (k : ℕ) (f : Term → Term) (case a heap : SymbolicHeap) (ps : List Pure)
    (kept body : List Spatial) (new : Judgement) (pairs : List Pair) → a ≡ antecedent j → ps ≡ a.pure
    → kept ≡ without k a.spatial → body ≡ case.spatial → heap ≡ joined ps kept (in_heap f case)
    → new ≡ with_antecedent j heap → pairs ≡ pairs_from (before k) 0 kept ++ child_pairs k (length kept) body
    → ◌≡◌ {A = Premise} (record { judgement = new; pairs = pairs }) (unfolded_by j k f case)
unfolded_is j k f case a heap ps kept body new pairs a_is ps_is kept_is body_is heap_is new_is pairs_is =
    let ps' = ps_is ∙ ap (λ (b : SymbolicHeap). b.pure) a_is in
    let kept' = kept_is ∙ ap (λ (b : SymbolicHeap). without k b.spatial) a_is in
    let heap' = heap_is ∙ ap (λ (xs : List Pure). joined xs kept (in_heap f case)) ps'
    ∙ ap (λ (xs : List Spatial). joined (antecedent j).pure xs (in_heap f case)) kept' in
    let new' = new_is ∙ ap (λ (b : SymbolicHeap). with_antecedent j b) heap' in
    let old' = ap (λ (xs : List Spatial). pairs_from (before k) 0 xs ++ child_pairs k (length xs) body) kept' in
    let body' = body_is_children body body_is in
    let pairs' = pairs_is ∙ old' ∙ ap (λ (qs : List Pair). kept_pairs k (antecedent j).spatial ++ qs) body' in
    λ i. record { judgement = new' i; pairs = pairs' i }
  where
    body_is_children : (xs : List Spatial) → xs ≡ case.spatial
        → child_pairs k (length (without k (antecedent j).spatial)) xs
        ≡ child_pairs k (length (without k (antecedent j).spatial)) (in_heap f case).spatial
    body_is_children xs e =
        ap (λ (ys : List Spatial). child_pairs k (length (without k (antecedent j).spatial)) ys) e
        ∙ children_of f k (length (without k (antecedent j).spatial)) case.spatial
