-- What the rules of the ring answer, node by node.
use Rattle.std.proofs.Common.{◌≡◌, ℕ, ◌+◌, ◌≤◌, List, [], ◌∷◌, map, arith, Bool, true, false, refl, ap, ◌∙◌}
use Rattle.std.specs.Prelude.{Ok, max}
use Rattle.std.proofs.Math.Nat.{max-zero, zero-max}
use Rattle.std.proofs.Math.Dec.{leb-zero}
use Rattle.std.proofs.lemmas.Bool.{le-leb, eq-eqb}
use Rattle.heap_formula.specs.declared.terms.Term.TheVariants.{Nil, Univ, Exist}
use Rattle.heap_formula.specs.declared.atoms.Spatial.TheVariants.{Cell}
use Rattle.heap_formula.specs.declared.judgements.Judgement.{Judgement}
use Rattle.heap_formula.specs.declared.judgements.Judgement.TheVariants.{Entail}
use Rattle.heap_formula.specs.declared.judgements.Pair.{Pair}
use Rattle.heap_formula.specs.declared.judgements.Premise.{Premise}
use Rattle.heap_formula.specs.declared.proof_rules.Rule.TheVariants.{Rewrite, Unfold, Done, PureRight, Instantiate}
use Rattle.heap_formula.specs.declared.proof_rules.Rule.TheVariants.{Frame, UnfoldRight}
use Rattle.heap_formula.specs.declared.proof_rules.RuleFault.TheVariants.{TooManyAtoms, NoFreshVariable, AtomsDiffer}
use Rattle.heap_formula.specs.declared.proof_rules.Side.TheVariants.{Left}
use Rattle.heap_formula.specs.Definitions.{Definition}
use Rattle.heap_formula.specs.Symbolic.{SymbolicHeap}
use Rattle.heap_formula.specs.Meaning.{cases_of}
use Rattle.heap_formula.specs.Fresh.{fresh_number}
use Rattle.heap_syntax.specs.Versions.{limits}
use Rattle.heap_syntax.specs.declared.version.Version.TheVariants.{One}
use Rattle.cyc_basics.specs.declared.limits.Limits.{Limits}
use Rattle.rule_table.specs.Answer.{needs, limited, is_short, has_numbers, each_heap}
use Rattle.rule_table.specs.RuleUnfold.{unfold_premise}
use Rattle.rule_table.specs.RuleBook.{rule_answer}
use Rattle.rule_table.proofs.Reflects.{same_spatial_self}
use Rattle.ring_family.specs.Ring.{emp, is_nil, holds, cell_then, after}

abbrev pub entails : SymbolicHeap → SymbolicHeap → Judgement
entails a b = Entail a (b ∷ [])

abbrev pub premise : SymbolicHeap → SymbolicHeap → List Pair → Premise
premise a b pairs = record { judgement = entails a b; pairs = pairs }

abbrev pub pair : ℕ → ℕ → Bool → Pair
pair old new progress = record { old = old; new = new; progress = progress }

passes : (most : Limits) (ps : List Premise) → each_heap (is_short most) ps ≡ true → each_heap has_numbers ps ≡ true
    → limited most ps ≡ Ok ps
passes most ps a b =
    ap (λ t. needs t TooManyAtoms (needs (each_heap has_numbers ps) NoFreshVariable (Ok ps))) a
    ∙ ap (λ t. needs t NoFreshVariable (Ok ps)) b

-- ---- numbers below the limit

small_holds : (p n : ℕ) → n ≤ 2001 → has_numbers (holds p (Univ n)) ≡ true
small_holds p n h = simp (max-zero, zero-max) (le-leb (n + 1) 65535 (omega arith))

small_nil : (n : ℕ) → n ≤ 2001 → has_numbers (is_nil (Univ n)) ≡ true
small_nil n h = simp (max-zero) (le-leb (n + 1) 65535 (omega arith))

small_cell : (i p : ℕ) → i ≤ 2000 → has_numbers (cell_then (Univ i) (Univ (i + 1)) p) ≡ true
small_cell i p h = simp (max-zero, zero-max) (le-leb (max (max (i + 1) (i + 1 + 1)) (i + 1 + 1)) 65535 (omega arith))

small_open : (i p : ℕ) → i ≤ 2000 → has_numbers (cell_then (Univ i) (Exist 0) p) ≡ true
small_open i p h = simp (max-zero, zero-max) (le-leb (max (max (i + 1) 1) 1) 65535 (omega arith))

-- ---- the rules

fresh_after : (p q i : ℕ) → fresh_number 0 (entails (holds p (Univ i)) (holds q (Univ i))) + 0 ≡ i + 1
fresh_after p q i = simp (max-zero, zero-max) (omega arith)

module _ (k i : ℕ) (ds : List Definition) (small : i ≤ 2000) where
  pub unfolds : cases_of ds i ≡ is_nil (Univ 0) ∷ cell_then (Univ 0) (Exist 0) (after k i) ∷ [] →
      rule_answer (limits One) ds [] (entails (holds i (Univ i)) (holds k (Univ i))) (Unfold 0) ≡
      Ok (premise (is_nil (Univ i)) (holds k (Univ i)) []
      ∷ premise (cell_then (Univ i) (Univ (i + 1)) (after k i)) (holds k (Univ i)) (pair 0 1 true ∷ []) ∷ [])
  unfolds cases =
      let j = entails (holds i (Univ i)) (holds k (Univ i)) in
      let before = (λ (n : ℕ). premise (is_nil (Univ i)) (holds k (Univ i)) []
      ∷ premise (cell_then (Univ i) (Univ n) (after k i)) (holds k (Univ i)) (pair 0 1 true ∷ []) ∷ []) in
      ap (λ cs. limited (limits One) (map (unfold_premise j 0 (Univ i ∷ []) (fresh_number 0 j)) cs)) cases ∙
      (ap (λ n. limited (limits One) (before n)) (fresh_after i k i) ∙
      passes (limits One) (before (i + 1)) refl (rw (
        small_nil i (omega arith),
        small_holds k i (omega arith),
        small_cell i (after k i) small,
      )))

  pub rewrites : rule_answer (limits One) ds [] (entails (is_nil (Univ i)) (holds k (Univ i))) (Rewrite 0 Left)
      ≡ Ok (premise emp (holds k Nil) [] ∷ [])
  rewrites = simp (leb-zero, eq-eqb i i refl)

  pub unfolds_nil : cases_of ds k ≡ is_nil (Univ 0) ∷ cell_then (Univ 0) (Exist 0) k ∷ [] →
      rule_answer (limits One) ds [] (entails emp (holds k Nil)) (UnfoldRight 0 0) ≡ Ok (premise emp
      (is_nil Nil) [] ∷ [])
  unfolds_nil cases = rw cases

  pub drops_pure : rule_answer (limits One) ds [] (entails emp (is_nil Nil)) (PureRight 0) ≡ Ok
      (premise emp emp [] ∷ [])
  drops_pure = refl

  pub done' : rule_answer (limits One) ds [] (entails emp emp) Done ≡ Ok []
  done' = refl

  pub unfolds_cell : cases_of ds k ≡ is_nil (Univ 0) ∷ cell_then (Univ 0) (Exist 0) k ∷ [] →
      rule_answer (limits One) ds [] (entails (cell_then (Univ i) (Univ (i + 1)) (after k i)) (holds k (Univ i)))
      (UnfoldRight 0 1) ≡
      Ok (premise (cell_then (Univ i) (Univ (i + 1)) (after k i)) (cell_then (Univ i) (Exist 0) k) (pair 1 1 false ∷ [])
      ∷ [])
  unfolds_cell cases = rw cases (rw (small_cell i (after k i) small, small_open i k small))

  pub instantiates : rule_answer (limits One) ds [] (entails (cell_then (Univ i) (Univ (i + 1)) (after k i))
      (cell_then (Univ i) (Exist 0) k)) (Instantiate 0 (Univ (i + 1))) ≡
      Ok (premise (cell_then (Univ i) (Univ (i + 1)) (after k i)) (cell_then (Univ i) (Univ (i + 1)) k)
      (pair 1 1 false ∷ []) ∷ [])
  instantiates = refl

  pub frames : rule_answer (limits One) ds [] (entails (cell_then (Univ i) (Univ (i + 1)) (after k i))
      (cell_then (Univ i) (Univ (i + 1)) k)) (Frame 0 0) ≡
      Ok (premise (holds (after k i) (Univ (i + 1))) (holds k (Univ (i + 1))) (pair 1 0 false ∷ []) ∷ [])
  frames =
      ap (λ t. needs t AtomsDiffer (Ok (premise (holds (after k i) (Univ (i + 1))) (holds k (Univ (i + 1)))
      (pair 1 0 false ∷ []) ∷ []))) (same_spatial_self (Cell (Univ i) (Univ (i + 1) ∷ [])))
