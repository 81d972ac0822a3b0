-- What holds of each fault, and of an answer where what follows each test gives it.
use Rattle.std.proofs.Common.{◌≡◌, ℕ, Bool, true, false, List, [], ◌∷◌, Option, Some, None, refl, ap, ◌∙◌}
use Rattle.std.specs.Prelude.{Ok, Err}
use Rattle.cyc_basics.specs.declared.limits.Limits.{Limits}
use Rattle.heap_formula.specs.declared.judgements.Judgement.{Judgement}
use Rattle.heap_formula.specs.declared.judgements.Judgement.TheVariants.{Entail, Term as Runs}
use Rattle.heap_formula.specs.declared.judgements.Premise.{Premise}
use Rattle.heap_formula.specs.declared.proof_rules.RuleFault.{RuleFault}
use Rattle.heap_formula.specs.declared.proof_rules.RuleFault.TheVariants.{NotSingle, WrongJudgement, TooManyAtoms}
use Rattle.heap_formula.specs.declared.proof_rules.RuleFault.TheVariants.{NoFreshVariable}
use Rattle.heap_formula.specs.Symbolic.{SymbolicHeap}
use Rattle.rule_table.specs.Answer.{Answer, needs, finds, entails, one_heap, single, runs, limited, each_heap, is_short}
use Rattle.rule_table.specs.Answer.{has_numbers}

module _ (S : Answer → Type 0) (bad : (f : RuleFault) → S (Err f)) where
  pub needs_gives : (b : Bool) (f : RuleFault) (rest : Answer) → (b ≡ true → S rest) → S (needs b f rest)
  needs_gives true f rest g = g refl
  needs_gives false f rest g = bad f

  pub finds_gives : {X : Type 0} (o : Option X) (f : RuleFault) (rest : X → Answer)
      → ((x : X) → o ≡ Some x → S (rest x)) → S (finds o f rest)
  finds_gives None f rest g = bad f
  finds_gives (Some x) f rest g = g x refl

  pub limited_gives : (most : Limits) (ps : List Premise)
      → (each_heap (is_short most) ps ≡ true → each_heap has_numbers ps ≡ true → S (Ok ps)) → S (limited most ps)
  limited_gives most ps g =
      needs_gives (each_heap (is_short most) ps) TooManyAtoms _
      (λ s. needs_gives (each_heap has_numbers ps) NoFreshVariable _ (λ n. g s n))

  pub entails_gives : (j : Judgement) (rest : SymbolicHeap → List SymbolicHeap → Answer)
      → ((a : SymbolicHeap) (bs : List SymbolicHeap) → j ≡ Entail a bs → S (rest a bs)) → S (entails j rest)
  entails_gives (Entail a bs) rest g = g a bs refl
  entails_gives (Runs i a) rest g = bad WrongJudgement

  one_heap_gives : (bs : List SymbolicHeap) (rest : SymbolicHeap → Answer)
      → ((b : SymbolicHeap) → bs ≡ b ∷ [] → S (rest b)) → S (one_heap bs rest)
  one_heap_gives [] rest g = bad NotSingle
  one_heap_gives (b ∷ []) rest g = g b refl
  one_heap_gives (b ∷ c ∷ bs) rest g = bad NotSingle

  pub single_gives : (j : Judgement) (rest : SymbolicHeap → SymbolicHeap → Answer)
      → ((a b : SymbolicHeap) → j ≡ Entail a (b ∷ []) → S (rest a b)) → S (single j rest)
  single_gives j rest g =
      entails_gives j _ (λ a bs e. one_heap_gives bs (rest a) (λ b f. g a b (e ∙ ap (Entail a) f)))

  pub runs_gives : (j : Judgement) (rest : ℕ → SymbolicHeap → Answer)
      → ((i : ℕ) (a : SymbolicHeap) → j ≡ Runs i a → S (rest i a)) → S (runs j rest)
  runs_gives (Entail a bs) rest g = bad WrongJudgement
  runs_gives (Runs i a) rest g = g i a refl
