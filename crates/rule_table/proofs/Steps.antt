-- A rule is sound where what follows each of its tests is.
use Rattle.std.proofs.Common.{◌≡◌, ℕ, Bool, true, false, List, [], ◌∷◌, Option, Some, None, refl}
use Rattle.cyc_basics.specs.declared.limits.Limits.{Limits}
use Rattle.heap_formula.specs.declared.commands.Command.{Command}
use Rattle.heap_formula.specs.declared.judgements.Judgement.{Judgement}
use Rattle.heap_formula.specs.declared.judgements.Judgement.TheVariants.{Entail, Term as Runs}
use Rattle.heap_formula.specs.declared.judgements.Premise.{Premise}
use Rattle.heap_formula.specs.declared.proof_rules.RuleFault.{RuleFault}
use Rattle.heap_formula.specs.declared.proof_rules.RuleFault.TheVariants.{TooManyAtoms, NoFreshVariable}
use Rattle.heap_formula.specs.Symbolic.{SymbolicHeap}
use Rattle.heap_formula.specs.Definitions.{Definition}
use Rattle.heap_formula.specs.Judgements.{IsLocallySound}
use Rattle.rule_table.specs.Answer.{Answer, needs, finds, entails, one_heap, single, runs, limited, each_heap, is_short}
use Rattle.rule_table.specs.Answer.{has_numbers}
use Rattle.rule_table.specs.Soundness.{IsSound}

module _ (ds : List Definition) (lines : List Command) where
  pub needs_sound : (j : Judgement) (b : Bool) (f : RuleFault) (rest : Answer) → (b ≡ true → IsSound ds lines j rest)
      → IsSound ds lines j (needs b f rest)
  needs_sound j true f rest g = g refl
  needs_sound j false f rest g = tt

  pub finds_sound : {X : Type 0} (j : Judgement) (o : Option X) (f : RuleFault) (rest : X → Answer)
      → ((x : X) → o ≡ Some x → IsSound ds lines j (rest x)) → IsSound ds lines j (finds o f rest)
  finds_sound j None f rest g = tt
  finds_sound j (Some x) f rest g = g x refl

  pub limited_sound : (most : Limits) (j : Judgement) (ps : List Premise) → IsLocallySound ds lines j ps
      → IsSound ds lines j (limited most ps)
  limited_sound most j ps sound =
      needs_sound j (each_heap (is_short most) ps) TooManyAtoms _
      (λ _. needs_sound j (each_heap has_numbers ps) NoFreshVariable _ (λ _. sound))

  pub entails_sound : (j : Judgement) (rest : SymbolicHeap → List SymbolicHeap → Answer)
      → ((a : SymbolicHeap) (bs : List SymbolicHeap) → IsSound ds lines (Entail a bs) (rest a bs))
      → IsSound ds lines j (entails j rest)
  entails_sound (Entail a bs) rest g = g a bs
  entails_sound (Runs i a) rest g = tt

  one_heap_sound : (a : SymbolicHeap) (bs : List SymbolicHeap) (rest : SymbolicHeap → SymbolicHeap → Answer)
      → ((a b : SymbolicHeap) → IsSound ds lines (Entail a (b ∷ [])) (rest a b))
      → IsSound ds lines (Entail a bs) (one_heap bs (rest a))
  one_heap_sound a [] rest g = tt
  one_heap_sound a (b ∷ []) rest g = g a b
  one_heap_sound a (b ∷ c ∷ bs) rest g = tt

  pub single_sound : (j : Judgement) (rest : SymbolicHeap → SymbolicHeap → Answer)
      → ((a b : SymbolicHeap) → IsSound ds lines (Entail a (b ∷ [])) (rest a b)) → IsSound ds lines j (single j rest)
  single_sound (Entail a bs) rest g = one_heap_sound a bs rest g
  single_sound (Runs i a) rest g = tt

  pub runs_sound : (j : Judgement) (rest : ℕ → SymbolicHeap → Answer)
      → ((i : ℕ) (a : SymbolicHeap) → IsSound ds lines (Runs i a) (rest i a)) → IsSound ds lines j (runs j rest)
  runs_sound (Entail a bs) rest g = tt
  runs_sound (Runs i a) rest g = g i a
