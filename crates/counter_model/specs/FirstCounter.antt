-- The first counter-model of an entailment.
use Rattle.std.specs.Prelude.{◌≢◌, ℕ, List}
use Rattle.std.specs.declared.cmp.Ordering.TheVariants.{Greater}
use Rattle.heap_formula.specs.declared.judgements.Judgement.TheVariants.{Entail}
use Rattle.heap_formula.specs.Symbolic.{SymbolicHeap}
use Rattle.heap_formula.specs.Definitions.{Definition}
use Rattle.heap_formula.specs.Values.{Stack}
use Rattle.heap_formula.specs.Cells.{Cells}
use Rattle.heap_formula.specs.Meaning.{Satisfies, SatisfiesOne}
use Rattle.heap_formula.specs.Fresh.{judgement_bound}
use Rattle.counter_model.specs.Sizes.{IsWidth, IsOfSize, pair_cmp}

-- the stack has one entry for each number up to the entailment's greatest universal, and each cell as many fields as
-- one of its cells or of the definitions'
abbrev pub HasSize : List Definition → SymbolicHeap → List SymbolicHeap → ℕ → Stack → Cells → Type 0
HasSize ds a bs n s h = IsOfSize n (judgement_bound (Entail a bs)) (IsWidth ds a bs) s h

-- the antecedent is satisfied and no disjunct is
pub record IsCounter (ds : List Definition) (a : SymbolicHeap) (bs : List SymbolicHeap) (s : Stack) (h : Cells)
    : Type 0 where
  pub antecedent : Satisfies ds s h a
  pub disjuncts : ¬ SatisfiesOne ds s h bs

-- the first counter-model of size n
pub record IsFirstCounter (ds : List Definition) (a : SymbolicHeap) (bs : List SymbolicHeap) (n : ℕ) (s : Stack)
    (h : Cells) : Type 0 where
  pub size : HasSize ds a bs n s h
  pub counter : IsCounter ds a bs s h
  pub first : (t : Stack) (g : Cells) → HasSize ds a bs n t g → IsCounter ds a bs t g → pair_cmp n s h t g ≢ Greater
