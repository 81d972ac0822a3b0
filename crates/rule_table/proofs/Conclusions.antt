-- What a judgement concludes under stacks that agree.
use Rattle.std.proofs.Common.{ℕ, ◌≤◌, List, [], ◌∷◌, subst, arith, inl, inr, map}
use Rattle.heap_formula.specs.declared.commands.Command.{Command}
use Rattle.heap_formula.specs.declared.judgements.Judgement.{Judgement}
use Rattle.heap_formula.specs.declared.judgements.Judgement.TheVariants.{Entail, Term as Runs}
use Rattle.heap_formula.specs.Symbolic.{SymbolicHeap}
use Rattle.heap_formula.specs.Definitions.{Definition}
use Rattle.heap_formula.specs.Words.{OneOf, max_of}
use Rattle.heap_formula.specs.Values.{Stack}
use Rattle.heap_formula.specs.Cells.{Cells}
use Rattle.heap_formula.specs.Meaning.{Stages, SatisfiesAt, Satisfies, at_stage}
use Rattle.heap_formula.specs.Programs.{Halts, EndHolds, program_variables}
use Rattle.heap_formula.specs.Judgements.{HoldsAt, Concludes, antecedent, with_antecedent}
use Rattle.heap_formula.specs.Fresh.{heap_bound, judgement_bound}
use Rattle.rule_table.proofs.Substitutes.{along}
use Rattle.rule_table.proofs.Agreement.{Agrees, heap_below, holds_agrees}
use Rattle.rule_table.proofs.LinkRuns.{first_values-same}

-- under a stack that agrees below n, what held of formulas below n holds, and back
module _ (ds : List Definition) (n : ℕ) (s s' : Stack) (agrees : Agrees n s s') (h : Cells) where
  pub satisfies_back : (bs : List SymbolicHeap) → max_of (map heap_bound bs) ≤ n → OneOf (Satisfies ds s' h) bs
      → OneOf (Satisfies ds s h) bs
  satisfies_back [] le o = o
  satisfies_back (b ∷ bs) le (inl t) =
      inl (
        t.0,
        (
          t.1.0,
          along (holds_agrees n s s' t.1.0 agrees (λ i. at_stage ds (t.0 i)) b
              (heap_below n b (omega arith)) h) t.1.1,
        ),
      )
  satisfies_back (b ∷ bs) le (inr o) = inr (satisfies_back bs (omega arith) o)

-- n is above the judgement's universal numbers and, for a program, not below the number of its variables
abbrev pub IsFresh : List Command → ℕ → Judgement → Type 0
IsFresh lines n (Entail a bs) = judgement_bound (Entail a bs) ≤ n
IsFresh lines n (Runs i a) = (judgement_bound (Runs i a) ≤ n) × (program_variables lines ≤ n)

pub antecedent_below : (lines : List Command) (n : ℕ) (j : Judgement) → IsFresh lines n j
    → heap_bound (antecedent j) ≤ n
antecedent_below lines n (Entail a bs) f = omega arith
antecedent_below lines n (Runs i a) f = f.0

pub concludes_back : (ds : List Definition) (lines : List Command) (n : ℕ) (j : Judgement) (a : SymbolicHeap)
    (s s' : Stack) (h : Cells) → IsFresh lines n j → Agrees n s s' → Concludes ds lines (with_antecedent j a) s' h
    → Concludes ds lines j s h
concludes_back ds lines n (Entail b bs) a s s' h f agrees c = satisfies_back ds n s s' agrees h bs (omega arith) c
concludes_back ds lines n (Runs i b) a s s' part f agrees c = λ w pos rest h is.
    let r = c w pos rest h is in
    let p = program_variables lines in
    let same = first_values-same p s' s (λ k lt. let g = f.1 in agrees k (omega arith)) in
    (r.0, subst (λ st. Halts (EndHolds ds rest) lines w r.0 (record { line = i; stack = st; heap = h })) same r.1)

pub use_premise : (ds : List Definition) (lines : List Command) (stages : Stages) (j : Judgement) (a : SymbolicHeap)
    → HoldsAt ds lines stages (with_antecedent j a) → (s : Stack) (h : Cells) → SatisfiesAt ds stages s h a
    → Concludes ds lines (with_antecedent j a) s h
use_premise ds lines stages (Entail b bs) a p s h o = p s h o
use_premise ds lines stages (Runs i b) a p s h o = p s h o
