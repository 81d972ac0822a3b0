-- Cases and questions that give nothing new.
use Rattle.std.proofs.Common.{◌≡◌, ℕ, ◌+◌, ◌<◌, ◌≤◌, List, [], length, Bool, ◌||◌, Some, None, sym, ap, ◌∙◌, subst, inl}
use Rattle.std.proofs.Common.{inr, arith}
use Rattle.std.specs.Prelude.{slice_get}
use Rattle.std.proofs.lemmas.Bool.{cases_lt}
use Rattle.heap_formula.specs.declared.atoms.Pure.{Pure}
use Rattle.heap_formula.specs.Symbolic.{SymbolicHeap}
use Rattle.heap_formula.specs.Definitions.{Definition}
use Rattle.heap_formula.specs.Fresh.{heap_exists}
use Rattle.heap_formula.specs.Words.{OneOf}
use Rattle.heap_formula.specs.Values.{Stack}
use Rattle.heap_formula.specs.Cells.{Cells}
use Rattle.heap_formula.specs.Meaning.{SpatialHolds, cases_of}
use Rattle.heap_formula.proofs.StageLaws.{OneOf-map}
use Rattle.cyc_basics.specs.Words.{IsMember}
use Rattle.model_check.specs.Questions.{Question}
use Rattle.model_check.specs.Grounding.{IsQuestion}
use Rattle.counter_model.specs.Findings.{Findings, IsFound, found_if_asked, FitsBehind, FitsCase, TakesCases, IsSettled}
use Rattle.counter_model.specs.Findings.{UnlessGrown}
use Rattle.counter_model.proofs.Turns.{both_steps, then}
use Rattle.std.proofs.lemmas.Option.{same_Some, slice_get_past}

-- a case is done where all values of its locals are
pub case_taken : (n : ℕ) (t0 t1 : Findings) (grown : Bool) (q count : ℕ) (vs : List ℕ) (b : SymbolicHeap)
    → count ≡ heap_exists b → UnlessGrown grown t0 t1 ((h : Cells) → FitsBehind n (found_if_asked n t0) vs h b [] count
    → IsFound n t0 q h) → UnlessGrown grown t0 t1 ((h : Cells) → FitsCase n (found_if_asked n t0) vs h b
    → IsFound n t0 q h)
case_taken n t0 t1 grown q count vs b ce =
    then t0 t1 grown (λ g h k. g h (record {
      behind = k.locals;
      long = k.long ∙ sym ce;
      small = k.small;
      holds = k.holds;
    }))

-- a question whose cases are done is settled
pub question_settled : (ds : List Definition) (n : ℕ) (t0 t1 : Findings) (grown : Bool) (q p : ℕ) (question : Question)
    (vs : List ℕ) (bs : List SymbolicHeap) → slice_get t0.questions q ≡ Some question → p ≡ question.predicate
    → vs ≡ question.values → bs ≡ cases_of ds p → UnlessGrown grown t0 t1 (TakesCases n t0 q vs bs)
    → UnlessGrown grown t0 t1 (IsSettled ds n t0 q)
question_settled ds n t0 t1 grown q p question vs bs i pe ve be =
    then t0 t1 grown (λ f p' vs' k.
    let e : question ≡ record { predicate = p'; values = vs' } = same_Some question
    (record { predicate = p'; values = vs' }) (sym i ∙ k) in
    let a : p ≡ p' = pe ∙ ap (λ (y : Question). y.predicate) e in
    let b : vs ≡ vs' = ve ∙ ap (λ (y : Question). y.values) e in
    subst (λ y. TakesCases n t0 q y (cases_of ds p')) b (subst (TakesCases n t0 q vs) (be ∙ ap (cases_of ds) a) f))

-- one more question is settled
pub settled_turn : (ds : List Definition) (n : ℕ) (t0 t1 t2 : Findings) (grown more both : Bool) (k : ℕ)
    → both ≡ (grown || more) → UnlessGrown grown t0 t1 ((q : ℕ) → q < k → IsSettled ds n t0 q)
    → UnlessGrown more t1 t2 (IsSettled ds n t1 k) → UnlessGrown both t0 t2 ((q : ℕ) → q < k + 1 → IsSettled ds n t0 q)
settled_turn ds n t0 t1 t2 grown more both k b =
    both_steps t0 t1 t2 grown more both b (λ t. (q : ℕ) → q < k → IsSettled ds n t q) (λ t. IsSettled ds n t k)
    (λ t. (q : ℕ) → q < k + 1 → IsSettled ds n t q) (λ t f g q l.
    elim (cases_lt q k) as (λ z. IsSettled ds n t q) [
      | inl lt ↦ f q lt
      | inr ge ↦ let same : k ≡ q = omega arith in subst (λ y. IsSettled ds n t y) same g
    ])

-- all questions are settled
pub settled_all : (ds : List Definition) (n : ℕ) (t0 t1 : Findings) (grown : Bool) (k : ℕ) → length t0.questions ≤ k
    → UnlessGrown grown t0 t1 ((q : ℕ) → q < k → IsSettled ds n t0 q)
    → UnlessGrown grown t0 t1 ((q : ℕ) → IsSettled ds n t0 q)
settled_all ds n t0 t1 grown k l =
    then t0 t1 grown (λ f q.
    elim (cases_lt q k) as (λ y. IsSettled ds n t0 q) [
      | inl lt ↦ f q lt
      | inr ge ↦ λ p vs i. absurd (no p vs q i (slice_get_past t0.questions q (let j : k ≤ q = ge in omega arith)))
    ])
  where
    no : (p : ℕ) (vs : List ℕ) (q : ℕ) → IsQuestion t0.questions q p vs → slice_get t0.questions q ≡ None → ⊥
    no p vs q i e = let x : Question = record { predicate = p; values = vs } in let y : None ≡ Some x = sym e ∙ i in cc
