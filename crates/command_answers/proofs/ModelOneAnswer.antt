-- The question whether a stack and a heap satisfy a formula has one answer.
use Rattle.std.proofs.Common.{◌≡◌, ◌≤◌, ◌∙◌, ℕ, List, [], ◌∷◌, length, None, Some, sym, ap, subst, inl, inr, Result, Ok}
use Rattle.std.proofs.Common.{Err}
use Rattle.heap_formula.specs.Cells.{Cells}
use Rattle.heap_formula.specs.Definitions.{Definition}
use Rattle.heap_formula.specs.Symbolic.{SymbolicHeap}
use Rattle.heap_formula.specs.Meaning.{Satisfies}
use Rattle.cyc_lex.specs.declared.fault.ReadFault.{ReadFault}
use Rattle.model_check.specs.FirstPlaces.{IsFirstPlace}
use Rattle.counter_model.proofs.OnePlace.{no_place, one_place}
use Rattle.model_file.specs.declared.file.Model.{Model}
use Rattle.model_file.specs.Reading as models
use Rattle.cyc_runs.specs.declared.endings.Status.{Status}
use Rattle.cyc_runs.specs.declared.endings.Status.TheVariants.{Success, Refused, IllFormed}
use Rattle.cyc_runs.specs.Runs.{input_limit}
use Rattle.cyc_runs.proofs.WaysToEnd.{fault_fails, fault_is_no_refusal}
use Rattle.check_answers.specs.Alike.{AreAlike}
use Rattle.check_answers.proofs.OneFault.{one_fault_answer}
use Rattle.command_answers.proofs.Readings.{one_model_reading}
use Rattle.command_answers.specs.ModelAnswers.{IsSatisfying, IsSaid, IsModelAnswer, IsReadAnswer, IsModelled}
use Rattle.command_answers.specs.ModelAnswers.{place_text}

-- ---- models that say the same are answered in the same way

module _ (m n : Model) (same : models.AreSame m n) where
  satisfying : IsSatisfying m → IsSatisfying n
  satisfying is =
      subst (λ (a : SymbolicHeap). Satisfies n.defs.list n.stack n.heap a) same.ask
      (subst (λ (h : Cells). Satisfies n.defs.list n.stack h m.ask) same.heap
      (subst (λ (s : List ℕ). Satisfies n.defs.list s m.heap m.ask) same.stack
      (subst (λ (ds : List Definition). Satisfies ds m.stack m.heap m.ask) same.definitions is)))

  first_place : (o : _) → IsFirstPlace m.defs.list (m.ask ∷ []) o → IsFirstPlace n.defs.list (n.ask ∷ []) o
  first_place o is =
      subst (λ (a : SymbolicHeap). IsFirstPlace n.defs.list (a ∷ []) o) same.ask
      (subst (λ (ds : List Definition). IsFirstPlace ds (m.ask ∷ []) o) same.definitions is)

turned : (m n : Model) → models.AreSame m n → models.AreSame n m
turned m n same = record {
  version = sym same.version;
  most = sym same.most;
  definitions = sym same.definitions;
  stack = sym same.stack;
  heap = sym same.heap;
  ask = sym same.ask;
}

one_said : (m n : Model) → models.AreSame m n → (s t : Status) (xs ys : List ℕ) → IsSaid m s xs → IsSaid n t ys
    → (s ≡ t) × (xs ≡ ys)
one_said m n same s t xs ys (inl first) (inl second) = (first.1 ∙ sym second.1, first.2 ∙ sym second.2)
one_said m n same s t xs ys (inr first) (inr second) = (first.1 ∙ sym second.1, first.2 ∙ sym second.2)
one_said m n same s t xs ys (inl first) (inr second) = absurd (second.0 (satisfying m n same first.0))
one_said m n same s t xs ys (inr first) (inl second) = absurd (first.0 (satisfying n m (turned m n same) second.0))

one_model_answer : (m n : Model) → models.AreSame m n → (s t : Status) (xs ys : List ℕ) → IsModelAnswer m s xs
    → IsModelAnswer n t ys → (s ≡ t) × (xs ≡ ys)
one_model_answer m n same s t xs ys (inl first) (inl second) =
    let place = one_place n.defs.list (n.ask ∷ []) first.0 second.0 (first_place m n same (Some first.0) first.1)
    second.1 in
    (first.2 ∙ sym second.2, first.3 ∙ ap place_text place ∙ sym second.3)
one_model_answer m n same s t xs ys (inr first) (inr second) = one_said m n same s t xs ys first.1 second.1
one_model_answer m n same s t xs ys (inl first) (inr second) =
    absurd (no_place n.defs.list (n.ask ∷ []) first.0 second.0.0 second.0.1
    (first_place m n same (Some first.0) first.1))
one_model_answer m n same s t xs ys (inr first) (inl second) =
    let none = first_place m n same None first.0 in
    absurd (no_place n.defs.list (n.ask ∷ []) second.0 none.0 none.1 second.1)

one_read_answer : (r q : Result Model ReadFault) (s t : Status) (xs ys : List ℕ) → AreAlike models.AreSame r q
    → IsReadAnswer r s xs → IsReadAnswer q t ys → (s ≡ t) × (xs ≡ ys)
one_read_answer (Ok m) (Ok n) s t xs ys same first second = one_model_answer m n same s t xs ys first second
one_read_answer (Err a) (Err b) s t xs ys same first second = one_fault_answer a b s t xs ys same first second
one_read_answer (Ok m) (Err b) s t xs ys same first second = absurd same
one_read_answer (Err a) (Ok n) s t xs ys same first second = absurd same

-- an input has one answer
pub one_answer : (input : List ℕ) (s t : Status) (xs ys : List ℕ) → IsModelled input s xs → IsModelled input t ys
    → (s ≡ t) × (xs ≡ ys)
one_answer input s t xs ys first second =
    one_read_answer first.1 second.1 s t xs ys (one_model_reading input first.1 second.1 first.2 second.2)
    first.3 second.3

-- and is within the limit
pub model_short : (input : List ℕ) (s : Status) (xs : List ℕ) → IsModelled input s xs → length input ≤ input_limit
model_short input s xs is = is.0

-- ---- what the answers say

model_satisfies : (m : Model) (xs : List ℕ) → IsModelAnswer m Success xs → IsSatisfying m
model_satisfies m xs (inl place) = absurd (let e : Success ≡ IllFormed = place.2 in cc)
model_satisfies m xs (inr (_, inl is)) = is.0
model_satisfies m xs (inr (_, inr other)) = absurd (let e : Success ≡ Refused = other.1 in cc)

model_fails : (m : Model) (xs : List ℕ) → IsModelAnswer m Refused xs → ¬ IsSatisfying m
model_fails m xs (inl place) = absurd (let e : Refused ≡ IllFormed = place.2 in cc)
model_fails m xs (inr (_, inl other)) = absurd (let e : Refused ≡ Success = other.1 in cc)
model_fails m xs (inr (_, inr is)) = is.0

read_satisfies : (input : List ℕ) (r : Result Model ReadFault) (xs : List ℕ) → models.IsRead input r
    → IsReadAnswer r Success xs → (m : Model) × models.IsRead input (Ok m) × IsSatisfying m
read_satisfies input (Ok m) xs is answer = (m, is, model_satisfies m xs answer)
read_satisfies input (Err fault) xs is answer = absurd (fault_fails fault answer.0)

read_fails : (input : List ℕ) (r : Result Model ReadFault) (xs : List ℕ) → models.IsRead input r
    → IsReadAnswer r Refused xs → (m : Model) × models.IsRead input (Ok m) × (¬ IsSatisfying m)
read_fails input (Ok m) xs is answer = (m, is, model_fails m xs answer)
read_fails input (Err fault) xs is answer = absurd (fault_is_no_refusal fault answer.0)

-- success says that the stack and the heap of the model that was read satisfy its formula
pub success_satisfies : (input : List ℕ) (xs : List ℕ) → IsModelled input Success xs
    → (m : Model) × models.IsRead input (Ok m) × IsSatisfying m
success_satisfies input xs is = read_satisfies input is.1 xs is.2 is.3

-- a refusal, that they do not
pub refusal_fails : (input : List ℕ) (xs : List ℕ) → IsModelled input Refused xs
    → (m : Model) × models.IsRead input (Ok m) × (¬ IsSatisfying m)
refusal_fails input xs is = read_fails input is.1 xs is.2 is.3
