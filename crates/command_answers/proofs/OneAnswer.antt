-- The question whether an antecedent can be satisfied has one answer.
use Rattle.std.proofs.Common.{◌≡◌, ◌∙◌, ℕ, List, sym, subst, inl, inr, Result, Ok, Err}
use Rattle.heap_formula.specs.Judgements.{antecedent}
use Rattle.pair_family.specs.Statements.{IsSatisfiable}
use Rattle.pair_family.specs.Family.{InFamily}
use Rattle.pair_family.specs.LargeCases.{IsLarge}
use Rattle.pair_family.proofs.Rounds.{not_both}
use Rattle.formula_reader.specs.declared.problem.Problem.{Problem}
use Rattle.formula_reader.specs.Reading as problems
use Rattle.cyc_lex.specs.declared.fault.ReadFault.{ReadFault}
use Rattle.cyc_runs.specs.declared.endings.Status.{Status}
use Rattle.cyc_runs.specs.declared.endings.Status.TheVariants.{Success, Refused, Limit}
use Rattle.cyc_runs.proofs.WaysToEnd.{fault_fails, fault_is_no_refusal}
use Rattle.command_answers.specs.Answers.{AreFew, AreTooMany, IsAsked, IsLargeProblem, IsPairsAnswer, IsPossible}
use Rattle.command_answers.specs.Answers.{IsReadAnswer, IsSaid, IsStatesAnswer, pair_limit, size_limit}
use Rattle.check_answers.specs.Alike.{AreAlike}
use Rattle.check_answers.proofs.OneFault.{one_fault_answer}
use Rattle.command_answers.proofs.Readings.{one_problem_reading}

module _ (p q : Problem) (same : problems.AreSame p q) where
  possible : IsPossible p → IsPossible q
  possible is =
      subst (λ ds. IsSatisfiable ds (antecedent q.goal)) same.definitions
      (subst (λ j. IsSatisfiable p.defs.list (antecedent j)) same.goal is)

  possible_back : IsPossible q → IsPossible p
  possible_back is =
      subst (λ ds. IsSatisfiable ds (antecedent p.goal)) (sym same.definitions)
      (subst (λ j. IsSatisfiable q.defs.list (antecedent j)) (sym same.goal) is)

  both : AreFew p.defs.list → AreTooMany q.defs.list → ⊥
  both few many =
      let few' = subst AreFew same.definitions few in
      elim many [ inl more ↦ not_both q.defs.list pair_limit few'.0 more | inr large ↦ few'.1 large ]

  both_back : AreTooMany p.defs.list → AreFew q.defs.list → ⊥
  both_back many few =
      elim (subst AreTooMany same.definitions many)
      [ inl more ↦ not_both q.defs.list pair_limit few.0 more | inr large ↦ few.1 large ]

  large : IsLargeProblem p → IsLargeProblem q
  large is =
      subst (λ ds. IsLarge size_limit (InFamily ds) 0 (antecedent q.goal)) same.definitions
      (subst (λ j. IsLarge size_limit (InFamily p.defs.list) 0 (antecedent j)) same.goal is)

  large_back : IsLargeProblem q → IsLargeProblem p
  large_back is =
      subst (λ ds. IsLarge size_limit (InFamily ds) 0 (antecedent p.goal)) (sym same.definitions)
      (subst (λ j. IsLarge size_limit (InFamily q.defs.list) 0 (antecedent j)) (sym same.goal) is)

  one_said : (s t : Status) (xs ys : List ℕ) → IsSaid p s xs → IsSaid q t ys → (s ≡ t) × (xs ≡ ys)
  one_said s t xs ys (inl first) (inl second) = (first.1 ∙ sym second.1, first.2 ∙ sym second.2)
  one_said s t xs ys (inr first) (inr second) = (first.1 ∙ sym second.1, first.2 ∙ sym second.2)
  one_said s t xs ys (inl first) (inr second) = absurd (second.0 (possible first.0))
  one_said s t xs ys (inr first) (inl second) = absurd (first.0 (possible_back second.0))

  one_states_answer : (s t : Status) (xs ys : List ℕ) → IsStatesAnswer p s xs → IsStatesAnswer q t ys
      → (s ≡ t) × (xs ≡ ys)
  one_states_answer s t xs ys (inl first) (inl second) = (first.1 ∙ sym second.1, first.2 ∙ sym second.2)
  one_states_answer s t xs ys (inr first) (inr second) = one_said s t xs ys first.1 second.1
  one_states_answer s t xs ys (inl first) (inr second) = absurd (second.0 (large first.0))
  one_states_answer s t xs ys (inr first) (inl second) = absurd (first.0 (large_back second.0))

  one_pairs_answer : (s t : Status) (xs ys : List ℕ) → IsPairsAnswer p s xs → IsPairsAnswer q t ys → (s ≡ t) × (xs ≡ ys)
  one_pairs_answer s t xs ys (inl first) (inl second) = (first.1 ∙ sym second.1, first.2 ∙ sym second.2)
  one_pairs_answer s t xs ys (inr first) (inr second) = one_states_answer s t xs ys first.1 second.1
  one_pairs_answer s t xs ys (inl first) (inr second) = absurd (both_back first.0 second.0)
  one_pairs_answer s t xs ys (inr first) (inl second) = absurd (both first.0 second.0)

one_read_answer : (r q : Result Problem ReadFault) (s t : Status) (xs ys : List ℕ) → AreAlike problems.AreSame r q
    → IsReadAnswer r s xs → IsReadAnswer q t ys → (s ≡ t) × (xs ≡ ys)
one_read_answer (Ok p) (Ok q) s t xs ys same first second = one_pairs_answer p q same s t xs ys first second
one_read_answer (Err a) (Err b) s t xs ys same first second = one_fault_answer a b s t xs ys same first second
one_read_answer (Ok p) (Err b) s t xs ys same first second = absurd same
one_read_answer (Err a) (Ok q) s t xs ys same first second = absurd same

-- an input has one answer
pub one_answer : (input : List ℕ) (s t : Status) (xs ys : List ℕ) → IsAsked input s xs → IsAsked input t ys
    → (s ≡ t) × (xs ≡ ys)
one_answer input s t xs ys first second =
    one_read_answer first.1 second.1 s t xs ys (one_problem_reading input first.1 second.1 first.2 second.2)
    first.3 second.3

-- ---- what the answers say

said_possible : (p : Problem) (xs : List ℕ) → IsSaid p Success xs → IsPossible p
said_possible p xs (inl is) = is.0
said_possible p xs (inr other) = absurd (let e : Success ≡ Refused = other.1 in cc)

said_impossible : (p : Problem) (xs : List ℕ) → IsSaid p Refused xs → ¬ IsPossible p
said_impossible p xs (inl other) = absurd (let e : Refused ≡ Success = other.1 in cc)
said_impossible p xs (inr is) = is.0

states_possible : (p : Problem) (xs : List ℕ) → IsStatesAnswer p Success xs → IsPossible p
states_possible p xs (inl many) = absurd (let e : Success ≡ Limit = many.1 in cc)
states_possible p xs (inr few) = said_possible p xs few.1

states_impossible : (p : Problem) (xs : List ℕ) → IsStatesAnswer p Refused xs → ¬ IsPossible p
states_impossible p xs (inl many) = absurd (let e : Refused ≡ Limit = many.1 in cc)
states_impossible p xs (inr few) = said_impossible p xs few.1

pairs_possible : (p : Problem) (xs : List ℕ) → IsPairsAnswer p Success xs → IsPossible p
pairs_possible p xs (inl many) = absurd (let e : Success ≡ Limit = many.1 in cc)
pairs_possible p xs (inr few) = states_possible p xs few.1

pairs_impossible : (p : Problem) (xs : List ℕ) → IsPairsAnswer p Refused xs → ¬ IsPossible p
pairs_impossible p xs (inl many) = absurd (let e : Refused ≡ Limit = many.1 in cc)
pairs_impossible p xs (inr few) = states_impossible p xs few.1

-- success says that the antecedent of the problem that was read is satisfiable
pub success_possible : (input : List ℕ) (r : Result Problem ReadFault) (xs : List ℕ) → problems.IsRead input r
    → IsReadAnswer r Success xs → (p : Problem) × problems.IsRead input (Ok p) × IsPossible p
success_possible input (Ok p) xs is answer = (p, is, pairs_possible p xs answer)
success_possible input (Err fault) xs is answer = absurd (fault_fails fault answer.0)

-- a refusal, that it is not
pub refusal_impossible : (input : List ℕ) (r : Result Problem ReadFault) (xs : List ℕ) → problems.IsRead input r
    → IsReadAnswer r Refused xs → (p : Problem) × problems.IsRead input (Ok p) × (¬ IsPossible p)
refusal_impossible input (Ok p) xs is answer = (p, is, pairs_impossible p xs answer)
refusal_impossible input (Err fault) xs is answer = absurd (fault_is_no_refusal fault answer.0)
