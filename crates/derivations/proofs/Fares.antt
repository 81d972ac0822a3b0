-- How a graph fares, by the answer of the inclusion.
use Rattle.std.proofs.Common.{◌≡◌, true, false, List, inl, inr, subst}
use Rattle.std.specs.Prelude.{nat_lt}
use Rattle.std.proofs.lemmas.Bool.{cases_Bool, ltb-true, lt-ltb}
use Rattle.trace_pairs.specs.Graph.{Node, IsGraph}
use Rattle.trace_pairs.specs.Lasso.{AllProgress}
use Rattle.buchi_inclusion.specs.Answers.{HasAtMost, HasMoreThan, state_limit}
use Rattle.buchi_inclusion.specs.Inclusion.{IsProgress}
use Rattle.buchi_inclusion.specs.declared.Progress.{Progress}
use Rattle.buchi_inclusion.specs.declared.Progress.TheVariants.{Progresses, DoesNot}
use Rattle.buchi_inclusion.specs.declared.Progress.TheVariants as answers
use Rattle.buchi_inclusion.proofs.Exact.{not_both}
use Rattle.derivations.specs.declared.search.Tried.TheVariants.{Admitted, Refused, TooManyStates}
use Rattle.derivations.specs.Fares.{GraphFares}
use Rattle.buchi_inclusion.specs.Decide.{progresses, number_of}
use Rattle.buchi_inclusion.proofs.Decide.{progress_decided}
use Rattle.buchi_inclusion.proofs.Number.{number_counted}

pub few_states : (g : List Node) → IsGraph g → HasAtMost g state_limit → nat_lt state_limit (number_of g) ≡ false
few_states g graph few =
    elim (cases_Bool (nat_lt state_limit (number_of g))) [
      | inl more ↦ absurd (not_both g state_limit few ((number_counted g state_limit graph).0
          (ltb-true state_limit (number_of g) more)))
      | inr not' ↦ not'
    ]

pub many_states : (g : List Node) → IsGraph g → HasMoreThan g state_limit → nat_lt state_limit (number_of g) ≡ true
many_states g graph many = lt-ltb state_limit (number_of g) ((number_counted g state_limit graph).1 many)

pub all_progress : (g : List Node) → IsGraph g → AllProgress g → progresses g ≡ true
all_progress g graph all' = (progress_decided g graph).1 all'

pub some_fails : (g : List Node) → IsGraph g → (AllProgress g → ⊥) → progresses g ≡ false
some_fails g graph fails =
    elim (cases_Bool (progresses g)) [
      | inl yes' ↦ absurd (fails ((progress_decided g graph).0 yes'))
      | inr no' ↦ no'
    ]

-- by the inclusion's answer
pub admitted_by : (g : List Node) (a : Progress) → IsGraph g → IsProgress g state_limit a → a ≡ Progresses
    → GraphFares g Admitted
admitted_by g a graph is e =
    let h = subst (IsProgress g state_limit) e is in (few_states g graph h.1, all_progress g graph h.0)

pub refused_by : (g : List Node) (a : Progress) → IsGraph g → IsProgress g state_limit a → a ≡ DoesNot
    → GraphFares g Refused
refused_by g a graph is e =
    let h = subst (IsProgress g state_limit) e is in (few_states g graph h.1, some_fails g graph h.0)

pub many_by : (g : List Node) (a : Progress) → IsGraph g → IsProgress g state_limit a → a ≡ answers.TooManyStates
    → GraphFares g TooManyStates
many_by g a graph is e = many_states g graph (subst (IsProgress g state_limit) e is)
