-- How a derivation with a trace graph fares.
use Rattle.std.specs.Prelude.{◌≡◌, List, true, false, nat_lt}
use Rattle.trace_pairs.specs.Graph.{Node}
use Rattle.buchi_inclusion.specs.Answers.{state_limit}
use Rattle.buchi_inclusion.specs.Decide.{progresses, number_of}
use Rattle.derivations.specs.declared.search.Tried.{Tried}
use Rattle.derivations.specs.declared.search.Tried.TheVariants.{Admitted, Refused, TooManyStates}

-- every lasso progresses or some does not, where there are few product states
abbrev pub GraphFares : List Node → Tried → Type 0
GraphFares g Admitted = (nat_lt state_limit (number_of g) ≡ false) × (progresses g ≡ true)
GraphFares g Refused = (nat_lt state_limit (number_of g) ≡ false) × (progresses g ≡ false)
GraphFares g TooManyStates = nat_lt state_limit (number_of g) ≡ true
