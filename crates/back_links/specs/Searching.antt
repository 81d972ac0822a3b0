-- The links that a search adds to those that it has found, from the choices that it has made.
use Rattle.std.specs.Prelude.{ℕ, ◌≡◌, ◌≤◌, List, [], ◌∷◌, ◌++◌, length, take, drop, Bool, true, false, ◌||◌, not}
use Rattle.std.specs.Prelude.{if◌then◌else◌, Option}
use Rattle.heap_formula.specs.declared.terms.Term.{Term}
use Rattle.heap_formula.specs.declared.atoms.Pure.{Pure}
use Rattle.heap_formula.specs.declared.atoms.Spatial.{Spatial}
use Rattle.heap_formula.specs.declared.proof_rules.Link.{Link}
use Rattle.heap_formula.specs.Judgements.{antecedent}
use Rattle.heap_formula.specs.Substitution.{Bindings}
use Rattle.rule_table.specs.Answer.{disjuncts}
use Rattle.back_links.specs.declared.prospects.Search.{Search}
use Rattle.back_links.specs.declared.prospects.Start.{Start}
use Rattle.back_links.specs.Branches.{if_right, by_entries, by_pairs, by_places}
use Rattle.back_links.specs.Listing.{link_of, number_choices, value_choices, stands_in_spatial}
use Rattle.back_links.specs.Prospects.{could_match_some, could_match_those, could_place, could_send, has_value}
use Rattle.back_links.specs.Prospects.{have_values, is_ruled_out, lookup}

-- an atom without the variable, or one that could match the other
abbrev pub could_match_with : ℕ → List Pure → Bindings → Spatial → Option Spatial → Bool
could_match_with n pures s x other = not (stands_in_spatial n x) || could_match_some pures s x other

-- the choices so far, with one more where it is possible
abbrev pub with_choice : {X : Type 0} → Bool → List X → X → List X
with_choice possible made x = if possible then made ++ x ∷ [] else made

-- ---- what is still possible

abbrev pub may_send : Search → List ℕ → Bindings → ℕ → Bool
may_send s places pairs n = could_send s.bud.now s.companion.now s.variables places pairs n

abbrev pub may_place : Search → List ℕ → ℕ → Spatial → Bool
may_place s places m x = could_place s.bud.now s.companion.now s.variables s.values.now places m x s.sources.now

abbrev pub value_is_left : Search → List ℕ → ℕ → Bool
value_is_left s places n = has_value s.bud.now s.companion.now s.variables s.values.now places n

abbrev pub values_are_left : Search → List ℕ → Spatial → Bool
values_are_left s places x = have_values s.bud.now s.companion.now s.variables s.values.now places x s.sources.now

-- for each list of pairs it is enough to test the variable at the placed atoms from the first one on
abbrev pub MayStartAt : Search → List ℕ → ℕ → ℕ → Type 0
MayStartAt s places n first =
    (first ≤ length places) × ((first ≤ length (antecedent s.companion.now).spatial) × ((pairs : Bindings) →
    could_match_those n (antecedent s.bud.now).pure (antecedent s.bud.now).spatial pairs (drop first places)
    (drop first (antecedent s.companion.now).spatial)
    ≡ could_match_those n (antecedent s.bud.now).pure (antecedent s.bud.now).spatial pairs places
    (antecedent s.companion.now).spatial))

-- a value of the variable that does not equal the term fits no list of pairs
abbrev pub MustEqual : Search → List ℕ → ℕ → Option Term → Type 0
MustEqual s places n term =
    (pairs : Bindings) → is_ruled_out (antecedent s.bud.now).pure (lookup pairs n) term ≡ true
    → could_match_those n (antecedent s.bud.now).pure (antecedent s.bud.now).spatial pairs places
    (antecedent s.companion.now).spatial ≡ false

-- where the test of a variable may start, and the term that its value has to equal, if it is known
abbrev pub MayStart : Search → List ℕ → ℕ → Start → Type 0
MayStart s places n start = MayStartAt s places n start.first × MustEqual s places n start.term

-- ---- the links that the choices lead to

abbrev pub link_if_right : Search → List ℕ → Bindings → List ℕ → List Link
link_if_right s places subst entries = if_right s.bud.now s.companion.now s.variables
    (link_of s.target places subst entries)

-- with entries for the other disjuncts of the companion
abbrev pub links_by_entries : Search → List ℕ → Bindings → List ℕ → List Link
links_by_entries s places subst entries =
    by_entries s.bud.now s.companion.now s.target s.variables places subst entries
    (number_choices (disjuncts s.bud.now) (drop (length entries) (disjuncts s.companion.now)))

-- with values for the other sources
abbrev pub links_by_pairs : Search → List ℕ → Bindings → List ℕ → List Link
links_by_pairs s places pairs sources =
    by_pairs s.bud.now s.companion.now s.target s.variables places pairs (value_choices s.values.now sources)

-- with places for the companion's other spatial atoms
abbrev pub links_by_places : Search → List ℕ → List Spatial → List Link
links_by_places s places atoms =
    by_places s.bud.now s.companion.now s.target s.variables s.values.now s.sources.now places
    (number_choices (antecedent s.bud.now).spatial atoms)

-- the links found, and then these, no more than are wanted
abbrev pub found_with : Search → List Link → List Link → List Link
found_with s found more = take s.most (found ++ more)
