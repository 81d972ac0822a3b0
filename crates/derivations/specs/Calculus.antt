-- The rules and links of a logic as a calculus, with what a goal is offered.
use Rattle.std.specs.Prelude.{ℕ, List, [], Option, Some, None, Result, Ok, Err, slice_get}
use Rattle.trace_pairs.specs.Graph.{Edge, Pair}
use Rattle.logics.specs.Logics.{LogicValue}
use Rattle.derivations.specs.Tableau.{Subgoal, Goal, Made, Calculus}

abbrev pub judgement_of : {J R : Type 0} → Made J R → J
judgement_of m = m.goal.premise.judgement

-- ---- rules

-- none at a fault
abbrev pub answered : {J F : Type 0} → Result (List (Subgoal J)) F → Option (List (Subgoal J))
answered (Ok ps) = Some ps
answered (Err f) = None

-- ---- links

-- the edge of a link with these pairs; none at a fault
abbrev pub edge_along : {F : Type 0} → ℕ → Result (List Pair) F → Option Edge
edge_along target (Ok pairs) = Some (record { target = target; pairs = pairs })
edge_along target (Err f) = None

-- the edge of a link to this node, if it is made
abbrev pub edge_to : {J R F : Type 0} → LogicValue J R F → J → R → ℕ → Option (Made J R) → Option Edge
edge_to c bud r target None = None
edge_to c bud r target (Some m) = edge_along target (c.pairs_back bud r (judgement_of m))

-- a link without a fault has no premises
abbrev pub none_beside : {J : Type 0} → Option Edge → Option (List (Subgoal J))
none_beside None = None
none_beside (Some e) = Some []

-- ---- reasons, by the node that they name if they are links

abbrev pub premises_by : {J R F : Type 0} → LogicValue J R F → List (Made J R) → J → R → Option ℕ
    → Option (List (Subgoal J))
premises_by c nodes j r None = answered (c.premises j r)
premises_by c nodes j r (Some target) = none_beside (edge_to c j r target (slice_get nodes target))

abbrev pub back_by : {J R F : Type 0} → LogicValue J R F → List (Made J R) → J → R → Option ℕ → Option Edge
back_by c nodes j r None = None
back_by c nodes j r (Some target) = edge_to c j r target (slice_get nodes target)

abbrev pub premises_at : {J R F : Type 0} → LogicValue J R F → List (Made J R) → Goal J → R → Option (List (Subgoal J))
premises_at c nodes g r = premises_by c nodes g.premise.judgement r (c.target r)

abbrev pub back_at : {J R F : Type 0} → LogicValue J R F → List (Made J R) → Goal J → R → Option Edge
back_at c nodes g r = back_by c nodes g.premise.judgement r (c.target r)

-- ---- the calculus

-- what the nodes made and a goal offer
abbrev pub Offers : Type 0 → Type 0 → Type 0
Offers J R = List (Made J R) → Goal J → List R

-- the links to be tried, and the rules for the case that none is admitted
abbrev pub calculus_with : {J R F : Type 0} → LogicValue J R F → Offers J R → Offers J R → Calculus J R
calculus_with c links rules = record {
  positions = c.positions;
  links = links;
  rules = rules;
  premises = premises_at c;
  back = back_at c;
}

-- the calculus in which nothing is offered
abbrev pub bare_calculus : {J R F : Type 0} → LogicValue J R F → Calculus J R
bare_calculus c = calculus_with c (λ nodes g. []) (λ nodes g. [])
