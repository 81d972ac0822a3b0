-- What may be folded at each node of a picture.
use Rattle.std.specs.Prelude.{ℕ, suc, ◌+◌, ◌-◌, ◌^◌, min, Bool, true, false, not, ◌&&◌, ◌||◌, nat_le, nat_lt, is_some}
use Rattle.std.specs.Prelude.{is_none, List, [], ◌∷◌, Option, Some, None, slice_get, option_and_then, if◌then◌else◌}
use Rattle.proof_picture.specs.Arrows.{Drawn}
use Rattle.proof_picture.specs.Pictures.{Box}
use Rattle.proof_picture.specs.declared.folds.entries.Entry.{Entry}
use Rattle.proof_picture.specs.declared.folds.fates.Fate.{Fate}
use Rattle.proof_picture.specs.Entries.{entries_in, once_in}

-- the least node from v on that has a fault, or the number of nodes: those before it are right
abbrev pub fault_from : ℕ → List Box → ℕ
fault_from v [] = v
fault_from v (b ∷ bs) = if is_some b.fault then v else fault_from (suc v) bs

-- no refused path goes on from the node
abbrev pub is_calm : List Drawn → Bool
is_calm [] = true
is_calm (a ∷ others) = if a.is_refused then false else is_calm others

abbrev pub are_none : List Drawn → Bool
are_none [] = true
are_none (a ∷ others) = false

-- the edge leads by no link to a node after v
abbrev pub leads_on : Drawn → ℕ → Bool
leads_on a v = not a.is_link && nat_lt v a.target

-- node v has one premise
abbrev pub is_single : ℕ → List Drawn → Bool
is_single v [] = false
is_single v (a ∷ others) = leads_on a v && are_none others

abbrev pub count_at : Option Fate → Option ℕ
count_at None = None
count_at (Some fate) = fate.count

-- the nodes of the closed subtree of a node after v, where the fates of the nodes after v are known
abbrev pub count_in : List Fate → ℕ → ℕ → Option ℕ
count_in behind v u = if nat_le u v then None else count_at (slice_get behind (u - v - 1))

-- so many nodes, and those of the subtrees of these premises of node v, where they are closed and nothing else leads to
-- them; counted up to 2^32 - 1, which is more than a file has
abbrev pub count_along : List Entry → List Fate → ℕ → ℕ → List Drawn → Option ℕ
count_along entries behind v so_far [] = Some so_far
count_along entries behind v so_far (a ∷ others) =
    if leads_on a v && once_in entries a.target
    then option_and_then (λ more. count_along entries behind v (min (so_far + more) (2 ^ 32 - 1)) others)
    (count_in behind v a.target)
    else None

-- a node that is right, and from which no refused path goes on: it may be folded into the box before it where one edge
-- leads to it
abbrev pub fate : List Entry → ℕ → List Fate → ℕ → List Drawn → Fate
fate entries place behind v arrows =
    if nat_lt v place && is_calm arrows
    then record {
      is_free = once_in entries v;
      is_single = is_single v arrows;
      count = count_along entries behind v 1 arrows;
    }
    else record { is_free = false; is_single = false; count = None }

-- the fates of the nodes from v on
abbrev pub fates_from : List Entry → ℕ → ℕ → List Box → List Fate
fates_from entries place v [] = []
fates_from entries place v (b ∷ bs) =
    let behind = fates_from entries place (suc v) bs in fate entries place behind v b.arrows ∷ behind

-- the fates of all nodes
abbrev pub fates_in : List Box → List Fate
fates_in bs = fates_from (entries_in bs) (fault_from 0 bs) 0 bs

-- the box goes on from a node with the first fate to its premise with the second: both have one premise, and neither is
-- the root of a closed subtree
abbrev pub follows : Option Fate → Option Fate → Bool
follows None next = false
follows (Some fate) None = false
follows (Some fate) (Some next) = fate.is_single && (is_none fate.count && (next.is_free && next.is_single))

-- the premise that the box of node v takes in, if it does
abbrev pub next_of : List Fate → ℕ → List Drawn → Option ℕ
next_of fates v [] = None
next_of fates v (a ∷ others) = if follows (slice_get fates v) (slice_get fates a.target) then Some a.target else None

-- node v takes its premises into its box
abbrev pub takes_in : List Fate → ℕ → List Drawn → Bool
takes_in fates v arrows = is_some (count_at (slice_get fates v)) || is_some (next_of fates v arrows)
