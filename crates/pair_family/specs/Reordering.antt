-- Lists in another order, and a list of base pairs for each atom.
use Rattle.std.specs.Prelude.{◌≡◌, List, [], ◌∷◌, ◌++◌, slice_index_or}
use Rattle.pair_family.specs.BasePairs.{BasePair}
use Rattle.pair_family.specs.States.{Families}
use Rattle.cyc_basics.specs.Words.{IsMember}

-- the new list is the old one without one entry
abbrev pub IsTakenOut : {X : Type 0} → List X → List X → X → Type 0
IsTakenOut {X} old new x = (us : List X) × (vs : List X) × (old ≡ us ++ (x ∷ vs)) × (new ≡ us ++ vs)

-- the first list is the second in another order: its entries are taken out of that, one after the other
abbrev pub Reorders : {X : Type 0} → List X → List X → Type 0
Reorders [] ys = ys ≡ []
Reorders {X} (x ∷ xs) ys = (rest : List X) × IsTakenOut ys rest x × Reorders xs rest

-- at each place the members of a list
abbrev pub families_of : List (List BasePair) → Families
families_of lists i p b = IsMember b (slice_index_or lists i [])
