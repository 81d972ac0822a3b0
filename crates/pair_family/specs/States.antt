-- The states that a set of base pairs leads to, atom by atom.
use Rattle.std.specs.Prelude.{◌≡◌, ◌↔◌, ℕ, suc, List, [], ◌∷◌}
use Rattle.heap_formula.specs.declared.atoms.Spatial.{Spatial}
use Rattle.heap_formula.specs.Symbolic.{SymbolicHeap}
use Rattle.heap_formula.specs.Words.{OneOf}
use Rattle.pair_family.specs.BasePairs.{BasePair}
use Rattle.pair_family.specs.Combination.{Choice, next, AreConsistent, IsConsistent, projection}
use Rattle.pair_family.specs.Family.{PairFamily, IsChosenAt}
use Rattle.pair_family.specs.Folding.{Frame, Frames, FoldsTo, next_frames, said_in, with_atom}
use Rattle.cyc_basics.specs.Words.{IsMember}

-- a family for each place of a spatial list
abbrev pub Families : Type 1
Families = ℕ → PairFamily

abbrev pub next_families : Families → Families
next_families Fs k = Fs (suc k)

-- each predicate atom's base pair is of its place's family
abbrev pub IsChosenBy : Families → Choice → List Spatial → Type 0
IsChosenBy Fs bs [] = Unit {0}
IsChosenBy Fs bs (x ∷ xs) = IsChosenAt (Fs 0) (bs 0) x × IsChosenBy (next_families Fs) (next bs) xs

-- b is the projection of a consistent combination of a case with base pairs of the places' families
pub record GivesBy (Fs : Families) (k : ℕ) (b : BasePair) (a : SymbolicHeap) : Type 0 where
  pub chosen : Choice
  pub from_families : IsChosenBy Fs chosen a.spatial
  pub consistent : IsConsistent chosen a
  pub projected : b ≡ projection k chosen a

-- b leads to d over one atom, with some base pair of F
abbrev pub Leads : PairFamily → Frame → Frame → Spatial → BasePair → BasePair → Type 0
Leads F frame after x d b = (c : BasePair) × IsChosenAt F c x × AreConsistent (with_atom frame b c x)
    × (d ≡ said_in after (with_atom frame b c x))

-- one of these states leads to d over the atoms, with base pairs of the places' families
abbrev pub IsReached : Families → Frames → List BasePair → List Spatial → BasePair → Type 0
IsReached Fs frames states xs d =
    (b : BasePair) × IsMember b states × ((bs : Choice) × IsChosenBy Fs bs xs × FoldsTo frames b bs xs d)

-- each state of `out` is led to from `states` over the atoms, and `out` has each
abbrev pub AreStates : Families → Frames → List BasePair → List Spatial → List BasePair → Type 0
AreStates Fs frames states [] out = (d : BasePair) → IsMember d out ↔ IsMember d states
AreStates Fs frames states (x ∷ xs) out =
    (after : List BasePair) × ((d : BasePair) → IsMember d after
    ↔ OneOf (Leads (Fs 0) (frames 0) (frames 1) x d) states)
    × AreStates (next_families Fs) (next_frames frames) after xs out
