-- The faults of a link, and its premise.
use Rattle.std.specs.Prelude.{ℕ, suc, List, [], ◌∷◌, map, Bool, true, false, Option, Some, None, Ok, Err, slice_get}
use Rattle.std.specs.Prelude.{slice_index}
use Rattle.std.specs.Option.{option_map}
use Rattle.fo_formula.specs.declared.atoms.FoAtom.{FoAtom}
use Rattle.fo_formula.specs.declared.nodes.FoLink.{FoLink}
use Rattle.fo_formula.specs.declared.sequents.FoSequent.{FoSequent}
use Rattle.fo_formula.specs.Words.{in_atom}
use Rattle.fo_formula.specs.declared.table.faults.FoFault.{FoFault}
use Rattle.fo_formula.specs.declared.table.faults.FoFault.TheVariants.{LinkLeft, LinkRight}
use Rattle.fo_formula.specs.declared.table.premises.FoPremise.{FoPremise}
use Rattle.fo_formula.specs.Answers.{Answer}
use Rattle.fo_formula.specs.Tests.{same_atom}
use Rattle.fo_formula.specs.Traces.{pairs_from}
use Rattle.fo_formula.specs.Table.{image_sign}

-- the first fault of two
abbrev pub first_of : Option FoFault → Option FoFault → Option FoFault
first_of None g = g
first_of (Some f) g = Some f

-- there is an atom, and it is x
abbrev pub is_atom : FoAtom → Option FoAtom → Bool
is_atom x None = false
is_atom x (Some y) = same_atom y x

-- this place unless the test holds; else what follows
abbrev pub place_unless : Bool → ℕ → Option ℕ → Option ℕ
place_unless true k rest = rest
place_unless false k rest = Some k

-- the least place, from k on, where the map has no entry, or its entry doesn't name the atom there; then the number of
-- atoms if the map is longer
abbrev pub map_place : List FoAtom → ℕ → List ℕ → List FoAtom → Option ℕ
map_place atoms k [] [] = None
map_place atoms k [] (x ∷ xs) = Some k
map_place atoms k (m ∷ ms) [] = Some k
map_place atoms k (m ∷ ms) (x ∷ xs) =
    place_unless (is_atom x (slice_get atoms m)) k (map_place atoms (suc k) ms xs)

-- the atoms after a link's substitution
abbrev pub linked : FoLink → List FoAtom → List FoAtom
linked link xs = map (in_atom (image_sign link.substitution)) xs

-- the first fault of a link between two sequents
abbrev pub link_fault : FoSequent → FoSequent → FoLink → Option FoFault
link_fault bud companion link =
    first_of (option_map LinkLeft (map_place bud.left 0 link.left_map (linked link companion.left)))
    (option_map LinkRight (map_place bud.right 0 link.right_map (linked link companion.right)))

-- the companion; each of its left predicate atoms goes on from the bud's atom that the map names
abbrev pub link_premise : FoSequent → FoLink → FoPremise
link_premise companion link =
    record { sequent = companion; pairs = pairs_from (slice_index link.left_map) 0 companion.left }

-- the premise where there is no fault
abbrev pub unless_fault : Option FoFault → FoPremise → Answer
unless_fault None premise = Ok (premise ∷ [])
unless_fault (Some f) premise = Err f
