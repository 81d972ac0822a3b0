-- A combination made in two steps: what the first part says of some terms stands for it in the second.
use Rattle.std.specs.Prelude.{◌≡◌, ℕ, suc, ◌≤◌, List, [], ◌∷◌, map}
use Rattle.heap_formula.specs.declared.terms.Term.{Term}
use Rattle.heap_formula.specs.declared.terms.Term.TheVariants.{Nil}
use Rattle.heap_formula.specs.declared.atoms.Spatial.{Spatial}
use Rattle.heap_formula.specs.declared.atoms.Spatial.TheVariants.{Cell, Pred}
use Rattle.heap_formula.specs.Words.{Each}
use Rattle.pair_family.specs.BasePairs.{BasePair}
use Rattle.pair_family.specs.Combination.{Two, Choice, next, Facts, both, atom_facts, AreConsistent, said}

abbrev pub two_at : (ℕ → Term) → List (ℕ × ℕ) → List Two
two_at at qs = map (λ q. (at q.0, at q.1)) qs

-- the facts that a base pair states of these terms
abbrev pub stated : (ℕ → Term) → BasePair → Facts
stated at b = record { equal = two_at at b.same; differ = two_at at b.differ; cells = map at b.cells }

-- one of these terms
abbrev pub IsOneOf : ℕ → (ℕ → Term) → Term → Type 0
IsOneOf k at t = (i : ℕ) × (i ≤ k) × (t ≡ at i)

-- ---- a spatial list, atom by atom

-- the terms that are kept: `at 0` to `at count`
pub record Frame : Type 0 where
  pub count : ℕ
  pub at : ℕ → Term

-- the terms kept before each place of a spatial list, and after the last
abbrev pub Frames : Type 0
Frames = ℕ → Frame

abbrev pub next_frames : Frames → Frames
next_frames frames k = frames (suc k)

abbrev pub last_frame : Frames → List Spatial → Frame
last_frame frames [] = frames 0
last_frame frames (x ∷ xs) = last_frame (next_frames frames) xs

abbrev pub IsKept : Frame → Term → Type 0
IsKept frame t = IsOneOf frame.count frame.at t

-- the terms of which an atom's base pair speaks, nil aside: a cell's address, a predicate's arguments
abbrev pub spoken : Spatial → List Term
spoken (Cell t ts) = t ∷ []
spoken (Pred p ts) = ts

-- each atom's terms are kept before it, and what is kept after it
abbrev pub AreFrames : Frames → List Spatial → Type 0
AreFrames frames [] = Unit {0}
AreFrames frames (x ∷ xs) =
    IsKept (frames 0) Nil × Each (IsKept (frames 0)) (spoken x)
    × ((i : ℕ) → i ≤ (frames 1).count → IsKept (frames 0) ((frames 1).at i)) × AreFrames (next_frames frames) xs

abbrev pub said_in : Frame → Facts → BasePair
said_in frame x = said frame.count frame.at x

-- what a base pair of kept terms says with one more atom
abbrev pub with_atom : Frame → BasePair → BasePair → Spatial → Facts
with_atom frame b c x = both (stated frame.at b) (atom_facts c x)

-- atom by atom, with only what is said of the kept terms, b leads to d
abbrev pub FoldsTo : Frames → BasePair → Choice → List Spatial → BasePair → Type 0
FoldsTo frames b bs [] d = d ≡ b
FoldsTo frames b bs (x ∷ xs) d =
    AreConsistent (with_atom (frames 0) b (bs 0) x)
    × FoldsTo (next_frames frames) (said_in (frames 1) (with_atom (frames 0) b (bs 0) x)) (next bs) xs d
