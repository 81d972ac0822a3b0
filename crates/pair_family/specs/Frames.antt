-- Which terms are kept: nil, the parameters, and the terms of the atoms that are still to come, each once.
use Rattle.std.specs.Prelude.{ℕ, zero, suc, List, [], ◌∷◌, ◌++◌, length, Bool, nat_eq, if◌then◌else◌, slice_index_or}
use Rattle.heap_formula.specs.declared.terms.Term.{Term}
use Rattle.heap_formula.specs.declared.terms.Term.TheVariants.{Nil}
use Rattle.heap_formula.specs.declared.atoms.Spatial.{Spatial}
use Rattle.pair_family.specs.Classes.{term_number}
use Rattle.std.specs.List.{list_any}
use Rattle.pair_family.specs.Folding.{Frame, Frames, spoken}
use Rattle.heap_formula.specs.Fresh.{variables_from}

-- the terms by number
abbrev pub term_at : List Term → ℕ → Term
term_at terms i = slice_index_or terms i Nil

-- the frame of nil and these terms
abbrev pub frame_of : List Term → Frame
frame_of terms = record { count = length terms; at = term_at (Nil ∷ terms) }

abbrev pub has_term : List Term → Term → Bool
has_term terms t = list_any (λ u. nat_eq (term_number u) (term_number t)) terms

-- one more term beside nil and these, unless it is there
abbrev pub one_more : List Term → Term → List Term
one_more terms t = if has_term (Nil ∷ terms) t then terms else terms ++ t ∷ []

abbrev pub with_terms : List Term → List Term → List Term
with_terms terms [] = terms
with_terms terms (t ∷ ts) = with_terms (one_more terms t) ts

-- the k parameters and the terms of some atoms
abbrev pub kept_terms : ℕ → List Spatial → List Term
kept_terms k [] = variables_from 0 k
kept_terms k (x ∷ xs) = with_terms (kept_terms k xs) (spoken x)

-- the frame before each place of a spatial list
abbrev pub frame_at : ℕ → ℕ → List Spatial → Frame
frame_at k zero xs = frame_of (kept_terms k xs)
frame_at k (suc j) [] = frame_of (kept_terms k [])
frame_at k (suc j) (x ∷ xs) = frame_at k j xs

abbrev pub frames_of : ℕ → List Spatial → Frames
frames_of k xs j = frame_at k j xs
