-- What is kept of the lists of heaps as they are read.
use Rattle.std.specs.Prelude.{ℕ, Bool, true, nat_le, if◌then◌else◌, List, [], ◌∷◌, ◌++◌, length, take, map}
use Rattle.cyc_grammar.specs.Syntax.{Syntax, shaped}
use Rattle.heap_syntax.specs.declared.keep.Keep.{Keep}
use Rattle.heap_syntax.specs.declared.keep.Keep.TheVariants.{All, Beyond}
use Rattle.heap_syntax.specs.Trees.{Heap}

-- ---- what is kept of a value

-- of the members after the first one
abbrev pub others : {A : Type 0} → Keep → List A → List A
others All xs = xs
others (Beyond most) xs = take most xs

-- of all members
abbrev pub members : {A : Type 0} → Keep → List A → List A
members k [] = []
members k (x ∷ xs) = x ∷ others k xs

abbrev pub heap_front : {T : Type 0} → Keep → Heap T → Heap T
heap_front k h = record { pure = members k h.pure; spatial = members k h.spatial }

abbrev pub heaps_front : {T : Type 0} → Keep → List (Heap T) → List (Heap T)
heaps_front k hs = members k (map (heap_front k) hs)

-- ---- reading

-- the members after the first one, of which so much is kept as they are read
abbrev pub others_kept : {A : Type 0} → Keep → Syntax (List A) → Syntax (List A)
others_kept All s = s
others_kept (Beyond most) s = shaped (take most) (λ xs. xs) (λ xs. Unit {0}) s

-- whether a member is kept before which so many were kept
abbrev pub has_room : Keep → ℕ → Bool
has_room All n = true
has_room (Beyond most) n = nat_le n most

-- with a member behind others, where it is kept
abbrev pub with_member : {A : Type 0} → Keep → List A → A → List A
with_member k xs x = if has_room k (length xs) then xs ++ x ∷ [] else xs
