-- Age forests: the start, the step and its event.
pub use Rattle.cyc_basics.specs.Sets.{Pair, has, IsPositionSet}
use Rattle.std.specs.Prelude.{ℕ, zero, suc, Bool, true, false, cond, not, ◌&&◌, ◌||◌, List, [], ◌∷◌, ◌++◌, map, Option}
use Rattle.std.specs.Prelude.{Some, None, slice_get, length, filter, nat_eq, ltb, leb}
use Rattle.std.specs.List.{list_any, list_all}
use Rattle.buchi_core.specs.declared.event.Event.{Event}
use Rattle.buchi_core.specs.declared.event.Event.TheVariants.{Dies, Green, Nothing}

-- an entry: the place of its parent, if it has one, and its set
pub record Entry : Type 0 where
  pub parent : Option ℕ
  pub set : List ℕ

-- a pair leads from the set to the position
abbrev pub leads : List Pair → List ℕ → ℕ → Bool
leads pairs set q = list_any (λ p. has set p.0 && nat_eq p.1 q) pairs

-- the positions of the new node that pairs lead to from the set
abbrev pub successors : List Pair → List ℕ → List ℕ → List ℕ
successors pairs positions set = filter (λ q. leads pairs set q) positions

-- the pairs that progress
abbrev pub progressing : List Pair → List Pair
progressing pairs = filter (λ p. p.2) pairs

-- an old entry with its successors
abbrev pub moved : List Pair → List ℕ → Entry → Entry
moved pairs positions e = record { parent = e.parent; set = successors pairs positions e.set }

-- the youngest children of the old entries, of which the first stands at place i: their successors with progress
abbrev pub children : List Pair → List ℕ → ℕ → List Entry → List Entry
children pairs positions i [] = []
children pairs positions i (e ∷ es) =
    record { parent = Some i; set = successors (progressing pairs) positions e.set }
    ∷ children pairs positions (suc i) es

-- the top entry with all positions
abbrev pub top : List ℕ → Entry
top positions = record { parent = None; set = positions }

-- the old entries with their successors, a youngest child of each, and a top entry
abbrev pub grown : List Pair → List ℕ → List Entry → List Entry
grown pairs positions forest =
    map (moved pairs positions) forest ++ (children pairs positions 0 forest ++ (top positions ∷ []))

-- what is made of each element of a list, first to last, from what was made of those before it
abbrev pub scan_from : {X Y : Type 0} → (List Y → X → Y) → List Y → List X → List Y
scan_from f done [] = done
scan_from f done (x ∷ xs) = scan_from f (done ++ (f done x ∷ [])) xs

-- the two parents are one, or both entries have none
abbrev pub same_parent : Option ℕ → Option ℕ → Bool
same_parent None None = true
same_parent None (Some p) = false
same_parent (Some p) None = false
same_parent (Some p) (Some q) = nat_eq p q

-- the entry, if there is one, has the position
abbrev pub entry_has : Option Entry → ℕ → Bool
entry_has None q = false
entry_has (Some e) q = has e.set q

-- the parent has the position, or there is no parent
abbrev pub parent_has : List Entry → Option ℕ → ℕ → Bool
parent_has done None q = true
parent_has done (Some p) q = entry_has (slice_get done p) q

-- the parent has the position and no older sibling has it. What an older sibling of an ancestor has, that ancestor
-- lacks, and so does the parent
abbrev pub stays : List Entry → Option ℕ → ℕ → Bool
stays done parent q =
    parent_has done parent q && not (list_any (λ e. same_parent e.parent parent && has e.set q) done)

-- an entry without what goes, where the older ones are done
abbrev pub trimmed : List Entry → Entry → Entry
trimmed done e = record { parent = e.parent; set = filter (λ q. stays done e.parent q) e.set }

-- from old to young, out of each entry goes what its parent lacks and what an older sibling has
abbrev pub trim : List Entry → List Entry
trim entries = scan_from trimmed [] entries

-- the set isn't empty
abbrev pub is_filled : List ℕ → Bool
is_filled [] = false
is_filled (q ∷ qs) = true

-- a child of entry i has the position
abbrev pub child_has : List Entry → ℕ → ℕ → Bool
child_has entries i q = list_any (λ e. same_parent e.parent (Some i) && has e.set q) entries

-- the set of an entry, empty if there is none
abbrev pub set_of : Option Entry → List ℕ
set_of None = []
set_of (Some e) = e.set

-- the set of entry i
abbrev pub set_at : List Entry → ℕ → List ℕ
set_at entries i = set_of (slice_get entries i)

-- entry i isn't empty, and each of its positions is in a child
abbrev pub is_full : List Entry → ℕ → Bool
is_full entries i = is_filled (set_at entries i) && list_all (child_has entries i) (set_at entries i)

-- the flag, if there is one, is true
abbrev pub is_set : Option Bool → Bool
is_set None = false
is_set (Some b) = b

-- the parent is full or lost, where the older ones are done
abbrev pub lost_below : List Entry → List Bool → Option ℕ → Bool
lost_below entries done None = false
lost_below entries done (Some p) = is_full entries p || is_set (slice_get done p)

-- which entries have a full ancestor
abbrev pub losses : List Entry → List Bool
losses entries = scan_from (λ done e. lost_below entries done e.parent) [] entries

-- entry i has a full ancestor
abbrev pub is_lost : List Entry → ℕ → Bool
is_lost entries i = is_set (slice_get (losses entries) i)

-- entry i stays: it isn't empty, and has no full ancestor. An empty entry has only empty descendants
abbrev pub is_kept : List Entry → ℕ → Bool
is_kept entries i = is_filled (set_at entries i) && not (is_lost entries i)

-- entry i turns green: it is full, and has no full ancestor
abbrev pub is_green : List Entry → ℕ → Bool
is_green entries i = is_full entries i && not (is_lost entries i)

-- the places from i on, n of them, that pass
abbrev pub places : (ℕ → Bool) → ℕ → ℕ → List ℕ
places keep i zero = []
places keep i (suc n) = cond (keep i) (i ∷ places keep (suc i) n) (places keep (suc i) n)

-- how many places below i pass
abbrev pub rank : (ℕ → Bool) → ℕ → ℕ
rank keep zero = zero
rank keep (suc i) = cond (keep i) (suc (rank keep i)) (rank keep i)

-- where the parent stands among the entries that stay
abbrev pub renumbered : (ℕ → Bool) → Option ℕ → Option ℕ
renumbered keep None = None
renumbered keep (Some p) = Some (rank keep p)

-- the parent of an entry, if there is an entry and a parent
abbrev pub parent_of : Option Entry → Option ℕ
parent_of None = None
parent_of (Some e) = e.parent

-- entry i as it stands among those that stay
abbrev pub settled : List Entry → ℕ → Entry
settled entries i =
    record { parent = renumbered (is_kept entries) (parent_of (slice_get entries i)); set = set_at entries i }

-- the entries that stay, in order
abbrev pub settle : List Entry → List Entry
settle entries = map (settled entries) (places (is_kept entries) 0 (length entries))

-- the least place of the old list whose entry was dropped or lost, or turned green
abbrev pub event_from : List Entry → ℕ → ℕ → Event
event_from entries i zero = Nothing
event_from entries i (suc n) =
    cond (is_kept entries i) (cond (is_green entries i) (Green i) (event_from entries (suc i) n)) (Dies i)

-- the entries of a step before any is dropped or lost
abbrev pub before_drop : List Pair → List ℕ → List Entry → List Entry
before_drop pairs positions forest = trim (grown pairs positions forest)

-- the forest after a step
abbrev pub next_forest : List Pair → List ℕ → List Entry → List Entry
next_forest pairs positions forest = settle (before_drop pairs positions forest)

-- the event of a step
abbrev pub event_of : List Pair → List ℕ → List Entry → Event
event_of pairs positions forest = event_from (before_drop pairs positions forest) 0 (length forest)

-- the forest that a search begins with: one entry with all positions, none if there are none
abbrev pub start : List ℕ → List Entry
start [] = []
start (q ∷ qs) = top (q ∷ qs) ∷ []

-- the lower place first, at one place the death, and no event last
abbrev pub is_earlier : Event → Event → Bool
is_earlier Nothing b = false
is_earlier (Dies i) Nothing = true
is_earlier (Dies i) (Dies j) = ltb i j
is_earlier (Dies i) (Green j) = leb i j
is_earlier (Green i) Nothing = true
is_earlier (Green i) (Dies j) = ltb i j
is_earlier (Green i) (Green j) = ltb i j
