-- What is searched: the offers at a partial derivation, the list of partial derivations within a depth, its events, and
-- where the search stops.
use Rattle.std.specs.Prelude.{ℕ, zero, suc, ◌≡◌, ◌<◌, ◌==◌, Bool, true, List, [], ◌∷◌, ◌++◌, length, filter, flat_map}
use Rattle.std.specs.Prelude.{if◌then◌else◌}
use Rattle.cyc_basics.specs.Words.{or_else}

-- A proof system as the search sees it. A derivation is the list of its reasons, and a partial one the list of those
-- made so far.
pub record System (R : Type 0) : Type 0 where
  -- the most nodes of a derivation
  pub limit : ℕ
  -- whether no goal is open
  pub complete : List R → Bool
  -- the links and the other rules that the next goal is offered, in order
  pub candidates : List R → List R
  pub rules : List R → List R
  -- whether an offer may be followed within a depth
  pub fits : ℕ → List R → R → Bool
  -- whether a derivation's graph is admitted, and whether it has too many product states
  pub admitted : List R → Bool
  pub above : List R → Bool
  -- what is followed stays within the limit
  pub short : (e : ℕ) (d : List R) (r : R) → fits e d r ≡ true → length d < limit

-- d with one reason more
abbrev pub after : {R : Type 0} → List R → R → List R
after d r = d ++ (r ∷ [])

-- the candidates that are admitted, if there are any, and else the other rules
abbrev pub chosen : {R : Type 0} → System R → List R → List R
chosen s d = or_else (filter (λ r. s.admitted (after d r)) (s.candidates d)) (s.rules d)

-- the offers that are followed within depth e
abbrev pub offers : {R : Type 0} → System R → ℕ → List R → List R
offers s e d = if s.complete d then [] else filter (s.fits e d) (chosen s d)

-- the partial derivations within depth e that begin with d and have at most n reasons more, depth first in the order of
-- the offers
abbrev pub members : {R : Type 0} → System R → ℕ → ℕ → List R → List (List R)
members s e zero d = d ∷ []
members s e (suc n) d = d ∷ flat_map (λ r. members s e n (after d r)) (offers s e d)

-- the partial derivations within depth e, the empty one first
abbrev pub partial : {R : Type 0} → System R → ℕ → List (List R)
partial s e = members s e s.limit []

pub data Event (R : Type 0) : Type 0 where
  Count : Event R
  Number : (graph : List R) → Event R
  Found : (derivation : List R) → Event R

abbrev pub tried : {R : Type 0} → System R → List R → List (Event R)
tried s d = Number d ∷ (if s.admitted d then [] else Count ∷ [])

-- the events of a member
abbrev pub events_of : {R : Type 0} → System R → List R → List (Event R)
events_of s d = Count ∷ (if s.complete d then Number d ∷ (Found d ∷ []) else flat_map (λ r. tried s (after d r))
    (s.candidates d))

pub data Status (R : Type 0) : Type 0 where
  Going : (count : ℕ) → Status R
  TooManyDerivations : Status R
  TooManyStates : Status R
  FoundAt : (derivation : List R) → Status R

-- how far the search comes in a list of events, after `count` counts
abbrev pub status_after : {R : Type 0} → System R → ℕ → ℕ → List (Event R) → Status R
status_after s most count [] = Going count
status_after s most count (Count ∷ es) = if suc count == most then TooManyDerivations else status_after s most
    (suc count) es
status_after s most count (Number d ∷ es) = if s.above d then TooManyStates else status_after s most count es
status_after s most count (Found d ∷ es) = FoundAt d

abbrev pub stream : {R : Type 0} → System R → List (List R) → List (Event R)
stream s ds = flat_map (events_of s) ds

pub data Outcome (R : Type 0) : Type 0 where
  IsNotFound : Outcome R
  HasTooManyDerivations : Outcome R
  HasTooManyStates : Outcome R
  IsFound : (derivation : List R) → Outcome R

abbrev pub stopped_or : {R : Type 0} → Status R → Outcome R → Outcome R
stopped_or (Going c) next = next
stopped_or TooManyDerivations next = HasTooManyDerivations
stopped_or TooManyStates next = HasTooManyStates
stopped_or (FoundAt d) next = IsFound d

-- the search at the n depths from e on
abbrev pub search_from : {R : Type 0} → System R → ℕ → ℕ → ℕ → Outcome R
search_from s most e zero = IsNotFound
search_from s most e (suc n) = stopped_or (status_after s most 0 (stream s (partial s e)))
    (search_from s most (suc e) n)

-- the search at depth 1, 2, .. up to `depth`
abbrev pub search_of : {R : Type 0} → System R → ℕ → ℕ → Outcome R
search_of s most depth = search_from s most 1 depth
