-- What the parts of the search promise.
use Rattle.std.specs.Prelude.{ℕ, ◌≡◌, ◌<◌, ◌≤◌, Option, Some, None, Bool, true, false, List, [], ◌∷◌, ◌++◌, filter}
use Rattle.std.specs.Prelude.{flat_map, if◌then◌else◌}
use Rattle.derivations.specs.declared.search.Frame.{Frame}
use Rattle.derivations.specs.declared.search.Frame.TheVariants as frame
use Rattle.derivations.specs.declared.search.Offers.{Offers}
use Rattle.derivations.specs.declared.search.Tried.{Tried}
use Rattle.derivations.specs.declared.search.Tried.TheVariants.{Admitted, Refused, TooManyStates}
use Rattle.derivations.specs.declared.search.Stop.{Stop}
use Rattle.derivations.specs.declared.search.Stop.TheVariants as stop
use Rattle.derivations.specs.declared.search.Links.{Links}
use Rattle.derivations.specs.declared.search.Links.TheVariants as links
use Rattle.derivations.specs.declared.search.Visit.{Visit}
use Rattle.derivations.specs.declared.search.Visit.TheVariants as visit
use Rattle.derivations.specs.System.{System, after, chosen, events_of, tried, Status, Going, TooManyDerivations}
use Rattle.derivations.specs.System.{FoundAt, status_after, stream, partial}
use Rattle.derivations.specs.System as system
use Rattle.derivations.specs.Stack.{tree, rest, front}
use Rattle.cyc_basics.specs.Words.{Each}

-- so of each system that is followed
abbrev pub InEach : {R : Type 0} → (System R → Type 0) → (System R → Type 0) → Type 0
InEach {R} Follows P = (s : System R) → Follows s → P s

-- how the derivation d, whose last reason is a candidate, fares
abbrev pub FaresSo : {R : Type 0} → System R → List R → Tried → Type 0
FaresSo s d Admitted = (s.above d ≡ false) × (s.admitted d ≡ true)
FaresSo s d Refused = (s.above d ≡ false) × (s.admitted d ≡ false)
FaresSo s d TooManyStates = s.above d ≡ true

abbrev pub status_of : {R : Type 0} → Stop → List R → Status R
status_of stop.Found d = FoundAt d
status_of stop.TooManyDerivations d = TooManyDerivations
status_of stop.TooManyStates d = system.TooManyStates

-- the links were tried at d, after `count` counts
abbrev pub AreLinksTried : {R : Type 0} → System R → ℕ → ℕ → List R → List R → Links R → Type 0
AreLinksTried s most count d all (links.Stopped stop) = status_after s most count
    (flat_map (λ r. tried s (after d r)) all) ≡ status_of stop d
AreLinksTried s most count d all (links.Tried admitted c) =
    (status_after s most count (flat_map (λ r. tried s (after d r)) all) ≡ Going c) × (c < most)
    × (admitted.items ≡ filter (λ r. s.admitted (after d r)) all)

-- the same of two lists of reasons may be followed at d within depth e
abbrev pub FitAlike : {R : Type 0} → System R → ℕ → List R → List R → List R → Type 0
FitAlike s e d rs rs' = filter (s.fits e d) rs ≡ filter (s.fits e d) rs'

-- d' is d and the reason, where it was followed, and else d
abbrev pub IsFollowed : {R : Type 0} → List R → R → List R → Bool → Type 0
IsFollowed d r d' followed = (followed ≡ true → d' ≡ after d r) × (followed ≡ false → d' ≡ d)

-- what is left of the offers of a frame, where this is left of rules
abbrev pub offers_in : {R C : Type 0} → (C → List R) → Frame R C → List R
offers_in left (frame.Links links) = links.items
offers_in left (frame.Rules rules) = left rules

-- the member d was visited within depth e, after `count` counts, and what is left of offers changed so
abbrev pub IsVisited : {R : Type 0} → System R → ℕ → ℕ → ℕ → List R → List (List R) → List (List R) → Visit → Type 0
IsVisited s most e count d old new (visit.Stopped stop) = status_after s most count (events_of s d) ≡ status_of stop d
IsVisited {R} s most e count d old new (visit.On c) =
    (status_after s most count (events_of s d) ≡ Going c) × (c < most) × (s.complete d ≡ false)
    × ((q : List R) × (new ≡ old ++ (q ∷ [])) × FitAlike s e d q (chosen s d))

-- the search goes on from a stack to the next member, or there is none
abbrev pub IsNext : {R : Type 0} → System R → ℕ → List R → List (List R) → List R → List (List R) → Bool → Type 0
IsNext s e d frames d' frames' more = rest s e d frames
    ≡ (if more then tree s e d' ++ rest s e (front d') frames' else [])

abbrev pub HasCounted : {R : Type 0} → ℕ → ℕ → Links R → Type 0
HasCounted count most (links.Stopped stop) = Unit {0}
HasCounted count most (links.Tried admitted c) = (count ≤ c) × (c < most)

abbrev pub HasMore : ℕ → ℕ → Visit → Type 0
HasMore count most (visit.Stopped stop) = Unit {0}
HasMore count most (visit.On c) = (count < c) × (c < most)

-- depth e was searched: it stopped at d, or it doesn't stop
abbrev pub IsDepthSearched : {R : Type 0} → System R → ℕ → ℕ → List R → Option Stop → Type 0
IsDepthSearched s most e d (Some stop) = status_after s most 0 (stream s (partial s e)) ≡ status_of stop d
IsDepthSearched s most e d None = (c : ℕ) × (status_after s most 0 (stream s (partial s e)) ≡ Going c)

-- so has each link and each rule, where this is left of the rules
abbrev pub AreOffered : {R C : Type 0} → (R → Type 0) → (C → List R) → Offers R C → Type 0
AreOffered P left o = Each P o.links.items × Each P (left o.rules)

abbrev pub AreLinksOffered : {R : Type 0} → (R → Type 0) → Links R → Type 0
AreLinksOffered P (links.Stopped stop) = Unit {0}
AreLinksOffered P (links.Tried admitted c) = Each P admitted.items

-- so has each offer of each list
abbrev pub AreFramesOffered : {R : Type 0} → (R → Type 0) → List (List R) → Type 0
AreFramesOffered P frames = Each (Each P) frames
