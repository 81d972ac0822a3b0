-- A member is visited.
use Rattle.std.proofs.Common.{ℕ, suc, ◌≡◌, ◌≢◌, false, List, [], ◌∷◌, ◌++◌, length, filter, refl, sym, ap, subst, ◌∙◌}
use Rattle.std.proofs.Common.{Global, eq-eqb}
use Rattle.std.specs.Prelude.{◌==◌}
use Rattle.std.specs.declared.collections.VecDeque.{VecDeque}
use Rattle.std.proofs.lemmas.Bool.{both_ways}
use Rattle.derivations.specs.System.{System, after, tried, chosen, events_of, Status, Going, status_after}
use Rattle.derivations.specs.declared.search.Visit.TheVariants as visit
use Rattle.derivations.specs.declared.search.Links.{Links}
use Rattle.derivations.specs.declared.search.Links.TheVariants as links
use Rattle.derivations.specs.Engine.{AreLinksTried, FitAlike, IsVisited}
use Rattle.derivations.proofs.Trying.{trials, not_eq}

rules_chosen : {R : Type 0} (s : System R) (d admitted : List R)
    → admitted ≡ filter (λ r. s.admitted (after d r)) (s.candidates d) → admitted ≡ [] → s.rules d ≡ chosen s d
rules_chosen s d admitted a none = rw (sym a ∙ none) refl

pub chosen_rules : {R : Type 0} (s : System R) (e : ℕ) (d admitted rules : List R)
    → admitted ≡ filter (λ r. s.admitted (after d r)) (s.candidates d) → admitted ≡ []
    → FitAlike s e d rules (s.rules d) → FitAlike s e d rules (chosen s d)
chosen_rules s e d admitted rules a none r = r ∙ ap (filter (s.fits e d)) (rules_chosen s d admitted a none)

links_chosen : {R : Type 0} (s : System R) (d admitted : List R)
    → admitted ≡ filter (λ r. s.admitted (after d r)) (s.candidates d) → admitted ≢ [] → admitted ≡ chosen s d
links_chosen s d [] a some = absurd (some refl)
links_chosen s d (x ∷ xs) a some = rw (sym a) refl

pub chosen_links : {R : Type 0} (s : System R) (e : ℕ) (d admitted : List R)
    → admitted ≡ filter (λ r. s.admitted (after d r)) (s.candidates d) → admitted ≢ []
    → FitAlike s e d admitted (chosen s d)
chosen_links s e d admitted a some = ap (filter (s.fits e d)) (links_chosen s d admitted a some)

-- the events of an open member are one count and those of its candidates
pub open_events : {R : Type 0} (s : System R) (most count n : ℕ) (d all : List R) (st : Status R) → n ≡ suc count
    → n ≢ most → s.complete d ≡ false → all ≡ s.candidates d →
    status_after s most n (trials s d all) ≡ st → status_after s most count (events_of s d) ≡ st
open_events s most count n d all st nn ne unfinished aa h =
    rw (not_eq (suc count) most (subst (λ k. k ≢ most) nn ne), unfinished)
    (subst (λ k. status_after s most k (trials s d (s.candidates d)) ≡ st) nn
    (subst (λ rs. status_after s most n (trials s d rs) ≡ st) aa h))

pub some_items : {X : Type 0} (xs : List X) (n : ℕ) → length xs ≡ n → (n == 0) ≡ false → xs ≢ []
some_items xs n l h e = both_ways (n == 0) h (eq-eqb n 0 (sym l ∙ ap length e))

-- an open member's links were tried, and offers went on the stack
pub visited_on : {R : Type 0} (s : System R) (most e count n c : ℕ) (d all : List R) (old new : List (List R))
    (q : List R) (l : Links R) (admitted : VecDeque R Global) →
    n ≡ suc count → n ≢ most → s.complete d ≡ false → all ≡ s.candidates d → AreLinksTried s most n d all l
    → l ≡ links.Tried admitted c → new ≡ old ++ (q ∷ []) →
    (admitted.items ≡ filter (λ r. s.admitted (after d r)) (s.candidates d) → FitAlike s e d q (chosen s d))
    → IsVisited s most e count d old new (visit.On c)
visited_on s most e count n c d all old new q l admitted nn ne unfinished aa tried ll pushed choice =
    let t : AreLinksTried s most n d all (links.Tried admitted c) = subst (AreLinksTried s most n d all) ll tried in (
      open_events s most count n d all (Going c) nn ne unfinished aa t.0,
      t.1,
      unfinished,
      (q, pushed, choice (subst (λ rs. admitted.items ≡ filter (λ r. s.admitted (after d r)) rs) aa t.2)),
    )
