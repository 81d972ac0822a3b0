-- What is found is the first complete member of the least depth that has one.
use Rattle.std.proofs.Common.{ℕ, zero, suc, ◌≡◌, ◌==◌, ◌⊎◌, inl, inr, true, false, List, [], ◌∷◌, Some, None, arith}
use Rattle.std.proofs.Common.{refl, sym, ap, subst, ◌∙◌}
use Rattle.std.specs.Prelude.{find}
use Rattle.std.proofs.lemmas.Bool.{cases_Bool, cases_eq}
use Rattle.derivations.specs.System.{System, after, events_of, Event, Status, Going, TooManyDerivations, TooManyStates}
use Rattle.derivations.specs.System.{FoundAt, status_after, stream, partial, Outcome, IsNotFound, IsFound}
use Rattle.derivations.specs.System.{HasTooManyDerivations, HasTooManyStates, search_from, stopped_or}
use Rattle.derivations.specs.Firsts.{FirstFound}
use Rattle.derivations.proofs.Going.{resumed, status_append}
use Rattle.derivations.proofs.Trying.{trials}

-- where a status comes from
abbrev pub IsNoFound : {R : Type 0} → Status R → Type 0
IsNoFound (Going c) = Unit {0}
IsNoFound TooManyDerivations = Unit {0}
IsNoFound TooManyStates = Unit {0}
IsNoFound (FoundAt d) = ⊥

trials_find_none : {R : Type 0} (s : System R) (most c : ℕ) (d : List R) (rs : List R)
    → IsNoFound (status_after s most c (trials s d rs))
trials_find_none s most c d [] = tt
trials_find_none s most c d (r ∷ rs) =
    elim (cases_Bool (s.above (after d r))) [
      | inl high ↦ rw high tt
      | inr low ↦
          elim (cases_Bool (s.admitted (after d r))) [
            | inl good ↦ rw (low, good) (trials_find_none s most c d rs)
            | inr bad ↦
                elim (cases_Bool (suc c == most)) [
                  | inl full ↦ rw (low, bad) (rw full tt)
                  | inr more ↦ rw (low, bad) (rw more (trials_find_none s most (suc c) d rs))
                ]
          ]
    ]

-- a member that isn't complete finds nothing
open_finds_none : {R : Type 0} (s : System R) (most c : ℕ) (d : List R) → s.complete d ≡ false
    → IsNoFound (status_after s most c (events_of s d))
open_finds_none s most c d h =
    elim (cases_Bool (suc c == most)) [
      | inl full ↦ rw full tt
      | inr more ↦ rw (more, h) (trials_find_none s most (suc c) d (s.candidates d))
    ]

-- what a complete member gives
record CompleteGives {R : Type 0} (s : System R) (d : List R) (st : Status R) : Type 0 where
  going : (c : ℕ) → st ≡ Going c → ⊥
  found : (x : List R) → st ≡ FoundAt x → d ≡ x
  few : (x : List R) → st ≡ FoundAt x → s.above d ≡ false

complete_gives : {R : Type 0} (s : System R) (most c : ℕ) (d : List R) → s.complete d ≡ true
    → CompleteGives s d (status_after s most c (events_of s d))
complete_gives s most c d h =
    elim (cases_Bool (suc c == most)) [
      | inl full ↦ rw full (record { going = λ k e. cc; found = λ x e. absurd cc; few = λ x e. absurd cc })
      | inr more ↦
          elim (cases_Bool (s.above d)) [
            | inl high ↦ rw (more, h) (rw high (record {
              going = λ k e. cc;
              found = λ x e. absurd cc;
              few = λ x e. absurd cc;
            }))
            | inr low ↦ rw (more, h) (rw low (record { going = λ k e. cc; found = λ x e. cc; few = λ x e. low }))
          ]
    ]

-- what goes on went on at first
resumed_going : {R : Type 0} (s : System R) (most : ℕ) (st : Status R) (es : List (Event R)) (c : ℕ)
    → resumed s most st es ≡ Going c → (k : ℕ) × (st ≡ Going k) × (status_after s most k es ≡ Going c)
resumed_going s most (Going k) es c h = (k, refl, h)
resumed_going s most TooManyDerivations es c h = absurd (let e : TooManyDerivations ≡ Going c = h in cc)
resumed_going s most TooManyStates es c h = absurd (let e : TooManyStates ≡ Going c = h in cc)
resumed_going s most (FoundAt d) es c h = absurd (let e : FoundAt d ≡ Going c = h in cc)

resumed_found : {R : Type 0} (s : System R) (most : ℕ) (st : Status R) (es : List (Event R)) (d : List R)
    → resumed s most st es ≡ FoundAt d → (st ≡ FoundAt d) ⊎ ((k : ℕ) × (st ≡ Going k)
    × (status_after s most k es ≡ FoundAt d))
resumed_found s most (Going k) es d h = inr (k, refl, h)
resumed_found s most TooManyDerivations es d h = absurd (let e : TooManyDerivations ≡ FoundAt d = h in cc)
resumed_found s most TooManyStates es d h = absurd (let e : TooManyStates ≡ FoundAt d = h in cc)
resumed_found s most (FoundAt x) es d h = inl h

pub going_none : {R : Type 0} (s : System R) (most c k : ℕ) (ds : List (List R))
    → status_after s most c (stream s ds) ≡ Going k → find s.complete ds ≡ None
going_none s most c k [] h = refl
going_none s most c k (d ∷ ds) h =
    let g = resumed_going s most (status_after s most c (events_of s d)) (stream s ds) k
    (sym (status_append s most c (events_of s d) (stream s ds)) ∙ h) in
    elim (cases_Bool (s.complete d)) [
      | inl yes' ↦ absurd ((complete_gives s most c d yes').going g.0 g.1)
      | inr no' ↦ rw no' (going_none s most g.0 k ds g.2)
    ]

pub found_first : {R : Type 0} (s : System R) (most c : ℕ) (d : List R) (ds : List (List R))
    → status_after s most c (stream s ds) ≡ FoundAt d → find s.complete ds ≡ Some d
found_first s most c d [] h = absurd (let e : Going c ≡ FoundAt d = h in cc)
found_first s most c d (m ∷ ds) h =
    let g = resumed_found s most (status_after s most c (events_of s m)) (stream s ds) d
    (sym (status_append s most c (events_of s m) (stream s ds)) ∙ h) in
    elim (cases_Bool (s.complete m)) [
      | inl yes' ↦
          (elim g [
            | inl now ↦ rw yes' (ap Some ((complete_gives s most c m yes').found d now))
            | inr later ↦ absurd ((complete_gives s most c m yes').going later.0 later.1)
          ])
      | inr no' ↦
          (elim g [
            | inl now ↦ absurd (subst IsNoFound now (open_finds_none s most c m no'))
            | inr later ↦ rw no' (found_first s most later.0 d ds later.2)
          ])
    ]

found_few : {R : Type 0} (s : System R) (most c : ℕ) (d : List R) (ds : List (List R))
    → status_after s most c (stream s ds) ≡ FoundAt d → s.above d ≡ false
found_few s most c d [] h = absurd (let e : Going c ≡ FoundAt d = h in cc)
found_few s most c d (m ∷ ds) h =
    let g = resumed_found s most (status_after s most c (events_of s m)) (stream s ds) d
    (sym (status_append s most c (events_of s m) (stream s ds)) ∙ h) in
    elim (cases_Bool (s.complete m)) [
      | inl yes' ↦
          (elim g [
            | inl now ↦ (let x = complete_gives s most c m yes' in
                subst (λ y. s.above y ≡ false) (x.found d now) (x.few d now))
            | inr later ↦ absurd ((complete_gives s most c m yes').going later.0 later.1)
          ])
      | inr no' ↦
          (elim g [
            | inl now ↦ absurd (subst IsNoFound now (open_finds_none s most c m no'))
            | inr later ↦ found_few s most later.0 d ds later.2
          ])
    ]

record FoundCase {R : Type 0} (st : Status R) (next : Outcome R) (d : List R) : Type 0 where
  cases : (st ≡ FoundAt d) ⊎ ((k : ℕ) × (st ≡ Going k) × (next ≡ IsFound d))

found_case : {R : Type 0} (st : Status R) (next : Outcome R) (d : List R) → stopped_or st next ≡ IsFound d
    → FoundCase st next d
found_case (Going k) next d h = record { cases = inr (k, refl, h) }
found_case TooManyDerivations next d h = absurd (let e : HasTooManyDerivations ≡ IsFound d = h in cc)
found_case TooManyStates next d h = absurd (let e : HasTooManyStates ≡ IsFound d = h in cc)
found_case (FoundAt x) next d h = record {
  cases = inl (let e : IsFound x ≡ IsFound d = h in let f : x ≡ d = cc in
      ap FoundAt f);
}

pub first_found : {R : Type 0} (s : System R) (most e n : ℕ) (d : List R) → search_from s most e n ≡ IsFound d
    → FirstFound s e n d
first_found s most e zero d h = absurd (let x : IsNotFound ≡ IsFound d = h in cc)
first_found s most e (suc n) d h =
    elim ((found_case (status_after s most 0 (stream s (partial s e))) (search_from s most (suc e) n) d h).cases) [
      | inl now ↦ record {
        depth = e;
        low = omega arith;
        high = omega arith;
        first = found_first s most 0 d (partial s e) now;
        few = found_few s most 0 d (partial s e) now;
        none = λ k a b. absurd (omega arith);
      }
      | inr later ↦
          (let r = first_found s most (suc e) n d later.2 in
          record {
            depth = r.depth;
            low = omega (arith, r.low);
            high = omega (arith, r.high);
            first = r.first;
            few = r.few;
            none = λ k a b. elim (cases_eq k e) [
              | inl same ↦ subst (λ x. find s.complete (partial s x) ≡ None) (sym same)
                  (going_none s most 0 later.0 (partial s e) later.1)
              | inr other ↦ r.none k (omega arith) b
            ];
          })
    ]
