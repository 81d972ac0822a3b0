-- How much lists of base pairs are in size when one more is added.
use Rattle.std.proofs.Common.{◌≡◌, ◌↔◌, ◌⊎◌, inl, inr, ℕ, ◌+◌, ◌<◌, ◌≤◌, Bool, true, false, List, [], ◌∷◌, ◌++◌, arith}
use Rattle.std.proofs.Common.{sym, refl, ap, ◌∙◌, subst}
use Rattle.std.proofs.lemmas.List.Sums.{sum_by_push}
use Rattle.std.proofs.lemmas.Bool.{both_ways}
use Rattle.heap_formula.specs.Words.{OneOf}
use Rattle.pair_family.specs.BasePairs.{BasePair}
use Rattle.pair_family.specs.LargeCases.{size_of, sizes, HasMore}
use Rattle.pair_family.specs.Tables.{IsDistinct}
use Rattle.cyc_basics.specs.Words.{IsMember}
use Rattle.pair_family.proofs.Large.{more_imply}
use Rattle.pair_family.proofs.Lists.{in_append, at_each}
use Rattle.pair_family.specs.Labels.{Grows, HasRoom, IsAdded}

pub distinct_push : {X : Type 0} (xs : List X) (k : X) → IsDistinct xs → (¬ IsMember k xs) → IsDistinct (xs ++ (k ∷ []))
distinct_push [] k d n = ((λ m. m), tt)
distinct_push (x ∷ xs) k d n = (
  λ m. elim (in_append x xs (k ∷ []) m) [ inl i ↦ d.0 i | inr j ↦ elim j [ inl s ↦ n (inl (sym s)) | inr no' ↦ no' ] ],
  distinct_push xs k d.1 (λ m. n (inr m)),
)

module _ (old new : List BasePair) (room : ℕ) (k : BasePair) (distinct : IsDistinct old) where
  pub room_same : (b : Bool) → b ≡ false → IsAdded old new k b → HasRoom (room + sizes old) new room
  room_same true e a = absurd (both_ways true e refl)
  room_same false e a = subst (λ z. HasRoom (room + sizes old) z room) (sym a.1)
      (record { distinct = distinct; room = refl })

  module _ (b : Bool) (yes : b ≡ true) (added : IsAdded old new k b) where
    is_added : (¬ IsMember k old) × (new ≡ old ++ (k ∷ []))
    is_added = subst (IsAdded old new k) yes added

    size_then : sizes new ≡ sizes old + size_of k
    size_then = ap sizes is_added.1 ∙ sum_by_push size_of old k

    distinct_then : IsDistinct new
    distinct_then = subst IsDistinct (sym is_added.1) (distinct_push old k distinct is_added.0)

    pub room_more : (left : ℕ) → left + size_of k ≡ room → HasRoom (room + sizes old) new left
    room_more left e = record { distinct = distinct_then; room = let s = size_then in omega arith }

    pub many_then : room < size_of k → HasMore (room + sizes old) (λ d. IsMember d old ⊎ (d ≡ k))
    many_then l = record {
      list = new;
      distinct = distinct_then;
      are = at_each (λ d. IsMember d old ⊎ (d ≡ k)) new
          (λ d m. elim (in_append d old (k ∷ []) (subst (IsMember d) is_added.1 m)) [
            | inl i ↦ inl i
            | inr j ↦ elim j [ inl s ↦ inr (sym s) | inr no' ↦ absurd no' ]
          ]);
      more = let e = size_then in omega arith;
    }

-- the first of two steps leaves so much room, so the second begins with that
pub room_then : (most : ℕ) (now new : List BasePair) (room left : ℕ) → HasRoom most now room
    → HasRoom (room + sizes now) new left → HasRoom most new left
room_then most now new room left a b = subst (λ z. HasRoom z new left) a.room b

pub room_few : (most left : ℕ) (old new : List BasePair) → old ≡ [] → HasRoom (most + sizes old) new left
    → sizes new ≤ most
room_few most left old new e r = let s = ap sizes e in let t = r.room in omega arith

-- a step over a list passes the limit, so all do
pub many_step : (most : ℕ) (old now : List BasePair) (G : BasePair → BasePair → Type 0) (c : BasePair)
    (rest all : List BasePair) → ((d : BasePair) → (IsMember d now ⊎ OneOf (G d) (c ∷ rest))
    ↔ (IsMember d old ⊎ OneOf (G d) all)) → HasMore most (λ d. IsMember d now ⊎ G d c)
    → HasMore most (λ d. IsMember d old ⊎ OneOf (G d) all)
many_step most old now G c rest all inv h =
    more_imply most (λ d. IsMember d now ⊎ G d c) (λ d. IsMember d old ⊎ OneOf (G d) all)
    (λ d o. elim o [ inl m ↦ (inv d).0 (inl m) | inr g ↦ (inv d).0 (inr (inl g)) ]) h

-- from nothing
pub many_new : (most : ℕ) (old : List BasePair) (P : BasePair → Type 0) → old ≡ []
    → HasMore (most + sizes old) (λ d. IsMember d old ⊎ P d) → HasMore most P
many_new most old P e h =
    let s : most + sizes old ≡ most = (let z = ap sizes e in omega arith) in
    subst (λ n. HasMore n P) s (more_imply (most + sizes old) (λ d. IsMember d old ⊎ P d) P
    (λ d o. elim o [ inl m ↦ absurd (subst (IsMember d) e m) | inr p ↦ p ]) h)

pub distinct_none : (bs : List BasePair) → bs ≡ [] → IsDistinct bs
distinct_none bs e = subst IsDistinct (sym e) tt

pub alone : (old new : List BasePair) (k : BasePair) → old ≡ [] → Grows old new (λ d. d ≡ k) → (d : BasePair)
    → IsMember d new ↔ (d ≡ k)
alone old new k e g d =
    (λ m. elim ((g d).0 m) [ inl i ↦ absurd (subst (IsMember d) e i) | inr s ↦ s ], λ s. (g d).1 (inr s))
