-- Lists of base pairs that grow.
use Rattle.std.proofs.Common.{◌≡◌, ◌↔◌, ◌⊎◌, inl, inr, Bool, true, false, List, [], ◌∷◌, ◌++◌, sym, ap, ◌∙◌, subst}
use Rattle.std.proofs.lemmas.List.{append-nil, append_assoc}
use Rattle.heap_formula.specs.Words.{OneOf}
use Rattle.pair_family.specs.BasePairs.{BasePair}
use Rattle.cyc_basics.specs.Words.{IsMember}
use Rattle.pair_family.specs.Labels.{Extends, Grows, IsAdded}
use Rattle.pair_family.proofs.Lists.{in_left, in_right, in_append}

pub grows_new : (old new : List BasePair) (k : BasePair) → new ≡ old ++ (k ∷ []) → Grows old new (λ d. d ≡ k)
grows_new old new k e d = (
  λ m. elim (in_append d old (k ∷ []) (subst (IsMember d) e m)) [
    | inl i ↦ inl i
    | inr j ↦ elim j [ inl s ↦ inr (sym s) | inr no' ↦ absurd no' ]
  ],
  λ o. subst (IsMember d) (sym e) (elim o [
    | inl i ↦ in_left d old (k ∷ []) i
    | inr s ↦ in_right d old (k ∷ [])
        (inl (sym s))
  ]),
)

pub grows_there : (old new : List BasePair) (k : BasePair) → new ≡ old → IsMember k old → Grows old new (λ d. d ≡ k)
grows_there old new k e m d = (
  λ i. inl (subst (IsMember d) e i),
  λ o. subst (IsMember d) (sym e)
      (elim o [ inl i ↦ i | inr s ↦ subst (λ z. IsMember z old) (sym s) m ]),
)

-- nothing is given
pub grows_none : (old new : List BasePair) (G : BasePair → Type 0) → new ≡ old → ((d : BasePair) → G d → ⊥)
    → Grows old new G
grows_none old new G e n d = (
  λ i. inl (subst (IsMember d) e i),
  λ o.
      elim o [ inl i ↦ subst (IsMember d) (sym e) i | inr g ↦ absurd (n d g) ],
)

-- the same is given
pub grows_same : (old new : List BasePair) (G H : BasePair → Type 0) → ((d : BasePair) → G d ↔ H d) → Grows old new G
    → Grows old new H
grows_same old new G H s g d = (
  λ i. elim ((g d).0 i) [ inl a ↦ inl a | inr b ↦ inr ((s d).0 b) ],
  λ o.
      elim o [ inl a ↦ (g d).1 (inl a) | inr b ↦ (g d).1 (inr ((s d).1 b)) ],
)

-- a step over a list
pub grows_step : (now next : List BasePair) (G : BasePair → BasePair → Type 0) (c : BasePair) (rest : List BasePair)
    (T : BasePair → Type 0) → ((d : BasePair) → (IsMember d now ⊎ OneOf (G d) (c ∷ rest)) ↔ T d)
    → Grows now next (λ d. G d c) → (d : BasePair) → (IsMember d next ⊎ OneOf (G d) rest) ↔ T d
grows_step now next G c rest T inv g d = (
  λ o. elim o [
    | inl i ↦ elim ((g d).0 i) [ inl a ↦ (inv d).0 (inl a) | inr b ↦ (inv d).0 (inr (inl b)) ]
    | inr r ↦ (inv d).0 (inr (inr r))
  ],
  λ t. elim ((inv d).1 t) [
    | inl a ↦ inl ((g d).1 (inl a))
    | inr b ↦ elim b [ inl x ↦ inl ((g d).1 (inr x)) | inr y ↦ inr y ]
  ],
)

-- one member is given, under a condition that holds
pub grows_given : (old new : List BasePair) (k m : BasePair) (P : Type 0) → P × (k ≡ m) → Grows old new (λ d. d ≡ k)
    → Grows old new (λ d. P × (d ≡ m))
grows_given old new k m P b g = grows_same old new (λ d. d ≡ k) (λ d. P × (d ≡ m))
    (λ d. (λ e. (b.0, e ∙ b.1), λ x. x.1 ∙ sym b.1)) g

-- the list's end
pub grows_end : (old now : List BasePair) (G : BasePair → BasePair → Type 0) (all : List BasePair)
    → ((d : BasePair) → (IsMember d now ⊎ OneOf (G d) []) ↔ (IsMember d old ⊎ OneOf (G d) all))
    → Grows old now (λ d. OneOf (G d) all)
grows_end old now G all inv d = (λ i. (inv d).0 (inl i), λ o. elim ((inv d).1 o) [ inl i ↦ i | inr b ↦ absurd b ])

pub grows_added : (old new : List BasePair) (k : BasePair) (b : Bool) → IsAdded old new k b → Grows old new (λ d. d ≡ k)
grows_added old new k true a = grows_new old new k a.1
grows_added old new k false a = grows_there old new k a.1 a.0

-- ---- what was there stays in front

pub extends_self : (xs : List BasePair) → Extends xs xs
extends_self xs = ([], sym (append-nil xs))

pub extends_then : (xs ys zs : List BasePair) → Extends xs ys → Extends ys zs → Extends xs zs
extends_then xs ys zs a b = (a.0 ++ b.0, b.1 ∙ (ap (λ z. z ++ b.0) a.1 ∙ append_assoc xs a.0 b.0))

pub extends_added : (old new : List BasePair) (k : BasePair) (b : Bool) → IsAdded old new k b → Extends old new
extends_added old new k true a = (k ∷ [], a.1)
extends_added old new k false a = ([], a.1 ∙ sym (append-nil old))
