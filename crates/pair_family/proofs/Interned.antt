-- Base pairs that are equal by `==` are one, and an interned base pair stands once.
use Rattle.std.proofs.Common.{◌≡◌, inl, inr, List, [], ◌∷◌, ◌++◌, Bool, true, false, not, if◌then◌else◌, sym, refl}
use Rattle.std.proofs.Common.{subst}
use Rattle.std.specs.List.{list_any}
use Rattle.std.proofs.lemmas.Bool.{or_cases, or_left, or_right, both_ways}
use Rattle.pair_family.specs.BasePairs.{BasePair}
use Rattle.cyc_basics.specs.Words.{IsMember}
use Rattle.pair_family.specs.Equality.{base_pair_eq, pair_same, pair_refl}
use Rattle.pair_family.specs.Labels.{IsAdded}

any_member : (k : BasePair) (ks : List BasePair) → list_any (base_pair_eq k) ks ≡ true → IsMember k ks
any_member k [] h = absurd (both_ways false refl h)
any_member k (x ∷ ks) h =
    elim (or_cases (base_pair_eq k x) (list_any (base_pair_eq k) ks) h)
    [ inl e ↦ inl (sym (pair_same k x e)) | inr r ↦ inr (any_member k ks r) ]

member_any : (k : BasePair) (ks : List BasePair) → IsMember k ks → list_any (base_pair_eq k) ks ≡ true
member_any k [] m = absurd m
member_any k (x ∷ ks) (inl s) = or_left (base_pair_eq k x) (list_any (base_pair_eq k) ks)
    (subst (λ z. base_pair_eq k z ≡ true) (sym s) (pair_refl k))
member_any k (x ∷ ks) (inr m) = or_right (base_pair_eq k x) (list_any (base_pair_eq k) ks) (member_any k ks m)

-- what `insert_full` says
pub added_is : (old new : List BasePair) (k : BasePair) (n : Bool) → n ≡ not (list_any (base_pair_eq k) old)
    → new ≡ (if list_any (base_pair_eq k) old then old else old ++ (k ∷ [])) → IsAdded old new k n
added_is old new k n f e = by (list_any (base_pair_eq k) old) refl f e
  where
    by : (b : Bool) → list_any (base_pair_eq k) old ≡ b → n ≡ not b → new ≡ (if b then old else old ++ (k ∷ []))
        → IsAdded old new k n
    by true a f e = subst (IsAdded old new k) (sym f) (any_member k old a, e)
    by false a f e = subst (IsAdded old new k) (sym f)
        ((λ m. both_ways (list_any (base_pair_eq k) old) a (member_any k old m)), e)
