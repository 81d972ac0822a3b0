-- What the tests mean.
use Rattle.std.proofs.Common.{◌≡◌, ◌⊎◌, ◌↔◌, ℕ, Bool, true, false, ◌||◌, List, [], ◌∷◌, refl, ap, subst, inl, inr}
use Rattle.std.specs.Prelude.{nat_eq}
use Rattle.std.proofs.lemmas.Bool.Decides.{Decides-eqb}
use Rattle.heap_formula.specs.declared.terms.Term.{Term}
use Rattle.heap_formula.specs.declared.terms.Term.TheVariants.{Nil, Univ, Exist}
use Rattle.heap_formula.specs.declared.atoms.Pure.{Pure}
use Rattle.heap_formula.specs.declared.atoms.Pure.TheVariants.{Eq, Neq}
use Rattle.heap_formula.specs.declared.atoms.Spatial.{Spatial}
use Rattle.heap_formula.specs.declared.atoms.Spatial.TheVariants.{Cell, Pred}
use Rattle.heap_formula.specs.Words.{Each}
use Rattle.heap_formula.specs.Closedness.{InPure, IsUniversal, IsUniversalSpatial}
use Rattle.rule_table.specs.RuleLink.{EachPair, mirror_pure, HasPure, FollowsFrom, AreEquated, IsMatch}
use Rattle.rule_table.specs.Tests.{same_term, same_terms, same_pure, same_spatial, is_universal, are_universal}
use Rattle.rule_table.specs.Tests.{is_universal_pure, is_universal_spatial, has_pure, is_trivial, follows, equated}
use Rattle.rule_table.specs.LinkTable.{all_equated, matches}
use Rattle.std.proofs.lemmas.Bool.{and_from, and_parts}
use Rattle.cyc_basics.proofs.Tests.{bool_same}

pub either : (p q : Bool) → p || q ≡ true → (p ≡ true) ⊎ (q ≡ true)
either true q e = inl refl
either false q e = inr e

pub same_term_is : (t u : Term) → same_term t u ≡ true → t ≡ u
same_term_is Nil Nil e = refl
same_term_is Nil (Univ n) e = cc
same_term_is Nil (Exist n) e = cc
same_term_is (Univ m) Nil e = cc
same_term_is (Univ m) (Univ n) e = ap Univ ((Decides-eqb m n).0 e)
same_term_is (Univ m) (Exist n) e = cc
same_term_is (Exist m) Nil e = cc
same_term_is (Exist m) (Univ n) e = cc
same_term_is (Exist m) (Exist n) e = ap Exist ((Decides-eqb m n).0 e)

pub same_terms_are : (ts us : List Term) → same_terms ts us ≡ true → ts ≡ us
same_terms_are [] [] e = refl
same_terms_are [] (u ∷ us) e = cc
same_terms_are (t ∷ ts) [] e = cc
same_terms_are (t ∷ ts) (u ∷ us) e =
    let b = and_parts (same_term t u) (same_terms ts us) e in λ i. same_term_is t u b.0 i ∷ same_terms_are ts us b.1 i

pub same_pure_is : (x y : Pure) → same_pure x y ≡ true → x ≡ y
same_pure_is (Eq t u) (Eq v w) e =
    let b = and_parts (same_term t v) (same_term u w) e in λ i. Eq (same_term_is t v b.0 i) (same_term_is u w b.1 i)
same_pure_is (Neq t u) (Neq v w) e =
    let b = and_parts (same_term t v) (same_term u w) e in λ i. Neq (same_term_is t v b.0 i) (same_term_is u w b.1 i)
same_pure_is (Eq t u) (Neq v w) e = cc
same_pure_is (Neq t u) (Eq v w) e = cc

pub same_spatial_is : (x y : Spatial) → same_spatial x y ≡ true → x ≡ y
same_spatial_is (Cell t ts) (Cell u us) e =
    let b = and_parts (same_term t u) (same_terms ts us) e in
    λ i. Cell (same_term_is t u b.0 i) (same_terms_are ts us b.1 i)
same_spatial_is (Pred p ts) (Pred q us) e =
    let b = and_parts (nat_eq p q) (same_terms ts us) e in
    λ i. Pred ((Decides-eqb p q).0 b.0 i) (same_terms_are ts us b.1 i)
same_spatial_is (Cell t ts) (Pred q us) e = cc
same_spatial_is (Pred p ts) (Cell u us) e = cc

pub universal_is : (t : Term) → is_universal t ≡ true → IsUniversal t
universal_is Nil e = tt
universal_is (Univ n) e = tt
universal_is (Exist n) e = cc

pub universals_are : (ts : List Term) → are_universal ts ≡ true → Each IsUniversal ts
universals_are [] e = tt
universals_are (t ∷ ts) e =
    let b = and_parts (is_universal t) (are_universal ts) e in (universal_is t b.0, universals_are ts b.1)

pub universal_pure_is : (x : Pure) → is_universal_pure x ≡ true → InPure IsUniversal x
universal_pure_is (Eq t u) e = let b = and_parts (is_universal t) (is_universal u) e in
    (universal_is t b.0, universal_is u b.1)
universal_pure_is (Neq t u) e = let b = and_parts (is_universal t) (is_universal u) e in
    (universal_is t b.0, universal_is u b.1)

pub universal_spatial_is : (x : Spatial) → is_universal_spatial x ≡ true → IsUniversalSpatial x
universal_spatial_is (Cell t ts) e =
    let b = and_parts (is_universal t) (are_universal ts) e in (universal_is t b.0, universals_are ts b.1)
universal_spatial_is (Pred p ts) e = universals_are ts e

pub has_pure_is : (ys : List Pure) (x : Pure) → has_pure ys x ≡ true → HasPure ys x
has_pure_is [] x e = cc
has_pure_is (y ∷ ys) x e =
    elim (either (same_pure y x || same_pure y (mirror_pure x)) (has_pure ys x) e) [
      | inl h ↦ elim (either (same_pure y x) (same_pure y (mirror_pure x)) h) [
        | inl p ↦ inl (inl (same_pure_is y x p))
        | inr p ↦ inl (inr (same_pure_is y (mirror_pure x) p))
      ]
      | inr r ↦ inr (has_pure_is ys x r)
    ]

trivial_is : (x : Pure) → is_trivial x ≡ true → (t : Term) × (x ≡ Eq t t)
trivial_is (Eq t u) e = (u, λ i. Eq (same_term_is t u e i) u)
trivial_is (Neq t u) e = cc

pub follows_is : (pures : List Pure) (x : Pure) → follows pures x ≡ true → FollowsFrom pures x
follows_is pures x e =
    elim (either (is_trivial x) (has_pure pures x) e) [
      | inl h ↦ inl (trivial_is x h)
      | inr r ↦ inr (has_pure_is pures x r)
    ]

pub equated_is : (pures : List Pure) (t u : Term) → equated pures t u ≡ true → AreEquated pures t u
equated_is pures t u e =
    elim (either (same_term t u) (has_pure pures (Eq t u)) e) [
      | inl h ↦ inl (same_term_is t u h)
      | inr r ↦ inr (has_pure_is pures (Eq t u) r)
    ]

pub all_equated_are : (pures : List Pure) (ts us : List Term) → all_equated pures ts us ≡ true
    → EachPair (AreEquated pures) ts us
all_equated_are pures [] [] e = tt
all_equated_are pures [] (u ∷ us) e = cc
all_equated_are pures (t ∷ ts) [] e = cc
all_equated_are pures (t ∷ ts) (u ∷ us) e =
    let b = and_parts (equated pures t u) (all_equated pures ts us) e in
    (equated_is pures t u b.0, all_equated_are pures ts us b.1)

pub matches_is : (pures : List Pure) (x y : Spatial) → matches pures x y ≡ true → IsMatch pures x y
matches_is pures (Cell t ts) (Cell u us) e =
    let b = and_parts (equated pures t u) (all_equated pures ts us) e in
    (equated_is pures t u b.0, all_equated_are pures ts us b.1)
matches_is pures (Pred p ts) (Pred q us) e =
    let b = and_parts (nat_eq p q) (all_equated pures ts us) e in
    ((Decides-eqb p q).0 b.0, all_equated_are pures ts us b.1)
matches_is pures (Cell t ts) (Pred q us) e = cc
matches_is pures (Pred p ts) (Cell u us) e = cc

-- ---- back: equal atoms pass the tests

nat_itself : (n : ℕ) → nat_eq n n ≡ true
nat_itself n = (Decides-eqb n n).1 refl

pub same_term_self : (t : Term) → same_term t t ≡ true
same_term_self Nil = refl
same_term_self (Univ n) = nat_itself n
same_term_self (Exist n) = nat_itself n

pub same_terms_self : (ts : List Term) → same_terms ts ts ≡ true
same_terms_self [] = refl
same_terms_self (t ∷ ts) = and_from (same_term t t) (same_terms ts ts) (same_term_self t) (same_terms_self ts)

pub same_spatial_self : (x : Spatial) → same_spatial x x ≡ true
same_spatial_self (Cell t ts) = and_from (same_term t t) (same_terms ts ts) (same_term_self t) (same_terms_self ts)
same_spatial_self (Pred p ts) = and_from (nat_eq p p) (same_terms ts ts) (nat_itself p) (same_terms_self ts)

pub decided_spatial : (r : Bool) (x y : Spatial) → ((r ≡ true) ↔ (x ≡ y)) → r ≡ same_spatial x y
decided_spatial r x y d =
    bool_same r (same_spatial x y) (λ e. subst (λ z. same_spatial x z ≡ true) (d.0 e) (same_spatial_self x))
    (λ e. d.1 (same_spatial_is x y e))
