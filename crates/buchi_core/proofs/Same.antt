-- Lists of entries are equal by `==` exactly where their plain data are.
use Rattle.std.proofs.Common.{◌≡◌, ℕ, ◌&&◌, List, [], ◌∷◌, true, false, Option, Some, None, refl, ap, subst, eqb-true}
use Rattle.std.proofs.Common.{nat_eq, arith}
use Rattle.std.proofs.lemmas.Bool.{and_parts, and_from, eq-eqb, both_ways}
use Rattle.std.specs.Option.{option_eq}
use Rattle.std.specs.Cmp.Lexicographic.{pointwise}
use Rattle.buchi_core.specs.Forest.{Entry as AgeEntry}
use Rattle.buchi_core.specs.declared.entry.Entry.{Entry}
use Rattle.buchi_core.specs.Mask.{set_mask}
use Rattle.buchi_core.specs.View.{members, entry_of, entries_of}
use Rattle.buchi_core.specs.Equality.{entry_eq}
use Rattle.buchi_core.proofs.Bits.{same_members}
use Rattle.buchi_core.proofs.TwoHalves.{mask_fits, low_same, high_same}

option_same : (x y : Option ℕ) → option_eq nat_eq x y ≡ true → x ≡ y
option_same None None h = refl
option_same None (Some y) h = absurd (both_ways false refl h)
option_same (Some x) None h = absurd (both_ways false refl h)
option_same (Some x) (Some y) h = ap Some (eqb-true x y h)

option_refl : (x : Option ℕ) → option_eq nat_eq x x ≡ true
option_refl None = refl
option_refl (Some x) = eq-eqb x x refl

entry_same : (x y : Entry) → entry_eq x y ≡ true → entry_of x ≡ entry_of y
entry_same x y h =
    let p = and_parts (option_eq nat_eq x.parent y.parent) (nat_eq x.low y.low && nat_eq x.high y.high) h in
    let s = and_parts (nat_eq x.low y.low) (nat_eq x.high y.high) p.1 in
    let a = option_same x.parent y.parent p.0 in
    let b : set_mask x ≡ set_mask y = omega (arith, eqb-true x.low y.low s.0, eqb-true x.high y.high s.1) in
    λ i. record { parent = a i; set = members (b i) }

entry_same_back : (x y : Entry) → entry_of x ≡ entry_of y → entry_eq x y ≡ true
entry_same_back x y e =
    let a : x.parent ≡ y.parent = ap (λ (z : AgeEntry). z.parent) e in
    let b : set_mask x ≡ set_mask y = same_members (set_mask x) (set_mask y) (mask_fits x) (mask_fits y)
    (ap (λ (z : AgeEntry). z.set) e) in
    and_from (option_eq nat_eq x.parent y.parent) (nat_eq x.low y.low && nat_eq x.high y.high)
    (subst (λ z. option_eq nat_eq x.parent z ≡ true) a (option_refl x.parent))
    (and_from (nat_eq x.low y.low) (nat_eq x.high y.high) (eq-eqb x.low y.low (low_same x y b))
    (eq-eqb x.high y.high (high_same x y b)))

pub all_same : (xs ys : List Entry) → pointwise entry_eq xs ys ≡ true → entries_of xs ≡ entries_of ys
all_same [] [] h = refl
all_same [] (y ∷ ys) h = absurd (both_ways false refl h)
all_same (x ∷ xs) [] h = absurd (both_ways false refl h)
all_same (x ∷ xs) (y ∷ ys) h =
    let p = and_parts (entry_eq x y) (pointwise entry_eq xs ys) h in
    let e = entry_same x y p.0 in
    let r = all_same xs ys p.1 in
    λ i. e i ∷ r i

pub all_same_back : (xs ys : List Entry) → entries_of xs ≡ entries_of ys → pointwise entry_eq xs ys ≡ true
all_same_back [] [] e = refl
all_same_back [] (y ∷ ys) e = absurd (let h : [] ≡ entry_of y ∷ entries_of ys = e in cc)
all_same_back (x ∷ xs) [] e = absurd (let h : entry_of x ∷ entries_of xs ≡ [] = e in cc)
all_same_back (x ∷ xs) (y ∷ ys) e =
    let w : entry_of x ∷ entries_of xs ≡ entry_of y ∷ entries_of ys = e in
    let here : entry_of x ≡ entry_of y = cc in
    let rest : entries_of xs ≡ entries_of ys = cc in
    and_from (entry_eq x y) (pointwise entry_eq xs ys) (entry_same_back x y here) (all_same_back xs ys rest)
