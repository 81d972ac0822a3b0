-- The tests for equal states decide.
use Rattle.std.proofs.Common.{◌≡◌, ℕ, true, false, Option, Some, None, nat_eq, refl, ap, eqb-true, eq-eqb}
use Rattle.std.proofs.lemmas.Bool.{and_parts, both_ways, and_from}
use Rattle.std.specs.Cmp.Lexicographic.{pointwise}
use Rattle.buchi_core.specs.Forest.{Entry}
use Rattle.buchi_inclusion.specs.Product.{State}
use Rattle.buchi_inclusion.specs.Equal.{same_option, same_entry, same_state}
use Rattle.cyc_basics.proofs.Tests.{pointwise_is, pointwise_self}

option_tells : (a b : Option ℕ) → same_option a b ≡ true → a ≡ b
option_tells None None h = refl
option_tells None (Some y) h = absurd (both_ways false refl h)
option_tells (Some x) None h = absurd (both_ways false refl h)
option_tells (Some x) (Some y) h = ap Some (eqb-true x y h)

option_reflects : (a : Option ℕ) → same_option a a ≡ true
option_reflects None = refl
option_reflects (Some x) = eq-eqb x x refl

entry_tells : (a b : Entry) → same_entry a b ≡ true → a ≡ b
entry_tells a b h =
    let p = and_parts (same_option a.parent b.parent) (pointwise nat_eq a.set b.set) h in
    let x = option_tells a.parent b.parent p.0 in
    let y = pointwise_is nat_eq eqb-true a.set b.set p.1 in
    λ i. record { parent = x i; set = y i }

entry_reflects : (a : Entry) → same_entry a a ≡ true
entry_reflects a = and_from (same_option a.parent a.parent) (pointwise nat_eq a.set a.set) (option_reflects a.parent)
    (pointwise_self nat_eq (λ n. eq-eqb n n refl) a.set)

pub state_tells : (s t : State) → same_state s t ≡ true → s ≡ t
state_tells s t h =
    let p = and_parts (nat_eq s.node t.node) (pointwise same_entry s.forest t.forest) h in
    let x = eqb-true s.node t.node p.0 in
    let y = pointwise_is same_entry entry_tells s.forest t.forest p.1 in
    λ i. record { node = x i; forest = y i }

pub state_reflects : (s : State) → same_state s s ≡ true
state_reflects s = and_from (nat_eq s.node s.node) (pointwise same_entry s.forest s.forest) (eq-eqb s.node s.node refl)
    (pointwise_self same_entry entry_reflects s.forest)
