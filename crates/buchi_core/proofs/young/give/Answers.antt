-- One mask loses the positions.
use Rattle.std.proofs.Common.{ℕ, ◌≡◌, ◌-◌, ◌&&◌, not, Option, refl, sym, subst, arith, set, get_or, bit_and}
use Rattle.arrayvec.specs.ArrayVec.{with_items}
use Rattle.buchi_core.specs.Forest.{same_parent}
use Rattle.buchi_core.specs.declared.young.Young.{Young}
use Rattle.cyc_basics.specs.Bits.{is_one}
use Rattle.buchi_core.specs.Young.{left_of}
use Rattle.buchi_core.proofs.Left.{give_none, give_written}
use Rattle.buchi_core.proofs.young.give.Goals as goal

pub returns-in-None-clause-left : goal.returns-in-None-clause-left
returns-in-None-clause-left c o q l =
    let new : Young = record {
      entries = c.args.young.now.entries;
      left = c.args.young.now.left;
      top = bit_and c.args.young.now.top (18446744073709551615 - c.args.set);
    } in
    subst (λ (u : Option ℕ). is_one (left_of new o) q
    ≡ (is_one (left_of c.args.young.now o) q && not (same_parent u o && is_one c.args.set q))) (sym c.in-None.is)
    (give_none c.args.young.now new c.args.set (omega (arith, c.ranges.set)) refl refl o q l)

pub returns-then-place-len-clause-left : goal.returns-then-place-len-clause-left
returns-then-place-len-clause-left c o q l =
    let new : Young = record {
      entries = c.args.young.now.entries;
      left = with_items c.args.young.now.left (set c.deref_mut.result.now c.in-Some.p
          (bit_and (get_or c.deref_mut.result.now c.in-Some.p 0) (18446744073709551615 - c.args.set)));
      top = c.args.young.now.top;
    } in
    subst (λ (u : Option ℕ). is_one (left_of new o) q
    ≡ (is_one (left_of c.args.young.now o) q && not (same_parent u o && is_one c.args.set q))) (sym c.in-Some.is)
    (give_written c.args.young.now new c.in-Some.p c.args.set c.deref_mut.result.now (omega (arith, c.ranges.set)) refl
    c.deref_mut.ensures.value refl (omega (arith, c.len.ensures.value, c.if-place-len.true)) o q l)
