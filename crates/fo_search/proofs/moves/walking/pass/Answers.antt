use Rattle.std.proofs.Common.{◌≡◌, ◌+◌, ◌-◌, ◌<◌, ◌≤◌, ◌∷◌, suc, length, reverse, take, arith, sym, ap, ◌∙◌}
use Rattle.std.specs.Prelude.{slice_set}
use Rattle.std.proofs.lemmas.Bool.Decides.{nat_tests}
use Rattle.fo_search.proofs.Beginnings.{last_place, left_onward, behind_upward, nodes_onward, nodes_upward}
use Rattle.fo_search.proofs.moves.walking.pass.Goals as goal

pub returns-then-saturating_sub-gt1-clause-behind : goal.returns-then-saturating_sub-gt1-clause-behind
returns-then-saturating_sub-gt1-clause-behind c test vs e =
    let w = c.loop-walk.walk in
    let p = c.index-place.result.now in
    let ok = w.places.ok.0 in
    let long : length w.places.items ≡ suc (c.len-last.result - 1) = grind
    (arith, nat_tests, c.loop-walk-test.true, c.is_empty.ensures, c.len-last.ensures, ok) in
    let last = last_place w.places.items (c.len-last.result - 1) p p long c.index-place.ensures in
    let less : suc p < length vs = omega (arith, e, c.saturating_sub.ensures, c.if-saturating_sub-gt1.true) in
    let one : p + 1 ≡ suc p = omega arith in
    left_onward test vs w.is_over c.args.walk.now.is_over w.count c.args.walk.now.count
    (slice_set w.places.items (c.len-last.result - 1) (p + 1))
    w.places.items c.args.walk.now.places.items p last.below c.loop-walk.invariant.going c.requires
    c.loop-walk.invariant.count
    (last.others (p + 1) ∙ ap (λ v. v ∷ last.below) one) last.are less (c.loop-walk.invariant.behind test vs e)

pub returns-then-saturating_sub-gt1-clause-less : goal.returns-then-saturating_sub-gt1-clause-less
returns-then-saturating_sub-gt1-clause-less c =
    let w = c.loop-walk.walk in
    let p = c.index-place.result.now in
    let ok = w.places.ok.0 in
    let long : length w.places.items ≡ suc (c.len-last.result - 1) = grind
    (arith, nat_tests, c.loop-walk-test.true, c.is_empty.ensures, c.len-last.ensures, ok) in
    let last = last_place w.places.items (c.len-last.result - 1) p p long c.index-place.ensures in
    let less : suc p < c.args.values = omega (arith, c.saturating_sub.ensures, c.if-saturating_sub-gt1.true) in
    let one : p + 1 ≡ suc p = omega arith in
    nodes_onward c.args.values w.is_over c.args.walk.now.is_over w.count c.args.walk.now.count
    (slice_set w.places.items (c.len-last.result - 1) (p + 1))
    w.places.items c.args.walk.now.places.items p last.below c.loop-walk.invariant.going c.requires
    c.loop-walk.invariant.count
    (last.others (p + 1) ∙ ap (λ v. v ∷ last.below) one) last.are less c.loop-walk.invariant.nodes

pub loop-walk-preserved : goal.loop-walk-preserved
loop-walk-preserved c =
    let w = c.loop-walk.walk in
    let p = c.index-place.result.now in
    let ok = w.places.ok.0 in
    let long : length w.places.items ≡ suc (c.len-last.result - 1) = grind
    (arith, nat_tests, c.loop-walk-test.true, c.is_empty.ensures, c.len-last.ensures, ok) in
    let last = last_place w.places.items (c.len-last.result - 1) p p long c.index-place.ensures in
    let most : c.args.values ≤ suc p = omega (arith, c.saturating_sub.ensures, c.if-saturating_sub-gt1.false) in
    let rest : reverse c.pop.new.self.items ≡ last.below = ap reverse
    (c.pop.ensures.rest ∙ ap (λ k. take (k - 1) w.places.items) (sym c.len-last.ensures)) ∙ last.rest in
    record {
      going = c.loop-walk.invariant.going;
      count = c.loop-walk.invariant.count;
      behind = λ test vs e.
          behind_upward test vs c.args.walk.now.count w.places.items c.pop.new.self.items _ p last.below last.are rest
          (omega (arith, e, most)) (c.loop-walk.invariant.behind test vs e);
      nodes = nodes_upward c.args.values c.args.walk.now.count w.places.items c.pop.new.self.items _ p last.below
          last.are rest most c.loop-walk.invariant.nodes;
    }
