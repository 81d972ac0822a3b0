use Rattle.std.proofs.Common.{◌∙◌, ◌<◌, length, sym, subst}
use Rattle.std.specs.Prelude.{vec_len}
use Rattle.std.proofs.lemmas.Bool.{eqb-true}
use Rattle.std.proofs.lemmas.List.{nil_from_length}
use Rattle.pair_family.specs.JoinOrder.{cheapest}
use Rattle.sat_pairs.proofs.Joins.{joined_more, joined_none}
use Rattle.sat_pairs.proofs.orders.joined.Goals as goal

pub loop-ordered-init : goal.loop-ordered-init
loop-ordered-init c = λ out j. j

pub loop-ordered-preserved : goal.loop-ordered-preserved
loop-ordered-preserved c = λ out j. c.loop-ordered.invariant out
    (joined_more c.args.k c.loop-ordered.ordered.items c.push.new.self.items c.loop-ordered.left.items
    c.remove-atom.new.self.items out c.cheapest-place.result c.remove-atom.result
    (c.cheapest-place.ensures.place ∙ (λ z. cheapest c.args.k (c.deref.ensures.value z)
    (c.deref-in-loop-ordered.ensures.value z))) (subst (λ z. c.cheapest-place.result < length z)
    c.deref-in-loop-ordered.ensures.value c.cheapest-place.ensures.within)
    c.remove-atom.ensures.value c.remove-atom.ensures.by_index.2 c.in_ok-push.ensures.items j)

pub returns : goal.returns
returns c =
    let left = c.loop-ordered.left in
    c.loop-ordered.invariant c.loop-ordered.ordered.items
    (joined_none c.args.k c.loop-ordered.ordered.items left.items
    (nil_from_length left.items (sym left.ok.0 ∙ eqb-true (vec_len left) 0
    (sym c.is_empty.ensures ∙ c.loop-ordered-test.false))))
