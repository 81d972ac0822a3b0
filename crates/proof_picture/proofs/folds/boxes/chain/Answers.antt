use Rattle.std.proofs.Common.{◌≡◌, ◌+◌, List, map, drop, Some, None, Option, sym, ap, subst, ◌∙◌}
use Rattle.std.specs.Prelude.{IfOk, slice_get}
use Rattle.proof_picture.specs.declared.arrows.Arrow.{Arrow}
use Rattle.proof_picture.specs.declared.picture.NodeBox.{NodeBox}
use Rattle.proof_picture.specs.Arrows.{drawn_of}
use Rattle.proof_picture.specs.Pieces.{LabelPart, piece_of}
use Rattle.proof_picture.specs.Pictures.{box_of}
use Rattle.proof_picture.specs.Boxes.{chain, chain_at, ended_box}
use Rattle.proof_picture.specs.Fates.{next_of}
use Rattle.proof_picture.specs.Shown.{Shown, shown_of}
use Rattle.proof_picture.proofs.Turns.{chain_ends, chain_goes, dropped, next_is}
use Rattle.proof_picture.proofs.folds.boxes.chain.Goals as goal

pub returns-in_default-box_at : goal.returns-in_default-box_at
returns-in_default-box_at c =
    let all = map box_of c.args.boxes.now in
    let b = box_of c.loop-more.node.now in
    let fates = c.args.fates.now.items in
    let text = map piece_of c.loop-more.text.items in
    let others = drop (c.loop-more._more-index + 1) c.args.boxes.now in
    let known : Some c.in-Some.next ≡ next_of fates c.loop-more.at b.arrows =
    c.in-Some.ensures ∙ ap (λ (bs : List Arrow). next_of fates c.loop-more.at (map drawn_of bs))
    c.as_slice.ensures.value in
    let none : slice_get c.args.boxes.now c.in-Some.next ≡ None = sym c.in_default-box_at.ensures in
    let gone = next_is c.args.boxes.now (next_of fates c.loop-more.at b.arrows) c.in-Some.next None known none in
    let is : ended_box c.args.entries.now c.args.root c.args.v text c.loop-more.at b
    ≡ chain_at all c.args.entries.now fates c.args.root c.args.v (box_of c.args.first.now) =
    sym (chain_ends (box_of c._more-item.result) (map box_of others)
    all c.args.entries.now fates c.args.root c.args.v text c.loop-more.at b gone)
    ∙ ap (λ (bs : List NodeBox). chain (map box_of bs)
    all c.args.entries.now fates c.args.root c.args.v text c.loop-more.at b)
    (sym (dropped c.args.boxes.now c.loop-more._more-index c._more-item.result c.loop-more-test.true
    c._more-item.is))
    ∙ c.loop-more.invariant in
    subst (λ (x : Shown). IfOk c.ended-in_default-box_at.result (λ s. shown_of s ≡ x))
    is c.ended-in_default-box_at.ensures

pub loop-more-preserved : goal.loop-more-preserved
loop-more-preserved c =
    let all = map box_of c.args.boxes.now in
    let b = box_of c.loop-more.node.now in
    let fates = c.args.fates.now.items in
    let text = map piece_of c.loop-more.text.items in
    let others = drop (c.loop-more._more-index + 1) c.args.boxes.now in
    let known : Some c.in-Some.next ≡ next_of fates c.loop-more.at b.arrows =
    c.in-Some.ensures ∙ ap (λ (bs : List Arrow). next_of fates c.loop-more.at (map drawn_of bs))
    c.as_slice.ensures.value in
    let some : slice_get c.args.boxes.now c.in-Some.next
    ≡ Some c.in-Some-box_at.behind.now = sym c.in-Some-box_at.ensures in
    let goes = next_is c.args.boxes.now (next_of fates c.loop-more.at b.arrows) c.in-Some.next
    (Some c.in-Some-box_at.behind.now) known some in
    ap (λ (t : List LabelPart). chain (map box_of others)
    all c.args.entries.now fates c.args.root c.args.v t c.in-Some.next (box_of c.in-Some-box_at.behind.now))
    c.in_ok-add_link.ensures
    ∙ sym (chain_goes (box_of c._more-item.result) (map box_of others)
    all c.args.entries.now fates c.args.root c.args.v text c.loop-more.at b c.in-Some.next
    (box_of c.in-Some-box_at.behind.now) goes)
    ∙ ap (λ (bs : List NodeBox). chain (map box_of bs)
    all c.args.entries.now fates c.args.root c.args.v text c.loop-more.at b)
    (sym (dropped c.args.boxes.now c.loop-more._more-index c._more-item.result c.loop-more-test.true
    c._more-item.is))
    ∙ c.loop-more.invariant
