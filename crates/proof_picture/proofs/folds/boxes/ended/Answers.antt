use Rattle.std.proofs.Common.{◌≡◌, ◌++◌, List, map, true, None, ap, ◌∙◌}
use Rattle.proof_picture.specs.declared.arrows.Arrow.{Arrow}
use Rattle.proof_picture.specs.declared.piece.Piece.{Piece}
use Rattle.proof_picture.specs.Arrows.{drawn_of}
use Rattle.proof_picture.specs.Pieces.{LabelPart, piece_of}
use Rattle.proof_picture.specs.Boxes.{uses}
use Rattle.proof_picture.specs.Texts.{reason_from}
use Rattle.proof_picture.proofs.Turns.{whole}
use Rattle.proof_picture.proofs.folds.boxes.ended.Goals as goal

pub returns : goal.returns
returns c =
    let own = c.args.node.now.arrows.items in
    let pieces = c.args.node.now.label.pieces.items in
    let front = map piece_of c.args.text.items in
    let text : map piece_of c.add_reason.new.to.items ≡ front ++ map piece_of pieces =
    c.in_ok-add_reason.ensures
    ∙ ap (λ (ps : List Piece). front ++ reason_from true (map piece_of ps)) c.as_slice.ensures.value
    ∙ ap (λ (ps : List LabelPart). front ++ ps) (whole (map piece_of pieces)) in
    let arrows : map drawn_of c.in_ok-arrows.arrows.items ≡ map drawn_of own =
    c.in_ok-arrows.ensures ∙ ap (λ (bs : List Arrow). map drawn_of bs) c.as_slice-2.ensures.value in
    let used : c.uses.result ≡ uses c.args.entries.now c.args.root (map drawn_of own) =
    c.uses.ensures ∙ ap (λ (bs : List Arrow). uses c.args.entries.now c.args.root (map drawn_of bs))
    c.as_slice-3.ensures.value in
    λ i. record {
      first = c.args.v;
      last = c.args.at;
      count = None;
      uses_lemma = used i;
      label = text i;
      fault = c.args.node.now.fault;
      arrows = arrows i;
    }
