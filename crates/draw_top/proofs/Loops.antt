-- Attributes that are added, and one turn of the loop over the boxes.
use Rattle.std.proofs.Common.{◌≡◌, suc, ◌+◌, List, [], ◌∷◌, ◌++◌, map, length, length-append, append_assoc, sym, ap}
use Rattle.std.proofs.Common.{◌∙◌, arith}
use Rattle.std.proofs.lemmas.List.{map-append}
use Rattle.draw_top.specs.declared.graph.Attribute.{Attribute}
use Rattle.draw_top.specs.declared.graph.Vertex.{Vertex}
use Rattle.draw_top.specs.declared.graph.Arrow.{Arrow}
use Rattle.draw_top.specs.Graphs.{Set, set_of, node_of, edge_of}
use Rattle.proof_picture.specs.declared.picture.NodeBox.{NodeBox}
use Rattle.proof_picture.specs.Pictures.{Box, box_of}
use Rattle.draw_top.specs.Drawings.{arrow_edges, box_edges, box_node, box_nodes}

-- two members were added
pub two_pushed : {A B : Type 0} (view : A → B) (old mid new : List A) (a b : A) (x y : B) → mid ≡ old ++ a ∷ []
    → new ≡ mid ++ b ∷ [] → view a ≡ x → view b ≡ y → map view new ≡ map view old ++ x ∷ y ∷ []
two_pushed view old mid new a b x y first second one other =
    ap (map view) (second ∙ ap (λ s. s ++ b ∷ []) first ∙ append_assoc old (a ∷ []) (b ∷ []))
    ∙ map-append view old (a ∷ b ∷ [])
    ∙ (λ i. map view old ++ one i ∷ other i ∷ [])

pub two_more : (old mid new : List Attribute) (a b : Attribute) (x y : Set) → mid ≡ old ++ a ∷ [] → new ≡ mid ++ b ∷ []
    → set_of a ≡ x → set_of b ≡ y → map set_of new ≡ map set_of old ++ x ∷ y ∷ []
two_more = two_pushed set_of

-- a box was drawn, and the rest is still to be
pub one_box : (vertices pushed : List Vertex) (arrows added : List Arrow) (vertex : Vertex) (b : NodeBox)
    (rest next all : List NodeBox) (every : List Box) →
    rest ≡ b ∷ next → pushed ≡ vertices ++ vertex ∷ []
    → node_of vertex ≡ box_node (length vertices) (box_of b).label b.fault
    → map edge_of added ≡ map edge_of arrows ++ arrow_edges (length vertices) (box_of b).arrows
    → (length vertices + length rest ≡ length all)
    × (map node_of vertices ++ box_nodes (length vertices) (map box_of rest) ≡ box_nodes 0 every)
    × (map edge_of arrows ++ box_edges (length vertices) (map box_of rest) ≡ box_edges 0 every)
    → (length pushed + length next ≡ length all) × (map node_of pushed ++ box_nodes (length pushed) (map box_of next)
    ≡ box_nodes 0 every) × (map edge_of added ++ box_edges (length pushed) (map box_of next) ≡ box_edges 0 every)
one_box vertices pushed arrows added vertex b rest next all every is push drawn more so_far =
    let size : length pushed ≡ suc (length vertices) = ap length push ∙ length-append vertices (vertex ∷ [])
    ∙ omega arith in (
      omega (arith, size, ap length is, so_far.0),
      (λ i. map node_of (push i) ++ box_nodes (size i) (map box_of next))
          ∙ ap (λ ns. ns ++ box_nodes (suc (length vertices)) (map box_of next))
          (map-append node_of vertices (vertex ∷ []))
          ∙ append_assoc (map node_of vertices) (node_of vertex ∷ [])
          (box_nodes (suc (length vertices)) (map box_of next))
          ∙ (λ i. map node_of vertices ++ drawn i ∷ box_nodes (suc (length vertices)) (map box_of next))
          ∙ ap (λ (bs : List NodeBox). map node_of vertices ++ box_nodes (length vertices) (map box_of bs)) (sym is)
          ∙ so_far.1,
      (λ i. more i ++ box_edges (size i) (map box_of next))
          ∙ append_assoc (map edge_of arrows) (arrow_edges (length vertices) (box_of b).arrows)
          (box_edges (suc (length vertices)) (map box_of next))
          ∙ ap (λ (bs : List NodeBox). map edge_of arrows ++ box_edges (length vertices) (map box_of bs)) (sym is)
          ∙ so_far.2,
    )
