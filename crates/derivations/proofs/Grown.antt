-- The nodes of a graph with an edge more, a leaf more, and a link more.
use Rattle.std.proofs.Common.{◌≡◌, ◌≢◌, ℕ, zero, suc, ◌+◌, arith, List, [], ◌∷◌, ◌++◌, Option, Some, None, slice_get}
use Rattle.std.proofs.Common.{length, length-append, refl, ap, ◌∙◌}
use Rattle.trace_pairs.specs.Graph.{Node, Edge, Pair}
use Rattle.buchi_core.proofs.Lists.{get_append_right}
use Rattle.buchi_inclusion.specs.Leaf.{add_edge, with_leaf}
use Rattle.derivations.specs.Tableau.{linked}
pub use Rattle.buchi_inclusion.proofs.Leaf.{length-add}
use Rattle.cyc_basics.proofs.Places.{get_append_left}

-- a node with these edges more
abbrev pub with_edges : Node → List Edge → Node
with_edges n es = record { positions = n.positions; edges = n.edges ++ es }

pub add_at : (p : ℕ) (e : Edge) (g : List Node) (n : Node) → slice_get g p ≡ Some n
    → slice_get (add_edge p e g) p ≡ Some (with_edges n (e ∷ []))
add_at p e [] n h = absurd (let f : None ≡ Some n = h in cc)
add_at zero e (m ∷ g) n h =
    let f : Some m ≡ Some n = h in
    let f' : m ≡ n = cc in ap (λ (x : Node). Some (with_edges x (e ∷ []))) f'
add_at (suc p) e (m ∷ g) n h = add_at p e g n h

pub add_other : (p u : ℕ) (e : Edge) (g : List Node) → u ≢ p → slice_get (add_edge p e g) u ≡ slice_get g u
add_other p u e [] ne = refl
add_other zero zero e (m ∷ g) ne = absurd (ne refl)
add_other zero (suc u) e (m ∷ g) ne = refl
add_other (suc p) zero e (m ∷ g) ne = refl
add_other (suc p) (suc u) e (m ∷ g) ne = add_other p u e g (λ h. ne (ap suc h))

-- a leaf that node p leads to
pub length-leaf : (g : List Node) (p : ℕ) (pairs : List Pair) (positions : List ℕ)
    → length (with_leaf g p pairs positions) ≡ length g + 1
length-leaf g p pairs positions =
    length-append (add_edge p (record { target = length g; pairs = pairs }) g)
    (record { positions = positions; edges = [] } ∷ []) ∙ ap (λ n. n + 1)
    (length-add p (record { target = length g; pairs = pairs }) g)

pub leaf_at : (g : List Node) (p : ℕ) (pairs : List Pair) (positions : List ℕ) (n : Node) → slice_get g p ≡ Some n →
    slice_get (with_leaf g p pairs positions) p ≡ Some (with_edges n (record { target = length g; pairs = pairs } ∷ []))
leaf_at g p pairs positions n h =
    get_append_left (add_edge p (record { target = length g; pairs = pairs }) g)
    (record { positions = positions; edges = [] } ∷ []) p
    (with_edges n (record { target = length g; pairs = pairs } ∷ []))
    (add_at p (record { target = length g; pairs = pairs }) g n h)

pub leaf_other : (g : List Node) (p : ℕ) (pairs : List Pair) (positions : List ℕ) (u : ℕ) (n : Node) → u ≢ p
    → slice_get g u ≡ Some n → slice_get (with_leaf g p pairs positions) u ≡ Some n
leaf_other g p pairs positions u n ne h =
    get_append_left (add_edge p (record { target = length g; pairs = pairs }) g)
    (record { positions = positions; edges = [] } ∷ []) u n
    (add_other p u (record { target = length g; pairs = pairs }) g ne ∙ h)

pub leaf_new : (g : List Node) (p : ℕ) (pairs : List Pair) (positions : List ℕ)
    → slice_get (with_leaf g p pairs positions) (length g) ≡ Some (record { positions = positions; edges = [] })
leaf_new g p pairs positions =
    get_append_right (add_edge p (record { target = length g; pairs = pairs }) g)
    (record { positions = positions; edges = [] } ∷ []) 0 (length g)
    (omega (arith, length-add p (record { target = length g; pairs = pairs }) g))

-- the edge of a link, if there is one
abbrev pub link_edges : Option Edge → List Edge
link_edges None = []
link_edges (Some e) = e ∷ []

pub length-linked : (v : ℕ) (g : List Node) (o : Option Edge) → length (linked v g o) ≡ length g
length-linked v g None = refl
length-linked v g (Some e) = length-add v e g

pub linked_other : (v u : ℕ) (g : List Node) (o : Option Edge) → u ≢ v → slice_get (linked v g o) u ≡ slice_get g u
linked_other v u g None ne = refl
linked_other v u g (Some e) ne = add_other v u e g ne

pub linked_new : (v : ℕ) (g : List Node) (o : Option Edge) (positions : List ℕ)
    → slice_get g v ≡ Some (record { positions = positions; edges = [] }) →
    slice_get (linked v g o) v ≡ Some (record { positions = positions; edges = link_edges o })
linked_new v g None positions h = h
linked_new v g (Some e) positions h = add_at v e g (record { positions = positions; edges = [] }) h
