-- The nodes of a graph before a goal, one after another.
use Rattle.std.proofs.Common.{◌≡◌, ℕ, zero, suc, ◌+◌, ◌-◌, add-one, ◌<◌, Bool, List, [], ◌∷◌, ◌++◌, length}
use Rattle.std.proofs.Common.{append_assoc, Some, None, slice_get, take, drop, arith, sym, refl, ap, ◌∙◌}
use Rattle.std.proofs.Common.{if◌then◌else◌}
use Rattle.cyc_basics.proofs.Places.{get_within}
use Rattle.proof_graph.specs.declared.graph_nodes.NodeView.{NodeView}
use Rattle.proof_graph.specs.declared.nodes.GraphNode.{GraphNode}
use Rattle.proof_graph.specs.NodeViews.{IsViewed}
use Rattle.search_moves.specs.Graphs.{fills, parent_among}
use Rattle.search_moves.specs.Places.{each_from}

lower : {X : Type 0} (xs : List X) (n v : ℕ) (x : X) → v < n → slice_get xs v ≡ Some x
    → drop v (take n xs) ≡ x ∷ drop (suc v) (take n xs)
lower [] n v x l at = absurd (let e : None ≡ Some x = at in cc)
lower (y ∷ ys) zero v x l at = absurd (omega arith)
lower (y ∷ ys) (suc n) zero x l at = let e : Some y ≡ Some x = at in let e' : y ≡ x = cc in ap (λ z. z ∷ take n ys) e'
lower (y ∷ ys) (suc n) (suc v) x l at = lower ys n v x (omega arith) at

-- what the node at place v gives is given
pub lower_given : {X Y : Type 0} (f : ℕ → X → List Y) (xs : List X) (n v : ℕ) (items items' all : List Y) → v < n
    → n < length xs → ((x : X) → slice_get xs v ≡ Some x → items' ≡ items ++ f v x)
    → items ++ each_from f v (drop v (take n xs)) ≡ all → items' ++ each_from f (v + 1) (drop (v + 1) (take n xs)) ≡ all
lower_given f xs n v items items' all l m given so_far =
    let there = get_within xs v (omega arith) in
    let rest = each_from f (suc v) (drop (suc v) (take n xs)) in
    let cut : drop v (take n xs) ≡ there.0 ∷ drop (suc v) (take n xs) = lower xs n v there.0 l there.1 in
    let before : items ++ (f v there.0 ++ rest) ≡ all = rw cut at so_far in
    rw (add-one, given there.0 there.1, append_assoc items (f v there.0) rest) before

-- as many as there are members
pub one_each : {X Y : Type 0} (f : ℕ → X → Y) (k : ℕ) (xs : List X)
    → length (each_from (λ v x. f v x ∷ []) k xs) ≡ length xs
one_each f k [] = refl
one_each f k (x ∷ xs) = ap suc (one_each f (suc k) xs)

-- ---- the node above

last_one : (n : ℕ) → 0 < n → n ≡ suc (n - 1)
last_one n h = omega arith

above_by : (nodes : List GraphNode) (n v : ℕ) (node : GraphNode) (b : Bool) → slice_get nodes n ≡ Some node
    → fills v node.premises ≡ b → parent_among nodes (suc n) v ≡ (if b then n else parent_among nodes n v)
above_by nodes n v node b at is = rw (at, is) refl

-- whether node v proves a premise of node n - 1 tells whether that is above it
pub above : (nodes : List GraphNode) (n v : ℕ) (view : NodeView) (b : Bool) → 0 < n → IsViewed nodes (n - 1) view
    → fills v view.premises.now ≡ b → parent_among nodes n v ≡ (if b then n - 1 else parent_among nodes (n - 1) v)
above nodes n v view b some seen is =
    ap (λ k. parent_among nodes k v) (last_one n some)
    ∙ above_by nodes (n - 1) v seen.node b seen.is_node (ap (fills v) (sym seen.premises) ∙ is)
