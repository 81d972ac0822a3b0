-- A leaf brings no lasso that doesn't progress.
use Rattle.std.proofs.Common.{◌≡◌, ◌≢◌, ℕ, zero, suc, ◌<◌, ◌⊎◌, inl, inr, arith, Bool, List, [], ◌∷◌, ◌++◌, Some, None}
use Rattle.std.proofs.Common.{slice_get, length, sym, refl, ap, subst}
use Rattle.trace_pairs.specs.Graph.{Node, Edge, Pair, IsEdge}
use Rattle.trace_pairs.specs.declared.lasso.Step.{Step}
use Rattle.trace_pairs.specs.Lasso.{IsPath, Trace, turns, AllProgress}
use Rattle.buchi_core.proofs.Lists.{get_append_cases}
use Rattle.buchi_inclusion.specs.Leaf.{add_edge, with_leaf}
use Rattle.cyc_basics.proofs.Places.{get_append_left}

record LeafAdded (g g' : List Node) (v : ℕ) : Type 0 where
  old : (u k : ℕ) (e : Edge) → IsEdge g' u k e → IsEdge g u k e ⊎ (e.target ≡ v)
  none : (k : ℕ) (e : Edge) → IsEdge g' v k e → ⊥
  keep : (u k : ℕ) (e : Edge) → IsEdge g u k e → IsEdge g' u k e

path_old : (g g' : List Node) (v : ℕ) → LeafAdded g g' v → (u w : ℕ) (steps : List Step) → w ≢ v → IsPath g' u steps w
    → IsPath g u steps w
path_old g g' v a u w [] ne p = p
path_old g g' v a u w (s ∷ steps) ne p =
    elim (a.old u s.edge p.1 p.2) [
      | inl old ↦ (p.0, p.1, old, path_old g g' v a p.1.target w steps ne p.3)
      | inr leaf ↦ absurd (ends steps (subst (λ x. IsPath g' x steps w) leaf p.3))
    ]
  where
    ends : (steps' : List Step) → IsPath g' v steps' w → ⊥
    ends [] q = ne (sym q)
    ends (s' ∷ more) q = a.none s'.edge q.1 q.2

trace_new : (g g' : List Node) (v : ℕ) → LeafAdded g g' v → (steps : List Step) (q r : ℕ) (progress : Bool)
    → Trace g steps q r progress → Trace g' steps q r progress
trace_new g g' v a [] q r progress t = t
trace_new g g' v a (s ∷ steps) q r progress t =
    let j = t.3 in (
      t.0,
      t.1,
      t.2,
      record {
        e = j.e;
        is_edge = a.keep s.node s.edge j.e j.is_edge;
        k = j.k;
        pair = j.pair;
        is_pair = j.is_pair;
        old_is = j.old_is;
        new_is = j.new_is;
        progress_is = j.progress_is;
      },
      trace_new g g' v a steps t.0 r t.2 t.4,
      t.5,
    )

leaf_keeps : (g g' : List Node) (v : ℕ) → LeafAdded g g' v → AllProgress g → AllProgress g'
leaf_keeps g g' v a all l is =
    let ne : is.first ≢ v = λ e. starts l.cycle is.first e is.cycle is.taken in
    let r = all l (record {
      first = is.first;
      stem = path_old g g' v a 0 is.first l.stem ne is.stem;
      cycle = path_old g g' v a is.first is.first l.cycle ne is.cycle;
      taken = is.taken;
    }) in
    record {
      position = r.position;
      k = r.k;
      trace = trace_new g g' v a (turns (suc r.k) l.cycle)
          r.position r.position _ r.trace;
    }
  where
    starts : (steps : List Step) (u : ℕ) → u ≡ v → IsPath g' u steps u → 0 < length steps → ⊥
    starts [] u e p h = omega arith
    starts (s ∷ steps) u e p h = a.none s.edge p.1 (subst (λ x. IsEdge g' x s.edge p.1) e p.2)

pub length-add : (p : ℕ) (e : Edge) (g : List Node) → length (add_edge p e g) ≡ length g
length-add p e [] = refl
length-add zero e (n ∷ nodes) = refl
length-add (suc p) e (n ∷ nodes) = ap suc (length-add p e nodes)

-- an edge of the grown graph is an old one or the new one
edge_added : (p : ℕ) (e : Edge) (g : List Node) (u : ℕ) (n' : Node) (k : ℕ) (x : Edge)
    → slice_get (add_edge p e g) u ≡ Some n' → slice_get n'.edges k ≡ Some x → IsEdge g u k x ⊎ (x ≡ e)
edge_added p e [] u n' k x h i = absurd (let f : None ≡ Some n' = h in cc)
edge_added zero e (n ∷ nodes) zero n' k x h i =
    let f : Some (record { positions = n.positions; edges = n.edges ++ (e ∷ []) }) ≡ Some n' = h in
    let f' : record { positions = n.positions; edges = n.edges ++ (e ∷ []) } ≡ n' = cc in
    let i' : slice_get (n.edges ++ (e ∷ [])) k ≡ Some x = subst (λ (y : Node). slice_get y.edges k ≡ Some x) (sym f') i
    in
    elim (get_append_cases n.edges (e ∷ []) k x i') [
      | inl a ↦ inl (record { node = n; is_node = refl; is_edge = a.1 })
      | inr b ↦ inr (sym (one b.0 b.2))
    ]
  where
    one : (j : ℕ) → slice_get (e ∷ []) j ≡ Some x → e ≡ x
    one zero y = let z : Some e ≡ Some x = y in cc
    one (suc j) y = absurd (let z : None ≡ Some x = y in cc)
edge_added zero e (n ∷ nodes) (suc u) n' k x h i = inl (record { node = n'; is_node = h; is_edge = i })
edge_added (suc p) e (n ∷ nodes) zero n' k x h i = inl (record { node = n'; is_node = h; is_edge = i })
edge_added (suc p) e (n ∷ nodes) (suc u) n' k x h i =
    elim (edge_added p e nodes u n' k x h i) [
      | inl a ↦ inl (record
          { node = a.node; is_node = a.is_node; is_edge = a.is_edge })
      | inr b ↦ inr b
    ]

edge_kept : (p : ℕ) (e : Edge) (g : List Node) (u k : ℕ) (x : Edge) → IsEdge g u k x → IsEdge (add_edge p e g) u k x
edge_kept p e [] u k x h = h
edge_kept zero e (n ∷ nodes) zero k x h =
    let f : Some n ≡ Some h.node = h.is_node in
    let f' : h.node ≡ n = cc in
    record {
      node = record { positions = n.positions; edges = n.edges ++ (e ∷ []) };
      is_node = refl;
      is_edge = get_append_left n.edges (e ∷ []) k x (subst (λ (y : Node). slice_get y.edges k ≡ Some x) f' h.is_edge);
    }
edge_kept zero e (n ∷ nodes) (suc u) k x h = record { node = h.node; is_node = h.is_node; is_edge = h.is_edge }
edge_kept (suc p) e (n ∷ nodes) zero k x h = record { node = h.node; is_node = h.is_node; is_edge = h.is_edge }
edge_kept (suc p) e (n ∷ nodes) (suc u) k x h =
    let r = edge_kept p e nodes u k x (record { node = h.node; is_node = h.is_node; is_edge = h.is_edge }) in
    record { node = r.node; is_node = r.is_node; is_edge = r.is_edge }

leaf_added : (g : List Node) (p : ℕ) (pairs : List Pair) (positions : List ℕ)
    → LeafAdded g (with_leaf g p pairs positions) (length g)
leaf_added g p pairs positions = record {
  old = λ u k e h. elim (get_append_cases (add_edge p new' g) (leaf ∷ []) u h.node h.is_node) [
    | inl a ↦ (elim (edge_added p new' g u h.node k e a.1 h.is_edge)
        [ inl old ↦ inl old | inr same ↦ inr (ap (λ (x : Edge). x.target) same) ])
    | inr b ↦ absurd (no_edge b.0 h.node k e b.2 h.is_edge)
  ];
  none = λ k e h. elim (get_append_cases (add_edge p new' g) (leaf ∷ []) (length g) h.node h.is_node) [
    | inl a ↦ absurd (omega (arith, a.0, length-add p new' g))
    | inr b ↦ no_edge b.0 h.node k e b.2 h.is_edge
  ];
  keep = λ u k e h. (let r = edge_kept p new' g u k e h in record {
    node = r.node;
    is_node = get_append_left (add_edge p new' g) (leaf ∷ []) u r.node r.is_node;
    is_edge = r.is_edge;
  });
}
  where
    new' : Edge
    new' = record { target = length g; pairs = pairs }

    leaf : Node
    leaf = record { positions = positions; edges = [] }

    no_edge : (j : ℕ) (n : Node) (k : ℕ) (e : Edge) → slice_get (leaf ∷ []) j ≡ Some n → slice_get n.edges k ≡ Some e
        → ⊥
    no_edge zero n k e h i =
        let f : Some leaf ≡ Some n = h in
        let f' : leaf ≡ n = cc in
        let i' : None ≡ Some e = subst (λ (y : Node). slice_get y.edges k ≡ Some e) (sym f') i in cc
    no_edge (suc j) n k e h i = let f : None ≡ Some n = h in cc

pub leaf_progresses : (g : List Node) (p : ℕ) (pairs : List Pair) (positions : List ℕ) → AllProgress g
    → AllProgress (with_leaf g p pairs positions)
leaf_progresses g p pairs positions = leaf_keeps g (with_leaf g p pairs positions) (length g)
    (leaf_added g p pairs positions)
