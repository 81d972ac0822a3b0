-- Where the ring runs through the graph, and how each edge of the graph goes on along it.
use Rattle.std.proofs.Common.{◌≡◌, ℕ, ◌+◌, ◌*◌, ◌<◌, ◌≤◌, ◌⊎◌, inl, inr, List, [], ◌∷◌, arith, Bool, true, false, cond}
use Rattle.std.proofs.Common.{Option, Some, None, slice_get, refl, ap, sym, subst}
use Rattle.std.specs.Prelude.{nat_eq}
use Rattle.std.proofs.lemmas.Bool.{cases_eq, ne_eqb, both_ways}
use Rattle.heap_formula.specs.Words.{Each}
use Rattle.trace_pairs.specs.Graph.{Node, Edge, IsEdge}
use Rattle.buchi_core.specs.Forest.{is_filled, next_forest, start}
use Rattle.ring_family.proofs.Blocks.{EachFrom, each_from, blocks_cases, in_block, at_last}
use Rattle.ring_family.proofs.Graphs.{edge, graph_block, graph_bud, ring_graph, graph_block_eight}
use Rattle.ring_family.proofs.Turning.{Turns}
use Rattle.heap_formula.proofs.AllMembers.{each_at}

-- the positions of a node, none if there is no node
abbrev pub places_in : Option Node → List ℕ
places_in None = []
places_in (Some n) = n.positions

abbrev pub places_at : ℕ → ℕ → List ℕ
places_at k v = places_in (slice_get (ring_graph k) v)

abbrev pub first_of_list : List ℕ → ℕ
first_of_list [] = 0
first_of_list (q ∷ qs) = q

-- the nodes on the ring have a position
abbrev pub on_ring : ℕ → ℕ → Bool
on_ring k v = is_filled (places_at k v)

-- and this is it
abbrev pub place_at : ℕ → ℕ → ℕ
place_at k v = first_of_list (places_at k v)

-- node 0 comes after the last node
abbrev pub rank : ℕ → ℕ → ℕ
rank k v = cond (nat_eq v 0) (8 * k + 1) v

module _ (k : ℕ) where
  pub graph_at : (m r v : ℕ) (x : Node) → m < k → v ≡ 8 * m + r → slice_get (graph_block m) r ≡ Some x
      → slice_get (ring_graph k) v ≡ Some x
  graph_at m r v x b e h = in_block graph_block graph_bud graph_block_eight 0 k v m r x (omega arith) (omega arith)
      (omega arith) h

  pub places_of : (m r v : ℕ) (x : Node) → m < k → v ≡ 8 * m + r → slice_get (graph_block m) r ≡ Some x
      → places_at k v ≡ x.positions
  places_of m r v x b e h = ap places_in (graph_at m r v x b e h)

  pub head_places : (m v : ℕ) → m ≤ k → v ≡ 8 * m → places_at k v ≡ 0 ∷ []
  head_places m v b e =
      elim (cases_eq m k) [
        | inl same ↦ ap places_in (at_last graph_block graph_bud graph_block_eight 0 k v (omega arith))
        | inr other ↦ places_of m 0 v _ (omega arith) (omega arith) refl
      ]

  -- an edge of the graph: along it the ring goes on, and each node's start becomes the next one's
  pub record GoodEdge (v : ℕ) (e : Edge) : Type 0 where
    pub turns : Turns (on_ring k) (place_at k) (rank k) v e
    pub starts : next_forest e.pairs (places_at k e.target) (start (places_at k v)) ≡ start (places_at k e.target)

  rank_of : (v : ℕ) → 0 < v → rank k v ≡ v
  rank_of v h = ap (λ b. cond b (8 * k + 1) v) (ne_eqb v 0 (λ e. omega (arith, e, h)))

  higher : (v t : ℕ) → 0 < v → v < t → rank k v < rank k t
  higher v t a b = omega (arith, rank_of v a, rank_of t (omega arith))

  -- no node of a leaf's edges is on the ring
  off_edge : (v t : ℕ) → 0 < v → v < t → places_at k v ≡ [] → places_at k t ≡ [] → GoodEdge v (edge t [])
  off_edge v t a b p q =
      record {
        turns = record {
          off = λ _. (ap is_filled q, higher v t a b);
          kept = λ on _. absurd (both_ways (on_ring k v) (ap is_filled p) on);
        };
        starts = rw (p, q);
      }

  leaving : (v t i : ℕ) → places_at k v ≡ i ∷ [] → places_at k t ≡ [] → GoodEdge v (edge t [])
  leaving v t i p q =
      record {
        turns = record {
          off = λ h. absurd (both_ways (on_ring k v) h (ap is_filled p));
          kept = λ _ on. absurd (both_ways (on_ring k t) (ap is_filled q) on);
        };
        starts = rw (p, q);
      }

  staying : (v t i j : ℕ) (progress : Bool) → places_at k v ≡ i ∷ [] → places_at k t ≡ j ∷ []
      → (progress ≡ true) ⊎ ((progress ≡ false) × (rank k v < rank k t)) →
      next_forest ((i, j, progress) ∷ []) (j ∷ []) (start (i ∷ [])) ≡ start (j ∷ [])
      → GoodEdge v (edge t ((i, j, progress) ∷ []))
  staying v t i j progress p q rises step =
      record {
        turns = record {
          off = λ h. absurd (both_ways (on_ring k v) h (ap is_filled p));
          kept = λ _ _. record {
            progress = progress;
            i = 0;
            is_pair = (let a : i ≡ place_at k v = sym (ap first_of_list p) in
                let b : j ≡ place_at k t = sym (ap first_of_list q) in λ d. Some (a d, b d, progress));
            rises = rises;
          };
        };
        starts = rw (p, q) step;
      }

  block_good : (m : ℕ) → m < k → EachFrom (λ r (x : Node). Each (GoodEdge (8 * m + r)) x.edges) 0 (graph_block m)
  block_good m b =
      let p = (λ (r : ℕ) (x : Node) (h : slice_get (graph_block m) r ≡ Some x). places_of m r
      (8 * m + r) x b refl h) in (
        (
          leaving (8 * m + 0) (8 * m + 1) 0 (p 0 _ refl) (p 1 _ refl),
          (staying (8 * m + 0) (8 * m + 5) 0 1 true (p 0 _ refl) (p 5 _ refl) (inl refl) refl, tt),
        ),
        (
          (off_edge (8 * m + 1) (8 * m + 2) (omega arith) (omega arith) (p 1 _ refl) (p 2 _ refl), tt),
          (
            (off_edge (8 * m + 2) (8 * m + 3) (omega arith) (omega arith) (p 2 _ refl) (p 3 _ refl), tt),
            (
              (off_edge (8 * m + 3) (8 * m + 4) (omega arith) (omega arith) (p 3 _ refl) (p 4 _ refl), tt),
              (
                tt,
                (
                  (
                    staying (8 * m + 5) (8 * m + 6) 1 1 false (p 5 _ refl) (p 6 _ refl)
                        (inr (refl, higher (8 * m + 5) (8 * m + 6) (omega arith) (omega arith))) refl,
                    tt,
                  ),
                  (
                    (
                      staying (8 * m + 6) (8 * m + 7) 1 1 false (p 6 _ refl) (p 7 _ refl)
                          (inr (refl, higher (8 * m + 6) (8 * m + 7) (omega arith) (omega arith))) refl,
                      tt,
                    ),
                    (
                      (
                        staying (8 * m + 7) (8 * m + 8) 1 0 false (p 7 _ refl)
                            (head_places (m + 1) (8 * m + 8) (omega arith) (omega arith))
                            (inr (refl, higher (8 * m + 7) (8 * m + 8) (omega arith) (omega arith))) refl,
                        tt,
                      ),
                      tt,
                    ),
                  ),
                ),
              ),
            ),
          ),
        ),
      )

  bud_good : 1 ≤ k → Each (GoodEdge (8 * k)) graph_bud.edges
  bud_good one = (
    staying (8 * k) 0 0 0 false (head_places k (8 * k) (omega arith) refl)
        (head_places 0 0 (omega arith) refl) (inr (refl, (let r = rank_of (8 * k) (omega arith) in omega (arith, r))))
        refl,
    tt,
  )

  pub all_good : 1 ≤ k → (v i : ℕ) (e : Edge) → IsEdge (ring_graph k) v i e → GoodEdge v e
  all_good one v i e h =
      elim (blocks_cases graph_block graph_bud graph_block_eight 0 k v h.node h.is_node) [
        | inl b ↦
            (let place : 8 * b.m + b.r ≡ v = omega (arith, b.place) in
            let each' = each_from (λ r (x : Node). Each (GoodEdge (8 * b.m + r)) x.edges) 0 b.r b.r (graph_block b.m)
            h.node (omega arith) b.is_x (block_good b.m (omega (arith, b.last))) in
            subst (λ w. GoodEdge w e) place (each_at (GoodEdge (8 * b.m + b.r)) h.node.edges i e h.is_edge each'))
        | inr l ↦
            subst (λ w. GoodEdge w e) (sym l.0) (each_at (GoodEdge (8 * k)) graph_bud.edges i e
            (subst (λ (x : Node). slice_get x.edges i ≡ Some e) (sym l.1) h.is_edge) (bud_good one))
      ]
