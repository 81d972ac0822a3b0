-- The product states of the ring: each node with its start.
use Rattle.std.proofs.Common.{◌≡◌, ℕ, zero, suc, ◌+◌, ◌*◌, ◌<◌, ◌≤◌, inl, inr, List, [], ◌∷◌, arith, Option, Some}
use Rattle.std.proofs.Common.{slice_get, length, refl, ap, sym, ◌∙◌, subst}
use Rattle.std.proofs.lemmas.Option.{slice_get_within}
use Rattle.trace_pairs.specs.Graph.{Node, Edge, IsEdge}
use Rattle.buchi_core.specs.Forest.{next_forest, event_of, start}
use Rattle.buchi_core.specs.declared.event.Event.{Event}
use Rattle.buchi_inclusion.specs.Product.{State, Moves, Run, Reachable}
use Rattle.buchi_inclusion.specs.Answers.{AreReached, HasAtMost, HasMoreThan}
use Rattle.buchi_inclusion.proofs.Descent.{reach_more}
use Rattle.ring_family.proofs.Blocks.{blocks_long, blocks_cases}
use Rattle.ring_family.proofs.Graphs.{graph_block, graph_bud, ring_graph, graph_block_eight}
use Rattle.ring_family.proofs.Places.{places_in, places_at, graph_at, all_good}
use Rattle.cyc_basics.proofs.Places.{get_within}

-- a node with its start
abbrev state_at : ℕ → ℕ → State
state_at k v = record { node = v; forest = start (places_at k v) }

-- the states of n nodes from v on
abbrev states_from : ℕ → ℕ → ℕ → List State
states_from k v zero = []
states_from k v (suc n) = state_at k v ∷ states_from k (suc v) n

states_long : (k v n : ℕ) → length (states_from k v n) ≡ n
states_long k v zero = refl
states_long k v (suc n) = omega (arith, states_long k (suc v) n)

in_states : (k v n i w : ℕ) → i < n → w ≡ v + i → slice_get (states_from k v n) i ≡ Some (state_at k w)
in_states k v zero i w b e = absurd (omega arith)
in_states k v (suc n) zero w b e = let same : v ≡ w = omega arith in ap (λ x. Some (state_at k x)) same
in_states k v (suc n) (suc i) w b e = in_states k (suc v) n i w (omega arith) (omega arith)

is_state : (k n i : ℕ) (s : State) → slice_get (states_from k 0 n) i ≡ Some s → (i < n) × (state_at k i ≡ s)
is_state k n i s h =
    let within = slice_get_within (states_from k 0 n) i s h in
    let below : i < n = omega (arith, within, states_long k 0 n) in
    let there = in_states k 0 n i i below (omega arith) in (below, (cc))

module _ (k : ℕ) (one : 1 ≤ k) where
  abbrev g : List Node
  g = ring_graph k

  long : length g ≡ 8 * k + 1
  long = blocks_long graph_block graph_bud graph_block_eight 0 k

  -- ---- each state is reached

  first_reached : Reachable g (state_at k 0)
  first_reached =
      let root = graph_at k 0 0 0 _ (omega arith) refl refl in
      record {
        from = state_at k 0;
        starts = record {
          root = _;
          is_root = root;
          node_is = refl;
          forest_is = ap (λ (o : Option Node). start (places_in o)) root;
        };
        events = [];
        run = refl;
      }

  goes : (v i : ℕ) (e : Edge) (target : Node) → IsEdge g v i e → slice_get g e.target ≡ Some target
      → (event : Event) × Moves g (state_at k v) (state_at k e.target) event
  goes v i e target is_edge is_target =
      let places : places_at k e.target ≡ target.positions = ap places_in is_target in
      let forest = sym (all_good k one v i e is_edge).starts in (
        event_of e.pairs target.positions (start (places_at k v)),
        record {
          k = i;
          e = e;
          target = target;
          is_edge = is_edge;
          is_target = is_target;
          node_is = refl;
          forest_is = forest ∙ ap (λ ps. next_forest e.pairs ps (start (places_at k v))) places;
          event_is = refl;
        },
      )

  -- over edge i of node r of block m
  next_reached : (m r i t : ℕ) (x : Node) (e : Edge) → m < k → slice_get (graph_block m) r ≡ Some x
      → slice_get x.edges i ≡ Some e → t ≡ e.target → e.target < 8 * k + 1 → Reachable g (state_at k (8 * m + r))
      → Reachable g (state_at k t)
  next_reached m r i t x e b is_x is_edge t_is within reached =
      let target = get_within g e.target (omega (arith, within, long)) in
      let move = goes (8 * m + r) i e target.0 (record {
        node = x;
        is_node = graph_at k m r (8 * m + r) x b refl is_x;
        is_edge = is_edge;
      }) target.1 in
      subst (λ w. Reachable g (state_at k w)) (sym t_is)
      (reach_more g (state_at k (8 * m + r)) (state_at k e.target) move.0 reached move.1)

  -- the nodes of a block, and the next block's first
  record Reached (m : ℕ) : Type 0 where
    r0 : Reachable g (state_at k (8 * m + 0))
    r1 : Reachable g (state_at k (8 * m + 1))
    r2 : Reachable g (state_at k (8 * m + 2))
    r3 : Reachable g (state_at k (8 * m + 3))
    r4 : Reachable g (state_at k (8 * m + 4))
    r5 : Reachable g (state_at k (8 * m + 5))
    r6 : Reachable g (state_at k (8 * m + 6))
    r7 : Reachable g (state_at k (8 * m + 7))
    r8 : Reachable g (state_at k (8 * m + 8))

  block_reached : (m : ℕ) → m < k → Reachable g (state_at k (8 * m + 0)) → Reached m
  block_reached m b n0 =
      let n1 = next_reached m 0 0 (8 * m + 1) _ _ b refl refl refl (omega arith) n0 in
      let n2 = next_reached m 1 0 (8 * m + 2) _ _ b refl refl refl (omega arith) n1 in
      let n3 = next_reached m 2 0 (8 * m + 3) _ _ b refl refl refl (omega arith) n2 in
      let n4 = next_reached m 3 0 (8 * m + 4) _ _ b refl refl refl (omega arith) n3 in
      let n5 = next_reached m 0 1 (8 * m + 5) _ _ b refl refl refl (omega arith) n0 in
      let n6 = next_reached m 5 0 (8 * m + 6) _ _ b refl refl refl (omega arith) n5 in
      let n7 = next_reached m 6 0 (8 * m + 7) _ _ b refl refl refl (omega arith) n6 in
      let n8 = next_reached m 7 0 (8 * m + 8) _ _ b refl refl refl (omega arith) n7 in
      record { r0 = n0; r1 = n1; r2 = n2; r3 = n3; r4 = n4; r5 = n5; r6 = n6; r7 = n7; r8 = n8 }

  head_reached : (m v : ℕ) → m ≤ k → v ≡ 8 * m → Reachable g (state_at k v)
  head_reached zero v b e = let z : 0 ≡ v = omega arith in subst (λ w. Reachable g (state_at k w)) z first_reached
  head_reached (suc m) v b e =
      let below : m < k = omega arith in
      let last : 8 * m + 8 ≡ v = omega arith in
      let reached = (block_reached m below (head_reached m (8 * m + 0) (omega arith) (omega arith))).r8 in
      subst (λ w. Reachable g (state_at k w)) last reached

  inner_reached : (m r : ℕ) → m < k → r < 8 → Reached m → Reachable g (state_at k (8 * m + r))
  inner_reached m zero b h n = n.r0
  inner_reached m (suc zero) b h n = n.r1
  inner_reached m (suc (suc zero)) b h n = n.r2
  inner_reached m (suc (suc (suc zero))) b h n = n.r3
  inner_reached m (suc (suc (suc (suc zero)))) b h n = n.r4
  inner_reached m (suc (suc (suc (suc (suc zero))))) b h n = n.r5
  inner_reached m (suc (suc (suc (suc (suc (suc zero)))))) b h n = n.r6
  inner_reached m (suc (suc (suc (suc (suc (suc (suc zero))))))) b h n = n.r7
  inner_reached m (suc (suc (suc (suc (suc (suc (suc (suc r)))))))) b h n = absurd (omega (arith, h))

  reached : (v : ℕ) → v < 8 * k + 1 → Reachable g (state_at k v)
  reached v b =
      let node = get_within g v (omega (arith, b, long)) in
      elim (blocks_cases graph_block graph_bud graph_block_eight 0 k v node.0 node.1) [
        | inl c ↦
            (let place : 8 * c.m + c.r ≡ v = omega (arith, c.place) in
            let below : c.m < k = omega (arith, c.last) in
            let head = head_reached c.m (8 * c.m + 0) (omega arith) (omega arith) in
            let inside = slice_get_within (graph_block c.m) c.r node.0 c.is_x in
            subst (λ w. Reachable g (state_at k w)) place
            (inner_reached c.m c.r below inside (block_reached c.m below head)))
        | inr l ↦ head_reached k v (omega arith) l.0
      ]

  -- ---- and there is no other

  run_stays : (s t : State) (events : List Event) → s ≡ state_at k s.node → s.node < 8 * k + 1 → Run g s t events
      → (t ≡ state_at k t.node) × (t.node < 8 * k + 1)
  run_stays s t [] a b r = (
    subst (λ (x : State). x ≡ state_at k x.node) r a,
    subst (λ (x : State). x.node < 8 * k + 1) r b,
  )
  run_stays s t (event ∷ events) a b r =
      let m = r.1 in
      let edge' : IsEdge g s.node m.k m.e = m.is_edge in
      let good = (all_good k one s.node m.k m.e edge').starts in
      let places : places_at k m.e.target ≡ m.target.positions = ap places_in m.is_target in
      let within = slice_get_within g m.e.target m.target m.is_target in
      let forest : r.0.forest ≡ start (places_at k r.0.node) =
      m.forest_is ∙ (ap (λ ps. next_forest m.e.pairs ps s.forest) (sym places)
      ∙ (ap (λ (x : State). next_forest m.e.pairs (places_at k m.e.target) x.forest) a
      ∙ (good ∙ ap (λ v. start (places_at k v)) (sym m.node_is)))) in
      let same : r.0 ≡ state_at k r.0.node = λ i. record { node = r.0.node; forest = forest i } in
      run_stays r.0 t events same (omega (arith, within, long, m.node_is)) r.2

  no_other : (s : State) → Reachable g s → (s ≡ state_at k s.node) × (s.node < 8 * k + 1)
  no_other s r =
      let root = graph_at k 0 0 0 _ (omega arith) refl refl in
      let begin = r.starts in
      let same_root : places_at k 0 ≡ begin.root.positions = ap places_in begin.is_root in
      let forest : r.from.forest ≡ start (places_at k r.from.node) = begin.forest_is
      ∙ (ap start (sym same_root) ∙ ap (λ v. start (places_at k v)) (sym begin.node_is)) in
      let same : r.from ≡ state_at k r.from.node = λ i. record { node = r.from.node; forest = forest i } in
      run_stays r.from s r.events same (omega (arith, begin.node_is)) r.run

  -- ---- the states

  abbrev states : List State
  states = states_from k 0 (8 * k + 1)

  are_reached : AreReached g states
  are_reached =
      record {
        apart = λ i j s a b. (let x = (is_state k (8 * k + 1) i s a).1 in let y = (is_state k (8 * k + 1) j s b).1 in
            ap (λ (t : State). t.node) (x ∙ sym y));
        reached = λ i s a. (let x = is_state k (8 * k + 1) i s a in subst (Reachable g) x.1 (reached i x.0));
      }

  pub at_most : HasAtMost g (8 * k + 1)
  at_most = (
    states,
    record {
      some' = are_reached;
      all' = λ s r. (let n = no_other s r in
          (s.node, in_states k 0 (8 * k + 1) s.node s.node n.1 (omega arith) ∙ ap Some (sym n.0)));
    },
    (let l = states_long k 0 (8 * k + 1) in omega (arith, l)),
  )

  pub more_than : HasMoreThan g (8 * k)
  more_than = (states, are_reached, (let l = states_long k 0 (8 * k + 1) in omega (arith, l)))
