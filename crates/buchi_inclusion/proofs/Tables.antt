-- The table of the product: it has each move, all reachable states, and what a search over it visits.
use Rattle.std.proofs.Common.{◌≡◌, ℕ, zero, suc, ◌<◌, ◌≤◌, ◌⊎◌, inl, inr, List, [], ◌∷◌, Bool, true, not, arith, Some}
use Rattle.std.proofs.Common.{slice_get, length, sym, refl, ap, ◌∙◌, subst, Vec, Global, le_refl}
use Rattle.std.proofs.lemmas.Bool.{not-true}
use Rattle.std.proofs.lemmas.Option.{slice_get_within}
use Rattle.trace_pairs.specs.Graph.{Node, Edge, IsEdge, IsGraph}
use Rattle.trace_pairs.specs.Visits.{IsAllowed, IsVisited, IsLed, AreVisits, AllTargetsFit}
use Rattle.trace_pairs.specs.declared.reach.Visit.{Visit}
use Rattle.buchi_core.specs.declared.event.Event.{Event}
use Rattle.buchi_core.specs.Forest.{is_earlier, next_forest, event_of, start}
use Rattle.buchi_core.proofs.Lists.{get_one}
use Rattle.buchi_inclusion.specs.declared.product.Transition.{Transition}
use Rattle.buchi_inclusion.specs.Product.{State, Moves, Run, Each, Reachable, IsStart}
use Rattle.buchi_inclusion.specs.Answers.{AreAllReached}
use Rattle.buchi_inclusion.specs.Table.{IsStep, IsTable}
use Rattle.buchi_inclusion.specs.Decision.{IsAtLeast, class_row, class_rows, IsClass, IsWay, AreWays, IsNoWay}
use Rattle.buchi_inclusion.specs.Ranks.{rank_at, IsRising}
use Rattle.buchi_inclusion.proofs.Runs.{edge_one}
use Rattle.cyc_basics.proofs.PositionLists.{map_length}
pub use Rattle.cyc_basics.proofs.PositionLists.{MapAt, map_at}
use Rattle.cyc_basics.proofs.Places.{get_map, get_within}
use Rattle.trace_pairs.specs.Turn.{lists_of}

module _ (least : Event) (rows : List (Vec Transition Global)) (table : List (Vec (ℕ × Bool) Global))
    (class : IsClass least rows table) where
  pub class_length : length table ≡ length rows
  class_length = sym (map_length (λ (v : Vec (ℕ × Bool) Global). v.items) table)
      ∙ (ap length class ∙ map_length (λ (v : Vec Transition Global). class_row least v.items) rows)

  pub record RowOf (i : ℕ) (r : Vec (ℕ × Bool) Global) : Type 0 where
    pub row : Vec Transition Global
    pub is_row : slice_get rows i ≡ Some row
    pub same : class_row least row.items ≡ r.items

  pub row_of : (i : ℕ) (r : Vec (ℕ × Bool) Global) → slice_get table i ≡ Some r → RowOf i r
  row_of i r h =
      let a : slice_get (class_rows least rows) i ≡ Some r.items = subst (λ xs. slice_get xs i ≡ Some r.items) class
      (get_map (λ (v : Vec (ℕ × Bool) Global). v.items) table i r h) in
      let m = map_at (λ (v : Vec Transition Global). class_row least v.items) rows i r.items a in
      record { row = m.x; is_row = m.is_x; same = m.value }

  pub record ItemOf (i k j : ℕ) (ok : Bool) : Type 0 where
    pub row : Vec Transition Global
    pub m : Transition
    pub is_row : slice_get rows i ≡ Some row
    pub is_m : slice_get row.items k ≡ Some m
    pub target : m.target ≡ j
    pub flag : not (is_earlier m.event least) ≡ ok

  pub item_of : (i k j : ℕ) (ok : Bool) (r : Vec (ℕ × Bool) Global) → slice_get table i ≡ Some r
      → slice_get r.items k ≡ Some (j, ok) → ItemOf i k j ok
  item_of i k j ok r h e =
      let q = row_of i r h in
      let m = map_at (λ (m : Transition). (m.target, not (is_earlier m.event least))) q.row.items k (j, ok)
      (subst (λ xs. slice_get xs k ≡ Some (j, ok)) (sym q.same) e) in
      record {
        row = q.row;
        m = m.x;
        is_row = q.is_row;
        is_m = m.is_x;
        target = ap (λ p. p.0) m.value;
        flag = ap (λ p. p.1) m.value;
      }

  pub record StepOf (i k j : ℕ) : Type 0 where
    pub row : Vec Transition Global
    pub m : Transition
    pub is_row : slice_get rows i ≡ Some row
    pub is_m : slice_get row.items k ≡ Some m
    pub target : m.target ≡ j
    pub ok : IsAtLeast least m.event

  pub step_of : (i k j : ℕ) → IsAllowed table i k j → StepOf i k j
  step_of i k j a =
      let m = item_of i k j true a.row a.is_row a.is_edge in
      record {
        row = m.row;
        m = m.m;
        is_row = m.is_row;
        is_m = m.is_m;
        target = m.target;
        ok = not-true (is_earlier m.m.event least) m.flag;
      }

  pub item_allowed : (i k : ℕ) (row : Vec Transition Global) (m : Transition) → slice_get rows i ≡ Some row
      → slice_get row.items k ≡ Some m → IsAtLeast least m.event → IsAllowed table i k m.target
  item_allowed i k row m h e ok =
      let a : slice_get (lists_of table) i ≡ Some (class_row least row.items) = subst
      (λ xs. slice_get xs i ≡ Some (class_row least row.items)) (sym class)
      (get_map (λ (v : Vec Transition Global). class_row least v.items) rows i row h) in
      let r = map_at (λ (v : Vec (ℕ × Bool) Global). v.items) table i (class_row least row.items) a in
      let b : slice_get (class_row least row.items) k
      ≡ Some (m.target, not (is_earlier m.event least)) = get_map
      (λ (m : Transition). (m.target, not (is_earlier m.event least))) row.items k m e in
      record {
        row = r.x;
        is_row = r.is_x;
        is_edge = subst (λ xs. slice_get xs k ≡ Some (m.target, true)) (sym r.value)
            (subst (λ x. slice_get (class_row least row.items) k ≡ Some (m.target, x)) (ap not ok) b);
      }

module _ (g : List Node) (states : List State) (rows : List (Vec Transition Global)) (t : IsTable g states rows) where
  pub class_fits : (least : Event) (table : List (Vec (ℕ × Bool) Global)) → IsClass least rows table
      → AllTargetsFit table
  class_fits least table class i r h k j ok e =
      let m = item_of least rows table class i k j ok r h e in
      let x = (t.row_at i m.row m.is_row).items k m.m m.is_m in
      omega (
        arith,
        slice_get_within states m.m.target x.t x.is_t,
        m.target,
        t.long,
        class_length least rows table class,
      )

  -- a move is determined by its state and edge
  pub moves_one : (s u w : State) (a b : Event) (m : Moves g s u a) (n : Moves g s w b) → m.k ≡ n.k → (u ≡ w) × (a ≡ b)
  moves_one s u w a b m n k =
      let e : m.e ≡ n.e = edge_one g s.node n.k m.e n.e (subst (λ x. IsEdge g s.node x m.e) k m.is_edge) n.is_edge in
      let target : m.target ≡ n.target = get_one g n.e.target m.target n.target
      (subst (λ (x : Edge). slice_get g x.target ≡ Some m.target) e m.is_target) n.is_target in
      let node : u.node ≡ w.node = m.node_is ∙ (ap (λ (x : Edge). x.target) e ∙ sym n.node_is) in
      let forest : u.forest ≡ w.forest = m.forest_is
      ∙ ((λ i. next_forest (e i).pairs (target i).positions s.forest) ∙ sym n.forest_is) in (
        (λ i. record { node = node i; forest = forest i }),
        m.event_is
            ∙ ((λ i. event_of (e i).pairs (target i).positions s.forest) ∙ sym n.event_is),
      )

  pub record MoveAt (i : ℕ) (u : State) (event : Event) : Type 0 where
    pub row : Vec Transition Global
    pub k : ℕ
    pub m : Transition
    pub is_row : slice_get rows i ≡ Some row
    pub is_m : slice_get row.items k ≡ Some m
    pub is_u : slice_get states m.target ≡ Some u
    pub event_is : m.event ≡ event

  -- the table has each move
  pub move_at : (i : ℕ) (s u : State) (event : Event) → slice_get states i ≡ Some s → Moves g s u event
      → MoveAt i u event
  move_at i s u event h mv = with_row (get_within rows i (omega (arith, slice_get_within states i s h, t.long)))
    where
      with_item : (row : Vec Transition Global) → slice_get rows i ≡ Some row
          → (m : Transition) × (slice_get row.items mv.k ≡ Some m) → MoveAt i u event
      with_item row is_row m =
          let x = (t.row_at i row is_row).items mv.k m.0 m.1 in
          let same : x.s ≡ s = get_one states i x.s s x.is_s h in
          let st : IsStep g s mv.k x.t m.0.event = subst (λ y. IsStep g y mv.k x.t m.0.event) same x.step in
          let one = moves_one s x.t u m.0.event event st.move mv st.by in
          record {
            row = row;
            k = mv.k;
            m = m.0;
            is_row = is_row;
            is_m = m.1;
            is_u = subst (λ y. slice_get states m.0.target ≡ Some y) one.0 x.is_t;
            event_is = one.1;
          }

      with_row : (row : Vec Transition Global) × (slice_get rows i ≡ Some row) → MoveAt i u event
      with_row r =
          let row = t.row_at i r.0 r.1 in
          let same : row.s ≡ s = get_one states i row.s s row.is_s h in
          let last = row.last mv.is_edge.node (subst (λ (y : State). slice_get g y.node ≡ Some mv.is_edge.node)
          (sym same) mv.is_edge.is_node) in
          with_item r.0 r.1 (get_within r.0.items mv.k (omega
          (arith, last, slice_get_within mv.is_edge.node.edges mv.k mv.e mv.is_edge.is_edge)))

  -- a run from a listed state leads to one
  pub run_listed : (i : ℕ) (s u : State) (events : List Event) → slice_get states i ≡ Some s → Run g s u events
      → (j : ℕ) × (slice_get states j ≡ Some u)
  run_listed i s u [] h r = (i, h ∙ ap Some r)
  run_listed i s u (event ∷ events) h r = let m = move_at i s r.0 event h r.1 in
      run_listed m.m.target r.0 u events m.is_u r.2

  start_one : (a b : State) → IsStart g a → IsStart g b → a ≡ b
  start_one a b x y =
      let root : x.root ≡ y.root = get_one g 0 x.root y.root x.is_root y.is_root in
      let node : a.node ≡ b.node = x.node_is ∙ sym y.node_is in
      let forest : a.forest ≡ b.forest = x.forest_is ∙ ((λ i. start (root i).positions) ∙ sym y.forest_is) in
      λ i. record { node = node i; forest = forest i }

  pub begin_at : (s : State) (r : Reachable g s) → slice_get states 0 ≡ Some r.from
  begin_at s r = t.begin.is_first ∙ ap Some (start_one t.begin.first r.from t.begin.starts r.starts)

  -- all reachable states are listed
  pub all_reached : AreAllReached g states
  all_reached = record {
    some' = record { apart = t.apart; reached = λ i s h. (t.found i s h).reached };
    all' = λ s r. run_listed 0 r.from s r.events (begin_at s r) r.run;
  }

  -- along a run over allowed moves ranks rise
  run_rises : (least : Event) (ranks : List ℕ) → IsRising least rows ranks → (i : ℕ) (s u : State) (events : List Event)
      → slice_get states i ≡ Some s → Run g s u events → Each (IsAtLeast least) events →
      (j : ℕ) × (slice_get states j ≡ Some u) × (rank_at ranks i ≤ rank_at ranks j)
  run_rises least ranks rising i s u [] h r ok = (i, h ∙ ap Some r, le_refl (rank_at ranks i))
  run_rises least ranks rising i s u (event ∷ events) h r ok =
      let m = move_at i s r.0 event h r.1 in
      let up = rising i m.row m.is_row m.k m.m m.is_m (subst (IsAtLeast least) (sym m.event_is) ok.0) in
      let rest = run_rises least ranks rising m.m.target r.0 u events m.is_u r.2 ok.1 in
      (rest.0, rest.1, omega (arith, up, rest.2))

  pub rising_no_way : (least : Event) (ranks : List ℕ) → IsRising least rows ranks → (from to : ℕ)
      → rank_at ranks to < rank_at ranks from → IsNoWay g states least from to
  rising_no_way least ranks rising from to less s u events is_s is_u run ok =
      let r = run_rises least ranks rising from s u events is_s run ok in
      let same : r.0 ≡ to = t.apart r.0 to u r.1 is_u in
      omega (arith, less, r.2, ap (rank_at ranks) same)

  module _ (least : Event) (table : List (Vec (ℕ × Bool) Global)) (class : IsClass least rows table) where
    -- what is led to over allowed moves from a visited state is visited
    pub run_visited : (start : ℕ) (visits : List Visit) → AreVisits table start visits
        → (i : ℕ) (s u : State) (events : List Event) → slice_get states i ≡ Some s → IsVisited visits i
        → Run g s u events → Each (IsAtLeast least) events →
        (j : ℕ) × (slice_get states j ≡ Some u) × IsVisited visits j
    run_visited start visits v i s u [] h at r ok = (i, h ∙ ap Some r, at)
    run_visited start visits v i s u (event ∷ events) h at r ok =
        let m = move_at i s r.0 event h r.1 in
        let a = item_allowed least rows table class i m.k m.row m.m m.is_row m.is_m
        (subst (IsAtLeast least) (sym m.event_is) ok.0) in
        let a' : IsAllowed table at.visit.state m.k m.m.target = subst (λ x. IsAllowed table x m.k m.m.target)
        (sym at.is_state) a in
        let next = v.closed at.place m.k m.m.target at.visit (slice_get_within visits at.place at.visit at.is_visit)
        at.is_visit a' in
        run_visited start visits v m.m.target r.0 u events m.is_u next r.2 ok.1

    -- a state that isn't visited is not led to
    pub no_way : (start to : ℕ) (visits : List Visit) → AreVisits table start visits → (IsVisited visits to → ⊥)
        → IsNoWay g states least start to
    no_way start to visits v none s u events is_s is_u run ok =
        let q = v.queue in
        let r = run_visited start visits v start s u events is_s
        (record { place = 0; visit = q.first; is_visit = q.is_first; is_state = q.starts }) run ok in
        none (subst (IsVisited visits) (t.apart r.0 to u r.1 is_u) r.2)

    pub way : (visits : List Visit) (q : ℕ) (visit : Visit) → IsGraph g → IsLed table visits q visit
        → IsWay g states least visits q visit
    way visits q visit graph l =
        let m = step_of least rows table class l.from.state visit.edge visit.state l.allowed in
        let x = (t.row_at l.from.state m.row m.is_row).items visit.edge m.m m.is_m in
        let e = x.step.move.is_edge in
        record {
          earlier = l.earlier;
          from = l.from;
          is_from = l.is_from;
          s = x.s;
          t = x.t;
          is_s = x.is_s;
          is_t = subst (λ j. slice_get states j ≡ Some x.t) m.target x.is_t;
          event = m.m.event;
          step = x.step;
          small = omega (
            arith,
            x.step.by,
            slice_get_within e.node.edges x.step.move.k x.step.move.e e.is_edge,
            graph.few x.s.node e.node e.is_node,
          );
          ok = m.ok;
        }

    pub ways : IsGraph g → (start : ℕ) (visits : List Visit) → start < length states → AreVisits table start visits
        → AreWays g states least start visits
    ways graph start visits within v = record {
      first = v.queue.first;
      is_first = v.queue.is_first;
      starts = v.queue.starts;
      led = λ q visit h l. way visits q visit graph (v.queue.led q visit h l);
      listed = λ q visit h. at q visit h (cases_zero q);
    }
      where
        cases_zero : (q : ℕ) → (q ≡ 0) ⊎ (0 < q)
        cases_zero zero = inl refl
        cases_zero (suc q) = inr (omega arith)

        at : (q : ℕ) (visit : Visit) → slice_get visits q ≡ Some visit → (q ≡ 0) ⊎ (0 < q)
            → (s : State) × (slice_get states visit.state ≡ Some s)
        at q visit h (inl e) =
            let same : v.queue.first ≡ visit = get_one visits 0 v.queue.first visit v.queue.is_first
            (subst (λ x. slice_get visits x ≡ Some visit) e h) in
            let s : start ≡ visit.state = sym v.queue.starts ∙ ap (λ (x : Visit). x.state) same in
            get_within states visit.state (omega (arith, s, within))
        at q visit h (inr l) = let w = way visits q visit graph (v.queue.led q visit h l) in (w.t, w.is_t)
