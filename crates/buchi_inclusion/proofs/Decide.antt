-- The tests on a product say what they are meant to.
use Rattle.std.proofs.Common.{◌≡◌, ℕ, zero, suc, le_refl, ◌⊎◌, ◌↔◌, inl, inr, Bool, true, false, not, ◌&&◌, List, []}
use Rattle.std.proofs.Common.{◌∷◌, ◌++◌, Option, Some, None, slice_get, length, sym, refl, ap, subst, ◌∙◌}
use Rattle.std.proofs.lemmas.Bool.{cases_Bool, and_parts, both_ways, leb-true, le-leb, and_from, not-true}
use Rattle.std.proofs.lemmas.Option.{slice_get_within}
use Rattle.trace_pairs.specs.Graph.{Node, Edge, IsGraph}
use Rattle.buchi_core.specs.declared.event.Event.{Event}
use Rattle.buchi_core.specs.declared.event.Event.TheVariants.{Dies, Green, Nothing}
use Rattle.buchi_core.specs.Forest.{next_forest, event_of, start}
use Rattle.buchi_inclusion.specs.Product.{State, Moves, Run, Each, IsFrom, IsNothing, IsStart, Reachable, IsClosed}
use Rattle.buchi_inclusion.specs.Product.{BadCycle}
use Rattle.trace_pairs.specs.Lasso.{AllProgress}
use Rattle.buchi_inclusion.specs.Answers.{LeastFirst}
use Rattle.buchi_core.proofs.Lists.{any_at, at_any, get_append_cases}
use Rattle.buchi_inclusion.specs.States.{states_from}
use Rattle.buchi_inclusion.proofs.Universe.{Listed, closed_universe, listed_left, listed_right}
use Rattle.buchi_inclusion.proofs.Runs.{each_append, each_weaker}
use Rattle.buchi_inclusion.proofs.Exact.{exact, run_append, least_first}
use Rattle.buchi_inclusion.specs.Equal.{same_state}
use Rattle.buchi_inclusion.specs.Closure.{closure, some_below}
use Rattle.buchi_inclusion.specs.Decide.{Move, over_edge, over_edges, from_node, moves_of, is_nothing, is_from, always}
use Rattle.buchi_inclusion.specs.Decide.{leads_to, step, walks, is_start, is_reached, is_at, returns_to, leads_back}
use Rattle.buchi_inclusion.specs.Decide.{turns_bad, has_bad_cycle, progresses}
use Rattle.buchi_inclusion.proofs.Equal.{state_tells, state_reflects}
use Rattle.buchi_inclusion.proofs.Closure.{closure_sound, closure_joins, closure_id, closure_one, below_some}
use Rattle.buchi_inclusion.proofs.Closure.{some_is_below}
use Rattle.cyc_basics.proofs.Places.{get_within as get_some}

-- a cycle that begins with its least event is bad
bad_from_least : (g : List Node) → LeastFirst g → BadCycle g
bad_from_least g l = record {
  state = l.s;
  reachable = l.reachable;
  first = l.event;
  rest = l.events;
  run = (l.t, l.move, l.back);
  bad = elim l.least [
    | inl quiet ↦ inl (quiet.0, quiet.1)
    | inr death ↦ inr (death.0, inl death.1, (subst (IsFrom death.0) (sym death.1) (le_refl death.0), death.2))
  ];
}

abbrev move : State → Edge → Node → Move
move s e target = record {
  event = event_of e.pairs target.positions s.forest;
  to = record { node = e.target; forest = next_forest e.pairs target.positions s.forest };
}

-- the moves that are listed are the moves
edge_listed : (g : List Node) (s : State) (es : List Edge) (k : ℕ) (e : Edge) (target : Node) → slice_get es k ≡ Some e
    → slice_get g e.target ≡ Some target → Listed (over_edges g s es) (move s e target)
edge_listed g s [] k e target h t = absurd (let x : None ≡ Some e = h in cc)
edge_listed g s (x ∷ es) zero e target h t =
    let a : Some x ≡ Some e = h in
    let b : x ≡ e = cc in
    let first : Listed (over_edge s x (slice_get g x.target)) (move s e target) =
    subst (λ y. Listed (over_edge s y (slice_get g y.target)) (move s e target)) (sym b)
    (rw t (record { place = 0; is_x = refl })) in
    listed_left (over_edge s x (slice_get g x.target)) (over_edges g s es) (move s e target) first
edge_listed g s (x ∷ es) (suc k) e target h t = listed_right (over_edge s x (slice_get g x.target)) (over_edges g s es)
    (move s e target) (edge_listed g s es k e target h t)

move_listed : (g : List Node) (s t : State) (event : Event) (m : Moves g s t event)
    → Listed (moves_of g s) (record { event = event; to = t })
move_listed g s t event m =
    let l : Listed (moves_of g s) (move s m.e m.target) = rw m.is_edge.is_node
    (edge_listed g s m.is_edge.node.edges m.k m.e m.target m.is_edge.is_edge m.is_target) in
    let e : move s m.e m.target ≡ record { event = event; to = t } = λ i.
    record { event = sym m.event_is i; to = record { node = sym m.node_is i; forest = sym m.forest_is i } } in
    subst (Listed (moves_of g s)) e l

record OverEdge (g : List Node) (s : State) (es : List Edge) (m : Move) : Type 0 where
  k : ℕ
  e : Edge
  target : Node
  is_edge : slice_get es k ≡ Some e
  is_target : slice_get g e.target ≡ Some target
  is_move : move s e target ≡ m

edge_over : (g : List Node) (s : State) (x : Edge) (es : List Edge) (o : Option Node) (j : ℕ) (m : Move)
    → slice_get g x.target ≡ o → slice_get (over_edge s x o) j ≡ Some m → OverEdge g s (x ∷ es) m
edge_over g s x es None j m o h = absurd (let y : None ≡ Some m = h in cc)
edge_over g s x es (Some target) zero m o h = record {
  k = 0;
  e = x;
  target = target;
  is_edge = refl;
  is_target = o;
  is_move = (let y : Some (move s x target) ≡ Some m = h in cc);
}
edge_over g s x es (Some target) (suc j) m o h = absurd (let y : None ≡ Some m = h in cc)

edges_over : (g : List Node) (s : State) (es : List Edge) (i : ℕ) (m : Move) → slice_get (over_edges g s es) i ≡ Some m
    → OverEdge g s es m
edges_over g s [] i m h = absurd (let y : None ≡ Some m = h in cc)
edges_over g s (x ∷ es) i m h =
    elim (get_append_cases (over_edge s x (slice_get g x.target)) (over_edges g s es) i m h) [
      | inl a ↦ edge_over g s x es (slice_get g x.target) i m refl a.1
      | inr b ↦ (let r = edges_over g s es b.0 m b.2 in record {
        k = suc r.k;
        e = r.e;
        target = r.target;
        is_edge = r.is_edge;
        is_target = r.is_target;
        is_move = r.is_move;
      })
    ]

move_from : (g : List Node) (s : State) (o : Option Node) (i : ℕ) (m : Move) → slice_get g s.node ≡ o
    → slice_get (from_node g s o) i ≡ Some m → Moves g s m.to m.event
move_from g s None i m o h = absurd (let y : None ≡ Some m = h in cc)
move_from g s (Some node) i m o h =
    let r = edges_over g s node.edges i m h in
    record {
      k = r.k;
      e = r.e;
      target = r.target;
      is_edge = record { node = node; is_node = o; is_edge = r.is_edge };
      is_target = r.is_target;
      node_is = ap (λ (x : Move). x.to.node) (sym r.is_move);
      forest_is = ap (λ (x : Move). x.to.forest) (sym r.is_move);
      event_is = ap (λ (x : Move). x.event) (sym r.is_move);
    }

listed_moves : (g : List Node) (s : State) (i : ℕ) (m : Move) → slice_get (moves_of g s) i ≡ Some m
    → Moves g s m.to m.event
listed_moves g s i m h = move_from g s (slice_get g s.node) i m refl h

-- a step between places is a move that passes
record Stepped (g : List Node) (states : List State) (test : Event → Bool) (i j : ℕ) : Type 0 where
  s : State
  t : State
  event : Event
  at : slice_get states i ≡ Some s
  to : slice_get states j ≡ Some t
  moves : Moves g s t event
  pass : test event ≡ true

leads_stepped : (g : List Node) (states : List State) (test : Event → Bool) (i j : ℕ) (a b : Option State)
    → slice_get states i ≡ a → slice_get states j ≡ b → leads_to g test a b ≡ true → Stepped g states test i j
leads_stepped g states test i j None b x y h = absurd (both_ways false refl h)
leads_stepped g states test i j (Some s) None x y h = absurd (both_ways false refl h)
leads_stepped g states test i j (Some s) (Some t) x y h =
    let r = any_at (λ (m : Move). test m.event && same_state m.to t) (moves_of g s) h in
    let m : Move = r.1 in
    let p = and_parts (test m.event) (same_state m.to t) r.3 in
    record {
      s = s;
      t = t;
      event = m.event;
      at = x;
      to = y;
      moves = subst (λ u. Moves g s u m.event) (state_tells m.to t p.1) (listed_moves g s r.0 m r.2);
      pass = p.0;
    }

step_sound : (g : List Node) (states : List State) (test : Event → Bool) (i j : ℕ) → step g states test i j ≡ true
    → Stepped g states test i j
step_sound g states test i j h = leads_stepped g states test i j (slice_get states i) (slice_get states j) refl refl h

step_complete : (g : List Node) (states : List State) (test : Event → Bool) (i j : ℕ) (s t : State) (event : Event)
    → slice_get states i ≡ Some s → slice_get states j ≡ Some t → Moves g s t event → test event ≡ true
    → step g states test i j ≡ true
step_complete g states test i j s t event x y m pass =
    let l = move_listed g s t event m in
    rw (x, y) (at_any (λ (m' : Move). test m'.event && same_state m'.to t) (moves_of g s) l.place
    (record { event = event; to = t }) l.is_x (and_from (test event) (same_state t t) pass (state_reflects t)))

-- a walk between places is a run of events that pass
abbrev Passes : (Event → Bool) → Event → Type 0
Passes test event = test event ≡ true

record Walked (g : List Node) (states : List State) (test : Event → Bool) (s : State) (j : ℕ) : Type 0 where
  t : State
  to : slice_get states j ≡ Some t
  events : List Event
  run : Run g s t events
  each : Each (Passes test) events

abbrev Walks : List Node → List State → (Event → Bool) → ℕ → ℕ → Type 0
Walks g states test i j = (s : State) → slice_get states i ≡ Some s → Walked g states test s j

walk_sound : (g : List Node) (states : List State) (test : Event → Bool) (k i j : ℕ)
    → closure (step g states test) k i j ≡ true → Walks g states test i j
walk_sound g states test k i j h =
    closure_sound (step g states test) (Walks g states test)
    (λ i' s at. record { t = s; to = at; events = []; run = refl; each = tt })
    (λ i' j' h' s at. (
    let r = step_sound g states test i' j' h' in
    let e : Some r.s ≡ Some s = sym r.at ∙ at in
    let e' : r.s ≡ s = cc in
    record {
      t = r.t;
      to = r.to;
      events = r.event ∷ [];
      run = (r.t, subst (λ x. Moves g x r.t r.event) e' r.moves, refl);
      each = (r.pass, tt);
    }))
    (λ i' j' k' a b s at. (
    let x = a s at in
    let y = b x.t x.to in
    record {
      t = y.t;
      to = y.to;
      events = x.events ++ y.events;
      run = run_append g s x.t y.t x.events y.events x.run y.run;
      each = each_append (Passes test) x.events y.events x.each y.each;
    }))
    k i j h

record WalkTo (g : List Node) (states : List State) (test : Event → Bool) (i : ℕ) (t : State) : Type 0 where
  j : ℕ
  to : slice_get states j ≡ Some t
  walks : walks g states test i j ≡ true

walk_complete : (g : List Node) (states : List State) → IsClosed g states
    → (test : Event → Bool) (events : List Event) (i : ℕ) (s t : State) → slice_get states i ≡ Some s → Run g s t events
    → Each (Passes test) events → WalkTo g states test i t
walk_complete g states closed test [] i s t at run each = record
    { j = i; to = at ∙ ap Some run; walks = closure_id (step g states test) (length states) i }
walk_complete g states closed test (event ∷ events) i s t at run each =
    let u = run.0 in
    let n = closed.next i s u event at run.1 in
    let r = walk_complete g states closed test events n.0 u t n.1 run.2 each.1 in
    record {
      j = r.j;
      to = r.to;
      walks = closure_joins (step g states test) (length states) n.0 i r.j (slice_get_within states n.0 u n.1)
          (closure_one (step g states test) (length states) i n.0
          (step_complete g states test i n.0 s u event at n.1 run.1 each.0)) r.walks;
    }

all_pass : (events : List Event) → Each (Passes always) events
all_pass [] = tt
all_pass (event ∷ events) = (refl, all_pass events)

nothing_is : (event : Event) → Passes is_nothing event → IsNothing event
nothing_is (Dies i) h = absurd (both_ways false refl h)
nothing_is (Green i) h = absurd (both_ways false refl h)
nothing_is Nothing h = refl

is_nothing_passes : (event : Event) → IsNothing event → Passes is_nothing event
is_nothing_passes event h = ap is_nothing h

from_is : (k : ℕ) (event : Event) → Passes (is_from k) event → IsFrom k event
from_is k (Dies i) h = leb-true k i h
from_is k (Green i) h = leb-true k i h
from_is k Nothing h = tt

is_from_passes : (k : ℕ) (event : Event) → IsFrom k event → Passes (is_from k) event
is_from_passes k (Dies i) h = le-leb k i h
is_from_passes k (Green i) h = le-leb k i h
is_from_passes k Nothing h = refl

-- what is reached is reachable
start_is : (g : List Node) (o : Option Node) (a : Option State) (s : State) → slice_get g 0 ≡ o → a ≡ Some s
    → is_start g o a ≡ true → IsStart g s
start_is g None a s x y h = absurd (both_ways false refl h)
start_is g (Some root) None s x y h = absurd (let e : None ≡ Some s = y in cc)
start_is g (Some root) (Some b) s x y h =
    let e : Some b ≡ Some s = y in
    let e' : b ≡ s = cc in
    let f : b ≡ record { node = 0; forest = start root.positions } = state_tells b
    (record { node = 0; forest = start root.positions }) h in
    let f' = sym e' ∙ f in
    record {
      root = root;
      is_root = x;
      node_is = ap (λ (z : State). z.node) f';
      forest_is = ap (λ (z : State). z.forest) f';
    }

pub reached_sound : (g : List Node) (states : List State) (i : ℕ) (s : State) → slice_get states i ≡ Some s
    → is_reached g states i ≡ true → Reachable g s
reached_sound g states i s at h =
    let r = below_some (λ j. is_start g (slice_get g 0) (slice_get states j) && walks g states always j i)
    (length states) h in
    let p = and_parts (is_start g (slice_get g 0) (slice_get states r.0)) (walks g states always r.0 i) r.2 in
    let b = get_some states r.0 r.1 in
    let w = walk_sound g states always (length states) r.0 i p.1 b.0 b.1 in
    let e : Some w.t ≡ Some s = sym w.to ∙ at in
    let e' : w.t ≡ s = cc in
    record {
      from = b.0;
      starts = start_is g (slice_get g 0) (slice_get states r.0) b.0 refl b.1 p.0;
      events = w.events;
      run = subst (λ x. Run g b.0 x w.events) e' w.run;
    }

pub record ReachedAt (g : List Node) (states : List State) (s : State) : Type 0 where
  pub i : ℕ
  pub at : slice_get states i ≡ Some s
  pub reached : is_reached g states i ≡ true

pub reached_complete : (g : List Node) (states : List State) → IsClosed g states → (s : State) → Reachable g s
    → ReachedAt g states s
reached_complete g states closed s r =
    let b : State = record { node = 0; forest = start closed.root.positions } in
    let roots : Some r.starts.root ≡ Some closed.root = sym r.starts.is_root ∙ closed.is_root in
    let roots' : r.starts.root ≡ closed.root = cc in
    let f : r.from.forest ≡ start closed.root.positions = r.starts.forest_is
    ∙ ap (λ (n : Node). start n.positions) roots' in
    let e : record { node = 0; forest = start closed.root.positions } ≡ r.from = λ i.
    record { node = sym r.starts.node_is i; forest = sym f i } in
    let w = walk_complete g states closed always r.events closed.begin r.from s (closed.begins ∙ ap Some e) r.run
    (all_pass r.events) in
    record {
      i = w.j;
      at = w.to;
      reached = some_is_below (λ j. is_start g (slice_get g 0) (slice_get states j) && walks g states always j w.j)
          (length states) closed.begin
          (slice_get_within states closed.begin _ closed.begins)
          (and_from (is_start g (slice_get g 0) (slice_get states closed.begin))
          (walks g states always closed.begin w.j)
          (rw (closed.is_root, closed.begins) (state_reflects
          (record { node = 0; forest = start closed.root.positions }))) w.walks);
    }

at_is : (a : Option State) (t : State) → is_at a t ≡ true → a ≡ Some t
at_is None t h = absurd (both_ways false refl h)
at_is (Some s) t h = ap Some (state_tells s t h)

is_at_passes : (a : Option State) (t : State) → a ≡ Some t → is_at a t ≡ true
is_at_passes a t h = ap (λ x. is_at x t) h ∙ state_reflects t

record Returns (g : List Node) (test : Event → Bool) (t s : State) : Type 0 where
  events : List Event
  run : Run g t s events
  each : Each (Passes test) events

returns_sound : (g : List Node) (states : List State) (test : Event → Bool) (j : ℕ) (t s : State)
    → slice_get states j ≡ Some t → returns_to g states test j s ≡ true → Returns g test t s
returns_sound g states test j t s at h =
    let r = below_some (λ i. is_at (slice_get states i) s && walks g states test j i) (length states) h in
    let p = and_parts (is_at (slice_get states r.0) s) (walks g states test j r.0) r.2 in
    let w = walk_sound g states test (length states) j r.0 p.1 t at in
    let e : Some w.t ≡ Some s = sym w.to ∙ at_is (slice_get states r.0) s p.0 in
    let e' : w.t ≡ s = cc in
    record { events = w.events; run = subst (λ x. Run g t x w.events) e' w.run; each = w.each }

returns_complete : (g : List Node) (states : List State) → IsClosed g states
    → (test : Event → Bool) (j : ℕ) (t s : State) (events : List Event) → slice_get states j ≡ Some t → Run g t s events
    → Each (Passes test) events → returns_to g states test j s ≡ true
returns_complete g states closed test j t s events at run each =
    let w = walk_complete g states closed test events j t s at run each in
    some_is_below (λ i. is_at (slice_get states i) s && walks g states test j i) (length states) w.j
    (slice_get_within states w.j s w.to)
    (and_from (is_at (slice_get states w.j) s) (walks g states test j w.j) (is_at_passes (slice_get states w.j) s w.to)
    w.walks)

record BackFrom (g : List Node) (event : Event) (t s : State) : Type 0 where
  events : List Event
  run : Run g t s events
  least : ((event ≡ Nothing) × Each IsNothing events) ⊎ ((k : ℕ) × (event ≡ Dies k) × Each (IsFrom k) events)

back_sound : (g : List Node) (states : List State) (event : Event) (j : ℕ) (t s : State) → slice_get states j ≡ Some t
    → leads_back g states event j s ≡ true → BackFrom g event t s
back_sound g states (Dies k) j t s at h =
    let r = returns_sound g states (is_from k) j t s at h in
    record { events = r.events; run = r.run; least = inr (k, refl, each_weaker _ _ (from_is k) r.events r.each) }
back_sound g states (Green k) j t s at h = absurd (both_ways false refl h)
back_sound g states Nothing j t s at h =
    let r = returns_sound g states is_nothing j t s at h in
    record { events = r.events; run = r.run; least = inl (refl, each_weaker _ _ nothing_is r.events r.each) }

turns_sound : (g : List Node) (states : List State) (i : ℕ) (a : Option State) → slice_get states i ≡ a
    → is_reached g states i ≡ true → turns_bad g states a ≡ true → LeastFirst g
turns_sound g states i None at reached h = absurd (both_ways false refl h)
turns_sound g states i (Some s) at reached h =
    let r = any_at (λ (m : Move). some_below (λ j. is_at (slice_get states j) m.to && leads_back g states m.event j s)
    (length states)) (moves_of g s) h in
    let m : Move = r.1 in
    let b = below_some (λ j. is_at (slice_get states j) m.to && leads_back g states m.event j s) (length states) r.3 in
    let p = and_parts (is_at (slice_get states b.0) m.to) (leads_back g states m.event b.0 s) b.2 in
    let back = back_sound g states m.event b.0 m.to s (at_is (slice_get states b.0) m.to p.0) p.1 in
    record {
      s = s;
      t = m.to;
      event = m.event;
      reachable = reached_sound g states i s at reached;
      move = listed_moves g s r.0 m r.2;
      events = back.events;
      back = back.run;
      least = back.least;
    }

bad_sound : (g : List Node) (states : List State) → has_bad_cycle g states ≡ true → LeastFirst g
bad_sound g states h =
    let r = below_some (λ i. is_reached g states i && turns_bad g states (slice_get states i)) (length states) h in
    let p = and_parts (is_reached g states r.0) (turns_bad g states (slice_get states r.0)) r.2 in
    turns_sound g states r.0 (slice_get states r.0) refl p.0 p.1

back_complete : (g : List Node) (states : List State) → IsClosed g states
    → (j : ℕ) (event : Event) (t s : State) (events : List Event) → slice_get states j ≡ Some t → Run g t s events →
    ((event ≡ Nothing) × Each IsNothing events) ⊎ ((k : ℕ) × (event ≡ Dies k) × Each (IsFrom k) events)
    → leads_back g states event j s ≡ true
back_complete g states closed j event t s events at run least =
    elim least [
      | inl a ↦ subst (λ x. leads_back g states x j s ≡ true) (sym a.0)
          (returns_complete g states closed is_nothing j t s events at run
          (each_weaker _ _ is_nothing_passes events a.1))
      | inr b ↦ subst (λ x. leads_back g states x j s ≡ true) (sym b.1)
          (returns_complete g states closed (is_from b.0) j t s events at run
          (each_weaker _ _ (is_from_passes b.0) events b.2))
    ]

bad_complete : (g : List Node) (states : List State) → IsClosed g states → LeastFirst g → has_bad_cycle g states ≡ true
bad_complete g states closed l =
    let r = reached_complete g states closed l.s l.reachable in
    let n = closed.next r.i l.s l.t l.event r.at l.move in
    let m = move_listed g l.s l.t l.event l.move in
    let inner : some_below (λ j. is_at (slice_get states j) l.t && leads_back g states l.event j l.s) (length states)
    ≡ true =
    some_is_below (λ j. is_at (slice_get states j) l.t && leads_back g states l.event j l.s) (length states) n.0
    (slice_get_within states n.0 l.t n.1)
    (and_from (is_at (slice_get states n.0) l.t) (leads_back g states l.event n.0 l.s)
    (is_at_passes (slice_get states n.0) l.t n.1)
    (back_complete g states closed n.0 l.event l.t l.s l.events n.1 l.back l.least)) in
    let turn : turns_bad g states (Some l.s) ≡ true =
    at_any (λ (m' : Move). some_below (λ j. is_at (slice_get states j) m'.to && leads_back g states m'.event j l.s)
    (length states)) (moves_of g l.s) m.place (record { event = l.event; to = l.t }) m.is_x inner in
    some_is_below (λ i. is_reached g states i && turns_bad g states (slice_get states i)) (length states) r.i
    (slice_get_within states r.i l.s r.at)
    (and_from (is_reached g states r.i) (turns_bad g states (slice_get states r.i)) r.reached
    (ap (turns_bad g states) r.at ∙ turn))

-- the test says whether every lasso progresses
pub progress_decided : (g : List Node) → IsGraph g → (progresses g ≡ true) ↔ AllProgress g
progress_decided g is = (
  λ h. (exact g is).1 (λ bad. both_ways (has_bad_cycle g (states_from 0 g))
      (not-true (has_bad_cycle g (states_from 0 g)) h) (bad_complete g (states_from 0 g)
      (closed_universe g is.root is.is_root) (least_first g bad))),
  λ all. elim (cases_Bool (has_bad_cycle g (states_from 0 g))) [
    | inl yes' ↦ absurd ((exact g is).0 all (bad_from_least g (bad_sound g (states_from 0 g) yes')))
    | inr no' ↦ ap not no'
  ],
)
