-- Where no reachable cycle of the product is bad, every lasso progresses.
use Rattle.std.proofs.Common.{◌≡◌, ℕ, zero, suc, ◌+◌, ◌*◌, ◌<◌, ◌≤◌, ◌⊎◌, inl, inr, List, [], ◌∷◌, ◌++◌, arith, le_refl}
use Rattle.std.proofs.Common.{true, false, Some, slice_get, length, sym, refl, ap, ◌∙◌, subst, append_assoc}
use Rattle.std.proofs.Common.{length-append}
use Rattle.std.proofs.lemmas.Bool.{cases_lt}
use Rattle.std.proofs.lemmas.Option.{slice_get_within}
use Rattle.trace_pairs.specs.Graph.{Node, Edge, IsEdge, TargetsAreNodes}
use Rattle.buchi_core.specs.declared.event.Event.{Event}
use Rattle.buchi_core.specs.declared.event.Event.TheVariants.{Dies, Green, Nothing}
use Rattle.buchi_core.specs.Forest.{Entry, has, next_forest, event_of, before_drop, start, is_filled}
use Rattle.buchi_inclusion.specs.Product.{State, Moves, Each, Occurs, IsBad, IsFrom, IsNothing, BadCycle, IsClosed}
use Rattle.buchi_inclusion.specs.Product.{Reachable}
use Rattle.trace_pairs.specs.declared.lasso.Step.{Step}
use Rattle.trace_pairs.specs.Walk.{Walk}
use Rattle.trace_pairs.specs.Lasso.{IsPath, IsLasso, Trace, turns, Progresses}
use Rattle.buchi_inclusion.specs.Product.{MovesBy, Over}
use Rattle.buchi_core.proofs.Lists.{get_one}
use Rattle.buchi_inclusion.proofs.Descent.{reach_more}
use Rattle.buchi_core.proofs.Drop.{settled_at, kept_parts, set_at_is}
use Rattle.buchi_core.proofs.Follow.{In}
use Rattle.buchi_core.proofs.Green.{IsFromGreen}
use Rattle.buchi_inclusion.proofs.Runs.{over_run, over_append, each_weaker}
use Rattle.buchi_core.proofs.Bounds.{peak, peak_above}
use Rattle.buchi_inclusion.proofs.Returning.{two_turns, green_lives}
use Rattle.trace_pairs.proofs.Traces.{trace_first}
use Rattle.buchi_core.proofs.Pigeonhole.{pigeonhole}
use Rattle.buchi_core.proofs.Bits.{filled_has}
use Rattle.cyc_basics.proofs.Places.{get_within}

-- the least event of a list is bad, or green
pub record LeastGreen (events : List Event) : Type 0 where
  pub k : ℕ
  pub occurs : Occurs (Green k) events
  pub from : Each (IsFromGreen k) events

nothing_is_from : (k : ℕ) (event : Event) → IsNothing event → IsFrom k event
nothing_is_from k event e = subst (IsFrom k) (sym e) tt

nothing_is_from_green : (k : ℕ) (event : Event) → IsNothing event → IsFromGreen k event
nothing_is_from_green k event e = subst (IsFromGreen k) (sym e) tt

from_down : (i k : ℕ) → i ≤ k → (event : Event) → IsFrom k event → IsFrom i event
from_down i k l (Dies j) f = omega arith
from_down i k l (Green j) f = omega arith
from_down i k l Nothing f = tt

green_to_from : (i k : ℕ) → i ≤ k → (event : Event) → IsFromGreen k event → IsFrom i event
green_to_from i k l (Dies j) f = omega arith
green_to_from i k l (Green j) f = omega arith
green_to_from i k l Nothing f = tt

from_to_green : (i k : ℕ) → i < k → (event : Event) → IsFrom k event → IsFromGreen i event
from_to_green i k l (Dies j) f = omega arith
from_to_green i k l (Green j) f = omega arith
from_to_green i k l Nothing f = tt

green_down : (i k : ℕ) → i ≤ k → (event : Event) → IsFromGreen k event → IsFromGreen i event
green_down i k l (Dies j) f = omega arith
green_down i k l (Green j) f = omega arith
green_down i k l Nothing f = tt

with_head : (event : Event) (events : List Event) → IsBad events ⊎ LeastGreen events
    → IsBad (event ∷ events) ⊎ LeastGreen (event ∷ events)
with_head Nothing events (inl (inl quiet)) = inl (inl (refl, quiet))
with_head Nothing events (inl (inr d)) = inl (inr (d.0, inr d.1, (tt, d.2)))
with_head Nothing events (inr l) = inr (record { k = l.k; occurs = inr l.occurs; from = (tt, l.from) })
with_head (Dies i) events (inl (inl quiet)) = inl (inr (
  i,
  inl refl,
  (le_refl i, each_weaker IsNothing (IsFrom i) (nothing_is_from i) events quiet),
))
with_head (Dies i) events (inl (inr d)) =
    elim (cases_lt d.0 i) [
      | inl l ↦ inl (inr (d.0, inr d.1, (omega arith, d.2)))
      | inr l ↦ inl (inr (i, inl refl, (le_refl i, each_weaker (IsFrom d.0) (IsFrom i) (from_down i d.0 l) events d.2)))
    ]
with_head (Dies i) events (inr g) =
    elim (cases_lt g.k i) [
      | inl l ↦ inr (record { k = g.k; occurs = inr g.occurs; from = (l, g.from) })
      | inr l ↦ inl (inr (
        i,
        inl refl,
        (
          le_refl i,
          each_weaker (IsFromGreen g.k) (IsFrom i) (green_to_from i g.k l)
              events g.from,
        ),
      ))
    ]
with_head (Green i) events (inl (inl quiet)) = inr
    (record {
      k = i;
      occurs = inl refl;
      from = (
        le_refl i,
        each_weaker IsNothing (IsFromGreen i)
            (nothing_is_from_green i) events quiet,
      );
    })
with_head (Green i) events (inl (inr d)) =
    elim (cases_lt i d.0) [
      | inl l ↦ inr (record {
        k = i;
        occurs = inl refl;
        from =
            (le_refl i, each_weaker (IsFrom d.0) (IsFromGreen i) (from_to_green i d.0 l) events d.2);
      })
      | inr l ↦ inl (inr (d.0, inr d.1, (l, d.2)))
    ]
with_head (Green i) events (inr g) =
    elim (cases_lt g.k i) [
      | inl l ↦ inr (record { k = g.k; occurs = inr g.occurs; from = (omega arith, g.from) })
      | inr l ↦ inr (record {
        k = i;
        occurs = inl refl;
        from =
            (le_refl i, each_weaker (IsFromGreen g.k) (IsFromGreen i) (green_down i g.k l) events g.from);
      })
    ]

pub bad_or_green : (events : List Event) → IsBad events ⊎ LeastGreen events
bad_or_green [] = inl (inl tt)
bad_or_green (event ∷ events) = with_head event events (bad_or_green events)

-- turns
pub turns_add : (a b : ℕ) (c : List Step) → turns (a + b) c ≡ turns a c ++ turns b c
turns_add zero b c = ap (λ n. turns n c) (omega arith)
turns_add (suc a) b c =
    let e : suc a + b ≡ suc (a + b) = omega arith in
    ap (λ n. turns n c) e ∙ (ap (λ x. c ++ x) (turns_add a b c) ∙ sym (append_assoc c (turns a c) (turns b c)))

pub turns_turns : (n m : ℕ) (c : List Step) → turns n (turns m c) ≡ turns (n * m) c
turns_turns zero m c = let e : 0 ≡ 0 * m = omega arith in ap (λ x. turns x c) e
turns_turns (suc n) m c =
    let e : m + n * m ≡ suc n * m = omega arith in
    ap (λ x. turns m c ++ x) (turns_turns n m c) ∙ (sym (turns_add m (n * m) c) ∙ ap (λ x. turns x c) e)

-- entries after a step have positions
next_filled : (g : List Node) (u w : State) (event : Event) (j : ℕ) → Moves g u w event → j < length w.forest
    → (q : ℕ) × In w.forest (Some j) q
next_filled g u w event j m l = at (get_within w.forest j l)
  where
    at : (e : Entry) × (slice_get w.forest j ≡ Some e) → (q : ℕ) × In w.forest (Some j) q
    at e =
        let entries = before_drop m.e.pairs m.target.positions u.forest in
        let s = settled_at entries j e.0 (subst (λ F. slice_get F j ≡ Some e.0) m.forest_is e.1) in
        let k = (kept_parts entries s.i s.kept).0 in
        let f = filled_has e.0.set (subst (λ x. is_filled x ≡ true) (set_at_is entries s.i s.from s.is_from ∙ sym s.set)
        k) in
        (f.0, (e.0, e.1, f.1))

over_filled : (g : List Node) (u v : State) (steps : List Step) (events : List Event) (j : ℕ) → Over g u v steps events
    → 0 < length steps → j < length v.forest → (q : ℕ) × In v.forest (Some j) q
over_filled g u v [] [] j o l h = absurd (omega arith)
over_filled g u v [] (event ∷ events) j o l h = absurd o
over_filled g u v (step ∷ steps) [] j o l h = absurd o
over_filled g u v (step ∷ []) (event ∷ []) j o l h = next_filled g u v event j
    (subst (λ x. Moves g u x event) o.2 o.1.move) h
over_filled g u v (step ∷ []) (event ∷ (later ∷ events)) j o l h = absurd o.2
over_filled g u v (step ∷ (next ∷ steps)) (event ∷ events) j o l h = over_filled g o.0 v (next ∷ steps) events j o.2
    (omega arith) h

-- a position that returns
module _ (g : List Node) (steps : List Step) (P : ℕ → Type 0)
    (back : (r : ℕ) → P r → (q : ℕ) × P q × Trace g steps q r true) where
  abbrev sequence : (r : ℕ) → P r → ℕ → (q : ℕ) × P q
  sequence r h zero = (r, h)
  sequence r h (suc n) = let s = sequence r h n in let b = back s.0 s.1 in (b.0, b.1)

  chain : (r : ℕ) (h : P r) (i n j : ℕ) → j ≡ i + n
      → Trace g (turns (suc n) steps) (sequence r h (suc j)).0 (sequence r h i).0 true
  chain r h i zero j e =
      let e' : j ≡ i = omega arith in
      trace_first g steps [] (sequence r h (suc j)).0 (sequence r h j).0 (sequence r h i).0 false
      (back (sequence r h j).0 (sequence r h j).1).2 (ap (λ x. (sequence r h x).0) e', refl)
  chain r h i (suc n) zero e = absurd (omega arith)
  chain r h i (suc n) (suc j) e =
      trace_first g steps (turns (suc n) steps) (sequence r h (suc (suc j))).0 (sequence r h (suc j)).0
      (sequence r h i).0 true
      (back (sequence r h (suc j)).0 (sequence r h (suc j)).1).2 (chain r h i n j (omega arith))

  pub returns : (bound : ℕ) → ((q : ℕ) → P q → q < bound) → (r : ℕ) → P r
      → (q : ℕ) × (n : ℕ) × Trace g (turns (suc n) steps) q q true
  returns bound below r h =
      let t = pigeonhole (λ n. (sequence r h n).0) bound (λ n. below (sequence r h n).0 (sequence r h n).1) in (
        (sequence r h t.i).0,
        t.more,
        subst (λ x. Trace g (turns (suc t.more) steps) x (sequence r h t.i).0 true)
            (sym t.same) (chain r h t.i t.more (t.i + t.more) refl),
      )

-- a product state of a node that is in the list
pub record Place (g : List Node) (states : List State) (v : ℕ) : Type 0 where
  pub at : ℕ
  pub state : State
  pub is_at : slice_get states at ≡ Some state
  pub node_is : state.node ≡ v
  pub reach : Reachable g state

module _ (g : List Node) (states : List State) (closed : IsClosed g states) (targets : TargetsAreNodes g) where
  record Led (s : State) (steps : List Step) (w : ℕ) : Type 0 where
    pub place : Place g states w
    pub events : List Event
    pub over : Over g s place.state steps events

  record Next (s : State) (step : Step) (w : ℕ) : Type 0 where
    pub place : Place g states w
    pub event : Event
    pub moves : MovesBy g s place.state step event

  next_place : (v : ℕ) (step : Step) (e : Edge) (p : Place g states v) → step.node ≡ v → IsEdge g v step.edge e
      → Next p.state step e.target
  next_place v step e p node_is is_edge = with_target (get_within g e.target (targets v step.edge e is_edge))
    where
      with_target : (n : Node) × (slice_get g e.target ≡ Some n) → Next p.state step e.target
      with_target n =
          let t : State = record { node = e.target; forest = next_forest e.pairs n.0.positions p.state.forest } in
          let event = event_of e.pairs n.0.positions p.state.forest in
          let m : Moves g p.state t event = record {
            k = step.edge;
            e = e;
            target = n.0;
            is_edge = subst (λ x. IsEdge g x step.edge e) (sym p.node_is)
                is_edge;
            is_target = n.1;
            node_is = refl;
            forest_is = refl;
            event_is = refl;
          } in
          let j = closed.next p.at p.state t event p.is_at m in
          record {
            place = record {
              at = j.0;
              state = t;
              is_at = j.1;
              node_is = refl;
              reach = reach_more g p.state t event p.reach m;
            };
            event = event;
            moves = record { move = m; node_is = node_is ∙ sym p.node_is; edge_is = refl };
          }

  -- a path of the graph leads through the product
  led : (v : ℕ) (steps : List Step) (w : ℕ) (p : Place g states v) → IsPath g v steps w → Led p.state steps w
  led v [] w p path = record {
    place = record {
      at = p.at;
      state = p.state;
      is_at = p.is_at;
      node_is = p.node_is ∙ path;
      reach = p.reach;
    };
    events = [];
    over = refl;
  }
  led v (step ∷ steps) w p path =
      let n = next_place v step path.1 p path.0 path.2 in
      let rest = led path.1.target steps w n.place path.3 in
      record { place = rest.place; events = n.event ∷ rest.events; over = (n.place.state, n.moves, rest.over) }

  -- turn after turn
  module _ (first : ℕ) (cycle : List Step) (path : IsPath g first cycle first) where
    abbrev turned : Place g states first → ℕ → Place g states first
    turned p zero = p
    turned p (suc n) = (led first cycle first (turned p n) path).place

    turn_run : (p : Place g states first) (n i : ℕ)
        → (events : List Event) × Over g (turned p i).state (turned p (n + i)).state (turns n cycle) events
    turn_run p zero i = ([], ap (λ x. (turned p x).state) (let e : i ≡ 0 + i = omega arith in e))
    turn_run p (suc n) i =
        let l = led first cycle first (turned p i) path in
        let rest = turn_run p n (suc i) in
        let e : n + suc i ≡ suc n + i = omega arith in (
          l.events ++ rest.0,
          subst (λ x. Over g (turned p i).state (turned p x).state (turns (suc n) cycle) (l.events ++ rest.0)) e
              (over_append g (turned p i).state (turned p (suc i)).state (turned p (n + suc i)).state cycle
              (turns n cycle) l.events rest.0 l.over rest.1),
        )

    -- some state comes again
    record Again : Type 0 where
      pub place : Place g states first
      pub n : ℕ
      pub events : List Event
      pub over : Over g place.state place.state (turns (suc n) cycle) events

    again : Place g states first → Again
    again p =
        let t = pigeonhole (λ n. (turned p n).at) (length states)
        (λ n. slice_get_within states (turned p n).at (turned p n).state (turned p n).is_at) in
        let r = turn_run p (suc t.more) t.i in
        let e : suc t.more + t.i ≡ suc (t.i + t.more) = omega arith in
        let same : (turned p (suc (t.i + t.more))).state ≡ (turned p t.i).state =
        get_one states (turned p t.i).at _ _ (subst (λ x. slice_get states x
        ≡ Some (turned p (suc (t.i + t.more))).state) (sym t.same) (turned p (suc (t.i + t.more))).is_at)
        (turned p t.i).is_at in
        record {
          place = turned p t.i;
          n = t.more;
          events = r.0;
          over = subst (λ s. Over g (turned p t.i).state s (turns (suc t.more) cycle) r.0) same
              (subst (λ x. Over g (turned p t.i).state (turned p x).state (turns (suc t.more) cycle) r.0) e r.1);
        }

  root_place : Place g states 0
  root_place = record {
    at = closed.begin;
    state = record { node = 0; forest = start closed.root.positions };
    is_at = closed.begins;
    node_is = refl;
    reach = record {
      from = record { node = 0; forest = start closed.root.positions };
      starts = record { root = closed.root; is_root = closed.is_root; node_is = refl; forest_is = refl };
      events = [];
      run = refl;
    };
  }

  over_bad : (s : State) (steps : List Step) (events : List Event) → Reachable g s → Over g s s steps events
      → 0 < length steps → IsBad events → BadCycle g
  over_bad s [] events r o l b = absurd (omega arith)
  over_bad s (step ∷ steps) [] r o l b = absurd o
  over_bad s (step ∷ steps) (event ∷ events) r o l b = record {
    state = s;
    reachable = r;
    first = event;
    rest = events;
    run = over_run g s s (step ∷ steps) (event ∷ events) o;
    bad = b;
  }

  -- a position of the green entry returns
  green_returns : (s : State) (steps : List Step) (events : List Event) → Over g s s steps events → 0 < length steps
      → LeastGreen events → (q : ℕ) × (n : ℕ) × Trace g (turns (suc n) (steps ++ steps)) q q true
  green_returns s steps events o l green = with_entry (get_within s.forest green.k lives)
    where
      lives : green.k < length s.forest
      lives = green_lives g green.k s s steps events o green.from green.occurs

      with_entry : (e : Entry) × (slice_get s.forest green.k ≡ Some e)
          → (q : ℕ) × (n : ℕ) × Trace g (turns (suc n) (steps ++ steps)) q q true
      with_entry e =
          let r = over_filled g s s steps events green.k o l lives in
          returns g (steps ++ steps) (In s.forest (Some green.k))
          (two_turns g green.k s steps events o green.from green.occurs) (suc (peak (λ x. x) e.0.set))
          (λ q m. (let same : m.0 ≡ e.0 = get_one s.forest green.k m.0 e.0 m.1 e.1 in
          let a = peak_above (λ x. x) e.0.set q (subst (λ (x : Entry). has x.set q ≡ true) same m.2) in omega arith))
          r.0 r.1

  pub progresses : (BadCycle g → ⊥) → (l : Walk) → IsLasso g l → Progresses g l
  progresses good l is = with_again (again is.first l.cycle is.cycle (led 0 l.stem is.first root_place is.stem).place)
    where
      finish : (n : ℕ) → (q : ℕ) × (m : ℕ) × Trace g (turns (suc m) (turns (suc n) l.cycle ++ turns (suc n) l.cycle))
          q q true → Progresses g l
      finish n t =
          let e : turns (suc t.1) (turns (suc n) l.cycle ++ turns (suc n) l.cycle)
          ≡ turns (suc t.1 * (suc n + suc n)) l.cycle =
          ap (λ x. turns (suc t.1) x) (sym (turns_add (suc n) (suc n) l.cycle))
          ∙ turns_turns (suc t.1) (suc n + suc n) l.cycle in
          let c : suc t.1 * (suc n + suc n) ≡ suc ((n + suc n) + t.1 * (suc n + suc n)) = omega arith in
          record {
            position = t.0;
            k = (n + suc n) + t.1 * (suc n + suc n);
            trace = subst (λ x. Trace g x t.0 t.0 true) (e ∙ ap (λ x. turns x l.cycle) c) t.2;
          }

      long : (n : ℕ) → 0 < length (turns (suc n) l.cycle)
      long n = omega (arith, is.taken, length-append l.cycle (turns n l.cycle))

      with_again : Again is.first l.cycle is.cycle → Progresses g l
      with_again a =
          elim (bad_or_green a.events) [
            | inl bad ↦ absurd (good (over_bad a.place.state (turns (suc a.n) l.cycle) a.events a.place.reach a.over
                (long a.n) bad))
            | inr green ↦ finish a.n (green_returns a.place.state (turns (suc a.n) l.cycle) a.events a.over (long a.n)
                green)
          ]
