-- Ways back are lassos that don't progress; where there is none no cycle is bad.
use Rattle.std.proofs.Common.{◌≡◌, ℕ, ◌<◌, ◌≤◌, inl, inr, List, [], ◌∷◌, true, false, arith, Some, slice_get, length}
use Rattle.std.proofs.Common.{sym, refl, ap, ◌∙◌, subst, Vec, Global, ltb, ltb-true, le_refl, get_or, ◌+◌}
use Rattle.std.proofs.lemmas.Bool.{cases_Bool, both_ways, lt-ltb, cases_lt, cases_eq}
use Rattle.std.proofs.lemmas.Option.{slice_get_within, slice_get_read}
use Rattle.cyc_basics.specs.declared.limits.TheConstants.{MOST_POSITIONS}
use Rattle.trace_pairs.specs.Graph.{Node, IsGraph}
use Rattle.trace_pairs.specs.Lasso.{IsPath}
use Rattle.trace_pairs.specs.declared.lasso.Step.{Step}
use Rattle.trace_pairs.specs.declared.reach.Visit.{Visit}
use Rattle.buchi_core.specs.declared.event.Event.{Event}
use Rattle.buchi_core.specs.declared.event.Event.TheVariants.{Dies, Green, Nothing}
use Rattle.buchi_core.specs.Forest.{before_drop}
use Rattle.buchi_core.proofs.Drop.{event_facts}
use Rattle.buchi_core.proofs.Lists.{get_one}
use Rattle.buchi_inclusion.specs.declared.product.Transition.{Transition}
use Rattle.buchi_inclusion.specs.Product.{State, Moves, Over, Each, IsFrom, IsNothing, IsBad, BadCycle}
use Rattle.buchi_inclusion.specs.Answers.{LeastFirst}
use Rattle.buchi_inclusion.specs.Table.{IsStep, IsItem, IsTable}
use Rattle.buchi_inclusion.specs.Decision.{IsLeast, IsAtLeast, IsWalk, IsNoWay, IsWay, AreWays, IsWayBetween, IsCounter}
use Rattle.buchi_inclusion.specs.Decision.{IsGoodClass, AreNoWays}
use Rattle.buchi_inclusion.proofs.Runs.{over_path, each_weaker, over_taken}
use Rattle.buchi_inclusion.proofs.Progressing.{not_bad}
use Rattle.buchi_inclusion.proofs.Exact.{least_first}
use Rattle.buchi_inclusion.proofs.Tables.{move_at, all_reached, begin_at}
use Rattle.cyc_basics.proofs.Places.{get_within}

pub between_none : (g : List Node) (states : List State) (least : Event) (start : ℕ) (visits : List Visit) (at : ℕ)
    (v : Visit) → AreWays g states least start visits → slice_get visits at ≡ Some v
    → IsWayBetween g states least visits at at []
between_none g states least start visits at v w h =
    let s = w.listed at v h in
    record {
      v = v;
      w = v;
      is_v = h;
      is_w = h;
      walk = record
          { s = s.0; t = s.0; is_s = s.1; is_t = s.1; events = []; over = refl; ok = tt };
    }

pub between_more : (g : List Node) (states : List State) (least : Event) (visits : List Visit) (at to from : ℕ)
    (v : Visit) (steps : List Step) (step : Step) (s : State) →
    (l : IsWay g states least visits at v) → IsWayBetween g states least visits at to steps
    → slice_get visits at ≡ Some v → from ≡ v.from → slice_get states l.from.state ≡ Some s → step.node ≡ s.node
    → step.edge ≡ v.edge →
    IsWayBetween g states least visits from to (step ∷ steps)
between_more g states least visits at to from v steps step s l b h e is_s node edge =
    let same : b.v ≡ v = get_one visits at b.v v b.is_v h in
    let t : b.walk.s ≡ l.t = get_one states v.state b.walk.s l.t
    (subst (λ (x : Visit). slice_get states x.state ≡ Some b.walk.s) same b.walk.is_s) l.is_t in
    let ls : l.s ≡ s = get_one states l.from.state l.s s l.is_s is_s in
    record {
      v = l.from;
      w = b.w;
      is_v = subst (λ x. slice_get visits x ≡ Some l.from) (sym e) l.is_from;
      is_w = b.is_w;
      walk = record {
        s = l.s;
        t = b.walk.t;
        is_s = l.is_s;
        is_t = b.walk.is_t;
        events = l.event ∷ b.walk.events;
        over = (
          l.t,
          record {
            move = l.step.move;
            node_is = node ∙ ap (λ (x : State). x.node) (sym ls);
            edge_is = edge ∙ sym l.step.by;
          },
          subst (λ x. Over g x b.walk.t steps b.walk.events) t b.walk.over,
        );
        ok = (l.ok, b.walk.ok);
      };
    }

not_ltb : (i k : ℕ) → ltb i k ≡ false → k ≤ i
not_ltb i k h = elim (cases_lt i k) [ inl l ↦ absurd (both_ways (ltb i k) h (lt-ltb i k l)) | inr g ↦ g ]

at_least_from : (k : ℕ) (e : Event) → IsAtLeast (Dies k) e → IsFrom k e
at_least_from k (Dies i) h = not_ltb i k h
at_least_from k (Green i) h = not_ltb i k h
at_least_from k Nothing h = tt

at_least_nothing : (e : Event) → IsAtLeast Nothing e → e ≡ Nothing
at_least_nothing (Dies i) h = absurd (both_ways true h refl)
at_least_nothing (Green i) h = absurd (both_ways true h refl)
at_least_nothing Nothing h = refl

from_at_least : (k : ℕ) (e : Event) → IsFrom k e → IsAtLeast (Dies k) e
from_at_least k (Dies i) h = elim (cases_Bool (ltb i k)) [ inl y ↦ absurd (omega (arith, ltb-true i k y)) | inr n ↦ n ]
from_at_least k (Green i) h = elim (cases_Bool (ltb i k)) [ inl y ↦ absurd (omega (arith, ltb-true i k y)) | inr n ↦ n ]
from_at_least k Nothing h = refl

nothing_at_least : (e : Event) → e ≡ Nothing → IsAtLeast Nothing e
nothing_at_least (Dies i) h = absurd (let x : Dies i ≡ Nothing = h in cc)
nothing_at_least (Green i) h = absurd (let x : Green i ≡ Nothing = h in cc)
nothing_at_least Nothing h = refl

-- a cycle that begins with its least event is bad
pub bad_is : (least event : Event) (events : List Event) → IsLeast least → event ≡ least → Each (IsAtLeast least) events
    → IsBad (event ∷ events)
bad_is (Dies k) event events l e h = inr (
  k,
  inl e,
  (
    subst (IsFrom k) (sym e) (le_refl k),
    each_weaker (IsAtLeast (Dies k)) (IsFrom k) (at_least_from k) events h,
  ),
)
bad_is (Green k) event events l e h = absurd l
bad_is Nothing event events l e h = inl (e, each_weaker (IsAtLeast Nothing) IsNothing at_least_nothing events h)

module _ (g : List Node) (states : List State) (rows : List (Vec Transition Global)) (t : IsTable g states rows)
    (graph : IsGraph g) where
  pub counter_is : (least : Event) (q k : ℕ) (m : Transition) (s : State) (step : Step) (stem back : List Step)
      → IsLeast least → IsItem g states q k m → m.event ≡ least → slice_get states q ≡ Some s → step.node ≡ s.node
      → step.edge ≡ k →
      IsWalk g states least m.target q back → IsWalk g states (Dies 0) 0 q stem
      → IsCounter g (record { stem = stem; cycle = step ∷ back })
  counter_is least q k m s step stem back l item e is_s node edge b a =
      let same : item.s ≡ s = get_one states q item.s s item.is_s is_s in
      let target : b.s ≡ item.t = get_one states m.target b.s item.t b.is_s item.is_t in
      let bt : b.t ≡ s = get_one states q b.t s b.is_t is_s in
      let at : a.t ≡ s = get_one states q a.t s a.is_t is_s in
      let first : a.s ≡ t.begin.first = get_one states 0 a.s t.begin.first a.is_s t.begin.is_first in
      let st : IsStep g s k item.t m.event = subst (λ y. IsStep g y k item.t m.event) same item.step in
      let over : Over g s s (step ∷ back) (m.event ∷ b.events) = (
        item.t,
        record { move = st.move; node_is = node; edge_is = edge ∙ sym st.by },
        subst (λ x. Over g x s back b.events) target (subst (λ x. Over g b.s x back b.events) bt b.over),
      ) in
      let zero' : a.s.node ≡ 0 = ap (λ (x : State). x.node) first ∙ t.begin.starts.node_is in
      let path : IsPath g a.s.node stem a.t.node = over_path g a.s a.t stem a.events a.over in
      record {
        lasso = record {
          first = s.node;
          stem = subst (λ v. IsPath g v stem s.node) zero'
              (subst (λ (x : State). IsPath g a.s.node stem x.node) at path);
          cycle = over_path g s s (step ∷ back) (m.event ∷ b.events) over;
          taken = over_taken g s s (step ∷ back) m.event b.events over;
        };
        stuck = λ p. not_bad g graph.fit s (step ∷ back) (m.event ∷ b.events) p.k p.position over
            (bad_is least m.event b.events l e b.ok) p.trace;
      }

  -- no bad cycle begins with an event whose class is good
  no_first : (least : Event) → IsGoodClass g states rows least → (l : LeastFirst g) → l.event ≡ least
      → Each (IsAtLeast least) l.events → ⊥
  no_first least good l e h =
      let q = (all_reached g states rows t).all' l.s l.reachable in
      let m = move_at g states rows t q.0 l.s l.t l.event q.1 l.move in
      good q.0 m.row m.is_row m.k m.m m.is_m (m.event_is ∙ e) l.t l.s l.events m.is_u q.1 l.back h

  death_below : (s u : State) (k : ℕ) → Moves g s u (Dies k) → k < length s.forest
  death_below s u k m = omega (
    arith,
    ((event_facts (before_drop m.e.pairs m.target.positions s.forest) 0
        (length s.forest)).dies k (sym m.event_is)).1,
  )

  pub all_good : IsGoodClass g states rows Nothing → ((k : ℕ) → k < MOST_POSITIONS → IsGoodClass g states rows (Dies k))
      → BadCycle g → ⊥
  all_good quiet deaths bad =
      let l = least_first g bad in
      elim l.least [
        | inl q ↦ no_first Nothing quiet l q.0 (each_weaker IsNothing (IsAtLeast Nothing) nothing_at_least l.events q.1)
        | inr d ↦ (
            let q = (all_reached g states rows t).all' l.s l.reachable in
            let below : d.0 < length l.s.forest = death_below l.s l.t d.0 (subst (Moves g l.s l.t) d.1 l.move) in
            no_first (Dies d.0) (deaths d.0 (omega (arith, below, (t.found q.0 l.s q.1).short))) l d.1
            (each_weaker (IsFrom d.0) (IsAtLeast (Dies d.0)) (from_at_least d.0) l.events d.2))
      ]

  all_from_zero : (events : List Event) → Each (IsAtLeast (Dies 0)) events
  all_from_zero [] = tt
  all_from_zero (Dies i ∷ events) = (from_at_least 0 (Dies i) (omega arith), all_from_zero events)
  all_from_zero (Green i ∷ events) = (from_at_least 0 (Green i) (omega arith), all_from_zero events)
  all_from_zero (Nothing ∷ events) = (refl, all_from_zero events)

  -- each listed state has a way from the first
  pub stem_is : (place : ℕ) → place < length states → IsNoWay g states (Dies 0) 0 place → ⊥
  stem_is place l none = at (get_within states place l)
    where
      at : (s : State) × (slice_get states place ≡ Some s) → ⊥
      at s = let r = (t.found place s.0 s.1).reached in
          none r.from s.0 r.events (begin_at g states rows t s.0 r) s.1 r.run (all_from_zero r.events)

-- a way to the visit where a state was found
pub walk_is : (g : List Node) (states : List State) (least : Event) (start to at : ℕ) (visits : List Visit)
    (steps : List Step) → AreWays g states least start visits
    → (v : Visit) × (slice_get visits at ≡ Some v) × (v.state ≡ to) →
    IsWayBetween g states least visits 0 at steps → IsWalk g states least start to steps
walk_is g states least start to at visits steps w v b =
    let first : b.v ≡ w.first = get_one visits 0 b.v w.first b.is_v w.is_first in
    let last : b.w ≡ v.0 = get_one visits at b.w v.0 b.is_w v.1 in
    let from : b.v.state ≡ start = ap (λ (x : Visit). x.state) first ∙ w.starts in
    let to' : b.w.state ≡ to = ap (λ (x : Visit). x.state) last ∙ v.2 in
    subst (λ x. IsWalk g states least x to steps) from (subst (λ x. IsWalk g states least b.v.state x steps) to' b.walk)

pub item_small : (g : List Node) (states : List State) (q k : ℕ) (m : Transition) → IsGraph g → IsItem g states q k m
    → k < 256
item_small g states q k m graph x =
    let e = x.step.move.is_edge in
    omega (
      arith,
      x.step.by,
      slice_get_within e.node.edges x.step.move.k x.step.move.e e.is_edge,
      graph.few x.s.node e.node e.is_node,
    )

-- the rows before the one at a place and that one are the rows before the next
pub rows_done : (g : List Node) (states : List State) (rows list : List (Vec Transition Global)) (least : Event)
    (place : ℕ) (row : Vec Transition Global) (items : List Transition) → list ≡ rows → place < length list
    → row ≡ get_or list place row → items ≡ row.items →
    ((q : ℕ) (r : Vec Transition Global) → q < place → slice_get rows q ≡ Some r → AreNoWays g states least q r.items)
    → AreNoWays g states least place items →
    (q : ℕ) (r : Vec Transition Global) → q < place + 1 → slice_get rows q ≡ Some r → AreNoWays g states least q r.items
rows_done g states rows list least place row items e l at same before here q r less h =
    elim (cases_eq q place) [
      | inl f ↦
          (let a : slice_get rows place ≡ Some row = subst (λ xs. slice_get xs place ≡ Some row) e
          (slice_get_read list (length list) place row refl l at) in
          let b : row ≡ r = get_one rows place row r a (subst (λ x. slice_get rows x ≡ Some r) f h) in
          subst (λ x. AreNoWays g states least x r.items) (sym f)
          (subst (λ (x : Vec Transition Global). AreNoWays g states least place x.items) b
          (subst (AreNoWays g states least place) same here)))
      | inr ne ↦ before q r (omega arith) h
    ]
