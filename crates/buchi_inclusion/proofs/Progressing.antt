-- Where every lasso progresses, no reachable cycle of the product is bad.
use Rattle.std.proofs.Common.{◌≡◌, ℕ, zero, suc, ◌+◌, ◌<◌, ◌≤◌, inl, inr, List, [], ◌∷◌, arith, le_refl, Bool, true}
use Rattle.std.proofs.Common.{false, ◌||◌, Option, Some, None, slice_get, length, sym, refl, ◌∙◌, subst}
use Rattle.std.proofs.lemmas.Bool.{or_cases, both_ways}
use Rattle.std.proofs.lemmas.Option.{slice_get_within}
use Rattle.trace_pairs.specs.Graph.{Node, Edge, Pair, IsEdge}
use Rattle.buchi_core.specs.declared.event.Event.{Event}
use Rattle.buchi_core.specs.declared.event.Event.TheVariants.{Dies, Green, Nothing}
use Rattle.buchi_core.specs.Forest.{has, next_forest, event_of}
use Rattle.buchi_inclusion.specs.Product.{State, IsFrom, IsNothing, Each, Occurs, IsBad, BadCycle}
use Rattle.trace_pairs.specs.declared.lasso.Step.{Step}
use Rattle.trace_pairs.specs.Walk.{Walk}
use Rattle.trace_pairs.specs.Lasso.{IsPath, IsLasso, Joins, Trace, turns, Progresses}
use Rattle.buchi_inclusion.specs.Product.{MovesBy, Over}
use Rattle.trace_pairs.specs.Graph.{PairsFit}
use Rattle.buchi_inclusion.proofs.Runs.{edge_one, run_steps, over_path, over_turns, repeated, bad_repeated, over_taken}
use Rattle.buchi_core.proofs.Follow.{In, ChildIn, IsAbove, AboveOf, OlderThan, NoDeath, Followed, step_follow}
use Rattle.buchi_core.proofs.Follow.{step_enter, step_cover, next_apart, next_older}

-- a step of the product with a pair, after which entry o has the position
pub record Tick (g : List Node) (o : Option ℕ) (u w : State) (step : Step) (event : Event) (q p : ℕ) (now : Bool)
    : Type 0 where
  pub moves : MovesBy g u w step event
  pub joins : Joins g step q p now
  pub inside : In w.forest o p

abbrev pub Held : List Node → Option ℕ → State → State → List Step → List Event → ℕ → ℕ → Bool → Type 0
Held g o u v [] [] q r progress = (u ≡ v) × (q ≡ r) × (progress ≡ false)
Held g o u v [] (event ∷ events) q r progress = ⊥
Held g o u v (step ∷ steps) [] q r progress = ⊥
Held g o u v (step ∷ steps) (event ∷ events) q r progress =
    (w : State) × (p : ℕ) × (now : Bool) × (later : Bool) × Tick g o u w step event q p now
    × Held g o w v steps events p r later × (progress ≡ (now || later))

module _ (g : List Node) (fit : PairsFit g) where
  -- the step's forest and event, and the pair in them
  record Facts (u w : State) (event : Event) (q p : ℕ) (now : Bool) : Type 0 where
    pub pairs : List Pair
    pub positions : List ℕ
    pub forest_is : next_forest pairs positions u.forest ≡ w.forest
    pub event_is : event_of pairs positions u.forest ≡ event
    pub k : ℕ
    pub pair : Pair
    pub is_pair : slice_get pairs k ≡ Some pair
    pub old_is : pair.0 ≡ q
    pub new_is : pair.1 ≡ p
    pub progress_is : pair.2 ≡ now
    pub fits : has positions pair.1 ≡ true

  facts : (o : Option ℕ) (u w : State) (step : Step) (event : Event) (q p : ℕ) (now : Bool)
      → Tick g o u w step event q p now → Facts u w event q p now
  facts o u w step event q p now t =
      let m = t.moves.move in
      let j = t.joins in
      let at : IsEdge g u.node m.k j.e = subst (λ v. IsEdge g v m.k j.e) t.moves.node_is
      (subst (λ k. IsEdge g step.node k j.e) t.moves.edge_is j.is_edge) in
      let same : j.e ≡ m.e = edge_one g u.node m.k j.e m.e at m.is_edge in
      let is_pair : slice_get m.e.pairs j.k ≡ Some j.pair = subst (λ (x : Edge). slice_get x.pairs j.k ≡ Some j.pair)
      same j.is_pair in
      record {
        pairs = m.e.pairs;
        positions = m.target.positions;
        forest_is = sym m.forest_is;
        event_is = sym m.event_is;
        k = j.k;
        pair = j.pair;
        is_pair = is_pair;
        old_is = j.old_is;
        new_is = j.new_is;
        progress_is = j.progress_is;
        fits = (fit u.node m.k j.k m.e m.is_edge.node m.target j.pair m.is_edge.is_node m.is_edge.is_edge m.is_target
            is_pair).1;
      }

  tick_follow : (o : Option ℕ) (u w : State) (step : Step) (event : Event) (q p : ℕ) (now : Bool) (j : ℕ)
      → Tick g o u w step event q p now → ChildIn u.forest o q j → OlderThan o j → In u.forest o q → AboveOf o event →
      Followed w.forest event o p j
  tick_follow o u w step event q p now j t c l m a =
      let f = facts o u w step event q p now t in
      let r = step_follow f.pairs f.positions u.forest o q j f.k f.pair c f.is_pair f.old_is f.fits l m
      (subst (AboveOf o) (sym f.event_is) a)
      (subst (λ x. In (next_forest f.pairs f.positions u.forest) o x) (sym f.new_is)
      (subst (λ F. In F o p) (sym f.forest_is) t.inside)) in
      subst (λ x. Followed w.forest event o x j) f.new_is
      (subst (λ F. Followed F event o f.pair.1 j) f.forest_is
      (subst (λ E. Followed (next_forest f.pairs f.positions u.forest) E o f.pair.1 j) f.event_is r))

  tick_enter : (i : ℕ) (u w : State) (step : Step) (event : Event) (q p : ℕ) → Tick g (Some i) u w step event q p true
      → In u.forest (Some i) q → IsAbove i event → (j : ℕ) × ChildIn w.forest (Some i) p j
  tick_enter i u w step event q p t m a =
      let f = facts (Some i) u w step event q p true t in
      let r = step_enter f.pairs f.positions u.forest i q f.k f.pair f.is_pair f.old_is f.progress_is f.fits m
      (subst (IsAbove i) (sym f.event_is) a)
      (subst (λ x. In (next_forest f.pairs f.positions u.forest) (Some i) x) (sym f.new_is)
      (subst (λ F. In F (Some i) p) (sym f.forest_is) t.inside)) in (
        r.0,
        subst (λ x. ChildIn w.forest (Some i) x r.0) f.new_is
            (subst (λ F. ChildIn F (Some i) f.pair.1 r.0) f.forest_is r.1),
      )

  tick_cover : (o : Option ℕ) (u w : State) (step : Step) (event : Event) (q p : ℕ) (now : Bool)
      → Tick g o u w step event q p now → (j : ℕ) × ChildIn w.forest None p j
  tick_cover o u w step event q p now t =
      let f = facts o u w step event q p now t in
      let r = step_cover f.pairs f.positions u.forest f.pair.1 f.fits in (
        r.0,
        subst (λ x. ChildIn w.forest None x r.0) f.new_is
            (subst (λ F. ChildIn F None f.pair.1 r.0) f.forest_is r.1),
      )

  tick_apart : (o' : Option ℕ) (u w : State) (step : Step) (event : Event) (q p : ℕ) (now : Bool)
      → Tick g o' u w step event q p now → (o : Option ℕ) (x i j : ℕ) → ChildIn w.forest o x i → ChildIn w.forest o x j
      → i ≡ j
  tick_apart o' u w step event q p now t o x i j a b =
      let f = facts o' u w step event q p now t in
      next_apart f.pairs f.positions u.forest o x i j (subst (λ F. ChildIn F o x i) (sym f.forest_is) a)
      (subst (λ F. ChildIn F o x j) (sym f.forest_is) b)

  tick_older : (o' : Option ℕ) (u w : State) (step : Step) (event : Event) (q p : ℕ) (now : Bool)
      → Tick g o' u w step event q p now → (o : Option ℕ) (x j : ℕ) → ChildIn w.forest o x j → OlderThan o j
  tick_older o' u w step event q p now t o x j a =
      let f = facts o' u w step event q p now t in
      next_older f.pairs f.positions u.forest o x j (subst (λ F. ChildIn F o x j) (sym f.forest_is) a)

  -- along a run
  record RunFollowed (o : Option ℕ) (u v : State) (steps : List Step) (events : List Event) (q r : ℕ) (progress : Bool)
      (j : ℕ) : Type 0 where
    pub place : ℕ
    pub no_later : place ≤ j
    pub child : ChildIn v.forest o r place
    pub kept : place ≡ j → Each (NoDeath j) events × Held g (Some j) u v steps events q r progress

  run_follow : (o : Option ℕ) (u v : State) (steps : List Step) (events : List Event) (q r : ℕ) (progress : Bool)
      (j : ℕ) → Held g o u v steps events q r progress → Each (AboveOf o) events →
      In u.forest o q → ChildIn u.forest o q j → OlderThan o j → RunFollowed o u v steps events q r progress j
  run_follow o u v [] [] q r progress j h a m c l = record {
    place = j;
    no_later = le_refl j;
    child = subst (λ (s : State). ChildIn s.forest o r j) h.0 (subst (λ x. ChildIn u.forest o x j) h.1 c);
    kept = λ e. (tt, h);
  }
  run_follow o u v [] (event ∷ events) q r progress j h a m c l = absurd h
  run_follow o u v (step ∷ steps) [] q r progress j h a m c l = absurd h
  run_follow o u v (step ∷ steps) (event ∷ events) q r progress j h a m c l =
      let f = tick_follow o u h.0 step event q h.1 h.2 j h.4 c l m a.0 in
      let l' = tick_older o u h.0 step event q h.1 h.2 h.4 o h.1 f.place f.child in
      let rest = run_follow o h.0 v steps events h.1 r h.3 f.place h.5 a.1 h.4.inside f.child l' in
      record {
        place = rest.place;
        no_later = omega (arith, rest.no_later, f.no_later);
        child = rest.child;
        kept = λ e. (
            let same : f.place ≡ j = omega (arith, rest.no_later, f.no_later) in
            let k = rest.kept (omega (arith, rest.no_later, f.no_later)) in (
              (f.no_death same, subst (λ x. Each (NoDeath x) events) same k.0),
              (
                h.0,
                h.1,
                h.2,
                h.3,
                record {
                  moves = h.4.moves;
                  joins = h.4.joins;
                  inside = (
                    f.child.e,
                    subst (λ x. slice_get h.0.forest x ≡ Some f.child.e) same f.child.is_e,
                    f.child.has_q,
                  );
                },
                subst (λ x. Held g (Some x) h.0 v steps events h.1 r h.3) same k.1,
                h.6,
              ),
            ));
      }

  -- after a pair that progresses the position is in a child
  run_enter : (i : ℕ) (u v : State) (steps : List Step) (events : List Event) (q r : ℕ) (progress : Bool)
      → Held g (Some i) u v steps events q r progress → progress ≡ true → Each (IsAbove i) events →
      In u.forest (Some i) q → (j : ℕ) × ChildIn v.forest (Some i) r j
  run_enter i u v [] [] q r progress h t a m = absurd (both_ways progress h.2 t)
  run_enter i u v [] (event ∷ events) q r progress h t a m = absurd h
  run_enter i u v (step ∷ steps) [] q r progress h t a m = absurd h
  run_enter i u v (step ∷ steps) (event ∷ events) q r progress h t a m =
      elim (or_cases h.2 h.3 (sym h.6 ∙ t)) [
        | inl now ↦
            (let c = tick_enter i u h.0 step event q h.1 (subst (λ b. Tick g (Some i) u h.0 step event q h.1 b) now h.4)
            m a.0 in
            let l = tick_older (Some i) u h.0 step event q h.1 h.2 h.4 (Some i) h.1 c.0 c.1 in
            let f = run_follow (Some i) h.0 v steps events h.1 r h.3 c.0 h.5 a.1 h.4.inside c.1 l in
            (f.place, f.child))
        | inr later ↦ run_enter i h.0 v steps events h.1 r h.3 h.5 later a.1 h.4.inside
      ]

  each_none : (events : List Event) → Each (AboveOf None) events
  each_none [] = tt
  each_none (event ∷ events) = (tt, each_none events)

  -- the end of a run that isn't empty
  record End (v : State) (r : ℕ) : Type 0 where
    pub cover : (j : ℕ) × ChildIn v.forest None r j
    pub apart : (o : Option ℕ) (x i j : ℕ) → ChildIn v.forest o x i → ChildIn v.forest o x j → i ≡ j
    pub older : (o : Option ℕ) (x j : ℕ) → ChildIn v.forest o x j → OlderThan o j

  tick_end : (o : Option ℕ) (u w : State) (step : Step) (event : Event) (q p : ℕ) (now : Bool)
      → Tick g o u w step event q p now → End w p
  tick_end o u w step event q p now t = record {
    cover = tick_cover o u w step event q p now t;
    apart = tick_apart o u w step event q p now t;
    older = tick_older o u w step event q p now t;
  }

  run_end : (o : Option ℕ) (u v : State) (steps : List Step) (events : List Event) (q r : ℕ) (progress : Bool)
      → Held g o u v steps events q r progress → End u q → End v r
  run_end o u v [] [] q r progress h e = subst (λ s. End s r) h.0 (subst (End u) h.1 e)
  run_end o u v [] (event ∷ events) q r progress h e = absurd h
  run_end o u v (step ∷ steps) [] q r progress h e = absurd h
  run_end o u v (step ∷ steps) (event ∷ events) q r progress h e = run_end o h.0 v steps events h.1 r h.3 h.5
      (tick_end o u h.0 step event q h.1 h.2 h.4)

  progress_end : (o : Option ℕ) (u v : State) (steps : List Step) (events : List Event) (q r : ℕ) (progress : Bool)
      → Held g o u v steps events q r progress → progress ≡ true → End v r
  progress_end o u v [] [] q r progress h t = absurd (both_ways progress h.2 t)
  progress_end o u v [] (event ∷ events) q r progress h t = absurd h
  progress_end o u v (step ∷ steps) [] q r progress h t = absurd h
  progress_end o u v (step ∷ steps) (event ∷ events) q r progress h t = run_end o h.0 v steps events h.1 r h.3 h.5
      (tick_end o u h.0 step event q h.1 h.2 h.4)

  quiet_above : (j : ℕ) (events : List Event) → Each IsNothing events → Each (IsAbove j) events
  quiet_above j [] e = tt
  quiet_above j (event ∷ events) e = (subst (IsAbove j) (sym e.0) tt, quiet_above j events e.1)

  from_above : (j k : ℕ) (event : Event) → j < k → IsFrom k event → IsAbove j event
  from_above j k (Dies i) l f = omega arith
  from_above j k (Green i) l f = omega arith
  from_above j k Nothing l f = tt

  death_above : (j k : ℕ) (events : List Event) → j < k → Each (IsFrom k) events → Each (IsAbove j) events
  death_above j k [] l e = tt
  death_above j k (event ∷ events) l e = (from_above j k event l e.0, death_above j k events l e.1)

  occurs_later : (j k : ℕ) (events : List Event) → Occurs (Dies k) events → Each (NoDeath j) events → j < k
  occurs_later j k [] o e = absurd o
  occurs_later j k (event ∷ events) o e = elim o [ inl is ↦ e.0 k is | inr later ↦ occurs_later j k events later e.1 ]

  bad_above : (j : ℕ) (events : List Event) → IsBad events → Each (NoDeath j) events → Each (IsAbove j) events
  bad_above j events b e =
      elim b [
        | inl quiet ↦ quiet_above j events quiet
        | inr death ↦ death_above j death.0 events (occurs_later j death.0 events death.1 e) death.2
      ]

  abbrev past : Option ℕ → ℕ
  past None = 0
  past (Some i) = suc i

  entered : (o : Option ℕ) (s : State) (steps : List Step) (events : List Event) (q : ℕ)
      → Held g o s s steps events q q true → Each (AboveOf o) events → In s.forest o q
      → (j : ℕ) × ChildIn s.forest o q j
  entered None s steps events q h a m = (progress_end None s s steps events q q true h refl).cover
  entered (Some i) s steps events q h a m = run_enter i s s steps events q q true h refl a m

  past_older : (o : Option ℕ) (j : ℕ) → OlderThan o j → past o ≤ j
  past_older None j l = omega arith
  past_older (Some i) j l = omega arith

  record Down (o : Option ℕ) (s : State) (steps : List Step) (events : List Event) (q : ℕ) : Type 0 where
    pub j : ℕ
    pub child : ChildIn s.forest o q j
    pub further : past o ≤ j
    pub above : Each (IsAbove j) events
    pub held : Held g (Some j) s s steps events q q true

  down : (o : Option ℕ) (s : State) (steps : List Step) (events : List Event) (q : ℕ) → IsBad events
      → Held g o s s steps events q q true → Each (AboveOf o) events → In s.forest o q → Down o s steps events q
  down o s steps events q b h a m =
      let end = progress_end o s s steps events q q true h refl in
      let c = entered o s steps events q h a m in
      let l = end.older o q c.0 c.1 in
      let f = run_follow o s s steps events q q true c.0 h a m c.1 l in
      let same = end.apart o q f.place c.0 f.child c.1 in
      let k = f.kept same in
      record { j = c.0; child = c.1; further = past_older o c.0 l; above = bad_above c.0 events b k.0; held = k.1 }

  -- deeper and deeper, past the forest's end
  deeper : (n : ℕ) (o : Option ℕ) (s : State) (steps : List Step) (events : List Event) (q : ℕ) → IsBad events
      → Held g o s s steps events q q true → Each (AboveOf o) events → In s.forest o q →
      length s.forest ≤ n + past o → ⊥
  deeper zero o s steps events q b h a m le =
      let d = down o s steps events q b h a m in
      omega (arith, d.further, slice_get_within s.forest d.j d.child.e d.child.is_e)
  deeper (suc n) o s steps events q b h a m le =
      let d = down o s steps events q b h a m in
      deeper n (Some d.j) s steps events q b d.held d.above (d.child.e, d.child.is_e, d.child.has_q)
      (omega (arith, d.further, le))

  held_from : (u v : State) (steps : List Step) (events : List Event) (q r : ℕ) (progress : Bool)
      → Over g u v steps events → Trace g steps q r progress → Held g None u v steps events q r progress
  held_from u v [] [] q r progress o t = (o, t.0, t.1)
  held_from u v [] (event ∷ events) q r progress o t = absurd o
  held_from u v (step ∷ steps) [] q r progress o t = absurd o
  held_from u v (step ∷ steps) (event ∷ events) q r progress o t = (
    o.0,
    t.0,
    t.1,
    t.2,
    record { moves = o.1; joins = t.3; inside = tt },
    held_from o.0 v steps events t.0 r t.2 o.2 t.4,
    t.5,
  )

  pub not_bad : (s : State) (steps : List Step) (events : List Event) (k q : ℕ) → Over g s s steps events → IsBad events
      → Trace g (turns (suc k) steps) q q true → ⊥
  not_bad s steps events k q o b t =
      deeper (length s.forest) None s (turns (suc k) steps) (repeated (suc k) events) q (bad_repeated events k b)
      (held_from s s (turns (suc k) steps) (repeated (suc k) events) q q true (over_turns g s steps events (suc k) o) t)
      (each_none (repeated (suc k) events)) tt (omega arith)

  -- the cycle's lasso
  pub lasso_of : (bad : BadCycle g) → (l : Walk) × IsLasso g l
      × Over g bad.state bad.state l.cycle (bad.first ∷ bad.rest)
  lasso_of bad =
      let r = bad.reachable in
      let stem = run_steps g r.from bad.state r.events r.run in
      let cycle = run_steps g bad.state bad.state (bad.first ∷ bad.rest) bad.run in (
        record { stem = stem.0; cycle = cycle.0 },
        record {
          first = bad.state.node;
          stem = subst (λ v. IsPath g v stem.0 bad.state.node) r.starts.node_is
              (over_path g r.from bad.state stem.0 r.events stem.1);
          cycle = over_path g bad.state bad.state cycle.0 (bad.first ∷ bad.rest) cycle.1;
          taken = over_taken g bad.state bad.state cycle.0 bad.first bad.rest cycle.1;
        },
        cycle.1,
      )

  -- a bad cycle's lasso doesn't progress
  pub no_progress : (bad : BadCycle g) → Progresses g (lasso_of bad).0 → ⊥
  no_progress bad p = not_bad bad.state (lasso_of bad).0.cycle (bad.first ∷ bad.rest) p.k p.position
      (lasso_of bad).2 bad.bad p.trace

  -- where all lassos progress no cycle is bad
  pub good_from_lassos : ((l : Walk) → IsLasso g l → Progresses g l) → BadCycle g → ⊥
  good_from_lassos all bad = no_progress bad (all (lasso_of bad).0 (lasso_of bad).1)
