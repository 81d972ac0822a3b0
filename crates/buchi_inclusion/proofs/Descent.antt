-- The descent: where no cycle of the product is bad, a local relation holds at node 0 at all stages.
use Rattle.std.proofs.Common.{◌≡◌, ℕ, zero, suc, ◌+◌, ◌<◌, ◌≤◌, ◌⊎◌, inl, inr, List, [], ◌∷◌, ◌++◌, arith, le_refl}
use Rattle.std.proofs.Common.{le_of_eq, Bool, true, false, cond, Some, None, slice_get, length, nat_eq, sym, refl, ap}
use Rattle.std.proofs.Common.{◌∙◌, subst, eqb-true, max, ltb}
use Rattle.std.proofs.lemmas.Bool.{cases_Bool, cases_eq, cases_lt, or_cases, eq-eqb, ne_eqb, cond_both, lt-ltb, le-ltb}
use Rattle.std.proofs.lemmas.Bool.{cond-true, cond-false, cases_order}
use Rattle.std.proofs.lemmas.Option.{slice_get_within}
use Rattle.trace_pairs.specs.Graph.{Edge, Node, IsEdge, Falls, IsLocal, TargetsAreNodes}
use Rattle.buchi_core.specs.declared.event.Event.{Event}
use Rattle.buchi_core.specs.declared.event.Event.TheVariants.{Dies, Green, Nothing}
use Rattle.buchi_core.specs.Forest.{Entry, next_forest, event_of, start, top, has}
use Rattle.buchi_inclusion.specs.Product.{State, Moves, Run, IsFrom, IsNothing, Each, BadCycle, IsClosed, Reachable}
use Rattle.buchi_inclusion.proofs.Measures.{LowerBy, by_measures}
use Rattle.buchi_core.proofs.Lists.{get_one}
use Rattle.buchi_core.proofs.Places.{bad_false}
use Rattle.buchi_core.proofs.Bounds.{Within, peak, peak_above}
use Rattle.buchi_core.proofs.Drop.{Stepped, stepped}
use Rattle.buchi_core.proofs.Counting.{unseen, seen_too, unseen_less}
use Rattle.cyc_basics.proofs.Places.{get_within}

-- a path that began with an event, all its events being of a class
pub record Since (g : List Node) (Ok : Event → Type 0) (first : Event) (s t : State) : Type 0 where
  pub events : List Event
  pub run : Run g s t (first ∷ events)
  pub ok : Each Ok events

run_more : (g : List Node) (s t u : State) (events : List Event) (event : Event) → Run g s t events → Moves g t u event
    → Run g s u (events ++ (event ∷ []))
run_more g s t u [] event r m = (u, subst (λ x. Moves g x u event) (sym r) m, refl)
run_more g s t u (x ∷ events) event r m = (r.0, r.1, run_more g r.0 t u events event r.2 m)

each_more : (P : Event → Type 0) (events : List Event) (event : Event) → Each P events → P event
    → Each P (events ++ (event ∷ []))
each_more P [] event e p = (p, tt)
each_more P (x ∷ events) event e p = (e.0, each_more P events event e.1 p)

pub since_more : (g : List Node) (Ok : Event → Type 0) (first event : Event) (s t u : State) → Since g Ok first s t
    → Moves g t u event → Ok event → Since g Ok first s u
since_more g Ok first event s t u r m ok = record {
  events = r.events ++ (event ∷ []);
  run = run_more g s t u (first ∷ r.events) event r.run m;
  ok = each_more Ok r.events event r.ok ok;
}

pub since_new : (g : List Node) (Ok : Event → Type 0) (event : Event) (s t : State) → Moves g s t event
    → Since g Ok event s t
since_new g Ok event s t m = record { events = []; run = (t, m, refl); ok = tt }

pub reach_more : (g : List Node) (s t : State) (event : Event) → Reachable g s → Moves g s t event → Reachable g t
reach_more g s t event r m = record {
  from = r.from;
  starts = r.starts;
  events = r.events ++ (event ∷ []);
  run = run_more g r.from s t r.events event r.run m;
}

pub death_is_bad : (g : List Node) (k : ℕ) (s : State) → Reachable g s → Since g (IsFrom k) (Dies k) s s → BadCycle g
death_is_bad g k s reach r = record {
  state = s;
  reachable = reach;
  first = Dies k;
  rest = r.events;
  run = r.run;
  bad = inr (k, inl refl, (le_refl k, r.ok));
}

pub quiet_is_bad : (g : List Node) (s : State) → Reachable g s → Since g IsNothing Nothing s s → BadCycle g
quiet_is_bad g s reach r = record {
  state = s;
  reachable = reach;
  first = Nothing;
  rest = r.events;
  run = r.run;
  bad = inl (refl, r.ok);
}

-- a product state with stages, bounds, the sources of the deaths at each place since an earlier event, and the sources
-- of the moves without event since the last event
pub record Config (g : List Node) (states : List State) : Type 0 where
  pub at : ℕ
  pub state : State
  pub is_at : slice_get states at ≡ Some state
  pub reach : Reachable g state
  pub stages : ℕ → ℕ
  pub bound : ℕ → ℕ
  pub within : Within state.forest stages bound
  pub seen : ℕ → ℕ → Bool
  pub paths : (k i : ℕ) → seen k i ≡ true → (s : State) × (slice_get states i ≡ Some s)
      × Since g (IsFrom k) (Dies k) s state
  pub quiet : ℕ → Bool
  pub quiets : (i : ℕ) → quiet i ≡ true → (s : State) × (slice_get states i ≡ Some s)
      × Since g IsNothing Nothing s state

abbrev pub none_seen : ℕ → Bool
none_seen i = false

module _ (g : List Node) (states : List State) where
  abbrev deaths_left : ℕ → Config g states → ℕ
  deaths_left k c = unseen (c.seen k) (length states) + unseen (c.seen k) (length states) + cond
      (ltb k (length c.state.forest)) 0 1

  abbrev bound_at : ℕ → Config g states → ℕ
  bound_at k c = cond (ltb k (length c.state.forest)) (c.bound k) 0

  bound_in : (k : ℕ) (c : Config g states) → k < length c.state.forest → bound_at k c ≡ c.bound k
  bound_in k c l = cond-true (ltb k (length c.state.forest)) (c.bound k) 0 (lt-ltb k (length c.state.forest) l)

  bound_out : (k : ℕ) (c : Config g states) → length c.state.forest ≤ k → bound_at k c ≤ 0
  bound_out k c l = le_of_eq (cond-false (ltb k (length c.state.forest)) (c.bound k) 0
      (le-ltb k (length c.state.forest) l))

  abbrev quiet_left : Config g states → ℕ
  quiet_left c = unseen c.quiet (length states)

  abbrev measures : ℕ → ℕ → List (Config g states → ℕ)
  measures zero i = quiet_left ∷ []
  measures (suc r) i = deaths_left i ∷ (bound_at i ∷ measures r (suc i))

  -- no larger at a place
  record NoLarger (d c : Config g states) (j : ℕ) : Type 0 where
    pub deaths : deaths_left j d ≤ deaths_left j c
    pub bounds : bound_at j d ≤ bound_at j c

  lower_death : (d c : Config g states) (r i k : ℕ) → i ≤ k → k < i + r → ((j : ℕ) → j < k → NoLarger d c j)
      → deaths_left k d < deaths_left k c → LowerBy (measures r i) d c
  lower_death d c zero i k a b below less = absurd (omega arith)
  lower_death d c (suc r) i k a b below less =
      elim (cases_eq i k) [
        | inl e ↦ inl (subst (λ x. deaths_left x d < deaths_left x c) (sym e) less)
        | inr ne ↦ (let n = below i (omega arith) in inr (
          n.deaths,
          inr (n.bounds, lower_death d c r (suc i) k (omega arith) (omega arith) below less),
        ))
      ]

  lower_green : (d c : Config g states) (r i k : ℕ) → i ≤ k → k < i + r → ((j : ℕ) → j < k → NoLarger d c j)
      → deaths_left k d ≤ deaths_left k c → bound_at k d < bound_at k c → LowerBy (measures r i) d c
  lower_green d c zero i k a b below le less = absurd (omega arith)
  lower_green d c (suc r) i k a b below le less =
      elim (cases_eq i k) [
        | inl e ↦ inr (
          subst (λ x. deaths_left x d ≤ deaths_left x c) (sym e) le,
          inl (subst (λ x. bound_at x d < bound_at x c) (sym e) less),
        )
        | inr ne ↦ (let n = below i (omega arith) in inr (
          n.deaths,
          inr (n.bounds, lower_green d c r (suc i) k (omega arith) (omega arith) below le less),
        ))
      ]

  -- an entry that is new lowers its place's first number
  lower_quiet : (d c : Config g states) (r i : ℕ) → ((j : ℕ) → i ≤ j
      → (deaths_left j d < deaths_left j c) ⊎ NoLarger d c j) → quiet_left d < quiet_left c → LowerBy (measures r i) d c
  lower_quiet d c zero i each less = inl less
  lower_quiet d c (suc r) i each less =
      elim (each i (le_refl i)) [
        | inl l ↦ inl l
        | inr n ↦ inr (n.deaths, inr (n.bounds, lower_quiet d c r (suc i) (λ j l. each j (omega arith)) less))
      ]

  pub record Lowered (n : ℕ) (c : Config g states) (t : State) (τ : ℕ → ℕ) : Type 0 where
    pub next : Config g states
    pub state_is : next.state ≡ t
    pub stages_is : next.stages ≡ τ
    pub lower : LowerBy (measures n 0) next c

  module _ (no_bad : BadCycle g → ⊥) (c : Config g states) (t : State) where
    abbrev Path : ℕ → ℕ → Type 0
    Path k i = (s : State) × (slice_get states i ≡ Some s) × Since g (IsFrom k) (Dies k) s t

    longer : (k i : ℕ) (event : Event) → IsFrom k event → Moves g c.state t event → c.seen k i ≡ true → Path k i
    longer k i event ok m h = let p = c.paths k i h in
        (p.0, p.1, since_more g (IsFrom k) (Dies k) event p.0 c.state t p.2 m ok)

    -- the place of a death isn't seen: it would lie on a bad cycle
    not_seen : (k : ℕ) → c.seen k c.at ≡ false
    not_seen k =
        elim (cases_Bool (c.seen k c.at)) [
          | inl h ↦ (let p = c.paths k c.at h in
              absurd (no_bad (death_is_bad g k c.state c.reach
              (subst (λ s. Since g (IsFrom k) (Dies k) s c.state) (get_one states c.at p.0 c.state p.1 c.is_at)
              p.2))))
          | inr no' ↦ no'
        ]

    not_quiet : c.quiet c.at ≡ false
    not_quiet =
        elim (cases_Bool (c.quiet c.at)) [
          | inl h ↦ (let p = c.quiets c.at h in
              absurd (no_bad (quiet_is_bad g c.state c.reach
              (subst (λ s. Since g IsNothing Nothing s c.state) (get_one states c.at p.0 c.state p.1 c.is_at)
              p.2))))
          | inr no' ↦ no'
        ]

    abbrev death_seen : ℕ → ℕ → ℕ → Bool
    death_seen e k = cond (ltb k e) (c.seen k) (cond (nat_eq k e) (seen_too c.at (c.seen k)) none_seen)

    death_seen_below : (e k : ℕ) → k < e → death_seen e k ≡ c.seen k
    death_seen_below e k l = cond-true (ltb k e) _ _ (lt-ltb k e l)

    death_seen_at : (e : ℕ) → death_seen e e ≡ seen_too c.at (c.seen e)
    death_seen_at e = cond-false (ltb e e) _ _ (le-ltb e e (le_refl e)) ∙ cond-true (nat_eq e e) _ _ (eq-eqb e e refl)

    death_seen_above : (e k : ℕ) → e < k → death_seen e k ≡ none_seen
    death_seen_above e k l = cond-false (ltb k e) _ _ (le-ltb k e (omega arith))
        ∙ cond-false (nat_eq k e) _ _ (ne_eqb k e (λ x. omega arith))

    death_paths : (e : ℕ) → Moves g c.state t (Dies e) → (k i : ℕ) → death_seen e k i ≡ true → Path k i
    death_paths e m k i h =
        elim (cases_order k e) [
          | inl same ↦ at_e (subst (λ x. death_seen e x i ≡ true) same h) same
          | inr (inl l) ↦ longer k i (Dies e) (omega arith) m
              (subst (λ (f : ℕ → Bool). f i ≡ true) (death_seen_below e k l) h)
          | inr (inr l) ↦ absurd (bad_false (subst (λ (f : ℕ → Bool). f i ≡ true) (death_seen_above e k l) h))
        ]
      where
        at_e : death_seen e e i ≡ true → k ≡ e → Path k i
        at_e h' same =
            elim (or_cases (nat_eq i c.at) (c.seen e i) (subst (λ (f : ℕ → Bool). f i ≡ true) (death_seen_at e) h')) [
              | inl now ↦ subst (λ x. Path x i) (sym same) (
                c.state,
                subst (λ x. slice_get states x ≡ Some c.state) (sym (eqb-true i c.at now)) c.is_at,
                since_new g (IsFrom e) (Dies e) c.state t m,
              )
              | inr old ↦ longer k i (Dies e) (omega arith) m (subst (λ x. c.seen x i ≡ true) (sym same) old)
            ]

    abbrev green_seen : ℕ → ℕ → ℕ → Bool
    green_seen e k = cond (ltb e k) none_seen (c.seen k)

    green_paths : (e : ℕ) → Moves g c.state t (Green e) → (k i : ℕ) → green_seen e k i ≡ true → Path k i
    green_paths e m k i h =
        elim (cases_lt e k) [
          | inl l ↦ absurd (bad_false (subst (λ (f : ℕ → Bool). f i ≡ true) (cond-true (ltb e k) _ _ (lt-ltb e k l)) h))
          | inr l ↦ longer k i (Green e) l m (subst (λ (f : ℕ → Bool). f i ≡ true)
              (cond-false (ltb e k) _ _ (le-ltb e k l)) h)
        ]

    quiet_paths : Moves g c.state t Nothing → (i : ℕ) → seen_too c.at c.quiet i ≡ true
        → (s : State) × (slice_get states i ≡ Some s) × Since g IsNothing Nothing s t
    quiet_paths m i h =
        elim (or_cases (nat_eq i c.at) (c.quiet i) h) [
          | inl now ↦ (
            c.state,
            subst (λ x. slice_get states x ≡ Some c.state) (sym (eqb-true i c.at now)) c.is_at,
            since_new g IsNothing Nothing c.state t m,
          )
          | inr old ↦
              (let p = c.quiets i old in (p.0, p.1, since_more g IsNothing Nothing Nothing p.0 c.state t p.2 m refl))
        ]

    module _ (j : ℕ) (is_t : slice_get states j ≡ Some t) (τ b : ℕ → ℕ) where
      flag_low : (k n : ℕ) → cond (ltb k n) 0 1 ≤ 1
      flag_low k n = cond_both (ltb k n) 0 1 (λ x. x ≤ 1) (λ e. omega arith) (λ e. omega arith)

      flag_in : (n m : ℕ) → n < m → cond (ltb n m) 0 1 ≤ 0
      flag_in n m l = le_of_eq (cond-true (ltb n m) 0 1 (lt-ltb n m l))

      flag_out : (n m : ℕ) → m ≤ n → 1 ≤ cond (ltb n m) 0 1
      flag_out n m l = le_of_eq (sym (cond-false (ltb n m) 0 1 (le-ltb n m l)))

      same_bounds : (k : ℕ) (d : Config g states) → k < length c.state.forest → k < length d.state.forest
          → d.bound k ≡ c.bound k → bound_at k d ≤ bound_at k c
      same_bounds k d l l' e = le_of_eq (bound_in k d l' ∙ (e ∙ sym (bound_in k c l)))

      after_death : (e n : ℕ) → Moves g c.state t (Dies e) → Stepped c.state.forest t.forest (Dies e) τ c.bound b
          → length c.state.forest ≤ n → Lowered n c t τ
      after_death e n m s short = record {
        next = d;
        state_is = refl;
        stages_is = refl;
        lower = lower_death d c n 0 e (omega arith) (omega (arith, s.dies e refl)) below here;
      }
        where
          d : Config g states
          d = record {
            at = j;
            state = t;
            is_at = is_t;
            reach = reach_more g c.state t (Dies e) c.reach m;
            stages = τ;
            bound = b;
            within = s.within;
            seen = death_seen e;
            paths = death_paths e m;
            quiet = none_seen;
            quiets = λ i h. absurd (bad_false h);
          }

          below : (k : ℕ) → k < e → NoLarger d c k
          below k l =
              let sm = s.same k (omega (arith, s.dies e refl)) l in
              record {
                deaths = omega (
                  arith,
                  ap (λ (f : ℕ → Bool). unseen f (length states)) (death_seen_below e k l),
                  flag_in k (length t.forest) sm.0,
                );
                bounds = same_bounds k d (omega (arith, s.dies e refl)) sm.0 sm.1;
              }

          here : deaths_left e d < deaths_left e c
          here = omega (
            arith,
            ap (λ (f : ℕ → Bool). unseen f (length states)) (death_seen_at e),
            unseen_less c.at (c.seen e) (length states) (not_seen e) (slice_get_within states c.at c.state c.is_at),
            flag_low e (length t.forest),
          )

      after_green : (e n : ℕ) → Moves g c.state t (Green e) → Stepped c.state.forest t.forest (Green e) τ c.bound b
          → length c.state.forest ≤ n → Lowered n c t τ
      after_green e n m s short = record {
        next = d;
        state_is = refl;
        stages_is = refl;
        lower = lower_green d c n 0 e (omega arith) (omega (arith, (s.green e refl).0)) below
            (same_deaths e (le_refl e) (s.green e refl).1) (let gr = s.green e refl in
            omega (arith, gr.2, bound_in e d gr.1, bound_in e c gr.0));
      }
        where
          d : Config g states
          d = record {
            at = j;
            state = t;
            is_at = is_t;
            reach = reach_more g c.state t (Green e) c.reach m;
            stages = τ;
            bound = b;
            within = s.within;
            seen = green_seen e;
            paths = green_paths e m;
            quiet = none_seen;
            quiets = λ i h. absurd (bad_false h);
          }

          same_deaths : (k : ℕ) → k ≤ e → k < length t.forest → deaths_left k d ≤ deaths_left k c
          same_deaths k l in' = omega (
            arith,
            ap (λ (f : ℕ → Bool). unseen f (length states))
                (cond-false (ltb e k) none_seen (c.seen k) (le-ltb e k l)),
            flag_in k (length t.forest) in',
          )

          below : (k : ℕ) → k < e → NoLarger d c k
          below k l =
              let sm = s.same k (omega (arith, (s.green e refl).0)) l in
              record {
                deaths = same_deaths k (omega arith) sm.0;
                bounds = same_bounds k d (omega (arith, (s.green e refl).0)) sm.0 sm.1;
              }

      after_nothing : (n : ℕ) → Moves g c.state t Nothing → Stepped c.state.forest t.forest Nothing τ c.bound b
          → Lowered n c t τ
      after_nothing n m s = record {
        next = d;
        state_is = refl;
        stages_is = refl;
        lower = lower_quiet d c n 0 (λ k l. each k)
            (unseen_less c.at c.quiet (length states) not_quiet (slice_get_within states c.at c.state c.is_at));
      }
        where
          d : Config g states
          d = record {
            at = j;
            state = t;
            is_at = is_t;
            reach = reach_more g c.state t Nothing c.reach m;
            stages = τ;
            bound = b;
            within = s.within;
            seen = c.seen;
            paths = λ k i h. longer k i Nothing tt m h;
            quiet = seen_too c.at c.quiet;
            quiets = quiet_paths m;
          }

          each : (k : ℕ) → (deaths_left k d < deaths_left k c) ⊎ NoLarger d c k
          each k =
              elim (cases_lt k (length c.state.forest)) [
                | inl l ↦ inr (let sm = s.same k l tt in record
                    { deaths = omega (arith, flag_in k (length t.forest) sm.0); bounds = same_bounds k d l sm.0 sm.1 })
                | inr l ↦ elim (cases_lt k (length t.forest)) [
                  | inl l' ↦ inl (omega (arith, flag_in k (length t.forest) l', flag_out k (length c.state.forest) l))
                  | inr l' ↦ inr (record {
                    deaths = omega (
                      arith,
                      flag_low k (length t.forest),
                      flag_out k (length c.state.forest) l,
                    );
                    bounds = omega (arith, bound_out k d l');
                  })
                ]
              ]

-- the most entries of a state
abbrev longest : List State → ℕ
longest [] = 0
longest (s ∷ states) = max (length s.forest) (longest states)

longest_above : (states : List State) (i : ℕ) (s : State) → slice_get states i ≡ Some s
    → length s.forest ≤ longest states
longest_above [] i s h = absurd (let e : None ≡ Some s = h in cc)
longest_above (x ∷ states) zero s h = (let e' : Some x ≡ Some s = h in let e : x ≡ s = cc in
    let f = ap (λ (y : State). length y.forest) e in omega arith)
longest_above (x ∷ states) (suc i) s h = let r = longest_above states i s h in omega arith

-- the start
start_cases : (positions : List ℕ) (i : ℕ) (e : Entry) → slice_get (start positions) i ≡ Some e → e ≡ top positions
start_cases [] i e h = absurd (let x : None ≡ Some e = h in cc)
start_cases (q ∷ qs) zero e h = (let x : Some (top (q ∷ qs)) ≡ Some e = h in cc)
start_cases (q ∷ qs) (suc i) e h = absurd (let x : None ≡ Some e = h in cc)

start_within : (positions : List ℕ) (σ : ℕ → ℕ) → Within (start positions) σ (λ i. peak σ positions)
start_within positions σ = record {
  bounded = λ i q e h m. peak_above σ positions q (subst (λ (x : Entry). has x.set q ≡ true)
      (start_cases positions i e h) m);
  nested = λ i p e h a. absurd (let x : None ≡ Some p = sym (ap (λ (x : Entry). x.parent) (start_cases positions i e h))
      ∙ a in cc);
}

module _ (g : List Node) (states : List State) (closed : IsClosed g states) (no_bad : BadCycle g → ⊥)
    (targets : TargetsAreNodes g) (Holds : ℕ → (ℕ → ℕ) → Type 0) (local : IsLocal g Holds) where
  abbrev Claim : Config g states → Type 0
  Claim c = c.state.node < length g → Holds c.state.node c.stages

  by_event : (c : Config g states) (t : State) (j : ℕ) → slice_get states j ≡ Some t → (τ b : ℕ → ℕ) (event : Event)
      → Moves g c.state t event →
      Stepped c.state.forest t.forest event τ c.bound b → Lowered g states (longest states) c t τ
  by_event c t j is_t τ b (Dies e) m s = after_death g states no_bad c t j is_t τ b e (longest states) m s
      (longest_above states c.at c.state c.is_at)
  by_event c t j is_t τ b (Green e) m s = after_green g states no_bad c t j is_t τ b e (longest states) m s
      (longest_above states c.at c.state c.is_at)
  by_event c t j is_t τ b Nothing m s = after_nothing g states no_bad c t j is_t τ b (longest states) m s

  over_edge : (c : Config g states) → ((d : Config g states) → LowerBy (measures g states (longest states) 0) d c
      → Claim d) →
      (k : ℕ) (e : Edge) → IsEdge g c.state.node k e → (τ : ℕ → ℕ) → Falls e.pairs c.stages τ → Holds e.target τ
  over_edge c ih k e is_edge τ falls = with_target (get_within g e.target (targets c.state.node k e is_edge))
    where
      with_target : (node : Node) × (slice_get g e.target ≡ Some node) → Holds e.target τ
      with_target node =
          let t : State = record { node = e.target; forest = next_forest e.pairs node.0.positions c.state.forest } in
          let event = event_of e.pairs node.0.positions c.state.forest in
          let m : Moves g c.state t event = record {
            k = k;
            e = e;
            target = node.0;
            is_edge = is_edge;
            is_target = node.1;
            node_is = refl;
            forest_is = refl;
            event_is = refl;
          } in
          let j = closed.next c.at c.state t event c.is_at m in
          let s = stepped e.pairs node.0.positions c.state.forest c.stages τ c.bound falls c.within in
          let low = by_event c t j.0 j.1 τ s.0 event m s.1 in
          let node_is : low.next.state.node ≡ e.target = ap (λ (x : State). x.node) low.state_is in
          let held = ih low.next low.lower (omega (arith, node_is, targets c.state.node k e is_edge)) in
          subst (λ v. Holds v τ) node_is (subst (λ s. Holds low.next.state.node s) low.stages_is held)

  holds_at : (c : Config g states) → Claim c
  holds_at = by_measures (measures g states (longest states) 0) Claim
      (λ c ih lt. local c.state.node c.stages lt (over_edge c ih))

  pub descends : (σ : ℕ → ℕ) → Holds 0 σ
  descends σ = holds_at first (slice_get_within g 0 closed.root closed.is_root)
    where
      first : Config g states
      first = record {
        at = closed.begin;
        state = record { node = 0; forest = start closed.root.positions };
        is_at = closed.begins;
        reach = record {
          from = record { node = 0; forest = start closed.root.positions };
          starts = record { root = closed.root; is_root = closed.is_root; node_is = refl; forest_is = refl };
          events = [];
          run = refl;
        };
        stages = σ;
        bound = λ i. peak σ closed.root.positions;
        within = start_within closed.root.positions σ;
        seen = λ k. none_seen;
        paths = λ k i h. absurd (bad_false h);
        quiet = none_seen;
        quiets = λ i h. absurd (bad_false h);
      }
