-- Where a cycle's least event is green at k, each position of entry k has a trace with progress from one of entry k,
-- over two turns.
use Rattle.std.proofs.Common.{◌≡◌, ℕ, ◌<◌, ◌⊎◌, inl, inr, List, [], ◌∷◌, ◌++◌, arith, Bool, true, false, ◌||◌, Some}
use Rattle.std.proofs.Common.{length, sym, refl, ◌∙◌, subst}
use Rattle.std.proofs.lemmas.Bool.{or_right}
use Rattle.trace_pairs.specs.Graph.{Node, IsEdge}
use Rattle.buchi_core.specs.declared.event.Event.{Event}
use Rattle.buchi_core.specs.declared.event.Event.TheVariants.{Green}
use Rattle.buchi_core.specs.Forest.{event_of, before_drop}
use Rattle.buchi_inclusion.specs.Product.{State, Each, Occurs}
use Rattle.trace_pairs.specs.declared.lasso.Step.{Step}
use Rattle.trace_pairs.specs.Lasso.{Joins, Trace}
use Rattle.buchi_inclusion.specs.Product.{MovesBy, Over}
use Rattle.trace_pairs.proofs.Traces.{trace_then, trace_first, trace_step}
use Rattle.buchi_core.proofs.Drop.{event_facts}
use Rattle.buchi_core.proofs.Follow.{In, ChildIn}
use Rattle.buchi_core.proofs.Green.{IsFromGreen, Paired, FromEntry, FromChild, back_same, back_child, green_none}
use Rattle.buchi_core.proofs.Green.{green_child, lives}

trace_step_then : (g : List Node) (step : Step) (steps : List Step) (q p r : ℕ) (now : Bool) → Joins g step q p now
    → Trace g steps p r true → Trace g (step ∷ steps) q r true
trace_step_then g step steps q p r now j t = (p, now, true, j, t, sym (or_right now true refl))

trace_step_now : (g : List Node) (step : Step) (steps : List Step) (q p r : ℕ) (later : Bool) → Joins g step q p true
    → Trace g steps p r later → Trace g (step ∷ steps) q r true
trace_step_now g step steps q p r later j t = (p, true, later, j, t, refl)

module _ (g : List Node) (k : ℕ) where
  abbrev Holds' : State → ℕ → Type 0
  Holds' s q = In s.forest (Some k) q

  abbrev Kid : State → ℕ → ℕ → Type 0
  Kid s q j = ChildIn s.forest (Some k) q j

  -- over a step
  record StepIn (u : State) (step : Step) (r : ℕ) : Type 0 where
    pub q : ℕ
    pub inside : Holds' u q
    pub joins : Joins g step q r true

  record StepKid (u : State) (step : Step) (r : ℕ) : Type 0 where
    pub q : ℕ
    pub j : ℕ
    pub now : Bool
    pub kid : Kid u q j
    pub joins : Joins g step q r now

  joins_from : (u w : State) (step : Step) (event : Event) (q r : ℕ) (now : Bool) (m : MovesBy g u w step event)
      → Paired m.move.e.pairs q r now → Joins g step q r now
  joins_from u w step event q r now m p = record {
    e = m.move.e;
    is_edge = subst (λ v. IsEdge g v step.edge m.move.e) (sym m.node_is)
        (subst (λ x. IsEdge g u.node x m.move.e) (sym m.edge_is) m.move.is_edge);
    k = p.k;
    pair = p.pair;
    is_pair = p.is_pair;
    old_is = p.old_is;
    new_is = p.new_is;
    progress_is = p.progress_is;
  }

  module _ (u w : State) (step : Step) (event : Event) (m : MovesBy g u w step event) (below : k < length u.forest)
      (passes : IsFromGreen k event) where
    passes' : IsFromGreen k (event_of m.move.e.pairs m.move.target.positions u.forest)
    passes' = subst (IsFromGreen k) m.move.event_is passes

    st_same : (r : ℕ) → Holds' w r → (q : ℕ) × (now : Bool) × Holds' u q × Joins g step q r now
    st_same r h =
        let b = back_same m.move.e.pairs m.move.target.positions u.forest k below passes' r
        (subst (λ F. In F (Some k) r) m.move.forest_is h) in
        (b.0, b.1, b.2, joins_from u w step event b.0 r b.1 m b.3)

    source : (r : ℕ) → FromEntry m.move.e.pairs u.forest k r ⊎ FromChild m.move.e.pairs u.forest k r
        → StepIn u step r ⊎ StepKid u step r
    source r s =
        elim s [
          | inl a ↦ inl (record { q = a.q; inside = a.inside; joins = joins_from u w step event a.q r true m a.paired })
          | inr b ↦ inr (record {
            q = b.q;
            j = b.j;
            now = b.now;
            kid = b.child;
            joins = joins_from u w step event b.q r b.now m b.paired;
          })
        ]

    st_child : (r j : ℕ) → Kid w r j → StepIn u step r ⊎ StepKid u step r
    st_child r j c = source r (back_child m.move.e.pairs m.move.target.positions u.forest k below passes' r j
        (subst (λ F. ChildIn F (Some k) r j) m.move.forest_is c))

    st_none : event ≡ Green k → (r j : ℕ) → Kid w r j → ⊥
    st_none e r j c = green_none m.move.e.pairs m.move.target.positions u.forest k below passes'
        (sym m.move.event_is ∙ e) r j (subst (λ F. ChildIn F (Some k) r j) m.move.forest_is c)

    st_green : event ≡ Green k → (r : ℕ) → Holds' w r → StepIn u step r ⊎ StepKid u step r
    st_green e r h = source r (green_child m.move.e.pairs m.move.target.positions u.forest k below passes'
        (sym m.move.event_is ∙ e) r (subst (λ F. In F (Some k) r) m.move.forest_is h))

    st_lives : k < length w.forest
    st_lives = subst (λ F. k < length F) (sym m.move.forest_is)
        (lives m.move.e.pairs m.move.target.positions u.forest k below passes')

  st_below : (u w : State) (step : Step) (event : Event) → MovesBy g u w step event → event ≡ Green k
      → k < length u.forest
  st_below u w step event m e =
      let f = event_facts (before_drop m.move.e.pairs m.move.target.positions u.forest) 0 (length u.forest) in
      let r = f.green k (sym m.move.event_is ∙ e) in
      omega arith

  -- over a run
  record RunIn (u : State) (steps : List Step) (r : ℕ) : Type 0 where
    pub q : ℕ
    pub inside : Holds' u q
    pub trace : Trace g steps q r true

  record RunKid (u : State) (steps : List Step) (r : ℕ) : Type 0 where
    pub q : ℕ
    pub j : ℕ
    pub kid : Kid u q j
    pub any : Bool
    pub trace : Trace g steps q r any

  step_in : (u w : State) (step : Step) (event : Event) (m : MovesBy g u w step event) (below : k < length u.forest)
      (passes : IsFromGreen k event) (steps : List Step) (r : ℕ) → RunIn w steps r → RunIn u (step ∷ steps) r
  step_in u w step event m below passes steps r i =
      let s = st_same u w step event m below passes i.q i.inside in
      record { q = s.0; inside = s.2; trace = trace_step_then g step steps s.0 i.q r s.1 s.3 i.trace }

  step_source : (u : State) (step : Step) (steps : List Step) (p r : ℕ) (b : Bool) → StepIn u step p ⊎ StepKid u step p
      → Trace g steps p r b → RunIn u (step ∷ steps) r ⊎ RunKid u (step ∷ steps) r
  step_source u step steps p r b s t =
      elim s [
        | inl a ↦ inl (record { q = a.q; inside = a.inside; trace = trace_step_now g step steps a.q p r b a.joins t })
        | inr c ↦ inr (record {
          q = c.q;
          j = c.j;
          kid = c.kid;
          any = c.now || b;
          trace = trace_step g step steps c.q p r c.now b c.joins t;
        })
      ]

  r_same : (u v : State) (steps : List Step) (events : List Event) → Over g u v steps events
      → Each (IsFromGreen k) events → k < length u.forest → (r : ℕ) → Holds' v r →
      (q : ℕ) × (b : Bool) × Holds' u q × Trace g steps q r b
  r_same u v [] [] o e l r h = (r, false, subst (λ (s : State). In s.forest (Some k) r) (sym o) h, (refl, refl))
  r_same u v [] (event ∷ events) o e l r h = absurd o
  r_same u v (step ∷ steps) [] o e l r h = absurd o
  r_same u v (step ∷ steps) (event ∷ events) o e l r h =
      let rest = r_same o.0 v steps events o.2 e.1 (st_lives u o.0 step event o.1 l e.0) r h in
      let s = st_same u o.0 step event o.1 l e.0 rest.0 rest.2 in
      (s.0, s.1 || rest.1, s.2, trace_step g step steps s.0 rest.0 r s.1 rest.1 s.3 rest.3)

  r_kid : (u v : State) (steps : List Step) (events : List Event) → Over g u v steps events
      → Each (IsFromGreen k) events → k < length u.forest → (r j : ℕ) → Kid v r j → RunIn u steps r ⊎ RunKid u steps r
  r_kid u v [] [] o e l r j c = inr (record {
    q = r;
    j = j;
    kid = subst (λ (s : State). ChildIn s.forest (Some k) r j)
        (sym o) c;
    any = false;
    trace = (refl, refl);
  })
  r_kid u v [] (event ∷ events) o e l r j c = absurd o
  r_kid u v (step ∷ steps) [] o e l r j c = absurd o
  r_kid u v (step ∷ steps) (event ∷ events) o e l r j c =
      elim (r_kid o.0 v steps events o.2 e.1 (st_lives u o.0 step event o.1 l e.0) r j c) [
        | inl a ↦ inl (step_in u o.0 step event o.1 l e.0 steps r a)
        | inr b ↦ step_source u step steps b.q r b.any (st_child u o.0 step event o.1 l e.0 b.q b.j b.kid) b.trace
      ]

  r_green : (u v : State) (steps : List Step) (events : List Event) → Over g u v steps events
      → Each (IsFromGreen k) events → Occurs (Green k) events → k < length u.forest → (r : ℕ) → Holds' v r
      → RunIn u steps r ⊎ RunKid u steps r
  r_green u v [] [] o e occ l r h = absurd occ
  r_green u v [] (event ∷ events) o e occ l r h = absurd o
  r_green u v (step ∷ steps) [] o e occ l r h = absurd o
  r_green u v (step ∷ steps) (event ∷ events) o e occ l r h =
      let l' = st_lives u o.0 step event o.1 l e.0 in
      elim occ [
        | inl now ↦
            (let rest = r_same o.0 v steps events o.2 e.1 l' r h in
            step_source u step steps rest.0 r rest.1 (st_green u o.0 step event o.1 l e.0 now rest.0 rest.2) rest.3)
        | inr later ↦ elim (r_green o.0 v steps events o.2 e.1 later l' r h) [
          | inl a ↦ inl (step_in u o.0 step event o.1 l e.0 steps r a)
          | inr b ↦ step_source u step steps b.q r b.any (st_child u o.0 step event o.1 l e.0 b.q b.j b.kid) b.trace
        ]
      ]

  -- a run with a green event, before one over which each position comes from the entry with progress or from a child
  r_two : (u v : State) (steps : List Step) (events : List Event) (more : List Step) (ok : ℕ → Type 0)
      → Over g u v steps events → Each (IsFromGreen k) events → Occurs (Green k) events → k < length u.forest →
      ((r : ℕ) → ok r → RunIn v more r ⊎ RunKid v more r) → (r : ℕ) → ok r → RunIn u (steps ++ more) r
  r_two u v [] [] more ok o e occ l f r h = absurd occ
  r_two u v [] (event ∷ events) more ok o e occ l f r h = absurd o
  r_two u v (step ∷ steps) [] more ok o e occ l f r h = absurd o
  r_two u v (step ∷ steps) (event ∷ events) more ok o e occ l f r h =
      let l' = st_lives u o.0 step event o.1 l e.0 in
      elim occ [
        | inl now ↦ step_in u o.0 step event o.1 l e.0 (steps ++ more) r (elim (f r h) [
          | inl a ↦
              (let s = r_same o.0 v steps events o.2 e.1 l' a.q a.inside in
              record { q = s.0; inside = s.2; trace = trace_then g steps more s.0 a.q r s.1 s.3 a.trace })
          | inr b ↦ elim (r_kid o.0 v steps events o.2 e.1 l' b.q b.j b.kid) [
            | inl a ↦ record
                { q = a.q; inside = a.inside; trace = trace_first g steps more a.q b.q r b.any a.trace b.trace }
            | inr c ↦ absurd (st_none u o.0 step event o.1 l e.0 now c.q c.j c.kid)
          ]
        ])
        | inr later ↦ step_in u o.0 step event o.1 l e.0 (steps ++ more) r
            (r_two o.0 v steps events more ok o.2 e.1 later l' f r h)
      ]

  r_lives : (u v : State) (steps : List Step) (events : List Event) → Over g u v steps events
      → Each (IsFromGreen k) events → k < length u.forest → k < length v.forest
  r_lives u v [] [] o e l = subst (λ (s : State). k < length s.forest) o l
  r_lives u v [] (event ∷ events) o e l = absurd o
  r_lives u v (step ∷ steps) [] o e l = absurd o
  r_lives u v (step ∷ steps) (event ∷ events) o e l = r_lives o.0 v steps events o.2 e.1
      (st_lives u o.0 step event o.1 l e.0)

  -- an entry that turns green in a cycle is there at its start
  pub green_lives : (u v : State) (steps : List Step) (events : List Event) → Over g u v steps events
      → Each (IsFromGreen k) events → Occurs (Green k) events → k < length v.forest
  green_lives u v [] [] o e occ = absurd occ
  green_lives u v [] (event ∷ events) o e occ = absurd o
  green_lives u v (step ∷ steps) [] o e occ = absurd o
  green_lives u v (step ∷ steps) (event ∷ events) o e occ =
      elim occ [
        | inl now ↦ r_lives o.0 v steps events o.2 e.1
            (st_lives u o.0 step event o.1 (st_below u o.0 step event o.1 now) e.0)
        | inr later ↦ green_lives o.0 v steps events o.2 e.1 later
      ]

  -- over two turns
  pub two_turns : (s : State) (steps : List Step) (events : List Event) → Over g s s steps events
      → Each (IsFromGreen k) events → Occurs (Green k) events →
      (r : ℕ) → In s.forest (Some k) r → (q : ℕ) × In s.forest (Some k) q × Trace g (steps ++ steps) q r true
  two_turns s steps events o e occ r h =
      let l = green_lives s s steps events o e occ in
      let i = r_two s s steps events steps (Holds' s) o e occ l (λ x m. r_green s s steps events o e occ l x m) r h in
      (i.q, i.inside, i.trace)
