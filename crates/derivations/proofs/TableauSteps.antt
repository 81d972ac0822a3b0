-- A reason more keeps a partial derivation in order.
use Rattle.std.proofs.Common.{◌≡◌, ◌≢◌, ℕ, zero, suc, ◌+◌, ◌<◌, ◌⊎◌, inl, inr, arith, true, false, List, [], ◌∷◌, ◌++◌}
use Rattle.std.proofs.Common.{Option, Some, None, slice_get, length, length-append, sym, refl, ap, subst, ◌∙◌}
use Rattle.std.proofs.lemmas.Bool.{cases_eq, both_ways}
use Rattle.std.proofs.lemmas.List.Sums.{fold-append}
use Rattle.std.proofs.lemmas.Option.{slice_get_within}
use Rattle.trace_pairs.specs.Graph.{Node}
use Rattle.buchi_core.proofs.Lists.{get_append_cases}
use Rattle.derivations.specs.System.{after}
use Rattle.derivations.specs.Tableau.{Subgoal, Goal, Made, Tableau, Calculus, goals_of, grown, linked, with_premises}
use Rattle.derivations.specs.Tableau.{at_next, step, begin, replay}
use Rattle.derivations.specs.Room.{has_room, fits_at, fits_in}
use Rattle.derivations.specs.Fair.{AllOccur, IsFair}
use Rattle.derivations.specs.Nodes.{HasRoot}
use Rattle.derivations.proofs.Grown.{length-leaf, length-linked}
use Rattle.derivations.proofs.Waiting.{get_end_cases, waiting_none, goal_of, get_end_at}
use Rattle.derivations.proofs.Rows.{Row, row_other, row_parent, row_new}
use Rattle.derivations.proofs.Graphs.{InOrder, IsBegun}
use Rattle.cyc_basics.proofs.Places.{get_append_left}

-- what a reason that fits tells of the tableau
pub record Fits {J R : Type 0} (c : Calculus J R) (p : Option (Tableau J R)) (r : R) : Type 0 where
  pub t : Tableau J R
  pub is : p ≡ Some t
  pub g : Goal J
  pub rest : List (Goal J)
  pub goals : t.goals ≡ g ∷ rest
  pub ps : List (Subgoal J)
  pub has : c.premises t.nodes g r ≡ Some ps

room_has : {J : Type 0} (limit e n : ℕ) (g : Goal J) (rest : List (Goal J)) (o : Option (List (Subgoal J)))
    → has_room limit e n g rest o ≡ true → (ps : List (Subgoal J)) × (o ≡ Some ps)
room_has limit e n g rest None h = absurd (both_ways false refl h)
room_has limit e n g rest (Some ps) h = (ps, refl)

fits_goals : {J R : Type 0} (c : Calculus J R) (limit e n : ℕ) (t : Tableau J R) (goals : List (Goal J)) (r : R)
    → t.goals ≡ goals → fits_at c limit e n t.nodes r goals ≡ true → Fits c (Some t) r
fits_goals c limit e n t [] r gg h = absurd (both_ways false refl h)
fits_goals c limit e n t (g ∷ rest) r gg h =
    let x = room_has limit e n g rest (c.premises t.nodes g r) h in
    record { t = t; is = refl; g = g; rest = rest; goals = gg; ps = x.0; has = x.1 }

pub fits_tells : {J R : Type 0} (c : Calculus J R) (limit e n : ℕ) (p : Option (Tableau J R)) (r : R)
    → fits_in c limit e n p r ≡ true → Fits c p r
fits_tells c limit e n None r h = absurd (both_ways false refl h)
fits_tells c limit e n (Some t) r h = fits_goals c limit e n t t.goals r refl h

replay_after : {J R : Type 0} (c : Calculus J R) (j : J) (d : List R) (r : R)
    → replay c j (after d r) ≡ step c (replay c j d) r
replay_after c j d r = fold-append (step c) (Some (begin j)) d (r ∷ [])

-- the tableau after it
abbrev pub next_tableau : {J R : Type 0} → Calculus J R → List (Made J R) → List Node → Goal J → List (Goal J)
    → List (Subgoal J) → R → Tableau J R
next_tableau c nodes graph g rest ps r = record {
  nodes = nodes ++ (record { goal = g; reason = r } ∷ []);
  goals = goals_of (length nodes) (g.depth + 1) 0 ps ++ rest;
  graph = linked (length nodes) (grown c graph g) (c.back nodes g r);
}

pub next_is : {J R : Type 0} (c : Calculus J R) (j : J) (d : List R) (r : R) (x : Fits c (replay c j d) r)
    → replay c j (after d r) ≡ Some (next_tableau c x.t.nodes x.t.graph x.g x.rest x.ps r)
next_is c j d r x =
    replay_after c j d r ∙ (ap (λ p. step c p r) x.is
    ∙ (ap (at_next c x.t.nodes x.t.graph r) x.goals ∙ ap (with_premises c x.t.nodes x.t.graph r x.g x.rest) x.has))

-- nothing is made
pub begins : {J R : Type 0} (c : Calculus J R) (Occurs : J → Type 0) (Allows : R → Type 0) (j : J) → Occurs j
    → InOrder c Occurs Allows j (begin {J = J} {R = R} j)
begins {J} {R} c Occurs Allows j h = record {
  begun = inl (record {
    none = refl;
    goal = record {
      parent = 0;
      place = 0;
      depth = 1;
      premise = record { judgement = j; pairs = [] };
    };
    is_goal = refl;
    judgement = refl;
  });
  size = refl;
  made = λ i m at. absurd (let e : None ≡ Some m = at in cc);
  open' = λ k g at. only k g at;
  parents = λ k g at. inr (refl, first k g at);
  earlier = λ q x at late. absurd (let e : None ≡ Some x = at in cc);
  rows = λ i m at. absurd (let e : None ≡ Some m = at in cc);
}
  where
    only : (k : ℕ) (g : Goal J) → slice_get (record {
      parent = 0;
      place = 0;
      depth = 1;
      premise = record { judgement = j; pairs = [] };
    } ∷ []) k ≡ Some g → Occurs g.premise.judgement
    only zero g at =
        let e : Some (record { parent = 0; place = 0; depth = 1; premise = record { judgement = j; pairs = [] } })
        ≡ Some g = at in
        let e' : record { parent = 0; place = 0; depth = 1; premise = record { judgement = j; pairs = [] } } ≡ g = cc in
        subst (λ (x : Goal J). Occurs x.premise.judgement) e' h
    only (suc k) g at = absurd (let e : None ≡ Some g = at in cc)

    first : (k : ℕ) (g : Goal J) → slice_get (record {
      parent = 0;
      place = 0;
      depth = 1;
      premise = record { judgement = j; pairs = [] };
    } ∷ []) k ≡ Some g → k ≡ 0
    first zero g at = refl
    first (suc k) g at = absurd (let e : None ≡ Some g = at in cc)

next_parents : {J : Type 0} (v depth : ℕ) (ps : List (Subgoal J)) (g : Goal J) (rest : List (Goal J))
    → ((k : ℕ) (h : Goal J) → slice_get rest k ≡ Some h → h.parent < v) → (k : ℕ) (h : Goal J)
    → slice_get (goals_of v depth 0 ps ++ rest) k ≡ Some h → h.parent < v + 1
next_parents v depth ps g rest old k h at =
    elim (get_append_cases (goals_of v depth 0 ps) rest k h at) [
      | inl a ↦ (let o = goal_of v depth 0 ps k h a.1 in omega (arith, o.parent))
      | inr b ↦ omega (arith, old b.0 h b.2)
    ]

-- the goals after the next one belong to nodes
pub parent_made : {J R : Type 0} {c : Calculus J R} {Occurs : J → Type 0} {Allows : R → Type 0} {j : J}
    (nodes : List (Made J R)) (graph : List Node) (g : Goal J) (rest : List (Goal J))
    → InOrder c Occurs Allows j (record { nodes = nodes; goals = g ∷ rest; graph = graph }) →
    (k : ℕ) (x : Goal J) → slice_get rest k ≡ Some x → x.parent < length nodes
parent_made nodes graph g rest ok k x at = elim (ok.parents (suc k) x at)
    [ inl less ↦ less | inr first ↦ absurd (let e = first.1 in omega (arith, e)) ]

-- each node but node 0 belongs to an earlier one
next_earlier : {J R : Type 0} {c : Calculus J R} {Occurs : J → Type 0} {Allows : R → Type 0} {j : J}
    (nodes : List (Made J R)) (graph : List Node) (g : Goal J) (rest : List (Goal J)) (r : R)
    → InOrder c Occurs Allows j (record { nodes = nodes; goals = g ∷ rest; graph = graph }) →
    (q : ℕ) (x : Made J R) → slice_get (nodes ++ (record { goal = g; reason = r } ∷ [])) q ≡ Some x → 0 < q
    → x.goal.parent < q
next_earlier {J} {R} nodes graph g rest r ok q x at late =
    elim (get_end_cases nodes (record { goal = g; reason = r }) x q at) [
      | inl old ↦ ok.earlier q x old late
      | inr new' ↦
          (let same : g.parent ≡ x.goal.parent = ap (λ (y : Made J R). y.goal.parent) new'.1 in
          let number = new'.0 in
          elim (ok.parents 0 g refl) [
            | inl less ↦ omega (arith, less, same, number)
            | inr none ↦ absurd
                (let e = none.0 in omega (arith, e, number, late))
          ])
    ]

-- the row of each node after the step
next_row : {J R : Type 0} (c : Calculus J R) (Occurs : J → Type 0) (Allows : R → Type 0) (j : J)
    (nodes : List (Made J R)) (graph : List Node) (g : Goal J) (rest : List (Goal J)) (r : R) (ps : List (Subgoal J)) →
    InOrder c Occurs Allows j (record { nodes = nodes; goals = g ∷ rest; graph = graph })
    → c.premises nodes g r ≡ Some ps → (i : ℕ) (m : Made J R)
    → slice_get (nodes ++ (record { goal = g; reason = r } ∷ [])) i ≡ Some m →
    Row c (nodes ++ (record { goal = g; reason = r } ∷ [])) (goals_of (length nodes) (g.depth + 1) 0 ps ++ rest)
    (linked (length nodes) (grown c graph g) (c.back nodes g r)) i m
next_row {J} {R} c Occurs Allows j nodes graph g rest r ps ok has i m h =
    elim (get_end_cases nodes (record { goal = g; reason = r }) m i h) [
      | inl old ↦
          elim (cases_eq g.parent i) [
            | inl here ↦ row_parent c nodes graph g rest r ps (g.depth + 1) (c.back nodes g r) i m
                (slice_get_within nodes i m old) ok.size here (ok.rows i m old)
            | inr other ↦ row_other c nodes graph g rest r ps (g.depth + 1) (c.back nodes g r) i m
                (slice_get_within nodes i m old) other (ok.rows i m old)
          ]
      | inr new' ↦
          subst (λ k. Row c (nodes ++ (record { goal = g; reason = r } ∷ []))
          (goals_of (length nodes) (g.depth + 1) 0 ps ++ rest)
          (linked (length nodes) (grown c graph g) (c.back nodes g r)) k m) (sym new'.0)
          (subst (λ (x : Made J R). Row c (nodes ++ (record { goal = g; reason = r } ∷ []))
          (goals_of (length nodes) (g.depth + 1) 0 ps ++ rest)
          (linked (length nodes) (grown c graph g) (c.back nodes g r)) (length nodes) x) new'.1
          (row_new c nodes graph g rest r ps ok.size has (waiting_none (length nodes) rest (λ k x at. apart k x at))
          (λ q x at late e. new_apart q x at late e)))
    ]
  where
    apart : (k : ℕ) (x : Goal J) → slice_get rest k ≡ Some x → x.parent ≢ length nodes
    apart k x at e = let less = parent_made nodes graph g rest ok k x at in omega (arith, less, e)

    new_apart : (q : ℕ) (x : Made J R) → slice_get (nodes ++ (record { goal = g; reason = r } ∷ [])) q ≡ Some x → 0 < q
        → x.goal.parent ≢ length nodes
    new_apart q x at late e =
        let less = next_earlier nodes graph g rest r ok q x at late in
        let within = slice_get_within (nodes ++ (record { goal = g; reason = r } ∷ [])) q x at in
        omega (arith, less, within, e, length-append nodes (record { goal = g; reason = r } ∷ []))

-- node 0 is made for the judgement
next_root : {J R : Type 0} (j : J) (nodes : List (Made J R)) (graph graph' : List Node) (goals : List (Goal J))
    (g : Goal J) (rest : List (Goal J)) (r : R) →
    IsBegun j (record { nodes = nodes; goals = g ∷ rest; graph = graph })
    ⊎ HasRoot j (record { nodes = nodes; goals = g ∷ rest; graph = graph }) →
    HasRoot j (record { nodes = nodes ++ (record { goal = g; reason = r } ∷ []); goals = goals; graph = graph' })
next_root {J} {R} j nodes graph graph' goals g rest r begun =
    elim begun [
      | inl b ↦
          (let e : Some g ≡ Some b.goal = b.is_goal in
          let e' : g ≡ b.goal = cc in
          let n : length nodes ≡ 0 = ap length b.none in
          record {
            root = record { goal = g; reason = r };
            is_root = get_end_at nodes (record { goal = g; reason = r }) 0 (sym n);
            judgement = ap (λ (x : Goal J). x.premise.judgement) e' ∙ b.judgement;
          })
      | inr h ↦ record {
        root = h.root;
        is_root = get_append_left nodes (record { goal = g; reason = r } ∷ [])
            0 h.root h.is_root;
        judgement = h.judgement;
      }
    ]

pub next_in_order : {J R : Type 0} (c : Calculus J R) (Occurs : J → Type 0) (Allows : R → Type 0)
    → IsFair c Occurs Allows → (j : J) (nodes : List (Made J R)) (graph : List Node) (g : Goal J) (rest : List (Goal J))
    (r : R) (ps : List (Subgoal J)) →
    InOrder c Occurs Allows j (record { nodes = nodes; goals = g ∷ rest; graph = graph }) → Allows r
    → c.premises nodes g r ≡ Some ps → InOrder c Occurs Allows j (next_tableau c nodes graph g rest ps r)
next_in_order {J} {R} c Occurs Allows fair j nodes graph g rest r ps ok allowed has = record {
  begun = inr (next_root j nodes graph _ _ g rest r ok.begun);
  size =
      length-linked (length nodes) (grown c graph g) (c.back nodes g r)
      ∙ length-leaf graph g.parent g.premise.pairs (c.positions g.premise.judgement)
      ∙ (ap (λ n. n + 1) ok.size ∙ sym more);
  made = λ i m h. elim (get_end_cases nodes (record { goal = g; reason = r }) m i h) [
    | inl old ↦ ok.made i m old
    | inr new' ↦ subst (λ (x : Made J R). Occurs x.goal.premise.judgement × Allows x.reason) new'.1
        (ok.open' 0 g refl, allowed)
  ];
  open' = λ k h at. elim (get_append_cases (goals_of (length nodes) (g.depth + 1) 0 ps) rest k h at) [
    | inl a ↦
        (let o = goal_of (length nodes) (g.depth + 1) 0 ps k h a.1 in
        subst (λ (p : Subgoal J). Occurs p.judgement) (sym o.premise)
        ((fair.premises nodes g r ps occur allowed has).each o.i o.p o.is_p).occurs)
    | inr b ↦ ok.open' (suc b.0) h b.2
  ];
  parents = λ k h at. inl (let less = next_parents (length nodes) (g.depth + 1) ps g rest
      (λ k' x at'. parent_made nodes graph g rest ok k' x at') k h at in omega (arith, less, more));
  earlier = λ q x at late. next_earlier nodes graph g rest r ok q x at late;
  rows = λ i m h. next_row c Occurs Allows j nodes graph g rest r ps ok has i m h;
}
  where
    more : length (nodes ++ (record { goal = g; reason = r } ∷ [])) ≡ length nodes + 1
    more = length-append nodes (record { goal = g; reason = r } ∷ [])

    occur : AllOccur Occurs nodes g
    occur = record { goal = ok.open' 0 g refl; made = λ i m h. (ok.made i m h).0 }
