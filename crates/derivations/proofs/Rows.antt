-- A node of a partial derivation: which of its premises are made, which goals wait for the others, and its edges.
use Rattle.std.proofs.Common.{◌≡◌, ◌≢◌, ℕ, zero, suc, ◌+◌, ◌<◌, inl, inr, arith, List, [], ◌∷◌, ◌++◌, Option, Some}
use Rattle.std.proofs.Common.{None, slice_get, length, length-append, take, sym, refl, ap, subst, ◌∙◌}
use Rattle.std.proofs.lemmas.List.{append_assoc, append-nil, take-append-le}
use Rattle.trace_pairs.specs.Graph.{Node, Edge, Pair}
use Rattle.derivations.specs.Tableau.{Subgoal, Goal, Made, Calculus, goals_of, grown, linked}
use Rattle.derivations.specs.Nodes.{StandsAt, IsMadeFor, LeadsTo}
use Rattle.derivations.proofs.Grown.{with_edges, link_edges, leaf_at, leaf_other, leaf_new, linked_other, linked_new}
use Rattle.derivations.proofs.Waiting.{get_end_cases, waiting, waiting_here, waiting_not, waiting_own, waiting_other}
use Rattle.derivations.proofs.Waiting.{first_waits, FirstWaits, get_end_at}
use Rattle.cyc_basics.proofs.Places.{get_append_left}

-- node i has been made, as m: the nodes before it, its premises that are made and those that are left, and its edges
pub record Row {J R : Type 0} (c : Calculus J R) (nodes : List (Made J R)) (goals : List (Goal J)) (graph : List Node)
    (i : ℕ) (m : Made J R) : Type 0 where
  pub before : List (Made J R)
  pub is_before : take i nodes ≡ before
  pub done : List (Subgoal J)
  pub left : List (Subgoal J)
  pub has : c.premises before m.goal m.reason ≡ Some (done ++ left)
  pub waits : waiting i goals ≡ goals_of i (m.goal.depth + 1) (length done) left
  pub edges : List Edge
  pub is_node : slice_get graph i ≡ Some (record {
    positions = c.positions m.goal.premise.judgement;
    edges = link_edges (c.back before m.goal m.reason) ++ edges;
  })
  pub long : length edges ≡ length done
  pub each : (k : ℕ) (p : Subgoal J) → slice_get done k ≡ Some p → LeadsTo nodes i k p edges
  -- a node that is made for a place of this one has that place's edge
  pub only : (q : ℕ) (x : Made J R) → slice_get nodes q ≡ Some x → 0 < q → x.goal.parent ≡ i
      → slice_get edges x.goal.place ≡ Some (record { target = q; pairs = x.goal.premise.pairs })

made_more : {J R : Type 0} (nodes : List (Made J R)) (n : Made J R) (i k : ℕ) (p : Subgoal J) (q : ℕ)
    → IsMadeFor nodes i k p q → IsMadeFor (nodes ++ (n ∷ [])) i k p q
made_more nodes n i k p q h = record {
  later = h.later;
  node = h.node;
  is_node = get_append_left nodes (n ∷ []) q h.node h.is_node;
  stands = h.stands;
}

leads_more : {J R : Type 0} (nodes : List (Made J R)) (n : Made J R) (i k : ℕ) (p : Subgoal J) (edges more : List Edge)
    → LeadsTo nodes i k p edges → LeadsTo (nodes ++ (n ∷ [])) i k p (edges ++ more)
leads_more nodes n i k p edges more h = record {
  q = h.q;
  made = made_more nodes n i k p h.q h.made;
  is_edge = get_append_left edges more k (record { target = h.q; pairs = p.pairs }) h.is_edge;
}

leads_still : {J R : Type 0} (nodes : List (Made J R)) (n : Made J R) (i k : ℕ) (p : Subgoal J) (edges : List Edge)
    → LeadsTo nodes i k p edges → LeadsTo (nodes ++ (n ∷ [])) i k p edges
leads_still nodes n i k p edges h = record { q = h.q; made = made_more nodes n i k p h.q h.made; is_edge = h.is_edge }

before_more : {J R : Type 0} (nodes : List (Made J R)) (n : Made J R) (i : ℕ) (before : List (Made J R))
    → i < length nodes → take i nodes ≡ before → take i (nodes ++ (n ∷ [])) ≡ before
before_more nodes n i before less h = take-append-le i nodes (n ∷ []) (omega arith) ∙ h

-- the row of a node that the next goal does not belong to
pub row_other : {J R : Type 0} (c : Calculus J R) (nodes : List (Made J R)) (graph : List Node) (g : Goal J)
    (rest : List (Goal J)) (r : R) (ps : List (Subgoal J)) (depth : ℕ) (o : Option Edge) (i : ℕ) (m : Made J R) →
    i < length nodes → g.parent ≢ i → Row c nodes (g ∷ rest) graph i m →
    Row c (nodes ++ (record { goal = g; reason = r } ∷ [])) (goals_of (length nodes) depth 0 ps ++ rest)
    (linked (length nodes) (grown c graph g) o) i m
row_other {J} {R} c nodes graph g rest r ps depth o i m less ne row = record {
  before = row.before;
  is_before = before_more nodes (record { goal = g; reason = r }) i row.before less row.is_before;
  done = row.done;
  left = row.left;
  has = row.has;
  waits = waiting_other i (length nodes) depth 0 ps rest (λ e. omega arith) ∙ sym (waiting_not i g rest ne) ∙ row.waits;
  edges = row.edges;
  is_node =
      linked_other (length nodes) i (grown c graph g) o (λ e. omega arith)
      ∙ leaf_other graph g.parent g.premise.pairs (c.positions g.premise.judgement) i _ (λ e. ne (sym e)) row.is_node;
  long = row.long;
  each = λ k p at. leads_still nodes (record { goal = g; reason = r }) i k p row.edges (row.each k p at);
  only = λ q x at late here. elim (get_end_cases nodes (record { goal = g; reason = r }) x q at) [
    | inl old ↦ row.only q x old late here
    | inr new' ↦ absurd (ne (ap (λ (y : Made J R). y.goal.parent) new'.1 ∙ here))
  ];
}

-- the last edge leads to the new node
leads_new : {J R : Type 0} (nodes : List (Made J R)) (n : Made J R) (i k : ℕ) (p : Subgoal J) (edges : List Edge)
    → i < length nodes → k ≡ length edges → StandsAt i k p n.goal →
    LeadsTo (nodes ++ (n ∷ [])) i k p (edges ++ (record { target = length nodes; pairs = p.pairs } ∷ []))
leads_new nodes n i k p edges less kk stands = record {
  q = length nodes;
  made = record { later = less; node = n; is_node = get_end_at nodes n (length nodes) refl; stands = stands };
  is_edge = get_end_at edges (record { target = length nodes; pairs = p.pairs }) k kk;
}

-- the next goal's parent has an edge to the new node
grown_at : {J R : Type 0} (c : Calculus J R) (graph : List Node) (g : Goal J) (i : ℕ) (n : Node) (v : ℕ)
    (pairs : List Pair) → g.parent ≡ i → length graph ≡ v → g.premise.pairs ≡ pairs → slice_get graph i ≡ Some n →
    slice_get (grown c graph g) i ≡ Some (with_edges n (record { target = v; pairs = pairs } ∷ []))
grown_at c graph g i n v pairs here size same h =
    let h' : slice_get graph g.parent ≡ Some n = subst (λ u. slice_get graph u ≡ Some n) (sym here) h in
    let at = leaf_at graph g.parent g.premise.pairs (c.positions g.premise.judgement) n h' in
    let at' : slice_get (grown c graph g) i ≡ Some (with_edges n
    (record { target = length graph; pairs = g.premise.pairs } ∷ [])) =
    subst (λ u. slice_get (grown c graph g) u ≡ Some (with_edges n
    (record { target = length graph; pairs = g.premise.pairs } ∷ []))) here at in
    let edge : record { target = length graph; pairs = g.premise.pairs } ≡ record { target = v; pairs = pairs } = cc in
    at' ∙ ap (λ (e : Edge). Some (with_edges n (e ∷ []))) edge

-- the row of the next goal's parent
pub row_parent : {J R : Type 0} (c : Calculus J R) (nodes : List (Made J R)) (graph : List Node) (g : Goal J)
    (rest : List (Goal J)) (r : R) (ps : List (Subgoal J)) (depth : ℕ) (o : Option Edge) (i : ℕ) (m : Made J R) →
    i < length nodes → length graph ≡ length nodes → g.parent ≡ i → Row c nodes (g ∷ rest) graph i m →
    Row c (nodes ++ (record { goal = g; reason = r } ∷ [])) (goals_of (length nodes) depth 0 ps ++ rest)
    (linked (length nodes) (grown c graph g) o) i m
row_parent {J} {R} c nodes graph g rest r ps depth o i m less size here row =
    let w = first_waits i (m.goal.depth + 1) (length row.done) row.left g (waiting i rest)
    (sym (waiting_here i g rest here) ∙ row.waits) in
    record {
      before = row.before;
      is_before = before_more nodes (record { goal = g; reason = r }) i row.before less row.is_before;
      done = row.done ++ (w.p ∷ []);
      left = w.ps;
      has = row.has ∙ ap (λ xs. Some (row.done ++ xs)) w.are ∙ ap Some (sym (append_assoc row.done (w.p ∷ []) w.ps));
      waits =
          waiting_other i (length nodes) depth 0 ps rest (λ e. omega arith) ∙ w.more_wait
          ∙ ap (λ k. goals_of i (m.goal.depth + 1) k w.ps) (sym (length-append row.done (w.p ∷ [])));
      edges = row.edges ++ (record { target = length nodes; pairs = w.p.pairs } ∷ []);
      is_node = linked_other (length nodes) i (grown c graph g) o (λ e. omega arith) ∙ at_parent w;
      long = length-append row.edges (record { target = length nodes; pairs = w.p.pairs } ∷ [])
          ∙ ap (λ k. k + 1) row.long ∙ sym (length-append row.done (w.p ∷ []));
      each = λ k p at. each_next w k p at;
      only = λ q x at late here'. only_next w q x at late here';
    }
  where
    at_parent : (w : FirstWaits i (m.goal.depth + 1) (length row.done) row.left g (waiting i rest)) →
        slice_get (grown c graph g) i ≡ Some (record {
          positions = c.positions m.goal.premise.judgement;
          edges = link_edges (c.back row.before m.goal m.reason)
              ++ (row.edges ++ (record { target = length nodes; pairs = w.p.pairs } ∷ []));
        })
    at_parent w =
        let pairs : g.premise.pairs ≡ w.p.pairs = ap (λ (x : Goal J). x.premise.pairs) w.goal in
        grown_at c graph g i (record {
          positions = c.positions m.goal.premise.judgement;
          edges = link_edges (c.back row.before m.goal m.reason) ++ row.edges;
        }) (length nodes)
        w.p.pairs here size pairs row.is_node
        ∙ ap (λ es. Some (record { positions = c.positions m.goal.premise.judgement; edges = es }))
        (append_assoc (link_edges (c.back row.before m.goal m.reason)) row.edges
        (record { target = length nodes; pairs = w.p.pairs } ∷ []))

    each_next : (w : FirstWaits i (m.goal.depth + 1) (length row.done) row.left g (waiting i rest)) (k : ℕ)
        (p : Subgoal J) → slice_get (row.done ++ (w.p ∷ [])) k ≡ Some p →
        LeadsTo (nodes ++ (record { goal = g; reason = r } ∷ [])) i k p
        (row.edges ++ (record { target = length nodes; pairs = w.p.pairs } ∷ []))
    each_next w k p at =
        elim (get_end_cases row.done w.p p k at) [
          | inl old ↦ leads_more nodes (record { goal = g; reason = r }) i k p row.edges
              (record { target = length nodes; pairs = w.p.pairs } ∷ []) (row.each k p old)
          | inr new' ↦
              subst (λ (x : Subgoal J). LeadsTo (nodes ++ (record { goal = g; reason = r } ∷ [])) i k x
              (row.edges ++ (record { target = length nodes; pairs = w.p.pairs } ∷ []))) new'.1
              (leads_new nodes (record { goal = g; reason = r }) i k w.p row.edges less (new'.0 ∙ sym row.long)
              (record {
                parent = here;
                place = ap (λ (x : Goal J). x.place) w.goal ∙ sym new'.0;
                premise = ap (λ (x : Goal J). x.premise) w.goal;
              }))
        ]

    only_next : (w : FirstWaits i (m.goal.depth + 1) (length row.done) row.left g (waiting i rest)) (q : ℕ)
        (x : Made J R) → slice_get (nodes ++ (record { goal = g; reason = r } ∷ [])) q ≡ Some x → 0 < q
        → x.goal.parent ≡ i →
        slice_get (row.edges ++ (record { target = length nodes; pairs = w.p.pairs } ∷ [])) x.goal.place
        ≡ Some (record { target = q; pairs = x.goal.premise.pairs })
    only_next w q x at late here' =
        elim (get_end_cases nodes (record { goal = g; reason = r }) x q at) [
          | inl old ↦
              get_append_left row.edges (record { target = length nodes; pairs = w.p.pairs } ∷ []) x.goal.place
              (record { target = q; pairs = x.goal.premise.pairs }) (row.only q x old late here')
          | inr new' ↦
              (let place : x.goal.place ≡ length row.edges = ap (λ (y : Made J R). y.goal.place) (sym new'.1)
              ∙ (ap (λ (y : Goal J). y.place) w.goal ∙ sym row.long) in
              let number : length nodes ≡ q = sym new'.0 in
              let pairs : w.p.pairs ≡ x.goal.premise.pairs = sym (ap (λ (y : Goal J). y.premise.pairs) w.goal)
              ∙ ap (λ (y : Made J R). y.goal.premise.pairs) new'.1 in
              let edge : record { target = length nodes; pairs = w.p.pairs }
              ≡ record { target = q; pairs = x.goal.premise.pairs } = cc in
              get_end_at row.edges (record { target = length nodes; pairs = w.p.pairs }) x.goal.place place
              ∙ ap (λ (e : Edge). Some e) edge)
        ]

pub take_all : {X : Type 0} (xs ys : List X) (n : ℕ) → n ≡ length xs → take n (xs ++ ys) ≡ xs
take_all [] ys zero e = refl
take_all [] ys (suc n) e = absurd (omega arith)
take_all (x ∷ xs) ys zero e = absurd (omega arith)
take_all (x ∷ xs) ys (suc n) e = ap (λ zs. x ∷ zs) (take_all xs ys n (omega arith))

-- the row of the new node
pub row_new : {J R : Type 0} (c : Calculus J R) (nodes : List (Made J R)) (graph : List Node) (g : Goal J)
    (rest : List (Goal J)) (r : R) (ps : List (Subgoal J)) →
    length graph ≡ length nodes → c.premises nodes g r ≡ Some ps → waiting (length nodes) rest ≡ []
    → ((q : ℕ) (x : Made J R) → slice_get (nodes ++ (record { goal = g; reason = r } ∷ [])) q ≡ Some x → 0 < q
    → x.goal.parent ≢ length nodes) →
    Row c (nodes ++ (record { goal = g; reason = r } ∷ [])) (goals_of (length nodes) (g.depth + 1) 0 ps ++ rest)
    (linked (length nodes) (grown c graph g) (c.back nodes g r)) (length nodes) (record { goal = g; reason = r })
row_new {J} {R} c nodes graph g rest r ps size has none apart = record {
  before = nodes;
  is_before = take_all nodes (record { goal = g; reason = r } ∷ []) (length nodes) refl;
  done = [];
  left = ps;
  has = has;
  waits = waiting_own (length nodes) (g.depth + 1) 0 ps rest none;
  edges = [];
  is_node =
      linked_new (length nodes) (grown c graph g) (c.back nodes g r) (c.positions g.premise.judgement)
      (subst (λ k. slice_get (grown c graph g) k ≡ Some (record
      { positions = c.positions g.premise.judgement; edges = [] })) size
      (leaf_new graph g.parent g.premise.pairs (c.positions g.premise.judgement)))
      ∙ ap (λ es. Some (record { positions = c.positions g.premise.judgement; edges = es }))
      (sym (append-nil (link_edges (c.back nodes g r))));
  long = refl;
  each = λ k p at. absurd (let e : None ≡ Some p = at in cc);
  only = λ q x at late here. absurd (apart q x at late here);
}
