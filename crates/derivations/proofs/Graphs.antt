-- What each partial derivation keeps; and so its trace graph is in order.
use Rattle.std.proofs.Common.{◌≡◌, ℕ, zero, suc, ◌<◌, ◌≤◌, ◌⊎◌, inl, inr, arith, true, List, [], ◌++◌, Option, Some}
use Rattle.std.proofs.Common.{None, slice_get, length, length-append, sym, refl, ap, subst, ◌∙◌}
use Rattle.std.proofs.lemmas.Option.{slice_get_within}
use Rattle.trace_pairs.specs.Graph.{Node, Edge, IsGraph, IsPositionSet, has}
use Rattle.trace_pairs.specs.System.{AreIn}
use Rattle.derivations.specs.Tableau.{Subgoal, Goal, Made, Tableau, Calculus}
use Rattle.derivations.specs.Fair.{AllOccur, IsFair}
use Rattle.derivations.specs.Nodes.{HasRoot, MayStand, LeadsTo}
use Rattle.derivations.proofs.Grown.{link_edges}
use Rattle.derivations.proofs.Rows.{Row}
use Rattle.cyc_basics.proofs.Places.{get_within, get_append_left, get_taken}

-- no node is made, and the next goal is the judgement
pub record IsBegun {J R : Type 0} (j : J) (t : Tableau J R) : Type 0 where
  pub none : t.nodes ≡ []
  pub goal : Goal J
  pub is_goal : slice_get t.goals 0 ≡ Some goal
  pub judgement : goal.premise.judgement ≡ j

pub record InOrder {J R : Type 0} (c : Calculus J R) (Occurs : J → Type 0) (Allows : R → Type 0) (j : J)
    (t : Tableau J R) : Type 0 where
  pub begun : IsBegun j t ⊎ HasRoot j t
  pub size : length t.graph ≡ length t.nodes
  pub made : MayStand Occurs Allows t
  pub open' : (k : ℕ) (g : Goal J) → slice_get t.goals k ≡ Some g → Occurs g.premise.judgement
  -- each goal but the first of all, and each node but node 0, belongs to an earlier node
  pub parents : (k : ℕ) (g : Goal J) → slice_get t.goals k ≡ Some g
      → (g.parent < length t.nodes) ⊎ ((length t.nodes ≡ 0) × (k ≡ 0))
  pub earlier : (q : ℕ) (x : Made J R) → slice_get t.nodes q ≡ Some x → 0 < q → x.goal.parent < q
  pub rows : (i : ℕ) (m : Made J R) → slice_get t.nodes i ≡ Some m → Row c t.nodes t.goals t.graph i m

-- an edge leads to a node, and its pairs fit
record Fits {J R : Type 0} (c : Calculus J R) (nodes : List (Made J R)) (m : Made J R) (e : Edge) : Type 0 where
  node : Made J R
  is_node : slice_get nodes e.target ≡ Some node
  fit : AreIn e.pairs (c.positions m.goal.premise.judgement) (c.positions node.goal.premise.judgement)

record AtPremise {J R : Type 0} (nodes : List (Made J R)) (i : ℕ) (done : List (Subgoal J)) (edges : List Edge)
    (e : Edge) : Type 0 where
  k : ℕ
  p : Subgoal J
  is_p : slice_get done k ≡ Some p
  leads : LeadsTo nodes i k p edges
  is_edge : e ≡ record { target = leads.q; pairs = p.pairs }

-- an edge of a row is that of its link, or leads to the node for a premise
edge_cases : (o : Option Edge) (edges : List Edge) (k : ℕ) (e : Edge) → slice_get (link_edges o ++ edges) k ≡ Some e
    → (o ≡ Some e) ⊎ ((j : ℕ) × (slice_get edges j ≡ Some e))
edge_cases None edges k e h = inr (k, h)
edge_cases (Some x) edges zero e h = inl (let f : Some x ≡ Some e = h in f)
edge_cases (Some x) edges (suc k) e h = inr (k, h)

at_premise : {J R : Type 0} (c : Calculus J R) (nodes : List (Made J R)) (goals : List (Goal J)) (graph : List Node)
    (i : ℕ) (m : Made J R) (row : Row c nodes goals graph i m) (j : ℕ) (e : Edge) → slice_get row.edges j ≡ Some e
    → AtPremise nodes i row.done row.edges e
at_premise c nodes goals graph i m row j e h =
    let less : j < length row.edges = slice_get_within row.edges j e h in
    let p = get_within row.done j (omega (arith, row.long, less)) in
    let l = row.each j p.0 p.1 in
    let f : Some e ≡ Some (record { target = l.q; pairs = p.0.pairs }) = sym h ∙ l.is_edge in
    record { k = j; p = p.0; is_p = p.1; leads = l; is_edge = cc }

-- the judgements of a node, and of those before it, may occur
row_occurs : {J R : Type 0} (c : Calculus J R) (Occurs : J → Type 0) (Allows : R → Type 0) (j : J) (t : Tableau J R)
    → InOrder c Occurs Allows j t → (i : ℕ) (m : Made J R) → slice_get t.nodes i ≡ Some m
    → (row : Row c t.nodes t.goals t.graph i m) →
    AllOccur Occurs row.before m.goal
row_occurs {J} {R} c Occurs Allows j t ok i m h row = record {
  goal = (ok.made i m h).0;
  made = λ k x at. (ok.made k x (get_taken t.nodes i k x (subst (λ (xs : List (Made J R)). slice_get xs k ≡ Some x)
      (sym row.is_before) at))).0;
}

edge_fits : {J R : Type 0} (c : Calculus J R) (Occurs : J → Type 0) (Allows : R → Type 0) → IsFair c Occurs Allows
    → (j : J) (t : Tableau J R) → InOrder c Occurs Allows j t → (i : ℕ) (m : Made J R) → slice_get t.nodes i ≡ Some m
    → (row : Row c t.nodes t.goals t.graph i m) (k : ℕ) (e : Edge) →
    slice_get (link_edges (c.back row.before m.goal m.reason) ++ row.edges) k ≡ Some e → Fits c t.nodes m e
edge_fits {J} {R} c Occurs Allows fair j t ok i m h row k e at =
    elim (edge_cases (c.back row.before m.goal m.reason) row.edges k e at) [
      | inl link ↦ by_link link
      | inr later ↦ by_premise
          (at_premise c t.nodes t.goals t.graph i m row later.0 e later.1)
    ]
  where
    occur : AllOccur Occurs row.before m.goal
    occur = row_occurs c Occurs Allows j t ok i m h row

    allowed : Allows m.reason
    allowed = (ok.made i m h).1

    by_link : c.back row.before m.goal m.reason ≡ Some e → Fits c t.nodes m e
    by_link b =
        let x = fair.links_back row.before m.goal m.reason e occur allowed b in
        record {
          node = x.node;
          is_node = get_taken t.nodes i e.target x.node
              (subst (λ (xs : List (Made J R)). slice_get xs e.target ≡ Some x.node) (sym row.is_before) x.is_node);
          fit = x.fit;
        }

    by_premise : AtPremise t.nodes i row.done row.edges e → Fits c t.nodes m e
    by_premise x =
        let is = (fair.premises row.before m.goal m.reason (row.done ++ row.left) occur allowed row.has).each x.k x.p
        (get_append_left row.done row.left x.k x.p x.is_p) in
        let node = x.leads.made.node in
        let fit : AreIn x.p.pairs (c.positions m.goal.premise.judgement) (c.positions node.goal.premise.judgement) =
        subst (λ (p : Subgoal J). AreIn x.p.pairs (c.positions m.goal.premise.judgement) (c.positions p.judgement))
        (sym x.leads.made.stands.premise) is.fit in
        subst (Fits c t.nodes m) (sym x.is_edge) (record { node = node; is_node = x.leads.made.is_node; fit = fit })

-- a link has one edge, and a rule at most 256
few_edges : {J R : Type 0} (c : Calculus J R) (Occurs : J → Type 0) (Allows : R → Type 0) → IsFair c Occurs Allows
    → (j : J) (t : Tableau J R) → InOrder c Occurs Allows j t → (i : ℕ) (m : Made J R) → slice_get t.nodes i ≡ Some m
    → (row : Row c t.nodes t.goals t.graph i m) →
    length (link_edges (c.back row.before m.goal m.reason) ++ row.edges) ≤ 256
few_edges {J} {R} c Occurs Allows fair j t ok i m h row = few (c.back row.before m.goal m.reason) refl
  where
    few : (o : Option Edge) → c.back row.before m.goal m.reason ≡ o → length (link_edges o ++ row.edges) ≤ 256
    few None b =
        let f = (fair.premises row.before m.goal m.reason (row.done ++ row.left)
        (row_occurs c Occurs Allows j t ok i m h row) (ok.made i m h).1 row.has).few in
        omega (arith, row.long, f, length-append row.done row.left)
    few (Some e) b =
        let none = ap length (fair.links_alone row.before m.goal m.reason e (row.done ++ row.left) b row.has) in
        omega (arith, row.long, none, length-append row.done row.left)

-- a node of the graph is that of a row
record HasRow {J R : Type 0} (c : Calculus J R) (t : Tableau J R) (v : ℕ) (n : Node) : Type 0 where
  m : Made J R
  is_m : slice_get t.nodes v ≡ Some m
  row : Row c t.nodes t.goals t.graph v m
  positions : n.positions ≡ c.positions m.goal.premise.judgement
  edges : n.edges ≡ link_edges (c.back row.before m.goal m.reason) ++ row.edges

has_row : {J R : Type 0} (c : Calculus J R) (Occurs : J → Type 0) (Allows : R → Type 0) (j : J) (t : Tableau J R)
    → InOrder c Occurs Allows j t → (v : ℕ) (n : Node) → slice_get t.graph v ≡ Some n → HasRow c t v n
has_row c Occurs Allows j t ok v n h =
    let less : v < length t.graph = slice_get_within t.graph v n h in
    let m = get_within t.nodes v (omega (arith, ok.size, less)) in
    let row = ok.rows v m.0 m.1 in
    let e : Some n ≡ Some (record {
      positions = c.positions m.0.goal.premise.judgement;
      edges = link_edges (c.back row.before m.0.goal m.0.reason) ++ row.edges;
    }) = sym h ∙ row.is_node in
    let e' : n ≡ record {
      positions = c.positions m.0.goal.premise.judgement;
      edges = link_edges (c.back row.before m.0.goal m.0.reason) ++ row.edges;
    } = cc in
    record {
      m = m.0;
      is_m = m.1;
      row = row;
      positions = ap (λ (x : Node). x.positions) e';
      edges = ap (λ (x : Node). x.edges) e';
    }

fits_at_edge : {J R : Type 0} (c : Calculus J R) (Occurs : J → Type 0) (Allows : R → Type 0) → IsFair c Occurs Allows
    → (j : J) (t : Tableau J R) → InOrder c Occurs Allows j t → (v k : ℕ) (n : Node) (e : Edge) (x : HasRow c t v n)
    → slice_get n.edges k ≡ Some e → Fits c t.nodes x.m e
fits_at_edge c Occurs Allows fair j t ok v k n e x h = edge_fits c Occurs Allows fair j t ok v x.m x.is_m x.row k e
    (subst (λ es. slice_get es k ≡ Some e) x.edges h)

pub graph_in_order : {J R : Type 0} (c : Calculus J R) (Occurs : J → Type 0) (Allows : R → Type 0)
    → IsFair c Occurs Allows → (j : J) (t : Tableau J R) → InOrder c Occurs Allows j t → 0 < length t.nodes
    → IsGraph t.graph
graph_in_order {J} {R} c Occurs Allows fair j t ok some' =
    let root = get_within t.graph 0 (omega (arith, ok.size, some')) in
    record {
      root = root.0;
      is_root = root.1;
      targets = λ v k e h. (
          let f = fits_at_edge c Occurs Allows fair j t ok v k h.node e
          (has_row c Occurs Allows j t ok v h.node h.is_node) h.is_edge in
          let less = slice_get_within t.nodes e.target f.node f.is_node in omega (arith, less, ok.size));
      fit = λ v k i e old new' p is_old is_e is_new is_p. (
          let x = has_row c Occurs Allows j t ok v old is_old in
          let y = has_row c Occurs Allows j t ok e.target new' is_new in
          let f = fits_at_edge c Occurs Allows fair j t ok v k old e x is_e in
          let s : Some f.node ≡ Some y.m = sym f.is_node ∙ y.is_m in
          let s' : f.node ≡ y.m = cc in
          let both = f.fit i p is_p in (
            subst (λ ps. has ps p.0 ≡ true) (sym x.positions) both.0,
            subst (λ ps. has ps p.1 ≡ true) (ap (λ (m : Made J R). c.positions m.goal.premise.judgement) s'
                ∙ sym y.positions) both.1,
          ));
      sets = λ v n h. (
          let x = has_row c Occurs Allows j t ok v n h in
          subst IsPositionSet (sym x.positions) (fair.positions x.m.goal.premise.judgement (ok.made v x.m x.is_m).0));
      few = λ v n h. (
          let x = has_row c Occurs Allows j t ok v n h in
          subst (λ (es : List Edge). length es ≤ 256) (sym x.edges)
          (few_edges c Occurs Allows fair j t ok v x.m x.is_m x.row));
    }
