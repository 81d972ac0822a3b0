-- Each lasso of each partial derivation progresses; and what is found has all its premises.
use Rattle.std.proofs.Common.{◌≡◌, ℕ, zero, suc, ◌+◌, ◌<◌, ◌≤◌, ◌⊎◌, inl, inr, arith, Bool, true, false, List, [], ◌∷◌}
use Rattle.std.proofs.Common.{◌++◌, Option, Some, None, slice_get, length, length-append, filter, take, sym, refl, ap}
use Rattle.std.proofs.Common.{subst, ◌∙◌}
use Rattle.std.specs.Prelude.{nat_lt}
use Rattle.std.proofs.lemmas.Bool.{cases_Bool, both_ways}
use Rattle.std.proofs.lemmas.List.{append-nil, map-append, length-map}
use Rattle.std.proofs.lemmas.Option.{slice_get_within}
use Rattle.trace_pairs.specs.Graph.{Node, Edge, IsGraph}
use Rattle.trace_pairs.specs.Lasso.{IsPath, AllProgress}
use Rattle.trace_pairs.specs.declared.lasso.Step.{Step}
use Rattle.buchi_inclusion.specs.Decide.{progresses, number_of}
use Rattle.buchi_inclusion.proofs.Leaf.{leaf_progresses}
use Rattle.buchi_inclusion.proofs.Decide.{progress_decided}
use Rattle.derivations.specs.System.{System, after, chosen, search_of, IsFound}
use Rattle.cyc_basics.specs.Words.{or_else}
use Rattle.derivations.specs.Firsts.{IsIn}
use Rattle.derivations.proofs.Induction.{IsOffered, found_has}
use Rattle.derivations.proofs.Firsts.{first_found}
use Rattle.derivations.specs.Tableau.{Subgoal, Goal, Made, Tableau, Calculus, grown, linked, begin, replay}
use Rattle.derivations.specs.Room.{is_nil, is_done, offered, offered_at}
use Rattle.derivations.specs.Search.{on_graph, system_of, EachFound, EachIsSmall}
use Rattle.derivations.specs.Fair.{AllOccur, IsFair}
use Rattle.derivations.specs.Nodes.{HasRoot, reasons_of, MayStand, AllOffered, AreEdges, AllHavePremises, StandApart}
use Rattle.derivations.specs.Nodes.{AllHaveEdges}
use Rattle.derivations.proofs.Grown.{link_edges}
use Rattle.derivations.proofs.Waiting.{waiting, none_left}
use Rattle.derivations.proofs.Rows.{Row}
use Rattle.derivations.proofs.Graphs.{InOrder, graph_in_order}
use Rattle.derivations.proofs.TableauSteps.{Fits, fits_tells, next_tableau, next_is, begins, next_in_order}
use Rattle.derivations.proofs.TableauOffered.{IsOfferedTo, none_offered, offered_next}
use Rattle.derivations.proofs.Few.{found_ends, few_states}
use Rattle.derivations.proofs.Made.{AllMade}
use Rattle.cyc_basics.proofs.Places.{get_within}

-- a graph without a node has no lasso
none_progresses : AllProgress []
none_progresses l is = absurd (starts l.cycle is.first is.cycle is.taken)
  where
    starts : (steps : List Step) (u : ℕ) → IsPath [] u steps u → 0 < length steps → ⊥
    starts [] u p h = omega arith
    starts (s ∷ steps) u p h = let e : None ≡ Some p.2.node = p.2.is_node in cc

-- what a filter keeps was there, and passes
record Passes {X : Type 0} (t : X → Bool) (xs : List X) (x : X) : Type 0 where
  is_in : IsIn xs x
  pass : t x ≡ true

passes_more : {X : Type 0} (t : X → Bool) (z : X) (xs : List X) (x : X) → Passes t xs x → Passes t (z ∷ xs) x
passes_more t z xs x h = record { is_in = record { place = suc h.is_in.place; at = h.is_in.at }; pass = h.pass }

kept_first : {X : Type 0} (t : X → Bool) (z : X) (xs ys : List X) (x : X) → t z ≡ true
    → ((k : ℕ) → slice_get ys k ≡ Some x → Passes t xs x) → (i : ℕ) → slice_get (z ∷ ys) i ≡ Some x
    → Passes t (z ∷ xs) x
kept_first t z xs ys x pass later zero h =
    let f : Some z ≡ Some x = h in
    let f' : z ≡ x = cc in record { is_in = record { place = 0; at = f }; pass = subst (λ w. t w ≡ true) f' pass }
kept_first t z xs ys x pass later (suc i) h = passes_more t z xs x (later i h)

in_filter : {X : Type 0} (t : X → Bool) (xs : List X) (i : ℕ) (x : X) → slice_get (filter t xs) i ≡ Some x
    → Passes t xs x
in_filter t [] i x h = absurd (let e : None ≡ Some x = h in cc)
in_filter t (z ∷ xs) i x h =
    elim (cases_Bool (t z)) [
      | inl yes' ↦ (let h' : slice_get (z ∷ filter t xs) i ≡ Some x = rw yes' at h in
          kept_first t z xs (filter t xs) x yes' (λ k at. in_filter t xs k x at) i h')
      | inr no' ↦ (let h' : slice_get (filter t xs) i ≡ Some x = rw no' at h in
          passes_more t z xs x (in_filter t xs i x h'))
    ]

-- what is chosen is a candidate that is admitted, or one of the other rules
chosen_was : {R : Type 0} (s : System R) (d : List R) (r : R) → IsIn (chosen s d) r
    → Passes (λ x. s.admitted (after d x)) (s.candidates d) r ⊎ IsIn (s.rules d) r
chosen_was {R} s d r h = split (filter (λ x. s.admitted (after d x)) (s.candidates d)) refl h
  where
    split : (good : List R) → good ≡ filter (λ x. s.admitted (after d x)) (s.candidates d)
        → IsIn (or_else good (s.rules d)) r → Passes (λ x. s.admitted (after d x)) (s.candidates d) r
        ⊎ IsIn (s.rules d) r
    split [] e i = inr i
    split (x ∷ xs) e i = inl (in_filter (λ y. s.admitted (after d y)) (s.candidates d) i.place r
        (subst (λ zs. slice_get zs i.place ≡ Some r) e i.at))

in_offered : {J R : Type 0} (c : Calculus J R) (offer : List (Made J R) → Goal J → List R) (p : Option (Tableau J R))
    (r : R) (x : Fits c p r) → IsIn (offered offer p) r → IsIn (offer x.t.nodes x.g) r
in_offered {J} {R} c offer p r x i =
    let a : slice_get (offered offer (Some x.t)) i.place
    ≡ Some r = subst (λ q. slice_get (offered offer q) i.place ≡ Some r) x.is i.at in
    record { place = i.place; at = subst (λ gs. slice_get (offered_at offer x.t.nodes gs) i.place ≡ Some r) x.goals a }

-- the reason may be given; and it is a link with which each lasso progresses, or another rule
record IsChosen {J R : Type 0} (c : Calculus J R) (Allows : R → Type 0) (nodes : List (Made J R)) (graph : List Node)
    (g : Goal J) (r : R) : Type 0 where
  offered : IsOfferedTo c nodes g r
  allowed : Allows r
  progress : (progresses (linked (length nodes) (grown c graph g) (c.back nodes g r)) ≡ true)
      ⊎ (c.back nodes g r ≡ None)

next_chosen : {J R : Type 0} (c : Calculus J R) (Occurs : J → Type 0) (Allows : R → Type 0) → IsFair c Occurs Allows
    → (limit states : ℕ) (j : J) (d : List R) (r : R) (x : Fits c (replay c j d) r) → AllOccur Occurs x.t.nodes x.g
    → IsIn (chosen (system_of c limit states j) d) r → IsChosen c Allows x.t.nodes x.t.graph x.g r
next_chosen c Occurs Allows fair limit states j d r x occur h =
    elim (chosen_was (system_of c limit states j) d r h) [
      | inl link ↦
          (let i = in_offered c c.links (replay c j d) r x link.is_in in
          record {
            offered = inl i;
            allowed = fair.offers x.t.nodes x.g r occur (inl i);
            progress = inl (subst (λ p. on_graph progresses p ≡ true) (next_is c j d r x) link.pass);
          })
      | inr rule ↦
          (let i = in_offered c c.rules (replay c j d) r x rule in
          record {
            offered = inr i;
            allowed = fair.offers x.t.nodes x.g r occur (inr i);
            progress = inr (fair.rules_forth x.t.nodes x.g r i);
          })
    ]

next_progresses : {J R : Type 0} (c : Calculus J R) (Occurs : J → Type 0) (Allows : R → Type 0) → IsFair c Occurs Allows
    → (j : J) (nodes : List (Made J R)) (graph : List Node) (g : Goal J) (rest : List (Goal J)) (r : R)
    (ps : List (Subgoal J)) → InOrder c Occurs Allows j (next_tableau c nodes graph g rest ps r) →
    AllProgress graph → IsChosen c Allows nodes graph g r
    → AllProgress (linked (length nodes) (grown c graph g) (c.back nodes g r))
next_progresses c Occurs Allows fair j nodes graph g rest r ps ok before is =
    elim is.progress [
      | inl test ↦
          (progress_decided (linked (length nodes) (grown c graph g) (c.back nodes g r))
          (graph_in_order c Occurs Allows fair j (next_tableau c nodes graph g rest ps r) ok
          (omega (arith, length-append nodes (record { goal = g; reason = r } ∷ []))))).0 test
      | inr none ↦
          subst (λ o. AllProgress (linked (length nodes) (grown c graph g) o)) (sym none)
          (leaf_progresses graph g.parent g.premise.pairs (c.positions g.premise.judgement) before)
    ]

record Holds {J R : Type 0} (c : Calculus J R) (Occurs : J → Type 0) (Allows : R → Type 0) (j : J) (d : List R)
    : Type 0 where
  t : Tableau J R
  is : replay c j d ≡ Some t
  reasons : reasons_of t ≡ d
  order : InOrder c Occurs Allows j t
  offered : AllOffered c t
  progress : AllProgress t.graph

holds_next : {J R : Type 0} (c : Calculus J R) (Occurs : J → Type 0) (Allows : R → Type 0) → IsFair c Occurs Allows
    → (limit states e : ℕ) (j : J) (d : List R) (r : R) → Holds c Occurs Allows j d
    → IsOffered (system_of c limit states j) e d r → Holds c Occurs Allows j (after d r)
holds_next {J} {R} c Occurs Allows fair limit states e j d r holds offer =
    let x = fits_tells c limit e (length d) (replay c j d) r offer.fits in
    let b : Some holds.t ≡ Some x.t = sym holds.is ∙ x.is in
    let b' : holds.t ≡ x.t = cc in
    let old : InOrder c Occurs Allows j (record { nodes = x.t.nodes; goals = x.g ∷ x.rest; graph = x.t.graph }) =
    subst (λ (gs : List (Goal J)). InOrder c Occurs Allows j
    (record { nodes = x.t.nodes; goals = gs; graph = x.t.graph })) x.goals
    (subst (InOrder c Occurs Allows j) b' holds.order) in
    let is = next_chosen c Occurs Allows fair limit states j d r x
    (record { goal = old.open' 0 x.g refl; made = λ i m h. (old.made i m h).0 }) offer.chosen in
    let new' = next_in_order c Occurs Allows fair j x.t.nodes x.t.graph x.g x.rest r x.ps old is.allowed x.has in
    record {
      t = next_tableau c x.t.nodes x.t.graph x.g x.rest x.ps r;
      is = next_is c j d r x;
      reasons =
          map-append (λ (m : Made J R). m.reason) x.t.nodes (record { goal = x.g; reason = r } ∷ [])
          ∙ ap (λ (rs : List R). rs ++ (r ∷ [])) (ap (λ (t : Tableau J R). reasons_of t) (sym b') ∙ holds.reasons);
      order = new';
      offered = offered_next c x.t x.g x.rest x.ps r (subst (AllOffered c) b' holds.offered) is.offered;
      progress = next_progresses c Occurs Allows fair j x.t.nodes x.t.graph x.g x.rest r x.ps new'
          (subst (λ (t : Tableau J R). AllProgress t.graph) b' holds.progress) is;
    }

-- what is found has no open goal
record Found {J R : Type 0} (c : Calculus J R) (Occurs : J → Type 0) (Allows : R → Type 0) (j : J) (d : List R)
    : Type 0 where
  holds : Holds c Occurs Allows j d
  closed : holds.t.goals ≡ []

pub nil_is : {X : Type 0} (xs : List X) → is_nil xs ≡ true → xs ≡ []
nil_is [] h = refl
nil_is (x ∷ xs) h = absurd (both_ways false refl h)

found : {J R : Type 0} (c : Calculus J R) (Occurs : J → Type 0) (Allows : R → Type 0) → IsFair c Occurs Allows
    → (limit states most depth : ℕ) (j : J) (d : List R) → Occurs j
    → search_of (system_of c limit states j) most depth ≡ IsFound d → Found c Occurs Allows j d
found {J} {R} c Occurs Allows fair limit states most depth j d occurs h =
    let first = first_found (system_of c limit states j) most 1 depth d h in
    let p = found_has (system_of c limit states j) first.depth (Holds c Occurs Allows j)
    (λ d' r holds offer. holds_next c Occurs Allows fair limit states first.depth j d' r holds offer)
    (record {
      t = begin j;
      is = refl;
      reasons = refl;
      order = begins c Occurs Allows j occurs;
      offered = none_offered c j;
      progress = none_progresses;
    }) d first.first in
    let nil : is_nil p.0.t.goals ≡ true = subst (λ x. is_done x ≡ true) p.0.is p.1 in
    record { holds = p.0; closed = nil_is p.0.t.goals nil }

-- what is so of each such tableau is so of whatever is found
each_found : {J R : Type 0} (c : Calculus J R) (Occurs : J → Type 0) (Allows : R → Type 0) → IsFair c Occurs Allows
    → (P : J → List R → Tableau J R → Type 0) → ((j : J) (d : List R) (f : Found c Occurs Allows j d) → P j d f.holds.t)
    → EachFound c Occurs P
each_found c Occurs Allows fair P each limit states most depth j d occurs h =
    let f = found c Occurs Allows fair limit states most depth j d occurs h in (f.holds.t, f.holds.is, each j d f)

found_root : {J R : Type 0} (c : Calculus J R) (Occurs : J → Type 0) (Allows : R → Type 0) (j : J) (d : List R)
    (f : Found c Occurs Allows j d) → HasRoot j f.holds.t
found_root {J} {R} c Occurs Allows j d f =
    elim f.holds.order.begun [
      | inl b ↦
          absurd (let e : slice_get [] 0 ≡ Some b.goal = subst (λ (gs : List (Goal J)). slice_get gs 0 ≡ Some b.goal)
          f.closed b.is_goal in let e' : None ≡ Some b.goal = e in cc)
      | inr root ↦ root
    ]

some_node : {J R : Type 0} (j : J) (t : Tableau J R) → HasRoot j t → 0 < length t.nodes
some_node j t h = slice_get_within t.nodes 0 h.root h.is_root

-- with no open goal a row has no premise left
record Whole {J R : Type 0} (c : Calculus J R) (t : Tableau J R) (i : ℕ) (m : Made J R) : Type 0 where
  row : Row c t.nodes t.goals t.graph i m
  has : c.premises (take i t.nodes) m.goal m.reason ≡ Some row.done

whole : {J R : Type 0} (c : Calculus J R) (Occurs : J → Type 0) (Allows : R → Type 0) (j : J) (d : List R)
    (f : Found c Occurs Allows j d) (i : ℕ) (m : Made J R) → slice_get f.holds.t.nodes i ≡ Some m
    → Whole c f.holds.t i m
whole {J} {R} c Occurs Allows j d f i m h =
    let row = f.holds.order.rows i m h in
    let none : row.left ≡ [] = none_left i (m.goal.depth + 1) (length row.done) row.left
    (sym (ap (waiting i) f.closed) ∙ row.waits) in
    record {
      row = row;
      has =
          ap (λ (ns : List (Made J R)). c.premises ns m.goal m.reason) row.is_before
          ∙ (row.has ∙ (ap (λ xs. Some (row.done ++ xs)) none ∙ ap Some (append-nil row.done)));
    }

-- a link's row has the one edge, since no premise is made; a rule's has no other edges
row_edges : {J R : Type 0} (c : Calculus J R) (Occurs : J → Type 0) (Allows : R → Type 0) → IsFair c Occurs Allows
    → (j : J) (d : List R) (f : Found c Occurs Allows j d) (i : ℕ) (m : Made J R) → slice_get f.holds.t.nodes i ≡ Some m
    → (w : Whole c f.holds.t i m) →
    AreEdges f.holds.t.nodes i w.row.done (c.back (take i f.holds.t.nodes) m.goal m.reason)
    (link_edges (c.back w.row.before m.goal m.reason) ++ w.row.edges)
row_edges {J} {R} c Occurs Allows fair j d f i m h w =
    let same = ap (λ (ns : List (Made J R)). c.back ns m.goal m.reason) w.row.is_before in
    subst (λ (o : Option Edge). AreEdges f.holds.t.nodes i w.row.done o
    (link_edges (c.back w.row.before m.goal m.reason) ++ w.row.edges)) (sym same)
    (split (c.back w.row.before m.goal m.reason) refl)
  where
    no_edges : (xs : List Edge) (ps : List (Subgoal J)) → length xs ≡ length ps → ps ≡ [] → xs ≡ []
    no_edges [] ps l e = refl
    no_edges (x ∷ xs) ps l e = absurd (let n = ap length e in omega (arith, l, n))

    split : (o : Option Edge) → c.back w.row.before m.goal m.reason ≡ o
        → AreEdges f.holds.t.nodes i w.row.done o (link_edges o ++ w.row.edges)
    split None b = record { as_many = w.row.long; each = λ k p at. w.row.each k p at }
    split (Some e) b =
        let has : c.premises w.row.before m.goal m.reason
        ≡ Some w.row.done = ap (λ (ns : List (Made J R)). c.premises ns m.goal m.reason) (sym w.row.is_before)
        ∙ w.has in
        ap (λ (es : List Edge). e ∷ es)
        (no_edges w.row.edges w.row.done w.row.long (fair.links_alone w.row.before m.goal m.reason e w.row.done b has))

same_target : (e f : Edge) → Some e ≡ Some f → e.target ≡ f.target
same_target e f h =
    let e' : e ≡ f = cc in ap (λ (x : Edge). x.target) e'

-- two nodes that are made for one place have one edge
stand_apart : {J R : Type 0} (c : Calculus J R) (Occurs : J → Type 0) (Allows : R → Type 0) (j : J) (t : Tableau J R)
    → InOrder c Occurs Allows j t → StandApart t
stand_apart {J} {R} c Occurs Allows j t ok p q m n at_p at_q late_p late_q parent place =
    let before = ok.earlier p m at_p late_p in
    let within = slice_get_within t.nodes p m at_p in
    let up = get_within t.nodes m.goal.parent (omega (arith, before, within)) in
    let row = ok.rows m.goal.parent up.0 up.1 in
    let a : slice_get row.edges m.goal.place ≡ Some (record { target = p; pairs = m.goal.premise.pairs })
    = row.only p m at_p late_p refl in
    let b : slice_get row.edges m.goal.place ≡ Some (record { target = q; pairs = n.goal.premise.pairs }) =
    subst (λ k. slice_get row.edges k ≡ Some (record { target = q; pairs = n.goal.premise.pairs })) (sym place)
    (row.only q n at_q late_q (sym parent)) in
    same_target (record { target = p; pairs = m.goal.premise.pairs })
    (record { target = q; pairs = n.goal.premise.pairs }) (sym a ∙ b)

pub all_rooted : {J R : Type 0} (c : Calculus J R) (Occurs : J → Type 0) (Allows : R → Type 0) → IsFair c Occurs Allows
    → EachFound c Occurs (λ j d t. HasRoot j t)
all_rooted c Occurs Allows fair = each_found c Occurs Allows fair (λ j d t. HasRoot j t)
    (λ j d f. found_root c Occurs Allows j d f)

pub all_reasoned : {J R : Type 0} (c : Calculus J R) (Occurs : J → Type 0) (Allows : R → Type 0)
    → IsFair c Occurs Allows → EachFound c Occurs (λ j d t. reasons_of t ≡ d)
all_reasoned c Occurs Allows fair = each_found c Occurs Allows fair (λ j d t. reasons_of t ≡ d)
    (λ j d f. f.holds.reasons)

pub all_standing : {J R : Type 0} (c : Calculus J R) (Occurs : J → Type 0) (Allows : R → Type 0)
    → IsFair c Occurs Allows → EachFound c Occurs (λ j d t. MayStand Occurs Allows t)
all_standing c Occurs Allows fair = each_found c Occurs Allows fair (λ j d t. MayStand Occurs Allows t)
    (λ j d f. f.holds.order.made)

pub all_offered : {J R : Type 0} (c : Calculus J R) (Occurs : J → Type 0) (Allows : R → Type 0) → IsFair c Occurs Allows
    → EachFound c Occurs (λ j d t. AllOffered c t)
all_offered c Occurs Allows fair = each_found c Occurs Allows fair (λ j d t. AllOffered c t) (λ j d f. f.holds.offered)

pub all_premised : {J R : Type 0} (c : Calculus J R) (Occurs : J → Type 0) (Allows : R → Type 0)
    → IsFair c Occurs Allows → EachFound c Occurs (λ j d t. AllHavePremises c t)
all_premised {J} {R} c Occurs Allows fair = each_found c Occurs Allows fair (λ j d t. AllHavePremises c t)
    (λ j d f i m at. (
    let w = whole c Occurs Allows j d f i m at in
    record { premises = w.row.done; has = w.has; made = λ k p is. (let l = w.row.each k p is in (l.q, l.made)) }))

pub all_apart : {J R : Type 0} (c : Calculus J R) (Occurs : J → Type 0) (Allows : R → Type 0) → IsFair c Occurs Allows
    → EachFound c Occurs (λ j d t. StandApart t)
all_apart {J} {R} c Occurs Allows fair = each_found c Occurs Allows fair (λ j d t. StandApart t)
    (λ j d f. stand_apart c Occurs Allows j f.holds.t f.holds.order)

-- each node made, with its node in the trace graph
pub all_made : {J R : Type 0} (c : Calculus J R) (Occurs : J → Type 0) (Allows : R → Type 0) → IsFair c Occurs Allows
    → EachFound c Occurs (λ j d t. AllMade c t)
all_made {J} {R} c Occurs Allows fair = each_found c Occurs Allows fair (λ j d t. AllMade c t)
    (λ j d f i m at. (
    let w = whole c Occurs Allows j d f i m at in
    record {
      edged = record {
        premises = w.row.done;
        has = w.has;
        node = record {
          positions = c.positions m.goal.premise.judgement;
          edges = link_edges (c.back w.row.before m.goal m.reason) ++ w.row.edges;
        };
        is_node = w.row.is_node;
        edges = row_edges c Occurs Allows fair j d f i m at w;
      };
      positions = refl;
    }))

pub all_edged : {J R : Type 0} (c : Calculus J R) (Occurs : J → Type 0) (Allows : R → Type 0) → IsFair c Occurs Allows
    → EachFound c Occurs (λ j d t. AllHaveEdges c t)
all_edged c Occurs Allows fair limit states most depth j d occurs h =
    let x = all_made c Occurs Allows fair limit states most depth j d occurs h in
    (x.0, x.1, λ i m at. (x.2 i m at).edged)

-- the trace graph has a node for each node made
pub all_sized : {J R : Type 0} (c : Calculus J R) (Occurs : J → Type 0) (Allows : R → Type 0) → IsFair c Occurs Allows
    → EachFound c Occurs (λ j d t. length t.graph ≡ length t.nodes)
all_sized c Occurs Allows fair = each_found c Occurs Allows fair (λ j d t. length t.graph ≡ length t.nodes)
    (λ j d f. f.holds.order.size)

pub all_graphs : {J R : Type 0} (c : Calculus J R) (Occurs : J → Type 0) (Allows : R → Type 0) → IsFair c Occurs Allows
    → EachFound c Occurs (λ j d t. IsGraph t.graph)
all_graphs c Occurs Allows fair = each_found c Occurs Allows fair (λ j d t. IsGraph t.graph)
    (λ j d f. graph_in_order c Occurs Allows fair j f.holds.t f.holds.order
    (some_node j f.holds.t (found_root c Occurs Allows j d f)))

pub all_progressing : {J R : Type 0} (c : Calculus J R) (Occurs : J → Type 0) (Allows : R → Type 0)
    → IsFair c Occurs Allows → EachFound c Occurs (λ j d t. AllProgress t.graph)
all_progressing c Occurs Allows fair = each_found c Occurs Allows fair (λ j d t. AllProgress t.graph)
    (λ j d f. f.holds.progress)

-- ---- sizes

-- what is so of each tableau that is found is so of this one
pub found_this : {J R : Type 0} (c : Calculus J R) (Occurs : J → Type 0) (P : J → List R → Tableau J R → Type 0)
    → EachFound c Occurs P → (limit states most depth : ℕ) (j : J) (d : List R) (t : Tableau J R) → Occurs j →
    search_of (system_of c limit states j) most depth ≡ IsFound d → replay c j d ≡ Some t → P j d t
found_this c Occurs P each limit states most depth j d t occurs h is =
    let x = each limit states most depth j d occurs h in
    let e : Some x.0 ≡ Some t = sym x.1 ∙ is in
    let e' : x.0 ≡ t = cc in subst (P j d) e' x.2

pub all_small : {J R : Type 0} (c : Calculus J R) (Occurs : J → Type 0) (Allows : R → Type 0) → IsFair c Occurs Allows
    → EachIsSmall c Occurs
all_small {J} {R} c Occurs Allows fair limit states most depth j d t occurs h is =
    let ends = found_ends (system_of c limit states j) most depth d h in
    let reasons = found_this c Occurs (λ j d t. reasons_of t ≡ d) (all_reasoned c Occurs Allows fair)
    limit states most depth j d t occurs h is in
    let graph = found_this c Occurs (λ j d t. IsGraph t.graph) (all_graphs c Occurs Allows fair)
    limit states most depth j d t occurs h is in
    let size : length d ≡ length t.nodes = ap length (sym reasons) ∙ length-map t.nodes (λ (m : Made J R). m.reason) in
    record {
      closed = nil_is t.goals (subst (λ x. is_done x ≡ true) is ends.complete);
      nodes = subst (λ n. n ≤ limit) size ends.short;
      states = few_states t.graph states graph (subst (λ x. on_graph (λ g. nat_lt states (number_of g)) x ≡ false)
          is ends.few);
    }
