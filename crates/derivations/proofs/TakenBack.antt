-- The tableau before its last reason; and lists without their last member.
use Rattle.std.proofs.Common.{◌≡◌, ℕ, ◌+◌, ◌<◌, ◌≤◌, List, [], ◌∷◌, ◌++◌, map, reverse, Option, Some, None, slice_get}
use Rattle.std.proofs.Common.{length, length-append, arith, refl, sym, ap, subst, ◌∙◌}
use Rattle.std.proofs.lemmas.List.{map-append, reverse-append}
use Rattle.std.proofs.lemmas.List.Sums.{fold-append}
use Rattle.cyc_basics.proofs.Places.{get_append_left}
use Rattle.derivations.specs.Stack.{front}
use Rattle.derivations.proofs.Members.{front-after}
use Rattle.derivations.specs.Tableau.{Subgoal, Goal, Made, Tableau, Calculus, goals_of, step, at_next, with_premises}
use Rattle.derivations.specs.Tableau.{replay, begin}
use Rattle.derivations.specs.Fair.{IsFair}
use Rattle.derivations.specs.Goals.{others_of}
use Rattle.derivations.proofs.Graphs.{InOrder}
use Rattle.derivations.proofs.Replays.{replayed_from}
use Rattle.derivations.proofs.Stack.{others_goals}
use Rattle.derivations.proofs.TableauSteps.{next_tableau, begins, parent_made}

pub record WasAt {J R : Type 0} (c : Calculus J R) (p : Option (Tableau J R)) (r : R) (t : Tableau J R) : Type 0 where
  pub before : Tableau J R
  pub is : p ≡ Some before
  pub g : Goal J
  pub rest : List (Goal J)
  pub ps : List (Subgoal J)
  pub goals : before.goals ≡ g ∷ rest
  pub has : c.premises before.nodes g r ≡ Some ps
  pub made : next_tableau c before.nodes before.graph g rest ps r ≡ t

was_with : {J R : Type 0} (c : Calculus J R) (b : Tableau J R) (r : R) (g : Goal J) (rest : List (Goal J))
    (o : Option (List (Subgoal J))) (t : Tableau J R) → b.goals ≡ g ∷ rest → c.premises b.nodes g r ≡ o
    → with_premises c b.nodes b.graph r g rest o ≡ Some t → WasAt c (Some b) r t
was_with c b r g rest None t gs has h = absurd (let e : None ≡ Some t = h in cc)
was_with c b r g rest (Some ps) t gs has h =
    let e : Some (next_tableau c b.nodes b.graph g rest ps r) ≡ Some t = h in
    record {
      before = b;
      is = refl;
      g = g;
      rest = rest;
      ps = ps;
      goals = gs;
      has = has;
      made = (let e' : next_tableau c b.nodes b.graph g rest ps r ≡ t = cc in e');
    }

was_next : {J R : Type 0} (c : Calculus J R) (b : Tableau J R) (r : R) (goals : List (Goal J)) (t : Tableau J R)
    → b.goals ≡ goals → at_next c b.nodes b.graph r goals ≡ Some t → WasAt c (Some b) r t
was_next c b r [] t gs h = absurd (let e : None ≡ Some t = h in cc)
was_next c b r (g ∷ rest) t gs h = was_with c b r g rest (c.premises b.nodes g r) t gs refl h

pub was_at : {J R : Type 0} (c : Calculus J R) (p : Option (Tableau J R)) (r : R) (t : Tableau J R)
    → step c p r ≡ Some t → WasAt c p r t
was_at c None r t h = absurd (let e : None ≡ Some t = h in cc)
was_at c (Some b) r t h = was_next c b r b.goals t refl h

-- ---- lists with a last member

pub snoc_left : {X : Type 0} (xs ys : List X) (x y : X) → xs ++ x ∷ [] ≡ ys ++ y ∷ [] → xs ≡ ys
snoc_left xs ys x y h = sym (front-after xs x) ∙ (ap front h ∙ front-after ys y)

pub snoc_right : {X : Type 0} (xs ys : List X) (x y : X) → xs ++ x ∷ [] ≡ ys ++ y ∷ [] → x ≡ y
snoc_right xs ys x y h =
    let l : x ∷ reverse xs ≡ y ∷ reverse ys = sym (reverse-append xs (x ∷ []))
    ∙ (ap reverse h ∙ reverse-append ys (y ∷ [])) in
    cc

-- the reasons without the last
pub reasons_front : {J R : Type 0} (old new : List (Made J R)) (m : Made J R) → old ≡ new ++ m ∷ []
    → map (λ (n : Made J R). n.reason) new ≡ front (map (λ (n : Made J R). n.reason) old)
reasons_front {J} {R} old new m e =
    sym (front-after (map (λ (n : Made J R). n.reason) new) m.reason)
    ∙ ap front (sym (ap (map (λ (n : Made J R). n.reason)) e ∙ map-append (λ (n : Made J R). n.reason) new (m ∷ [])))

-- ---- nodes without the last

-- before node m was made: the nodes before it, its goal, and the goals that are no premises of it
pub record Before {J R : Type 0} (c : Calculus J R) (Occurs : J → Type 0) (Allows : R → Type 0) (j : J)
    (nodes : List (Made J R)) (m : Made J R) (t : Tableau J R) : Type 0 where
  pub was : WasAt c (replay c j (map (λ (n : Made J R). n.reason) nodes)) m.reason t
  pub allowed : (k : ℕ) (r : R) → slice_get (map (λ (n : Made J R). n.reason) nodes) k ≡ Some r → Allows r
  pub in_order : InOrder c Occurs Allows j was.before
  pub same_nodes : was.before.nodes ≡ nodes
  pub same_goal : was.g ≡ m.goal
  pub others : others_of (length nodes) t.goals ≡ was.rest
  pub fewer : length was.rest ≤ length t.goals

module _ {J R : Type 0} (c : Calculus J R) (Occurs : J → Type 0) (Allows : R → Type 0) (fair : IsFair c Occurs Allows)
    (j : J) (occurs : Occurs j) (nodes : List (Made J R)) (m : Made J R) (t : Tableau J R)
    (are : t.nodes ≡ nodes ++ m ∷ []) (allowed : (k : ℕ) (r : R)
    → slice_get (map (λ (n : Made J R). n.reason) t.nodes) k ≡ Some r → Allows r)
    (replayed : replay c j (map (λ (n : Made J R). n.reason) t.nodes) ≡ Some t) where
  abbrev reasons : List R
  reasons = map (λ (n : Made J R). n.reason) nodes

  reasons_were : map (λ (n : Made J R). n.reason) t.nodes ≡ reasons ++ m.reason ∷ []
  reasons_were = ap (map (λ (n : Made J R). n.reason)) are ∙ map-append (λ (n : Made J R). n.reason) nodes (m ∷ [])

  stepped : step c (replay c j reasons) m.reason ≡ Some t
  stepped = sym (fold-append (step c) (Some (begin j)) reasons (m.reason ∷ []))
      ∙ (ap (replay c j) (sym reasons_were) ∙ replayed)

  was : WasAt c (replay c j reasons) m.reason t
  was = was_at c (replay c j reasons) m.reason t stepped

  nodes_then : was.before.nodes ++ record { goal = was.g; reason = m.reason } ∷ [] ≡ nodes ++ m ∷ []
  nodes_then = ap (λ (b : Tableau J R). b.nodes) was.made ∙ are

  same_nodes : was.before.nodes ≡ nodes
  same_nodes = snoc_left was.before.nodes nodes (record { goal = was.g; reason = m.reason }) m nodes_then

  all_allowed : (k : ℕ) (r : R) → slice_get reasons k ≡ Some r → Allows r
  all_allowed k r at = allowed k r (subst (λ (ds : List R). slice_get ds k ≡ Some r) (sym reasons_were)
      (get_append_left reasons (m.reason ∷ []) k r at))

  was_in_order : InOrder c Occurs Allows j was.before
  was_in_order = replayed_from c Occurs Allows fair j reasons (begin j) was.before (begins c Occurs Allows j occurs)
      all_allowed was.is

  earlier : (k : ℕ) (y : Goal J) → slice_get was.rest k ≡ Some y → y.parent < length was.before.nodes
  earlier k y at =
      parent_made was.before.nodes was.before.graph was.g was.rest
      (subst (λ gs. InOrder c Occurs Allows j (record {
        nodes = was.before.nodes;
        goals = gs;
        graph = was.before.graph;
      })) was.goals was_in_order)
      k y at

  goals_then : t.goals ≡ goals_of (length was.before.nodes) (was.g.depth + 1) 0 was.ps ++ was.rest
  goals_then = ap (λ (b : Tableau J R). b.goals) (sym was.made)

  pub taken_back : Before c Occurs Allows j nodes m t
  taken_back = record {
    was = was;
    allowed = all_allowed;
    in_order = was_in_order;
    same_nodes = same_nodes;
    same_goal = ap (λ (n : Made J R). n.goal) (snoc_right was.before.nodes nodes
        (record { goal = was.g; reason = m.reason }) m nodes_then);
    others = (λ i. others_of (length (sym same_nodes i)) (goals_then i))
        ∙ others_goals (length was.before.nodes) (was.g.depth + 1) 0 was.ps was.rest earlier;
    fewer = omega (
      arith,
      ap length goals_then,
      length-append
          (goals_of (length was.before.nodes) (was.g.depth + 1) 0 was.ps) was.rest,
    );
  }
