-- The open goals of one node; and look-ups in lists with a member more.
use Rattle.std.proofs.Common.{◌≡◌, ◌≢◌, ℕ, zero, suc, ◌+◌, inl, inr, false, List, [], ◌∷◌, ◌++◌, Some, None, slice_get}
use Rattle.std.proofs.Common.{length, filter, nat_eq, sym, refl, ap, ◌∙◌, eqb-true, eq-eqb}
use Rattle.std.proofs.lemmas.Bool.{cases_Bool}
use Rattle.derivations.specs.Tableau.{Subgoal, Goal, goals_of}
pub use Rattle.trace_pairs.proofs.Grow.{get_push_cases as get_end_cases}
use Rattle.cyc_basics.proofs.Places.{get_end}

pub get_end_at : {X : Type 0} (xs : List X) (x : X) (i : ℕ) → i ≡ length xs → slice_get (xs ++ (x ∷ [])) i ≡ Some x
get_end_at xs x i e = ap (slice_get (xs ++ (x ∷ []))) e ∙ get_end xs x

-- the goals of node i
abbrev pub waiting : {J : Type 0} → ℕ → List (Goal J) → List (Goal J)
waiting {J} i goals = filter (λ (g : Goal J). nat_eq g.parent i) goals

not_equal : (a b : ℕ) → a ≢ b → nat_eq a b ≡ false
not_equal a b ne = elim (cases_Bool (nat_eq a b)) [ inl yes' ↦ absurd (ne (eqb-true a b yes')) | inr no' ↦ no' ]

pub waiting_here : {J : Type 0} (i : ℕ) (g : Goal J) (rest : List (Goal J)) → g.parent ≡ i
    → waiting i (g ∷ rest) ≡ g ∷ waiting i rest
waiting_here i g rest e = rw (eq-eqb g.parent i e) refl

pub waiting_not : {J : Type 0} (i : ℕ) (g : Goal J) (rest : List (Goal J)) → g.parent ≢ i
    → waiting i (g ∷ rest) ≡ waiting i rest
waiting_not i g rest ne = rw (not_equal g.parent i ne) refl

pub waiting_none : {J : Type 0} (i : ℕ) (goals : List (Goal J))
    → ((k : ℕ) (g : Goal J) → slice_get goals k ≡ Some g → g.parent ≢ i) → waiting i goals ≡ []
waiting_none i [] h = refl
waiting_none i (g ∷ rest) h = waiting_not i g rest (h 0 g refl) ∙ waiting_none i rest (λ k x at. h (suc k) x at)

-- a new node's goals are its own, and no other node's
pub waiting_own : {J : Type 0} (v depth k : ℕ) (ps : List (Subgoal J)) (rest : List (Goal J)) → waiting v rest ≡ []
    → waiting v (goals_of v depth k ps ++ rest) ≡ goals_of v depth k ps
waiting_own v depth k [] rest none = none
waiting_own {J} v depth k (p ∷ ps) rest none =
    waiting_here v (record { parent = v; place = k; depth = depth; premise = p }) (goals_of v depth (k + 1) ps ++ rest)
    refl
    ∙ ap (λ (gs : List (Goal J)). record { parent = v; place = k; depth = depth; premise = p } ∷ gs)
    (waiting_own v depth (k + 1) ps rest none)

pub waiting_other : {J : Type 0} (i v depth k : ℕ) (ps : List (Subgoal J)) (rest : List (Goal J)) → v ≢ i
    → waiting i (goals_of v depth k ps ++ rest) ≡ waiting i rest
waiting_other i v depth k [] rest ne = refl
waiting_other i v depth k (p ∷ ps) rest ne =
    waiting_not i (record { parent = v; place = k; depth = depth; premise = p }) (goals_of v depth (k + 1) ps ++ rest)
    ne ∙ waiting_other i v depth (k + 1) ps rest ne

-- a goal of a new node stands at one of its premises
pub record GoalOf {J : Type 0} (v : ℕ) (ps : List (Subgoal J)) (g : Goal J) : Type 0 where
  pub i : ℕ
  pub p : Subgoal J
  pub is_p : slice_get ps i ≡ Some p
  pub parent : g.parent ≡ v
  pub premise : g.premise ≡ p

pub goal_of : {J : Type 0} (v depth k : ℕ) (ps : List (Subgoal J)) (i : ℕ) (g : Goal J)
    → slice_get (goals_of v depth k ps) i ≡ Some g → GoalOf v ps g
goal_of v depth k [] i g h = absurd (let e : None ≡ Some g = h in cc)
goal_of {J} v depth k (p ∷ ps) zero g h =
    let e : Some (record { parent = v; place = k; depth = depth; premise = p }) ≡ Some g = h in
    let e' : record { parent = v; place = k; depth = depth; premise = p } ≡ g = cc in
    record {
      i = 0;
      p = p;
      is_p = refl;
      parent = sym (ap (λ (x : Goal J). x.parent) e');
      premise = sym (ap (λ (x : Goal J). x.premise) e');
    }
goal_of v depth k (p ∷ ps) (suc i) g h =
    let r = goal_of v depth (k + 1) ps i g h in
    record { i = suc r.i; p = r.p; is_p = r.is_p; parent = r.parent; premise = r.premise }

-- what waits for a node with premises left is the first of them, and then the others
pub record FirstWaits {J : Type 0} (v depth k : ℕ) (left : List (Subgoal J)) (g : Goal J) (more : List (Goal J))
    : Type 0 where
  pub p : Subgoal J
  pub ps : List (Subgoal J)
  pub are : left ≡ p ∷ ps
  pub goal : g ≡ record { parent = v; place = k; depth = depth; premise = p }
  pub more_wait : more ≡ goals_of v depth (k + 1) ps

pub first_waits : {J : Type 0} (v depth k : ℕ) (left : List (Subgoal J)) (g : Goal J) (more : List (Goal J))
    → g ∷ more ≡ goals_of v depth k left → FirstWaits v depth k left g more
first_waits v depth k [] g more h = absurd (let e : g ∷ more ≡ [] = h in cc)
first_waits {J} v depth k (p ∷ ps) g more h =
    let e : g ∷ more ≡ record { parent = v; place = k; depth = depth; premise = p } ∷ goals_of v depth (k + 1) ps = h in
    record { p = p; ps = ps; are = refl; goal = cc; more_wait = cc }

-- nothing waits where nothing is left
pub none_left : {J : Type 0} (v depth k : ℕ) (left : List (Subgoal J)) → [] ≡ goals_of v depth k left → left ≡ []
none_left v depth k [] h = refl
none_left {J} v depth k (p ∷ ps) h = absurd (let e : [] ≡ record { parent = v; place = k; depth = depth; premise = p }
    ∷ goals_of v depth (k + 1) ps = h in cc)
