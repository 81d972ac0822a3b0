-- Goals on a stack, the next one last.
use Rattle.std.proofs.Common.{◌≡◌, ℕ, suc, ◌+◌, ◌-◌, ◌<◌, ◌≤◌, inl, inr, Bool, true, false, ◌&&◌, ◌||◌, eqb-true, List}
use Rattle.std.proofs.Common.{[], ◌∷◌, ◌++◌, None, Some, length, length-append, slice_get, reverse, arith, refl, sym}
use Rattle.std.proofs.Common.{ap, subst, ◌∙◌}
use Rattle.std.specs.Prelude.{nat_eq, nat_lt, nat_le}
use Rattle.std.proofs.lemmas.List.{append_assoc, reverse-append, length-reverse}
use Rattle.std.proofs.lemmas.Bool.{cases_Bool, and_parts, leb-true, ltb-true, eq-eqb}
use Rattle.cyc_basics.proofs.Places.{get_end}
use Rattle.cyc_basics.proofs.Parts.{split_last}
use Rattle.derivations.specs.Tableau.{Subgoal, Goal, goals_of}
use Rattle.derivations.specs.Room.{is_nil, has_room}
use Rattle.derivations.specs.Goals.{begins_with, others_of}

-- the goal of a premise
abbrev pub goal_at : {J : Type 0} → ℕ → ℕ → ℕ → Subgoal J → Goal J
goal_at node depth k p = record { parent = node; place = k; depth = depth; premise = p }

opened_push : {J : Type 0} (node depth k n : ℕ) (ps : List (Subgoal J)) (p : Subgoal J) → n ≡ k + length ps
    → goals_of node depth k (ps ++ p ∷ []) ≡ goals_of node depth k ps ++ goal_at node depth n p ∷ []
opened_push node depth k n [] p e = let same : k ≡ n = omega (arith, e) in ap (λ i. goal_at node depth i p ∷ []) same
opened_push node depth k n (q ∷ ps) p e = ap (λ gs. goal_at node depth k q ∷ gs)
    (opened_push node depth (k + 1) n ps p (omega (arith, e)))

-- the last premise becomes the top of the stack
pub pushed_goal : {J : Type 0} (node depth k : ℕ) (old new : List (Subgoal J)) (p : Subgoal J)
    (goals more : List (Goal J)) → old ≡ new ++ p ∷ [] → k ≡ length new → more ≡ goals ++ goal_at node depth k p ∷ [] →
    goals_of node depth 0 new ++ reverse more ≡ goals_of node depth 0 old ++ reverse goals
pushed_goal node depth k old new p goals more e place pushed =
    ap (λ gs. goals_of node depth 0 new ++ reverse gs) pushed
    ∙ (ap (λ gs. goals_of node depth 0 new ++ gs) (reverse-append goals (goal_at node depth k p ∷ []))
    ∙ (sym (append_assoc (goals_of node depth 0 new) (goal_at node depth k p ∷ []) (reverse goals))
    ∙ ap (λ gs. gs ++ reverse goals) (sym (ap (goals_of node depth 0) e
    ∙ opened_push node depth 0 k new p (omega (arith, place))))))

-- one premise is popped from the others, so there was one
pub popped_fewer : {J : Type 0} (old new : List (Subgoal J)) (p : Subgoal J) → old ≡ new ++ p ∷ []
    → length old ≡ length new + 1
popped_fewer old new p e = ap length e ∙ length-append new (p ∷ [])

-- ---- the last of a list

pub record HasLast {X : Type 0} (xs : List X) (x : X) : Type 0 where
  pub rest : List X
  pub are : xs ≡ rest ++ x ∷ []

pub last_of : {X : Type 0} (xs : List X) (x : X) → Some x ≡ slice_get xs (length xs - 1) → HasLast xs x
last_of {X} xs x h =
    elim (split_last xs) [
      | inl none ↦ absurd (let e : Some x ≡ None = subst (λ (ys : List X). Some x ≡ slice_get ys (length ys - 1)) none h
          in cc)
      | inr some ↦
          (let n : length (some.0 ++ some.1 ∷ []) - 1
          ≡ length some.0 = omega (arith, length-append some.0 (some.1 ∷ [])) in
          let e : Some x ≡ Some some.1 =
          subst (λ (ys : List X). Some x ≡ slice_get ys (length ys - 1)) some.2 h
          ∙ (ap (slice_get (some.0 ++ some.1 ∷ [])) n ∙ get_end some.0 some.1) in
          let same : some.1 ≡ x = cc in
          record { rest = some.0; are = some.2 ∙ ap (λ (y : X). some.0 ++ y ∷ []) same })
    ]

-- the next goal is the last of the stack
pub next_of : {X : Type 0} (xs : List X) (x : X) (rest : List X) → xs ≡ rest ++ x ∷ [] → reverse xs ≡ x ∷ reverse rest
next_of xs x rest e = ap reverse e ∙ reverse-append rest (x ∷ [])

-- whether the next goal is a premise of the node
pub begins_last : {J : Type 0} (node : ℕ) (goals : List (Goal J)) (g : Goal J)
    → Some g ≡ slice_get goals (length goals - 1) → begins_with node (reverse goals) ≡ nat_eq g.parent node
begins_last node goals g h = let last = last_of goals g h in ap (begins_with node) (next_of goals g last.rest last.are)

-- ---- what the code sees of the top of the stack

-- the goal that is seen there is the next one
pub top_next : {X : Type 0} (goals xs : List X) (x : X) → xs ≡ goals → Some x ≡ slice_get xs (length xs - 1)
    → (rest : List X) × (reverse goals ≡ x ∷ rest)
top_next {X} goals xs x same h =
    let last = last_of goals x (subst (λ (ys : List X). Some x ≡ slice_get ys (length ys - 1)) same h) in
    (reverse last.rest, next_of goals x last.rest last.are)

pub no_top : {X : Type 0} (goals xs : List X) → xs ≡ goals → None ≡ slice_get xs (length xs - 1) → reverse goals ≡ []
no_top {X} goals xs same h =
    elim (split_last goals) [
      | inl none ↦ ap reverse none
      | inr some ↦
          absurd (
          let h' : None ≡ slice_get goals (length goals - 1) = subst
          (λ (ys : List X). None ≡ slice_get ys (length ys - 1)) same h in
          let n : length (some.0 ++ some.1 ∷ []) - 1 ≡ length some.0 = omega (arith, length-append some.0 (some.1 ∷ []))
          in
          let e : None ≡ Some some.1 = subst (λ (ys : List X). None ≡ slice_get ys (length ys - 1)) some.2 h'
          ∙ (ap (slice_get (some.0 ++ some.1 ∷ [])) n ∙ get_end some.0 some.1) in
          cc)
    ]

-- where the stack is not empty there is a next goal
pub some_next : {X : Type 0} (goals : List X) → 0 < length goals
    → (x : X) × (rest : List X) × (reverse goals ≡ x ∷ rest)
some_next goals some' =
    elim (split_last goals) [
      | inl none ↦ absurd (omega (arith, some', ap length none))
      | inr last ↦ (last.1, reverse last.0, next_of goals last.1 last.0 last.2)
    ]

-- ---- the goals that are no premises of the node

eq_self : (n : ℕ) → nat_eq n n ≡ true
eq_self n = eq-eqb n n refl

other_number : (m n : ℕ) → m < n → nat_eq m n ≡ false
other_number m n less =
    elim (cases_Bool (nat_eq m n)) [
      | inl same ↦ absurd (let e = eqb-true m n same in omega (arith, e, less))
      | inr not' ↦ not'
    ]

others_only : {J : Type 0} (node : ℕ) (rest : List (Goal J))
    → ((k : ℕ) (x : Goal J) → slice_get rest k ≡ Some x → x.parent < node) → others_of node rest ≡ rest
others_only node [] earlier = refl
others_only node (x ∷ rest) earlier = rw (other_number x.parent node (earlier 0 x refl)) refl

pub others_goals : {J : Type 0} (node depth k : ℕ) (ps : List (Subgoal J)) (rest : List (Goal J))
    → ((k : ℕ) (x : Goal J) → slice_get rest k ≡ Some x → x.parent < node)
    → others_of node (goals_of node depth k ps ++ rest) ≡ rest
others_goals node depth k [] rest earlier = others_only node rest earlier
others_goals node depth k (p ∷ ps) rest earlier = rw (eq_self node) (others_goals node depth (k + 1) ps rest earlier)

pub length-goals_of : {J : Type 0} (node depth k : ℕ) (ps : List (Subgoal J))
    → length (goals_of node depth k ps) ≡ length ps
length-goals_of node depth k [] = refl
length-goals_of node depth k (p ∷ ps) = ap suc (length-goals_of node depth (k + 1) ps)

-- ---- room for premises

nil_length : {X : Type 0} (xs : List X) (n : ℕ) → n ≡ length xs → is_nil xs ≡ nat_eq n 0
nil_length [] n e = ap (λ k. nat_eq k 0) (sym e)
nil_length {X} (x ∷ xs) n e =
    elim (cases_Bool (nat_eq n 0)) [
      | inl yes' ↦ absurd (let z = eqb-true n 0 yes' in omega (arith, z, e))
      | inr no' ↦ sym no'
    ]

-- no goal is open where the stack is empty
pub closed_is : {X : Type 0} (goals : List X) (n : ℕ) → n ≡ length goals → nat_eq n 0 ≡ is_nil (reverse goals)
closed_is goals n number = sym (nil_length (reverse goals) n (number ∙ sym (length-reverse goals)))

-- whether premises fit, by the numbers that the code has
pub room_is : {J : Type 0} (limit bound n : ℕ) (g : Goal J) (rest : List (Goal J)) (ps : List (Subgoal J))
    (depth made others count : ℕ) (b : Bool) → depth ≡ g.depth → made ≡ n → others ≡ length rest → count ≡ length ps →
    b ≡ ((nat_eq count 0 || nat_lt depth bound) && nat_le (made + 1 + (count + others)) limit)
    → has_room limit bound n g rest (Some ps) ≡ b
room_is limit bound n g rest ps depth made others count b is_depth is_made is_others is_count is_b =
    (λ i. (nil_length ps count is_count i || nat_lt (sym is_depth i) bound) && nat_le (sums i) limit) ∙ sym is_b
  where
    sums : n + 1 + (length ps + length rest) ≡ made + 1 + (count + others)
    sums = omega (arith, is_made, is_others, is_count)

-- what room tells of them
pub room_tells : {J : Type 0} (limit bound n : ℕ) (g : Goal J) (rest : List (Goal J)) (ps : List (Subgoal J))
    (depth made others count : ℕ) → bound < 4294967296 → depth ≡ g.depth → made ≡ n → others ≡ length rest
    → count ≡ length ps →
    ((nat_eq count 0 || nat_lt depth bound) && nat_le (made + 1 + (count + others)) limit) ≡ true
    → (n + 1 + (length ps + length rest) ≤ limit) × (0 < length ps → g.depth < 4294967295)
room_tells limit bound n g rest ps depth made others count small is_depth is_made is_others is_count fits = (room, deep)
  where
    parts : ((nat_eq count 0 || nat_lt depth bound) ≡ true) × (nat_le (made + 1 + (count + others)) limit ≡ true)
    parts = and_parts (nat_eq count 0 || nat_lt depth bound) (nat_le (made + 1 + (count + others)) limit) fits

    room : n + 1 + (length ps + length rest) ≤ limit
    room = let l = leb-true (made + 1 + (count + others)) limit parts.1 in
        omega (arith, l, is_made, is_others, is_count)

    deep : 0 < length ps → g.depth < 4294967295
    deep some' =
        elim (cases_Bool (nat_eq count 0)) [
          | inl zero' ↦ absurd (let z = eqb-true count 0 zero' in omega (arith, z, some', is_count))
          | inr more ↦
              (let h : (nat_eq count 0 || nat_lt depth bound) ≡ true = parts.0 in
              let h' : nat_lt depth bound ≡ true = (rw more at h) in
              let l = ltb-true depth bound h' in omega (arith, l, small, is_depth))
        ]
