-- Turns of cases.
use Rattle.std.proofs.Common.{◌≡◌, ◌↔◌, ℕ, zero, suc, ◌+◌, ◌≤◌, ◌<◌, List, [], ◌∷◌, ◌++◌, take, length, map, arith}
use Rattle.std.proofs.Common.{sym, refl, ap, ◌∙◌, ◌⊎◌, ◌-◌, drop, get_or, subst, inl, inr}
use Rattle.std.specs.Prelude.{slice_index_or, slice_set}
use Rattle.std.proofs.lemmas.List.{length-append, length-map, map-append, take-append-drop, take-append-le}
use Rattle.std.proofs.lemmas.List.{take_more_set, take_rest}
use Rattle.heap_formula.specs.declared.atoms.Pure.{Pure}
use Rattle.heap_formula.specs.declared.atoms.Spatial.{Spatial}
use Rattle.heap_formula.specs.Definitions.{Definition}
use Rattle.heap_formula.specs.Meaning.{cases_of}
use Rattle.heap_formula.specs.Symbolic.{SymbolicHeap}
use Rattle.heap_formula.specs.Words.{Each, OneOf}
use Rattle.pair_family.specs.BasePairs.{BasePair}
use Rattle.pair_family.specs.Combination.{pure_facts}
use Rattle.pair_family.specs.Family.{CaseGives, arity_of}
use Rattle.pair_family.specs.Frames.{kept_terms, frames_of}
use Rattle.pair_family.specs.JoinOrder.{join_order}
use Rattle.pair_family.specs.Labels.{Extends}
use Rattle.pair_family.specs.LargeCases.{HasMore, IsLarge, sizes}
use Rattle.pair_family.specs.Reordering.{Reorders, families_of}
use Rattle.pair_family.specs.States.{AreStates, IsReached}
use Rattle.pair_family.specs.Tables.{Table, in_table, pairs_of}
use Rattle.pair_family.specs.Within.{IsWithin}
use Rattle.cyc_basics.specs.Words.{IsMember}
use Rattle.heap_formula.proofs.AllMembers.{each_imply, each_last, each_set}
use Rattle.pair_family.proofs.Large.{large_within}
use Rattle.pair_family.proofs.Rounds.{gives_within}
use Rattle.pair_family.proofs.Lists.{each_at, in_append, in_left, in_right, map_in}
use Rattle.pair_family.proofs.Reordered.{reordered_give}
use Rattle.pair_family.proofs.StatesFacts.{one_out, states_folded}
use Rattle.sat_pairs.specs.declared.stages.Stage.{Stage}
use Rattle.sat_pairs.specs.declared.turns.Turn.{Turn}
use Rattle.sat_pairs.specs.CaseStates.{PassesFrom, Passes}
use Rattle.sat_pairs.specs.Growth.{HasAllGiven, HasPairs, IsGrown}
use Rattle.sat_pairs.specs.Numbers.{cell_pair_alone}
use Rattle.sat_pairs.specs.Atoms.{AtomsGive, HasSome, atom_pairs, lists_of}
use Rattle.sat_pairs.specs.Stages.{AreFresh, AreStages, IsFull, atoms_of, outcome}
use Rattle.sat_pairs.specs.Turns.{AreOrdered, HasTurns, IsDone, IsFirst, IsTurn, IsTurnOf, case_at, case_of, found_by}
use Rattle.sat_pairs.specs.Turns.{heap_of, width_of}
use Rattle.sat_pairs.proofs.Advanced.{fresh_atoms, fresh_stages, stages_few, stages_grown, stages_states}
use Rattle.sat_pairs.proofs.Joins.{reordered_each}
use Rattle.sat_pairs.proofs.LargeAtoms.{large_passes, none_given, none_large, passes_large}
use Rattle.sat_pairs.proofs.AtomLists.{atoms_give}
use Rattle.sat_pairs.proofs.Reached.{passes_first}
use Rattle.sat_pairs.proofs.Staged.{take_whole}
use Rattle.sat_pairs.proofs.Taken.{at_member, below_or}
use Rattle.sat_pairs.proofs.Steps.{case_none, case_states, said_within}

-- ---- lists

put_in : {X : Type 0} (P : X → Type 0) (us vs : List X) (x : X) → P x → Each P (us ++ vs) → Each P (us ++ (x ∷ vs))
put_in P [] vs x p a = (p, a)
put_in P (u ∷ us) vs x p a = (a.0, put_in P us vs x p a.1)

each_reordered : {X : Type 0} (P : X → Type 0) (xs ys : List X) → Reorders xs ys → Each P xs → Each P ys
each_reordered P [] ys r a = subst (Each P) (sym r) tt
each_reordered P (x ∷ xs) ys r a =
    let t = r.1 in
    let rest = subst (Each P) t.3 (each_reordered P xs r.0 r.2 a.1) in
    subst (Each P) (sym t.2) (put_in P t.0 t.1 x a.0 rest)

pub each_get : {X : Type 0} (P : X → Type 0) (xs : List X) (i : ℕ) (x : X) → Each P xs → i < length xs
    → get_or xs i x ≡ x → P x
each_get P xs i x e l g = each_at P xs x e (at_member xs i x l g)

member_at : {X : Type 0} (xs : List X) (x d : X) → IsMember x xs
    → (i : ℕ) × (i < length xs) × (slice_index_or xs i d ≡ x)
member_at [] x d m = absurd m
member_at (y ∷ xs) x d (inl s) = (0, omega arith, s)
member_at (y ∷ xs) x d (inr m) = let r = member_at xs x d m in let l = r.1 in (suc r.0, omega arith, r.2)

-- ---- a case before its first turn

pub new_turn : (k most : ℕ) (a : SymbolicHeap) (table : Table) (cell : List BasePair) (ordered : List Spatial)
    (t : Turn) → Reorders ordered a.spatial → ordered ≡ join_order k a.spatial
    → IsFirst k ordered a.pure t.first.items → AreFresh most k ordered t.stages.items → t.begun ≡ 0 → t.put ≡ 0
    → IsTurnOf k a most table cell t
new_turn k most a table cell ordered t all order first fresh begun put =
    let same = fresh_atoms most k ordered t.stages.items fresh in
    record {
      ordered = subst (AreOrdered k a.spatial) (sym same) (record { all = all; order = order });
      first = subst (λ z. IsFirst k z a.pure t.first.items) (sym same) first;
      begun = omega arith;
      stages = subst (λ n. AreStages most table cell k t.first.items n t.stages.items) (sym begun)
          (fresh_stages most k table cell t.first.items ordered t.stages.items fresh);
      put = omega arith;
      given = λ b m. absurd (subst (λ n. IsMember b (take n (found_by t))) put m);
    }

-- ---- a case with all base pairs taken in

first_within : (k : ℕ) (xs : List Spatial) (ps : List Pure) (first : List BasePair) → IsFirst k xs ps first
    → Each (IsWithin (suc (length (kept_terms k xs)))) first
first_within k xs ps [] is = tt
first_within k xs ps (s ∷ ss) is = (
  said_within (kept_terms k xs) (pure_facts ps) s is.1,
  subst (Each (IsWithin (suc (length (kept_terms k xs))))) (sym is.2) tt,
)

module _ (k : ℕ) (a : SymbolicHeap) (table : Table) (cell : List BasePair) (xs : List Spatial)
    (ordered : AreOrdered k a.spatial xs) where
  abbrev lists : List (List BasePair)
  lists = lists_of table cell xs

  atoms_case : (d : BasePair) → AtomsGive table cell k a.pure d xs ↔ CaseGives (in_table table) k d a
  atoms_case d =
      let same = reordered_give (atom_pairs table cell) k a.pure d xs a.spatial ordered.all in
      let give = atoms_give table cell k a.pure d a.spatial in
      (λ g. give.0 (same.0 g), λ c. same.1 (give.1 c))

  pub given_out : (first out : List BasePair) → IsFirst k xs a.pure first
      → AreStates (families_of lists) (frames_of k xs) first xs out → (d : BasePair) → IsMember d out
      ↔ CaseGives (in_table table) k d a
  given_out [] out is are d = (
    λ m. absurd ((states_folded (families_of lists) (frames_of k xs) [] xs out are d m).1),
    λ c. absurd (case_none lists k (record { pure = a.pure; spatial = xs }) is d ((atoms_case d).1 c)),
  )
  given_out (s ∷ ss) out is are d =
      let are' = subst (λ z. AreStates (families_of lists) (frames_of k xs) (s ∷ z) xs out) is.2 are in
      let g = case_states lists k (record { pure = a.pure; spatial = xs }) s out (is.0, is.1) are' d in
      (λ m. (atoms_case d).0 (g.0 m), λ c. g.1 ((atoms_case d).1 c))

  module _ (most : ℕ) where
    pub small_case : (first : List BasePair) → IsFirst k xs a.pure first
        → ¬ PassesFrom most (families_of lists) (frames_of k xs) first xs
        → ¬ IsLarge most (in_table table) k a
    small_case first is n l = by first is n (large_passes table cell k most a xs ordered.order l)
      where
        by : (first : List BasePair) → IsFirst k xs a.pure first
            → ¬ PassesFrom most (families_of lists) (frames_of k xs) first xs
            → Passes most (families_of lists) k a.pure xs → ⊥
        by [] is n p = is p.0
        by (s ∷ ss) is n p = n (subst (λ z. PassesFrom most (families_of lists) (frames_of k xs) z xs)
            (λ i. sym is.1 i ∷ sym is.2 i) p.1)

    some_here : HasSome table cell xs → HasSome table cell a.spatial
    some_here h = each_reordered (λ x. 0 < length (atom_pairs table cell x)) xs a.spatial ordered.all h

    pub large_case : (first : List BasePair) → IsFirst k xs a.pure first → HasSome table cell xs
        → PassesFrom most (families_of lists) (frames_of k xs) first xs → IsLarge most (in_table table) k a
    large_case [] is some p = absurd (no_states p.0 p.1)
      where
        no_states : (n : ℕ) → HasMore most (IsReached (families_of lists) (frames_of k xs) [] (take n xs)) → ⊥
        no_states n h = by h.list h.are h.more
          where
            by : (list : List BasePair)
                → Each (IsReached (families_of lists) (frames_of k xs) [] (take n xs)) list
                → most < sizes list → ⊥
            by [] e l = let z : sizes [] ≡ 0 = refl in absurd (omega arith)
            by (d ∷ list) e l = e.0.1
    large_case (s ∷ ss) is some p =
        passes_large table cell k most a xs ordered.order (some_here some) (
          is.0,
          subst (λ z. PassesFrom most (families_of lists) (frames_of k xs) z xs) (λ i. is.1 i ∷ is.2 i) p,
        )

    pub large_first : (first : List BasePair) → IsFirst k xs a.pure first → most < sizes first
        → PassesFrom most (families_of lists) (frames_of k xs) first xs
    large_first [] is l = let z : sizes [] ≡ 0 = refl in absurd (omega arith)
    large_first (s ∷ ss) is l = subst (λ z. PassesFrom most (families_of lists) (frames_of k xs) (s ∷ z) xs)
        (sym is.2) (passes_first most (families_of lists) (frames_of k xs) s xs (record {
          list = s ∷ [];
          distinct = ((λ m. m), tt);
          are = (refl, tt);
          more = subst (λ z. most < sizes (s ∷ z)) is.2 l;
        }))

    -- no base pair for some atom
    pub none_there : cell ≡ cell_pair_alone → ¬ HasSome table cell xs → ¬ IsLarge most (in_table table) k a
    none_there cells none = none_large table cell k a cells
        (λ h. none (reordered_each (λ x. 0 < length (atom_pairs table cell x)) xs a.spatial ordered.all h)) most

  pub none_out : cell ≡ cell_pair_alone → ¬ HasSome table cell xs → (d : BasePair) → CaseGives (in_table table) k d a
      → ⊥
  none_out cells none d c = (none_given table cell k a cells
      (λ h. none (reordered_each (λ x. 0 < length (atom_pairs table cell x)) xs a.spatial ordered.all h)) [] refl
      d).1 c

-- ---- turns

pub turn_grown : (ds : List Definition) (most : ℕ) (A B : Table) (cell : List BasePair) (t : Turn) → IsGrown A B
    → IsTurn ds most A cell t → IsTurn ds most B cell t
turn_grown ds most A B cell t g is = record {
  pred = is.pred;
  place = is.place;
  is = record {
    ordered = is.is.ordered;
    first = is.is.first;
    begun = is.is.begun;
    stages = stages_grown most (width_of ds t) A B cell t.first.items t.begun t.stages.items g is.is.stages;
    put = is.is.put;
    given = λ b m. g.within t.pred b (is.is.given b m);
  };
}

pub done_grown : (ds : List Definition) (states : ℕ) (A B C : Table) (t : Turn) → IsGrown B C → IsDone ds states A B t
    → IsDone ds states A C t
done_grown ds states A B C t g is = record {
  given = λ b c. g.within t.pred b (is.given b c);
  small = is.small;
}

-- ---- all cases

module _ (ds : List Definition) (states : ℕ) (old new : Table) (turns : List Turn)
    (all : (p : ℕ) → p < length ds → HasTurns ds p turns) (done : Each (IsDone ds states old new) turns) where
  turn_at : (p i : ℕ) → p < length ds → i < length (cases_of ds p)
      → (t : Turn) × IsDone ds states old new t × (case_of t ≡ (p, i))
  turn_at p i l m =
      let r = map_in case_of (p, i) turns (all p l i m) in
      (r.0, each_at (IsDone ds states old new) turns r.0 done r.1, r.2)

  pub all_given : (p : ℕ) → p < length ds → HasAllGiven old new p (arity_of ds p) (cases_of ds p)
  all_given p l b o =
      let r = one_out (CaseGives (in_table old) (arity_of ds p) b) (cases_of ds p) o in
      let at = member_at (cases_of ds p) r.0 (record { pure = []; spatial = [] }) r.1 in
      let t = turn_at p at.0 l at.1 in
      let P = λ (c : ℕ × ℕ). (d : BasePair) → CaseGives (in_table old) (arity_of ds c.0) d (case_at ds c.0 c.1)
      → IsMember d (pairs_of new c.0) in
      subst P t.2 t.1.given b (subst (CaseGives (in_table old) (arity_of ds p) b) (sym at.2) r.2)

  pub all_small : (p : ℕ) → p < length ds → ¬ OneOf (IsLarge states (in_table old) (arity_of ds p)) (cases_of ds p)
  all_small p l o =
      let r = one_out (IsLarge states (in_table old) (arity_of ds p)) (cases_of ds p) o in
      let at = member_at (cases_of ds p) r.0 (record { pure = []; spatial = [] }) r.1 in
      let t = turn_at p at.0 l at.1 in
      let P = λ (c : ℕ × ℕ). IsLarge states (in_table old) (arity_of ds c.0) (case_at ds c.0 c.1) → ⊥ in
      subst P t.2 t.1.small (subst (IsLarge states (in_table old) (arity_of ds p)) (sym at.2) r.2)

-- ---- a turn's base pairs are put into the table

pub index_member : {X : Type 0} (xs : List X) (i : ℕ) (d : X) → i < length xs → IsMember (slice_index_or xs i d) xs
index_member [] i d l = absurd (omega arith)
index_member (x ∷ xs) zero d l = inl refl
index_member (x ∷ xs) (suc i) d l = inr (index_member xs i d (omega arith))

-- some first entries, and the rest
pub rest_or : {X : Type 0} (xs : List X) (n : ℕ) (x : X) → IsMember x xs
    → IsMember x (take n xs) ⊎ IsMember x (take (length xs - n) (drop n xs))
rest_or xs n x m =
    elim (in_append x (take n xs) (drop n xs) (subst (IsMember x) (sym (take-append-drop n xs)) m))
    [ inl a ↦ inl a | inr b ↦ inr (subst (IsMember x) (sym (take_rest xs n)) b) ]

pub rest_in : {X : Type 0} (xs : List X) (n : ℕ) (x : X) → IsMember x (take (length xs - n) (drop n xs))
    → IsMember x xs
rest_in xs n x m = subst (IsMember x) (take-append-drop n xs)
    (in_right x (take n xs) (drop n xs) (subst (IsMember x) (take_rest xs n) m))

abbrev pub with_put : Turn → Turn
with_put t = record t { put = length (found_by t) }

pub turn_put : (ds : List Definition) (most : ℕ) (A B : Table) (cell : List BasePair) (t : Turn) → IsGrown A B
    → HasPairs B t.pred (found_by t) → IsTurn ds most A cell t → IsTurn ds most B cell (with_put t)
turn_put ds most A B cell t g has is =
    let j = turn_grown ds most A B cell t g is in
    record {
      pred = j.pred;
      place = j.place;
      is = record {
        ordered = j.is.ordered;
        first = j.is.first;
        begun = j.is.begun;
        stages = j.is.stages;
        put = omega arith;
        given = λ b m. has b (subst (IsMember b) (take_whole (found_by t)) m);
      };
    }

-- the turn after it has taken in all is of the case that it was of
pub same_heap : (ds : List Definition) (s t : Turn) → t.pred ≡ s.pred → t.place ≡ s.place → heap_of ds t ≡ heap_of ds s
same_heap ds s t e f = λ i. case_at ds (e i) (f i)

pub done_put : (ds : List Definition) (states : ℕ) (A B : Table) (s t : Turn) → t.pred ≡ s.pred → t.place ≡ s.place
    → HasPairs B t.pred (found_by t) → ((b : BasePair) → IsMember b (found_by t)
    ↔ CaseGives (in_table A) (width_of ds s) b (heap_of ds s)) → ¬ IsLarge states (in_table A) (width_of ds s)
    (heap_of ds s) → IsDone ds states A B (with_put t)
done_put ds states A B s t e f has found small = record {
  given = λ b c. has b ((found b).1 (subst (λ z. CaseGives (in_table A) z b (heap_of ds s)) (ap (arity_of ds) e)
      (subst (CaseGives (in_table A) (width_of ds t) b) (same_heap ds s t e f) c)));
  small = λ l. small (subst (λ z. IsLarge states (in_table A) z (heap_of ds s)) (ap (arity_of ds) e)
      (subst (IsLarge states (in_table A) (width_of ds t)) (same_heap ds s t e f) l));
}

-- a case with an atom that has no base pair
pub done_none : (ds : List Definition) (states : ℕ) (T : Table) (cell : List BasePair) (t : Turn)
    → cell ≡ cell_pair_alone → IsTurn ds states T cell t → ¬ HasSome T cell (atoms_of t.stages.items)
    → IsDone ds states T T t
done_none ds states T cell t cells is none = record {
  given = λ b c. absurd (none_out (width_of ds t) (heap_of ds t) T cell (atoms_of t.stages.items) is.is.ordered cells
      none b c);
  small = none_there (width_of ds t) (heap_of ds t) T cell (atoms_of t.stages.items) is.is.ordered states cells none;
}

-- ---- all base pairs are taken in

module _ (ds : List Definition) (most : ℕ) (T : Table) (cell : List BasePair) (t : Turn)
    (cells : cell ≡ cell_pair_alone)
    (is : IsTurn ds most T cell t) where
  abbrev k : ℕ
  k = width_of ds t

  abbrev first : List BasePair
  first = t.first.items

  abbrev xs : List Spatial
  xs = atoms_of t.stages.items

  pub turn_within : Each (IsWithin (suc (length (kept_terms k xs)))) first
  turn_within = first_within k xs (heap_of ds t).pure first is.is.first

  module _ (ss : List Stage) (same : atoms_of ss ≡ xs) (a : AreStages most T cell k first (length first) ss)
      (full : IsFull T cell ss) where
    within : Each (IsWithin (suc (length (kept_terms k (atoms_of ss))))) first
    within = subst (λ z. Each (IsWithin (suc (length (kept_terms k z)))) first) (sym same) turn_within

    pub taken_out : (d : BasePair) → IsMember d (outcome first ss) ↔ CaseGives (in_table T) k d (heap_of ds t)
    taken_out = given_out k (heap_of ds t) T cell xs is.is.ordered first (outcome first ss) is.is.first
        (subst (λ z. AreStates (families_of (lists_of T cell z)) (frames_of k z) first z
        (outcome first ss)) same (stages_states most k T cell cells first ss within a full))

    pub taken_small : sizes first ≤ most → ¬ IsLarge most (in_table T) k (heap_of ds t)
    taken_small few = small_case k (heap_of ds t) T cell xs is.is.ordered most first is.is.first
        (subst (λ z. ¬ PassesFrom most (families_of (lists_of T cell z)) (frames_of k z) first z)
        same (stages_few most k T cell cells first ss within few a full))

    module _ (u : Turn) (pred : u.pred ≡ t.pred) (place : u.place ≡ t.place) (firsts : u.first.items ≡ first)
        (begun : u.begun ≡ length first) (put : u.put ≡ t.put) (stages : u.stages.items ≡ ss)
        (longer : Extends (found_by t) (outcome first ss)) where
      atoms_same : atoms_of u.stages.items ≡ xs
      atoms_same = ap atoms_of stages ∙ same

      found_is : found_by u ≡ outcome first ss
      found_is = λ i. outcome (firsts i) (stages i)

      turn_of_case : IsTurnOf k (heap_of ds t) most T cell u
      turn_of_case = record {
        ordered = subst (AreOrdered k (heap_of ds t).spatial) (sym atoms_same) is.is.ordered;
        first = subst (λ z. IsFirst k z (heap_of ds t).pure u.first.items) (sym atoms_same)
            (subst (IsFirst k xs (heap_of ds t).pure) (sym firsts) is.is.first);
        begun = let l = ap length firsts in omega arith;
        stages = subst (λ z. AreStages most T cell k z u.begun u.stages.items) (sym firsts)
            (subst (λ n. AreStages most T cell k first n u.stages.items) (sym begun)
            (subst (AreStages most T cell k first (length first)) (sym stages) a));
        put = let l = ap length found_is ∙ (ap length longer.1 ∙ length-append (found_by t) longer.0) in
            let p = is.is.put in omega arith;
        given = λ b m.
            let m' = subst (λ z. IsMember b (take u.put z)) (found_is ∙ longer.1) m in
            let m'' = subst (λ n. IsMember b (take n (found_by t ++ longer.0))) put m' in
            subst (λ p. IsMember b (pairs_of T p)) (sym pred) (is.is.given b (subst (IsMember b)
            (take-append-le t.put (found_by t) longer.0 is.is.put) m''));
      }

      pub turn_taken : IsTurn ds most T cell u
      turn_taken = record {
        pred = subst (λ p. p < length ds) (sym pred) is.pred;
        place = subst (λ p. u.place < length (cases_of ds p)) (sym pred)
            (subst (λ i. i < length (cases_of ds t.pred)) (sym place) is.place);
        is = subst (λ p. IsTurnOf (arity_of ds p) (case_at ds p u.place) most T cell u) (sym pred)
            (subst (λ i. IsTurnOf k (case_at ds t.pred i) most T cell u) (sym place) turn_of_case);
      }

      pub taken_found : (d : BasePair) → IsMember d (found_by u) ↔ CaseGives (in_table T) k d (heap_of ds t)
      taken_found d = let g = taken_out d in
          (λ m. g.0 (subst (IsMember d) found_is m), λ c. subst (IsMember d) (sym found_is) (g.1 c))

-- ---- one turn among all

pub map_set : {X Y : Type 0} (f : X → Y) (xs : List X) (i : ℕ) (x y : X) → i < length xs → get_or xs i x ≡ x
    → f y ≡ f x → map f (slice_set xs i y) ≡ map f xs
map_set f [] i x y l g e = refl
map_set f (z ∷ xs) zero x y l g e = let h : f y ≡ f z = e ∙ ap f (sym g) in λ i. h i ∷ map f xs
map_set f (z ∷ xs) (suc i) x y l g e = ap (λ ys. f z ∷ ys) (map_set f xs i x y (omega arith) g e)

pub done_less : (ds : List Definition) (states : ℕ) (A B C : Table) (t : Turn) → IsGrown A B → IsDone ds states B C t
    → IsDone ds states A C t
done_less ds states A B C t g is = record {
  given = λ b c. is.given b (gives_within (in_table A) (in_table B) (λ p d m. g.within p d m) (width_of ds t) b
      (heap_of ds t) c);
  small = λ l. is.small (large_within (in_table A) (in_table B) (λ p d m. g.within p d m) states (width_of ds t)
      (heap_of ds t) l);
}

module _ (ds : List Definition) (states : ℕ) (A B : Table) (cell : List BasePair) (grown : IsGrown A B)
    (turns : List Turn) (i : ℕ) (t : Turn) where
  pub turns_set : IsTurn ds states B cell t → Each (IsTurn ds states A cell) turns
      → Each (IsTurn ds states B cell) (slice_set turns i t)
  turns_set is all = each_set (IsTurn ds states B cell) turns i t is (each_imply (IsTurn ds states A cell)
      (IsTurn ds states B cell) (λ u old. turn_grown ds states A B cell u grown old) turns all)

  pub done_set : (T : Table) → IsGrown T A → i < length turns → IsDone ds states A B t
      → Each (IsDone ds states T A) (take i turns) → Each (IsDone ds states T B) (take (i + 1) (slice_set turns i t))
  done_set T g l is all = subst (Each (IsDone ds states T B)) (sym (take_more_set turns i t l))
      (each_last (IsDone ds states T B) (take i turns) t (each_imply (IsDone ds states T A) (IsDone ds states T B)
      (λ u old. done_grown ds states T A B u grown old) (take i turns) all) (done_less ds states T A B t g is))

pub has_turns : (ds : List Definition) (p : ℕ) (ts us : List Turn) → map case_of us ≡ map case_of ts → HasTurns ds p ts
    → HasTurns ds p us
has_turns ds p ts us e h i l = subst (IsMember {X = ℕ × ℕ} (p, i)) (sym e) (h i l)

-- ---- turns are pushed

module _ (xs new : List Turn) (x : Turn) (e : new ≡ xs ++ (x ∷ [])) where
  cases_are : map case_of new ≡ map case_of xs ++ (case_of x ∷ [])
  cases_are = ap (map case_of) e ∙ map-append case_of xs (x ∷ [])

  pub pushed_each : (P : Turn → Type 0) → Each P xs → P x → Each P new
  pushed_each P all p = subst (Each P) (sym e) (each_last P xs x all p)

  had_case : (c : ℕ × ℕ) → IsMember {X = ℕ × ℕ} c (map case_of xs) → IsMember {X = ℕ × ℕ} c (map case_of new)
  had_case c m = subst (IsMember {X = ℕ × ℕ} c) (sym cases_are) (in_left {X = ℕ × ℕ} c (map case_of xs)
      (case_of x ∷ []) m)

  pub pushed_had : (ds : List Definition) (p : ℕ) → HasTurns ds p xs → HasTurns ds p new
  pushed_had ds p h i l = had_case (p, i) (h i l)

  pub pushed_has : (p n : ℕ) → x.pred ≡ p → x.place ≡ n
      → ((i : ℕ) → i < n → IsMember {X = ℕ × ℕ} (p, i) (map case_of xs)) → (i : ℕ) → i < n + 1
      → IsMember {X = ℕ × ℕ} (p, i) (map case_of new)
  pushed_has p n ep en h i l =
      elim (below_or i n l) [
        | inl less ↦ had_case (p, i) (h i less)
        | inr s ↦ subst (IsMember {X = ℕ × ℕ} (p, i)) (sym cases_are) (in_right {X = ℕ × ℕ} (p, i) (map case_of xs)
            (case_of x ∷ []) (inl (λ j. (ep j, (en ∙ sym s) j))))
      ]

pub same_many : (ts us : List Turn) → map case_of us ≡ map case_of ts → length us ≡ length ts
same_many ts us e = sym (length-map us case_of) ∙ (ap length e ∙ length-map ts case_of)
