-- The premises of Unfold are within the limits where there is room.
use Rattle.std.proofs.Common.{◌≡◌, ℕ, ◌+◌, ◌≤◌, true, ◌&&◌, List, [], ◌∷◌, ◌++◌, map, length, Option, Some, refl, ap}
use Rattle.std.proofs.Common.{◌∙◌, subst, arith, length-append, leb-true, le-leb}
use Rattle.std.specs.Prelude.{max, slice_get, nat_le}
use Rattle.std.proofs.lemmas.List.{length-map}
use Rattle.cyc_basics.specs.declared.limits.Limits.{Limits}
use Rattle.heap_formula.specs.declared.terms.Term.{Term}
use Rattle.heap_formula.specs.declared.terms.Term.TheVariants.{Nil, Univ, Exist}
use Rattle.heap_formula.specs.declared.atoms.Pure.{Pure}
use Rattle.heap_formula.specs.declared.atoms.Pure.TheVariants.{Eq, Neq}
use Rattle.heap_formula.specs.declared.atoms.Spatial.{Spatial}
use Rattle.heap_formula.specs.declared.atoms.Spatial.TheVariants.{Cell, Pred}
use Rattle.heap_formula.specs.declared.judgements.Judgement.{Judgement}
use Rattle.heap_formula.specs.declared.judgements.Judgement.TheVariants.{Entail, Term as Runs}
use Rattle.heap_formula.specs.declared.proof_rules.RuleFault.TheVariants.{NoSuchAtom, TooManyAtoms, NoFreshVariable}
use Rattle.heap_formula.specs.Definitions.{Definition}
use Rattle.heap_formula.specs.Judgements.{antecedent, with_antecedent}
use Rattle.heap_formula.specs.Meaning.{cases_of}
use Rattle.heap_formula.specs.Symbolic.{SymbolicHeap}
use Rattle.heap_formula.specs.Words.{max_of}
use Rattle.heap_formula.specs.Fresh.{number_bound, univ_bound, heap_bound, judgement_bound, fresh_number, most_in_pure}
use Rattle.heap_formula.specs.Fresh.{most_in_spatial, heap_numbers}
use Rattle.heap_formula.specs.Positions.{without}
use Rattle.heap_formula.specs.Substitution.{case_term, in_pure, in_spatial, in_heap}
use Rattle.rule_table.specs.Answer.{finds, limited, each_heap, is_short, has_numbers, heaps_of, disjuncts}
use Rattle.rule_table.specs.RuleUnfold.{unfolded, unfold_premise}
use Rattle.rule_table.specs.Table.{calls, unfold_answer}
use Rattle.search_moves.specs.Trying.{has_premises}
use Rattle.search_moves.specs.Rooms.{judgement_numbers, has_room_from, has_room_left}
use Rattle.search_moves.proofs.CaseNumbers.{most_append, most_without, length_without, argument_number, pures_in}
use Rattle.search_moves.proofs.CaseNumbers.{spatials_in, arguments_within, answered}
use Rattle.heap_formula.proofs.Greatest.{greatest_le}
use Rattle.std.proofs.lemmas.Bool.{and_from, and_parts}
use Rattle.std.specs.List.{list_all}

-- ---- a universal's number is one of the judgement's

pub term_bound : (t : Term) → univ_bound t ≤ number_bound t
term_bound Nil = omega arith
term_bound (Univ n) = omega arith
term_bound (Exist n) = omega arith

pure_below : (x : Pure) → most_in_pure univ_bound x ≤ most_in_pure number_bound x
pure_below (Eq t u) = let a = term_bound t in let b = term_bound u in omega arith
pure_below (Neq t u) = let a = term_bound t in let b = term_bound u in omega arith

spatial_below : (x : Spatial) → most_in_spatial univ_bound x ≤ most_in_spatial number_bound x
spatial_below (Cell t ts) = let a = term_bound t in let b = greatest_le univ_bound number_bound term_bound ts in
    omega arith
spatial_below (Pred p ts) = greatest_le univ_bound number_bound term_bound ts

pub heap_below : (a : SymbolicHeap) → heap_bound a ≤ heap_numbers a
heap_below a =
    let p = greatest_le (most_in_pure univ_bound) (most_in_pure number_bound) pure_below a.pure in
    let s = greatest_le (most_in_spatial univ_bound) (most_in_spatial number_bound) spatial_below a.spatial in
    omega arith

judgement_below : (j : Judgement) → judgement_bound j ≤ judgement_numbers j
judgement_below (Entail a bs) = let h = heap_below a in let r = greatest_le heap_bound heap_numbers heap_below bs in
    omega arith
judgement_below (Runs i a) = let h = heap_below a in omega arith

antecedent_below : (j : Judgement) → heap_numbers (antecedent j) ≤ judgement_numbers j
antecedent_below (Entail a bs) = omega arith
antecedent_below (Runs i a) = omega arith

-- ---- the heaps of a premise

short_heaps : (most : Limits) (j : Judgement) (h : SymbolicHeap) → is_short most h ≡ true
    → list_all (is_short most) (disjuncts j) ≡ true → list_all (is_short most) (heaps_of (with_antecedent j h)) ≡ true
short_heaps most (Entail a bs) h s d = and_from (is_short most h) (list_all (is_short most) bs) s d
short_heaps most (Runs i a) h s d = and_from (is_short most h) true s refl

numbered_heaps : (hs : List SymbolicHeap) → max_of (map heap_numbers hs) ≤ 65535 → list_all has_numbers hs ≡ true
numbered_heaps [] l = refl
numbered_heaps (h ∷ hs) l = and_from (has_numbers h) (list_all has_numbers hs)
    (le-leb (heap_numbers h) 65535 (omega arith)) (numbered_heaps hs (omega arith))

numbered_premise : (j : Judgement) (h : SymbolicHeap) → heap_numbers h ≤ 65535 → judgement_numbers j ≤ 65535
    → list_all has_numbers (heaps_of (with_antecedent j h)) ≡ true
numbered_premise (Entail a bs) h s d = numbered_heaps (h ∷ bs) (omega arith)
numbered_premise (Runs i a) h s d = numbered_heaps (h ∷ []) (omega arith)

-- ---- the terms of a case

left_number : (ts : List Term) (f m n : ℕ) → max_of (map number_bound ts) ≤ n → f + m ≤ n → (t : Term)
    → number_bound t ≤ m → number_bound (case_term ts f t) ≤ n
left_number ts f m n h k Nil l = omega arith
left_number ts f m n h k (Univ i) l = argument_number n ts i h
left_number ts f m n h k (Exist i) l = omega arith

module _ (most : Limits) (p : ℕ) (j : Judgement) (k q : ℕ) (ts : List Term)
    (at : slice_get (antecedent j).spatial k ≡ Some (Pred q ts)) where
  abbrev g : Term → Term
  g = case_term ts (fresh_number p j)

  pures : (case : SymbolicHeap) → length (antecedent j).pure + length case.pure ≤ most.pure
      → length ((antecedent j).pure ++ map (in_pure g) case.pure) ≤ most.pure
  pures case le = let l = length-append (antecedent j).pure (map (in_pure g) case.pure) in
      let n = length-map case.pure (in_pure g) in omega arith

  spatials : (case : SymbolicHeap) → length (antecedent j).spatial + length case.spatial ≤ most.spatial + 1
      → length (without k (antecedent j).spatial ++ map (in_spatial g) case.spatial) ≤ most.spatial
  spatials case le =
      let l = length-append (without k (antecedent j).spatial) (map (in_spatial g) case.spatial) in
      let n = length-map case.spatial (in_spatial g) in
      let w = length_without k (antecedent j).spatial (Pred q ts) at in
      omega arith

  numbers : (case : SymbolicHeap) → max p (judgement_numbers j) + heap_numbers case ≤ 65535
      → heap_numbers (unfolded (antecedent j) k (in_heap g case)) ≤ 65535
  numbers case le =
      let e = judgement_below j in
      let i = antecedent_below j in
      let ours = arguments_within 65535 (antecedent j).spatial k q ts at (omega arith) in
      let f = left_number ts (fresh_number p j) (heap_numbers case) 65535 ours (omega arith) in
      let u = most_append (most_in_pure number_bound) 65535 (antecedent j).pure (map (in_pure g) case.pure)
      (omega arith) (pures_in g (heap_numbers case) 65535 f case.pure (omega arith)) in
      let s = most_append (most_in_spatial number_bound) 65535 (without k (antecedent j).spatial)
      (map (in_spatial g) case.spatial) (most_without (most_in_spatial number_bound) 65535 k (antecedent j).spatial
      (omega arith)) (spatials_in g (heap_numbers case) 65535 f case.spatial (omega arith)) in
      omega arith

  cases_go : list_all (is_short most) (disjuncts j) ≡ true → (cs : List SymbolicHeap)
      → list_all (has_room_from most (max p (judgement_numbers j)) (antecedent j)) cs ≡ true
      → (each_heap (is_short most) (map (unfold_premise j k ts (fresh_number p j)) cs) ≡ true)
      × (each_heap has_numbers (map (unfold_premise j k ts (fresh_number p j)) cs) ≡ true)
  cases_go short [] e = (refl, refl)
  cases_go short (c ∷ cs) e =
      let h = unfolded (antecedent j) k (in_heap g c) in
      let room = and_parts (has_room_from most (max p (judgement_numbers j)) (antecedent j) c)
      (list_all (has_room_from most (max p (judgement_numbers j)) (antecedent j)) cs) e in
      let r0 = and_parts (nat_le (length (antecedent j).pure + length c.pure) most.pure)
      (nat_le (length (antecedent j).spatial + length c.spatial) (most.spatial + 1) && nat_le
      (max p (judgement_numbers j) + heap_numbers c) 65535) room.0 in
      let r1 = and_parts (nat_le (length (antecedent j).spatial + length c.spatial) (most.spatial + 1))
      (nat_le (max p (judgement_numbers j) + heap_numbers c) 65535) r0.1 in
      let rest = cases_go short cs room.1 in
      let few : is_short most h ≡ true = and_from (nat_le (length h.pure) most.pure)
      (nat_le (length h.spatial) most.spatial)
      (le-leb _ _ (pures c (leb-true _ _ r0.0))) (le-leb _ _ (spatials c (leb-true _ _ r1.0))) in
      let le : max p (judgement_numbers j) + heap_numbers c ≤ 65535 = leb-true _ _ r1.1 in (
        and_from (list_all (is_short most) (heaps_of (with_antecedent j h))) _ (short_heaps most j h few short) rest.0,
        and_from (list_all has_numbers (heaps_of (with_antecedent j h))) _
            (numbered_premise j h (numbers c le) (omega arith)) rest.1,
      )

pub left_goes : (most : Limits) (ds : List Definition) (p : ℕ) (j : Judgement) (k q : ℕ) (ts : List Term)
    → slice_get (antecedent j).spatial k ≡ Some (Pred q ts) → has_room_left most p j (cases_of ds q) ≡ true
    → has_premises (unfold_answer most ds p j k) ≡ true
left_goes most ds p j k q ts at room =
    let r = and_parts (list_all (is_short most) (disjuncts j))
    (list_all (has_room_from most (max p (judgement_numbers j)) (antecedent j)) (cases_of ds q)) room in
    let go = cases_go most p j k q ts at r.0 (cases_of ds q) r.1 in
    ap (λ (o : Option Spatial). has_premises (finds o NoSuchAtom
    (λ x. calls x (λ i us. limited most (map (unfold_premise j k us (fresh_number p j)) (cases_of ds i)))))) at
    ∙ answered (each_heap (is_short most) (map (unfold_premise j k ts (fresh_number p j)) (cases_of ds q)))
    (each_heap has_numbers (map (unfold_premise j k ts (fresh_number p j)) (cases_of ds q)))
    TooManyAtoms NoFreshVariable (map (unfold_premise j k ts (fresh_number p j)) (cases_of ds q)) go.0 go.1

pub parts_go : (most : Limits) (ds : List Definition) (p : ℕ) (j : Judgement) (k q : ℕ) (ts : List Term)
    (a : SymbolicHeap) (n : ℕ) (few room : Limits) (cases : List SymbolicHeap) → a ≡ antecedent j
    → n ≡ max p (judgement_numbers j) → few ≡ most → room ≡ most → cases ≡ cases_of ds q
    → slice_get a.spatial k ≡ Some (Pred q ts)
    → list_all (is_short few) (disjuncts j) ≡ true → list_all (has_room_from room n a) cases ≡ true
    → has_premises (unfold_answer most ds p j k) ≡ true
parts_go most ds p j k q ts a n few room cases left number is_few is_room found at short fits =
    let in_cases = subst (λ (cs : List SymbolicHeap). list_all (has_room_from room n a) cs ≡ true) found fits in
    let in_left = subst (λ (b : SymbolicHeap). list_all (has_room_from room n b) (cases_of ds q) ≡ true) left in_cases
    in
    let in_number = subst (λ (i : ℕ). list_all (has_room_from room i (antecedent j)) (cases_of ds q) ≡ true)
    number in_left in
    let in_room = subst (λ (i : Limits). list_all (has_room_from i (max p (judgement_numbers j)) (antecedent j))
    (cases_of ds q) ≡ true) is_room in_number in
    left_goes most ds p j k q ts (subst (λ (b : SymbolicHeap). slice_get b.spatial k ≡ Some (Pred q ts)) left at)
    (and_from (list_all (is_short most) (disjuncts j))
    (list_all (has_room_from most (max p (judgement_numbers j)) (antecedent j)) (cases_of ds q))
    (subst (λ (i : Limits). list_all (is_short i) (disjuncts j) ≡ true) is_few short) in_room)
