-- The premise of UnfoldRight is within the limits where there is room.
use Rattle.std.proofs.Common.{◌≡◌, ℕ, zero, suc, ◌+◌, ◌≤◌, Bool, true, false, ◌&&◌, List, [], ◌∷◌, ◌++◌, map, length}
use Rattle.std.proofs.Common.{get_or, Option, Some, refl, ap, ◌∙◌, arith, length-append, leb-true, le-leb}
use Rattle.std.specs.Prelude.{slice_get, slice_index_or, nat_le, Ok}
use Rattle.std.proofs.lemmas.List.{length-map}
use Rattle.cyc_basics.specs.declared.limits.Limits.{Limits}
use Rattle.heap_formula.specs.declared.terms.Term.{Term}
use Rattle.heap_formula.specs.declared.terms.Term.TheVariants.{Nil, Univ, Exist}
use Rattle.heap_formula.specs.declared.atoms.Pure.{Pure}
use Rattle.heap_formula.specs.declared.atoms.Pure.TheVariants.{Eq, Neq}
use Rattle.heap_formula.specs.declared.atoms.Spatial.{Spatial}
use Rattle.heap_formula.specs.declared.atoms.Spatial.TheVariants.{Cell, Pred}
use Rattle.heap_formula.specs.declared.judgements.Premise.{Premise}
use Rattle.heap_formula.specs.declared.judgements.Judgement.{Judgement}
use Rattle.heap_formula.specs.declared.judgements.Judgement.TheVariants.{Entail}
use Rattle.heap_formula.specs.declared.proof_rules.RuleFault.{RuleFault}
use Rattle.heap_formula.specs.declared.proof_rules.RuleFault.TheVariants.{NoSuchAtom, NoSuchCase}
use Rattle.heap_formula.specs.Definitions.{Definition}
use Rattle.heap_formula.specs.Meaning.{cases_of}
use Rattle.heap_formula.specs.Symbolic.{SymbolicHeap}
use Rattle.heap_formula.specs.Words.{max_of}
use Rattle.heap_formula.specs.Fresh.{number_bound, exist_bound, heap_exists, most_in_pure, most_in_spatial}
use Rattle.heap_formula.specs.Fresh.{heap_numbers}
use Rattle.heap_formula.specs.Positions.{without}
use Rattle.heap_formula.specs.Substitution.{in_pure, in_spatial, in_heap}
use Rattle.rule_table.specs.Answer.{needs, finds, limited, one, is_short, has_numbers}
use Rattle.rule_table.specs.Table.{calls, right_term, with_right, unfold_right_answer}
use Rattle.rule_table.specs.RuleUnfold.{unfolded}
use Rattle.search_moves.specs.Trying.{has_premises}
use Rattle.search_moves.specs.Rooms.{has_room_for}
use Rattle.heap_formula.proofs.Greatest.{greatest_le}
use Rattle.std.proofs.lemmas.Bool.{and_from, and_parts}

pub most_append : {X : Type 0} (f : X → ℕ) (n : ℕ) (xs ys : List X) → max_of (map f xs) ≤ n → max_of (map f ys) ≤ n
    → max_of (map f (xs ++ ys)) ≤ n
most_append f n [] ys a b = b
most_append f n (x ∷ xs) ys a b = let r = most_append f n xs ys (omega arith) b in omega arith

pub most_without : {X : Type 0} (f : X → ℕ) (n k : ℕ) (xs : List X) → max_of (map f xs) ≤ n
    → max_of (map f (without k xs)) ≤ n
most_without f n k [] a = a
most_without f n zero (x ∷ xs) a = omega arith
most_without f n (suc k) (x ∷ xs) a = let r = most_without f n k xs (omega arith) in omega arith

pub length_without : {X : Type 0} (k : ℕ) (xs : List X) (x : X) → slice_get xs k ≡ Some x
    → length (without k xs) + 1 ≡ length xs
length_without k [] x e = cc
length_without zero (y ∷ xs) x e = omega arith
length_without (suc k) (y ∷ xs) x e = let r = length_without k xs x e in omega arith

-- ---- an existential's number is one of the heap's

term_exists : (t : Term) → exist_bound t ≤ number_bound t
term_exists Nil = omega arith
term_exists (Univ n) = omega arith
term_exists (Exist n) = omega arith

pure_less : (x : Pure) → most_in_pure exist_bound x ≤ most_in_pure number_bound x
pure_less (Eq t u) = let a = term_exists t in let b = term_exists u in omega arith
pure_less (Neq t u) = let a = term_exists t in let b = term_exists u in omega arith

spatial_less : (x : Spatial) → most_in_spatial exist_bound x ≤ most_in_spatial number_bound x
spatial_less (Cell t ts) = let a = term_exists t in let b = greatest_le exist_bound number_bound term_exists ts in
    omega arith
spatial_less (Pred p ts) = greatest_le exist_bound number_bound term_exists ts

exists_less : (b : SymbolicHeap) → heap_exists b ≤ heap_numbers b
exists_less b =
    let p = greatest_le (most_in_pure exist_bound) (most_in_pure number_bound) pure_less b.pure in
    let s = greatest_le (most_in_spatial exist_bound) (most_in_spatial number_bound) spatial_less b.spatial in
    omega arith

-- ---- the terms of a case

pub argument_number : (n : ℕ) (ts : List Term) (i : ℕ) → max_of (map number_bound ts) ≤ n
    → number_bound (slice_index_or ts i Nil) ≤ n
argument_number n [] zero h = omega arith
argument_number n [] (suc i) h = omega arith
argument_number n (t ∷ ts) zero h = omega arith
argument_number n (t ∷ ts) (suc i) h = argument_number n ts i (omega arith)

case_number : (ts : List Term) (e m n : ℕ) → max_of (map number_bound ts) ≤ n → e + m ≤ n → (t : Term)
    → number_bound t ≤ m → number_bound (right_term ts e t) ≤ n
case_number ts e m n h k Nil l = omega arith
case_number ts e m n h k (Univ i) l = argument_number n ts i h
case_number ts e m n h k (Exist i) l = omega arith

module _ (g : Term → Term) (m n : ℕ) (f : (t : Term) → number_bound t ≤ m → number_bound (g t) ≤ n) where
  pub terms_in : (ts : List Term) → max_of (map number_bound ts) ≤ m → max_of (map number_bound (map g ts)) ≤ n
  terms_in [] h = omega arith
  terms_in (t ∷ ts) h = let a = f t (omega arith) in let r = terms_in ts (omega arith) in omega arith

  pub pures_in : (xs : List Pure) → max_of (map (most_in_pure number_bound) xs) ≤ m
      → max_of (map (most_in_pure number_bound) (map (in_pure g) xs)) ≤ n
  pures_in [] h = omega arith
  pures_in (Eq t u ∷ xs) h = let a = f t (omega arith) in let b = f u (omega arith) in let r = pures_in xs (omega arith)
      in omega arith
  pures_in (Neq t u ∷ xs) h = let a = f t (omega arith) in let b = f u (omega arith) in
      let r = pures_in xs (omega arith) in omega arith

  pub spatials_in : (xs : List Spatial) → max_of (map (most_in_spatial number_bound) xs) ≤ m
      → max_of (map (most_in_spatial number_bound) (map (in_spatial g) xs)) ≤ n
  spatials_in [] h = omega arith
  spatials_in (Cell t ts ∷ xs) h = let a = f t (omega arith) in let b = terms_in ts (omega arith) in
      let r = spatials_in xs (omega arith) in omega arith
  spatials_in (Pred p ts ∷ xs) h = let b = terms_in ts (omega arith) in let r = spatials_in xs (omega arith) in
      omega arith

pub arguments_within : (n : ℕ) (xs : List Spatial) (k q : ℕ) (ts : List Term) → slice_get xs k ≡ Some (Pred q ts)
    → max_of (map (most_in_spatial number_bound) xs) ≤ n → max_of (map number_bound ts) ≤ n
arguments_within n [] k q ts e h = cc
arguments_within n (x ∷ xs) zero q ts e h =
    let same : x ≡ Pred q ts = cc in let s = ap (λ (y : Spatial). most_in_spatial number_bound y) same in
    omega (arith, s)
arguments_within n (x ∷ xs) (suc k) q ts e h = arguments_within n xs k q ts e (omega arith)

-- ---- the premise

pub answered : (p q : Bool) (f g : RuleFault) (ps : List Premise) → p ≡ true → q ≡ true
    → has_premises (needs p f (needs q g (Ok ps))) ≡ true
answered true true f g ps a b = refl
answered true false f g ps a b = cc
answered false q f g ps a b = cc

four : (p q : Bool) → p ≡ true → q ≡ true → (p && (q && true)) && true ≡ true
four true true a b = refl
four true false a b = cc
four false q a b = cc

pub case_goes : (most : Limits) (a b case : SymbolicHeap) (k q : ℕ) (ts : List Term)
    → slice_get b.spatial k ≡ Some (Pred q ts) → has_room_for most a b case ≡ true
    → has_premises (limited most (one (with_right a (unfolded b k (in_heap (right_term ts (heap_exists b)) case)
    ∷ [])))) ≡ true
case_goes most a b case k q ts at room =
    let r0 = and_parts (is_short most a) (nat_le (length b.pure + length case.pure) most.pure &&
    (nat_le (length b.spatial + length case.spatial) (most.spatial + 1) &&
    (nat_le (heap_numbers a) 65535 && nat_le (heap_numbers b + heap_numbers case) 65535))) room in
    let r1 = and_parts (nat_le (length b.pure + length case.pure) most.pure)
    (nat_le (length b.spatial + length case.spatial) (most.spatial + 1) &&
    (nat_le (heap_numbers a) 65535 && nat_le (heap_numbers b + heap_numbers case) 65535)) r0.1 in
    let r2 = and_parts (nat_le (length b.spatial + length case.spatial) (most.spatial + 1))
    (nat_le (heap_numbers a) 65535 && nat_le (heap_numbers b + heap_numbers case) 65535) r1.1 in
    let r3 = and_parts (nat_le (heap_numbers a) 65535) (nat_le (heap_numbers b + heap_numbers case) 65535) r2.1 in
    answered _ _ _ _ _ (four (is_short most a) (is_short most h) r0.0
    (and_from (nat_le (length h.pure) most.pure) (nat_le (length h.spatial) most.spatial)
    (le-leb _ _ (pures (leb-true _ _ r1.0)))
    (le-leb _ _ (spatials (leb-true _ _ r2.0)))))
    (four (has_numbers a) (has_numbers h) r3.0 (le-leb _ _ (numbers (leb-true _ _ r3.1))))
  where
    g : Term → Term
    g = right_term ts (heap_exists b)

    h : SymbolicHeap
    h = unfolded b k (in_heap g case)

    pures : length b.pure + length case.pure ≤ most.pure → length (b.pure ++ map (in_pure g) case.pure) ≤ most.pure
    pures le = let l = length-append b.pure (map (in_pure g) case.pure) in let n = length-map case.pure (in_pure g) in
        omega arith

    spatials : length b.spatial + length case.spatial ≤ most.spatial + 1
        → length (without k b.spatial ++ map (in_spatial g) case.spatial) ≤ most.spatial
    spatials le =
        let l = length-append (without k b.spatial) (map (in_spatial g) case.spatial) in
        let n = length-map case.spatial (in_spatial g) in
        let w = length_without k b.spatial (Pred q ts) at in
        omega arith

    numbers : heap_numbers b + heap_numbers case ≤ 65535 → heap_numbers h ≤ 65535
    numbers le =
        let e = exists_less b in
        let ours = arguments_within 65535 b.spatial k q ts at (omega arith) in
        let f = case_number ts (heap_exists b) (heap_numbers case) 65535 ours (omega arith) in
        let p = most_append (most_in_pure number_bound) 65535 b.pure (map (in_pure g) case.pure) (omega arith)
        (pures_in g (heap_numbers case) 65535 f case.pure (omega arith)) in
        let s = most_append (most_in_spatial number_bound) 65535 (without k b.spatial) (map (in_spatial g) case.spatial)
        (most_without (most_in_spatial number_bound) 65535 k b.spatial (omega arith))
        (spatials_in g (heap_numbers case) 65535 f case.spatial (omega arith)) in
        omega arith

pub room_goes : (most : Limits) (ds : List Definition) (j : Judgement) (a : SymbolicHeap) (bs : List SymbolicHeap)
    (b case : SymbolicHeap) (k q c : ℕ) (ts : List Term) → j ≡ Entail a bs → bs ≡ b ∷ []
    → slice_get b.spatial k ≡ Some (Pred q ts) → slice_get (cases_of ds q) c ≡ Some case
    → has_room_for most a b case ≡ true → has_premises (unfold_right_answer most ds j k c) ≡ true
room_goes most ds j a bs b case k q c ts is single at found room =
    ap (λ (i : Judgement). has_premises (unfold_right_answer most ds i k c)) (is ∙ ap (Entail a) single)
    ∙ ap (λ (o : Option Spatial). has_premises (finds o NoSuchAtom
    (λ x. calls x (λ p us. finds (slice_get (cases_of ds p) c) NoSuchCase
    (λ d. limited most (one (with_right a (unfolded b k (in_heap (right_term us (heap_exists b)) d) ∷ [])))))))) at
    ∙ ap (λ (o : Option SymbolicHeap). has_premises
    (finds o NoSuchCase (λ d. limited most (one (with_right a
    (unfolded b k (in_heap (right_term ts (heap_exists b)) d) ∷ [])))))) found
    ∙ case_goes most a b case k q ts at room

pub only_item : {X : Type 0} (xs : List X) (x : X) → get_or xs 0 x ≡ x → length xs ≡ 1 → xs ≡ x ∷ []
only_item [] x e l = absurd (omega arith)
only_item {X} (y ∷ []) x e l = ap (λ (z : X). z ∷ []) e
only_item (y ∷ z ∷ xs) x e l = absurd (omega arith)
