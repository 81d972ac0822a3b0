-- The family grows with the rounds; a table that is sound and closed is the family; counting.
use Rattle.std.proofs.Common.{◌≡◌, ◌≢◌, ℕ, zero, suc, ◌+◌, ◌-◌, ◌≤◌, inl, inr, List, [], ◌∷◌, length, arith, sym, refl}
use Rattle.std.proofs.Common.{ap, ◌∙◌, subst}
use Rattle.std.specs.List.{sum_by}
use Rattle.std.proofs.lemmas.List.Sums.{sum_by-cons}
use Rattle.heap_formula.specs.declared.atoms.Spatial.{Spatial}
use Rattle.heap_formula.specs.declared.atoms.Spatial.TheVariants.{Cell, Pred}
use Rattle.heap_formula.specs.Symbolic.{SymbolicHeap}
use Rattle.heap_formula.specs.Definitions.{Definition}
use Rattle.heap_formula.specs.Words.{Each, OneOf}
use Rattle.heap_formula.specs.Meaning.{cases_of}
use Rattle.pair_family.specs.BasePairs.{BasePair}
use Rattle.pair_family.specs.Combination.{Choice, next}
use Rattle.pair_family.specs.Family.{PairFamily, IsChosen, CaseGives, arity_of, family_at, InFamily}
use Rattle.pair_family.specs.Tables.{in_table, IsDistinct, Table, IsTable, HasMoreThan, HasAtMost}
use Rattle.cyc_basics.specs.Words.{IsMember}
use Rattle.heap_formula.proofs.AllMembers.{each_imply}
use Rattle.heap_formula.proofs.StageLaws.{OneOf-map}

abbrev pub WithinPairs : PairFamily → PairFamily → Type 0
WithinPairs F G = (p : ℕ) (b : BasePair) → F p b → G p b

pub chosen_within : (F G : PairFamily) → WithinPairs F G → (bs : Choice) (xs : List Spatial) → IsChosen F bs xs
    → IsChosen G bs xs
chosen_within F G w bs [] c = tt
chosen_within F G w bs (Cell t ts ∷ xs) c = (tt, chosen_within F G w (next bs) xs c.1)
chosen_within F G w bs (Pred p ts ∷ xs) c = (w p (bs 0) c.0, chosen_within F G w (next bs) xs c.1)

pub gives_within : (F G : PairFamily) → WithinPairs F G → (k : ℕ) (b : BasePair) (a : SymbolicHeap) → CaseGives F k b a
    → CaseGives G k b a
gives_within F G w k b a c = record {
  chosen = c.chosen;
  from_family = chosen_within F G w c.chosen a.spatial c.from_family;
  consistent = c.consistent;
  projected = c.projected;
}

family_next : (ds : List Definition) (n : ℕ) → WithinPairs (family_at ds n) (family_at ds (suc n))
family_next ds zero p b o = absurd o
family_next ds (suc n) p b o =
    OneOf-map (CaseGives (family_at ds n) (arity_of ds p) b) (CaseGives (family_at ds (suc n)) (arity_of ds p) b)
    (gives_within (family_at ds n) (family_at ds (suc n)) (family_next ds n) (arity_of ds p) b) (cases_of ds p) o

family_add : (ds : List Definition) (m d : ℕ) → WithinPairs (family_at ds m) (family_at ds (m + d))
family_add ds m zero p b o = let e : m ≡ m + 0 = omega arith in subst (λ n. family_at ds n p b) e o
family_add ds m (suc d) p b o =
    let e : suc (m + d) ≡ m + suc d = omega arith in
    subst (λ n. family_at ds n p b) e (family_next ds (m + d) p b (family_add ds m d p b o))

pub family_le : (ds : List Definition) (m n : ℕ) → m ≤ n → WithinPairs (family_at ds m) (family_at ds n)
family_le ds m n l p b o = let e : m + (n - m) ≡ n = omega arith in
    subst (λ k. family_at ds k p b) e (family_add ds m (n - m) p b o)

-- one round serves a whole choice
one_round : (ds : List Definition) (bs : Choice) (xs : List Spatial) → IsChosen (InFamily ds) bs xs
    → (n : ℕ) × IsChosen (family_at ds n) bs xs
one_round ds bs [] c = (0, tt)
one_round ds bs (Cell t ts ∷ xs) c = let r = one_round ds (next bs) xs c.1 in (r.0, (tt, r.1))
one_round ds bs (Pred p ts ∷ xs) c =
    let r = one_round ds (next bs) xs c.1 in
    let n = c.0.0 + r.0 in (
      n,
      (
        family_le ds c.0.0 n (omega arith) p (bs 0) c.0.1,
        chosen_within (family_at ds r.0) (family_at ds n) (family_le ds r.0 n (omega arith)) (next bs) xs r.1,
      ),
    )

-- the family is closed under every case
pub family_closed : (ds : List Definition) (p : ℕ) (b : BasePair)
    → OneOf (CaseGives (InFamily ds) (arity_of ds p) b) (cases_of ds p) → InFamily ds p b
family_closed ds p b o = let r = some_round (cases_of ds p) o in (suc r.0, r.1)
  where
    some_round : (cs : List SymbolicHeap) → OneOf (CaseGives (InFamily ds) (arity_of ds p) b) cs
        → (n : ℕ) × OneOf (CaseGives (family_at ds n) (arity_of ds p) b) cs
    some_round [] o = absurd o
    some_round (a ∷ cs) (inl c) =
        let r = one_round ds c.chosen a.spatial c.from_family in
        (r.0, inl (record { chosen = c.chosen; from_family = r.1; consistent = c.consistent; projected = c.projected }))
    some_round (a ∷ cs) (inr o) = let r = some_round cs o in (r.0, inr r.1)

-- the least: whatever is closed under every case has the family's members
abbrev pub IsClosedFamily : List Definition → PairFamily → Type 0
IsClosedFamily ds F = (p : ℕ) (b : BasePair) → OneOf (CaseGives F (arity_of ds p) b) (cases_of ds p) → F p b

pub family_least : (ds : List Definition) (F : PairFamily) → IsClosedFamily ds F → (n : ℕ)
    → WithinPairs (family_at ds n) F
family_least ds F closed zero p b o = absurd o
family_least ds F closed (suc n) p b o =
    closed p b (OneOf-map (CaseGives (family_at ds n) (arity_of ds p) b) (CaseGives F (arity_of ds p) b)
    (gives_within (family_at ds n) F (family_least ds F closed n) (arity_of ds p) b) (cases_of ds p) o)

-- a table of members to which no round adds is the family
pub closed_table : (ds : List Definition) (table : Table) → WithinPairs (in_table table) (InFamily ds)
    → IsClosedFamily ds (in_table table) → IsTable ds table
closed_table ds table sound closed p b = (sound p b, λ m. family_least ds (in_table table) closed m.0 p b m.1)

-- ---- counting

without : {X : Type 0} (x : X) (ys : List X) → IsMember x ys → List X
without x [] i = []
without x (y ∷ ys) (inl s) = ys
without x (y ∷ ys) (inr i) = y ∷ without x ys i

still_in : {X : Type 0} (x z : X) (ys : List X) (i : IsMember x ys) → IsMember z ys → (x ≢ z)
    → IsMember z (without x ys i)
unfolding without
still_in x z [] i j d = absurd i
still_in x z (y ∷ ys) (inl s) (inl r) d = absurd (d (sym s ∙ r))
still_in x z (y ∷ ys) (inl s) (inr j) d = j
still_in x z (y ∷ ys) (inr i) (inl r) d = inl r
still_in x z (y ∷ ys) (inr i) (inr j) d = inr (still_in x z ys i j d)

others_in : {X : Type 0} (x : X) (xs ys : List X) (i : IsMember x ys) → (¬ IsMember x xs) → Each (λ z. IsMember z ys) xs
    → Each (λ z. IsMember z (without x ys i)) xs
others_in x [] ys i n a = tt
others_in x (z ∷ xs) ys i n a = (still_in x z ys i a.0 (λ e. n (inl (sym e))), others_in x xs ys i (λ m. n (inr m)) a.1)

sum-without : {X : Type 0} (w : X → ℕ) (x : X) (ys : List X) (i : IsMember x ys)
    → sum_by w ys ≡ w x + sum_by w (without x ys i)
unfolding without
sum-without w x [] i = absurd i
sum-without w x (y ∷ ys) (inl s) = sum_by-cons w y ys ∙ ap (λ z. w z + sum_by w ys) s
sum-without w x (y ∷ ys) (inr i) =
    let l = sum-without w x ys i in
    let c = sum_by-cons w y ys in
    let d = sum_by-cons w y (without x ys i) in omega arith

-- distinct members of a list have no greater sum
pub distinct_sum : {X : Type 0} (w : X → ℕ) (xs ys : List X) → IsDistinct xs → Each (λ z. IsMember z ys) xs
    → sum_by w xs ≤ sum_by w ys
distinct_sum w [] ys d a = omega arith
distinct_sum w (x ∷ xs) ys d a =
    let l = sum-without w x ys a.0 in
    let c = sum_by-cons w x xs in
    let r = distinct_sum w xs (without x ys a.0) d.1 (others_in x xs ys a.0 d.0 a.1) in omega arith

sum-ones : {X : Type 0} (xs : List X) → sum_by (λ x. 1) xs ≡ length xs
sum-ones [] = refl
sum-ones (x ∷ xs) = let l = sum-ones xs in let c = sum_by-cons (λ x. 1) x xs in omega arith

-- and are no more than its length
pub distinct_le : {X : Type 0} (xs ys : List X) → IsDistinct xs → Each (λ z. IsMember z ys) xs → length xs ≤ length ys
distinct_le xs ys d a =
    let l = sum-ones xs in
    let m = sum-ones ys in
    let r = distinct_sum (λ x. 1) xs ys d a in omega arith

-- a list with all members of the family bounds their number
pub at_most : (ds : List Definition) (all : List (ℕ × BasePair)) (most : ℕ)
    → ((p : ℕ) (b : BasePair) → InFamily ds p b → IsMember (p, b) all) → length all ≤ most → HasAtMost ds most
at_most ds all most every l list are =
    let r = distinct_le list all are.distinct (each_imply (λ m. InFamily ds m.0 m.1) (λ z. IsMember z all)
    (λ z i. every z.0 z.1 i) list are.members) in omega arith

pub not_both : (ds : List Definition) (most : ℕ) → HasAtMost ds most → HasMoreThan ds most → ⊥
not_both ds most a m = let l = a m.list m.are in let k = m.more in omega arith
