-- A base pair more: what a table has then, and how many.
use Rattle.std.proofs.Common.{◌≡◌, ◌⊎◌, inl, inr, ℕ, zero, suc, ◌+◌, ◌<◌, ◌≤◌, List, [], ◌∷◌, ◌++◌, map, length, get_or}
use Rattle.std.proofs.Common.{Bool, true, false, arith, sym, refl, ap, ◌∙◌, subst}
use Rattle.std.proofs.lemmas.List.{append-nil, append_assoc, length-map, length-append}
use Rattle.std.proofs.lemmas.Bool.{both_ways}
use Rattle.std.specs.Prelude.{replicate}
use Rattle.heap_formula.specs.Symbolic.{SymbolicHeap}
use Rattle.heap_formula.specs.Meaning.{cases_of}
use Rattle.heap_formula.specs.Definitions.{Definition}
use Rattle.heap_formula.specs.Words.{OneOf}
use Rattle.pair_family.specs.BasePairs.{BasePair}
use Rattle.pair_family.specs.Family.{CaseGives, InFamily, arity_of}
use Rattle.pair_family.specs.LargeCases.{IsLarge, HasLargeCase}
use Rattle.pair_family.specs.Tables.{IsTable, in_table, IsDistinct, Table, pairs_of, HasMoreThan, HasAtMost}
use Rattle.cyc_basics.specs.Words.{IsMember}
use Rattle.pair_family.proofs.Large.{cases_within}
use Rattle.pair_family.proofs.Lists.{in_left, in_right, in_append, in_map, map_in, at_each}
use Rattle.pair_family.proofs.Rounds.{at_most, closed_table, family_closed}
use Rattle.pair_family.specs.declared.states.states.StatesFault.{StatesFault}
use Rattle.pair_family.specs.declared.states.states.StatesFault.TheVariants.{TooManyStates, OutOfMemory}
use Rattle.sat_pairs.specs.declared.rounds.PairFault.TheVariants as faults
use Rattle.sat_pairs.specs.Growth.{total, pair_fault_of, with_pair, IsAddedTo, IsPartOf, IsGrown, HasAllGiven}
use Rattle.pair_family.proofs.StatesFacts.{one_in}
use Rattle.pair_family.proofs.Sized.{distinct_push}

with_out : (T : Table) (p : ℕ) (k : BasePair) (q : ℕ) (b : BasePair) → IsMember b (pairs_of (with_pair T p k) q)
    → IsMember b (pairs_of T q) ⊎ ((q ≡ p) × (b ≡ k))
with_out [] p k q b m = inl m
with_out (r ∷ T) zero k zero b m = elim (in_append b r (k ∷ []) m)
    [ inl i ↦ inl i | inr j ↦ elim j [ inl s ↦ inr (refl, sym s) | inr no' ↦ absurd no' ] ]
with_out (r ∷ T) zero k (suc q) b m = inl m
with_out (r ∷ T) (suc p) k zero b m = inl m
with_out (r ∷ T) (suc p) k (suc q) b m = elim (with_out T p k q b m) [ inl i ↦ inl i | inr e ↦ inr (ap suc e.0, e.1) ]

pub with_in : (T : Table) (p : ℕ) (k : BasePair) (q : ℕ) (b : BasePair) → IsMember b (pairs_of T q)
    → IsMember b (pairs_of (with_pair T p k) q)
with_in [] p k q b m = m
with_in (r ∷ T) zero k zero b m = in_left b r (k ∷ []) m
with_in (r ∷ T) zero k (suc q) b m = m
with_in (r ∷ T) (suc p) k zero b m = m
with_in (r ∷ T) (suc p) k (suc q) b m = with_in T p k q b m

pub with_there : (T : Table) (p : ℕ) (k : BasePair) → p < length T → IsMember k (pairs_of (with_pair T p k) p)
with_there [] p k l = absurd (omega arith)
with_there (r ∷ T) zero k l = in_right k r (k ∷ []) (inl refl)
with_there (r ∷ T) (suc p) k l = with_there T p k (omega arith)

with_extends : (T : Table) (p : ℕ) (k : BasePair) (q : ℕ)
    → (rest : List BasePair) × (pairs_of (with_pair T p k) q ≡ pairs_of T q ++ rest)
with_extends [] p k q = ([], sym (append-nil (pairs_of [] q)))
with_extends (r ∷ T) zero k zero = (k ∷ [], refl)
with_extends (r ∷ T) zero k (suc q) = ([], sym (append-nil (pairs_of T q)))
with_extends (r ∷ T) (suc p) k zero = ([], sym (append-nil r))
with_extends (r ∷ T) (suc p) k (suc q) = with_extends T p k q

with_distinct : (T : Table) (p : ℕ) (k : BasePair) → ((q : ℕ) → IsDistinct (pairs_of T q))
    → (¬ IsMember k (pairs_of T p)) → (q : ℕ) → IsDistinct (pairs_of (with_pair T p k) q)
with_distinct [] p k d n q = d q
with_distinct (r ∷ T) zero k d n zero = distinct_push r k (d 0) n
with_distinct (r ∷ T) zero k d n (suc q) = d (suc q)
with_distinct (r ∷ T) (suc p) k d n zero = d 0
with_distinct (r ∷ T) (suc p) k d n (suc q) = with_distinct T p k (λ i. d (suc i)) n q

with_total : (T : Table) (p : ℕ) (k : BasePair) → p < length T → total (with_pair T p k) ≡ suc (total T)
with_total [] p k l = absurd (omega arith)
with_total (r ∷ T) zero k l = let a = length-append r (k ∷ []) in let b : length (k ∷ []) ≡ 1 = refl in omega arith
with_total (r ∷ T) (suc p) k l = let a = with_total T p k (omega arith) in omega arith

with_long : (T : Table) (p : ℕ) (k : BasePair) → length (with_pair T p k) ≡ length T
with_long [] p k = refl
with_long (r ∷ T) zero k = refl
with_long (r ∷ T) (suc p) k = ap suc (with_long T p k)

module _ (ds : List Definition) (most : ℕ) (T : Table) (p : ℕ) (k : BasePair) (part : IsPartOf ds most T)
    (there : p < length T) (member : InFamily ds p k) (new : ¬ IsMember k (pairs_of T p)) where
  pub part_more : total T < most → IsPartOf ds most (with_pair T p k)
  part_more l = record {
    members = λ q b m. elim (with_out T p k q b m) [
      | inl i ↦ part.members q b i
      | inr e ↦ subst (λ z. InFamily ds z b)
          (sym e.0) (subst (InFamily ds p) (sym e.1) member)
    ];
    distinct = with_distinct T p k part.distinct new;
    few = let a = with_total T p k there in omega arith;
    long = with_long T p k ∙ part.long;
  }

  pub grown_more : IsGrown T (with_pair T p k)
  grown_more = record {
    within = λ q b m. with_in T p k q b m;
    extends = λ q. with_extends T p k q;
    more = let a = with_total T p k there in omega arith;
    same = λ e. absurd (let a = with_total T p k there in omega arith);
  }

pub count_more : (T : Table) (p : ℕ) (k : BasePair) (n : ℕ) → p < length T → n ≡ total T
    → n + 1 ≡ total (with_pair T p k)
count_more T p k n l e = let a = with_total T p k l in omega arith

pub grown_then : (A B C : Table) → IsGrown A B → IsGrown B C → IsGrown A C
grown_then A B C f g = record {
  within = λ q b m. g.within q b (f.within q b m);
  extends = λ q. let a = f.extends q in let b = g.extends q in
      (a.0 ++ b.0, b.1 ∙ (ap (λ z. z ++ b.0) a.1 ∙ append_assoc (pairs_of A q) a.0 b.0));
  more = let x = f.more in let y = g.more in omega arith;
  same = λ e. let x = f.more in let y = g.more in let c = g.same (omega arith) in c ∙ f.same (ap total (sym c) ∙ e);
}

-- ---- all entries

abbrev pub entries_from : ℕ → Table → List (ℕ × BasePair)
entries_from n [] = []
entries_from n (r ∷ T) = map (λ b. (n, b)) r ++ entries_from (suc n) T

entries_out : (n : ℕ) (T : Table) (m : ℕ × BasePair) → IsMember m (entries_from n T)
    → (i : ℕ) × (m.0 ≡ n + i) × IsMember m.1 (pairs_of T i)
entries_out n [] m i = absurd i
entries_out n (r ∷ T) m i =
    elim (in_append m (map (λ b. (n, b)) r) (entries_from (suc n) T) i) [
      | inl a ↦
          (let x = map_in (λ b. (n, b)) m r a in
          let e : n ≡ m.0 = ap (λ z. z.0) x.2 in
          let s : x.0 ≡ m.1 = ap (λ z. z.1) x.2 in
          (0, omega arith, subst (λ z. IsMember z r) s x.1))
      | inr a ↦ (let x = entries_out (suc n) T m a in let e = x.1 in (suc x.0, omega arith, x.2))
    ]

entries_in : (n : ℕ) (T : Table) (i : ℕ) (b : BasePair) → IsMember b (pairs_of T i)
    → IsMember {X = ℕ × BasePair} (n + i, b) (entries_from n T)
entries_in n [] i b m = absurd m
entries_in n (r ∷ T) zero b m = let e : n + 0 ≡ n = omega arith in
    in_left {X = ℕ × BasePair} (n + 0, b) (map (λ b. (n, b)) r) (entries_from (suc n) T)
    (subst (λ z. IsMember {X = ℕ × BasePair} (z, b) (map (λ b. (n, b)) r)) (sym e) (in_map (λ b. (n, b)) b r m))
entries_in n (r ∷ T) (suc i) b m = let e : n + suc i ≡ suc n + i = omega arith in
    in_right {X = ℕ × BasePair} (n + suc i, b) (map (λ b. (n, b)) r) (entries_from (suc n) T)
    (subst (λ z. IsMember {X = ℕ × BasePair} (z, b) (entries_from (suc n) T)) (sym e) (entries_in (suc n) T i b m))

entries_long : (n : ℕ) (T : Table) → length (entries_from n T) ≡ total T
entries_long n [] = refl
entries_long n (r ∷ T) =
    let a = length-append (map (λ (b : BasePair). (n, b)) r) (entries_from (suc n) T) in
    let b : length (map (λ (b : BasePair). (n, b)) r) ≡ length r = length-map r (λ (b : BasePair). (n, b)) in
    let c = entries_long (suc n) T in a ∙ ((λ i. b i + length (entries_from (suc n) T)) ∙ ap (λ z. length r + z) c)

distinct_both : {X : Type 0} (xs ys : List X) → IsDistinct xs → IsDistinct ys
    → ((x : X) → IsMember x xs → IsMember x ys → ⊥) → IsDistinct (xs ++ ys)
distinct_both [] ys a b n = b
distinct_both (x ∷ xs) ys a b n = (
  λ m. elim (in_append x xs ys m) [ inl i ↦ a.0 i | inr j ↦ n x (inl refl) j ],
  distinct_both xs ys a.1 b (λ z i j. n z (inr i) j),
)

distinct_map : (n : ℕ) (r : List BasePair) → IsDistinct r → IsDistinct {X = ℕ × BasePair} (map (λ b. (n, b)) r)
distinct_map n [] d = tt
distinct_map n (b ∷ r) d = (
  λ m. let x = map_in {Y = ℕ × BasePair} (λ b. (n, b)) (n, b) r m in
      d.0 (subst (λ z. IsMember z r) (ap (λ z. z.1) x.2) x.1),
  distinct_map n r d.1,
)

entries_distinct : (n : ℕ) (T : Table) → ((q : ℕ) → IsDistinct (pairs_of T q)) → IsDistinct (entries_from n T)
entries_distinct n [] d = tt
entries_distinct n (r ∷ T) d = distinct_both (map (λ b. (n, b)) r) (entries_from (suc n) T) (distinct_map n r (d 0))
    (entries_distinct (suc n) T (λ q. d (suc q))) (λ m i j. let x = map_in (λ b. (n, b)) m r i in
    let y = entries_out (suc n) T m j in let e : n ≡ m.0 = ap (λ z. z.0) x.2 in let f = y.1 in omega arith)

-- one more than the most
pub too_many : (ds : List Definition) (most : ℕ) (T : Table) (p : ℕ) (k : BasePair) → IsPartOf ds most T
    → InFamily ds p k → (¬ IsMember k (pairs_of T p)) → most ≤ total T → HasMoreThan ds most
too_many ds most T p k part member new l = record {
  list = (p, k) ∷ entries_from 0 T;
  are = record {
    distinct = (
      (λ m. let x = entries_out 0 T (p, k) m in let e : x.0 ≡ p = (let f = x.1 in omega arith) in
          new (subst (λ z. IsMember k (pairs_of T z)) e x.2)),
      entries_distinct 0 T part.distinct,
    );
    members = (
      member,
      at_each (λ m. InFamily ds m.0 m.1) (entries_from 0 T)
          (λ m i. let x = entries_out 0 T m i in let e : x.0 ≡ m.0 = (let f = x.1 in omega arith) in
          subst (λ z. InFamily ds z m.1) e (part.members x.0 m.1 x.2)),
    );
  };
  more = let a = entries_long 0 T in omega arith;
}

-- a table with the whole family bounds its members
pub has_at_most : (ds : List Definition) (most : ℕ) (T : Table)
    → ((p : ℕ) (b : BasePair) → InFamily ds p b → IsMember b (pairs_of T p)) → total T ≤ most → HasAtMost ds most
has_at_most ds most T every l =
    at_most ds (entries_from 0 T) most (λ p b i. let e : 0 + p ≡ p = omega arith in
    subst (λ z. IsMember {X = ℕ × BasePair} (z, b) (entries_from 0 T)) e (entries_in 0 T p b (every p b i)))
    (let a = entries_long 0 T in omega arith)

pub added_new : (old new : Table) (p : ℕ) (k : BasePair) (b : Bool) → b ≡ true → IsAddedTo old new p k b
    → (¬ IsMember k (pairs_of old p)) × (new ≡ with_pair old p k)
added_new old new p k true e a = a
added_new old new p k false e a = absurd (both_ways false refl e)

-- ---- whole rounds

pub at_member : {X : Type 0} (xs : List X) (i : ℕ) (x : X) → i < length xs → get_or xs i x ≡ x → IsMember x xs
at_member [] i x l e = absurd (omega arith)
at_member (y ∷ xs) zero x l e = inl e
at_member (y ∷ xs) (suc i) x l e = inr (at_member xs i x (omega arith) e)

pub grown_self : (T : Table) → IsGrown T T
grown_self T = record {
  within = λ p b m. m;
  extends = λ p. ([], sym (append-nil (pairs_of T p)));
  more = omega arith;
  same = λ e. refl;
}

-- what a case gives with the family is in the family
pub case_sound : (ds : List Definition) (p : ℕ) (k : ℕ) (a : SymbolicHeap) → k ≡ arity_of ds p
    → IsMember a (cases_of ds p) → (b : BasePair) → CaseGives (InFamily ds) k b a → InFamily ds p b
case_sound ds p k a e m b g = family_closed ds p b
    (one_in (CaseGives (InFamily ds) (arity_of ds p) b) (cases_of ds p) a m
    (subst (λ z. CaseGives (InFamily ds) z b a) e g))

pub below_or : (p q : ℕ) → p < q + 1 → (p < q) ⊎ (p ≡ q)
below_or zero zero l = inr refl
below_or zero (suc q) l = inl (omega arith)
below_or (suc p) zero l = absurd (omega arith)
below_or (suc p) (suc q) l = elim (below_or p q (omega arith)) [ inl a ↦ inl (omega arith) | inr e ↦ inr (ap suc e) ]

pub cases_below : (p n : ℕ) → (p < n) ⊎ (n ≤ p)
cases_below p zero = inr (omega arith)
cases_below zero (suc n) = inl (omega arith)
cases_below (suc p) (suc n) = elim (cases_below p n) [ inl l ↦ inl (omega arith) | inr g ↦ inr (omega arith) ]

no_cases : (ds : List Definition) (p : ℕ) (P : SymbolicHeap → Type 0) → length ds ≤ p → OneOf P (cases_of ds p) → ⊥
no_cases [] p P l o = o
no_cases (d ∷ ds) zero P l o = absurd (omega arith)
no_cases (d ∷ ds) (suc p) P l o = no_cases ds p P (omega arith) o

-- a round that adds nothing: the table is the family
pub finished : (ds : List Definition) (most : ℕ) (old new : Table) → IsPartOf ds most new → IsGrown old new
    → total new ≡ total old → ((p : ℕ) → p < length ds → HasAllGiven old new p (arity_of ds p) (cases_of ds p))
    → IsTable ds new × HasAtMost ds most
finished ds most old new part grown e given =
    let same = grown.same e in
    let is : IsTable ds new = closed_table ds new part.members (λ p b o. elim (cases_below p (length ds)) [
      | inl l ↦ given p l b (subst (λ z. OneOf (CaseGives (in_table z) (arity_of ds p) b) (cases_of ds p)) same o)
      | inr g ↦ absurd (no_cases ds p (CaseGives (in_table new) (arity_of ds p) b) g o)
    ]) in
    (is, has_at_most ds most new (λ p b i. (is p b).1 i) part.few)

-- nor is a case large
pub finished_small : (ds : List Definition) (states : ℕ) (old new : Table) → IsTable ds new → IsGrown old new
    → total new ≡ total old → ¬ HasLargeCase ds states (in_table old) → ¬ HasLargeCase ds states (InFamily ds)
finished_small ds states old new is grown e small h =
    small (subst (λ z. HasLargeCase ds states (in_table z)) (grown.same e)
    (cases_within (InFamily ds) (in_table new) (λ p b i. (is p b).1 i) ds states h))

-- nothing at the start
empty_row : (n p : ℕ) (b : BasePair) → IsMember b (pairs_of (replicate n []) p) → ⊥
empty_row zero p b m = m
empty_row (suc n) zero b m = m
empty_row (suc n) (suc p) b m = empty_row n p b m

empty_distinct : (n p : ℕ) → IsDistinct (pairs_of (replicate n []) p)
empty_distinct zero p = tt
empty_distinct (suc n) zero = tt
empty_distinct (suc n) (suc p) = empty_distinct n p

empty_total : (n : ℕ) → total (replicate n []) ≡ 0
empty_total zero = refl
empty_total (suc n) = let z : 0 + total (replicate n []) ≡ total (replicate n []) = omega arith in z ∙ empty_total n

empty_long : (n : ℕ) → length (replicate {A = List BasePair} n []) ≡ n
empty_long zero = refl
empty_long (suc n) = ap suc (empty_long n)

pub empty_part : (ds : List Definition) (most : ℕ) (T : Table) → T ≡ replicate (length ds) [] → IsPartOf ds most T
empty_part ds most T e = subst (IsPartOf ds most) (sym e) (record {
  members = λ p b m. absurd (empty_row (length ds) p b m);
  distinct = empty_distinct (length ds);
  few = let z = empty_total (length ds) in omega arith;
  long = empty_long (length ds);
})

pub empty_count : (n : ℕ) (T : Table) → T ≡ replicate n [] → 0 ≡ total T
empty_count n T e = sym (ap total e ∙ empty_total n)

pub states_fault : (f : StatesFault) → pair_fault_of f ≡ faults.TooManyStates → f ≡ TooManyStates
states_fault TooManyStates e = refl
states_fault OutOfMemory e = absurd (let g : faults.OutOfMemory ≡ faults.TooManyStates = e in cc)

-- a large case of a predicate
pub large_there : (ds : List Definition) (states p k : ℕ) (a : SymbolicHeap) → k ≡ arity_of ds p
    → IsMember a (cases_of ds p) → IsLarge states (InFamily ds) k a → HasLargeCase ds states (InFamily ds)
large_there ds states p k a e m l = (
  p,
  one_in (IsLarge states (InFamily ds) (arity_of ds p)) (cases_of ds p) a m
      (subst (λ z. IsLarge states (InFamily ds) z a) e l),
)

-- no case of any predicate is large
pub none_large : (ds : List Definition) (states : ℕ) (T : Table)
    → ((p : ℕ) → p < length ds → ¬ OneOf (IsLarge states (in_table T) (arity_of ds p)) (cases_of ds p))
    → ¬ HasLargeCase ds states (in_table T)
none_large ds states T none h =
    elim (cases_below h.0 (length ds)) [
      | inl l ↦ none h.0 l h.1
      | inr g ↦ no_cases ds h.0 (IsLarge states (in_table T) (arity_of ds h.0)) g h.1
    ]

pub arity_read : (ds : List Definition) (p : ℕ) (d : Definition) → p < length ds → (get_or ds p d).arity ≡ arity_of ds p
arity_read [] p d l = absurd (omega arith)
arity_read (x ∷ ds) zero d l = refl
arity_read (x ∷ ds) (suc p) d l = arity_read ds p d (omega arith)
