-- A flag that is set is that of a variable that stands in what was gone through.
use Rattle.std.proofs.Common.{◌≡◌, ℕ, Bool, true, false, cond, ◌<◌, ◌≤◌, List, [], ◌∷◌, length, refl, sym, ap, ◌∙◌}
use Rattle.std.proofs.Common.{subst, arith, get_or-set_same, get_or-set_other}
use Rattle.std.specs.Prelude.{◌||◌, nat_eq, nat_lt, replicate, slice_set, Result, Ok, Err, IfOk}
use Rattle.std.specs.List.{list_any}
use Rattle.std.proofs.Math.Bool.{or-false}
use Rattle.std.proofs.lemmas.Bool.{eqb-true, eqb-false, ltb-true, ltb-false}
use Rattle.std.proofs.lemmas.List.{length-set, length-replicate, get_or-replicate}
use Rattle.std.proofs.lemmas.Option.{unwrap_or-slice_get}
use Rattle.heap_formula.specs.declared.terms.Term.{Term}
use Rattle.heap_formula.specs.declared.terms.Term.TheVariants.{Nil, Univ, Exist}
use Rattle.heap_formula.specs.declared.atoms.Pure.{Pure}
use Rattle.heap_formula.specs.declared.atoms.Pure.TheVariants.{Eq, Neq}
use Rattle.heap_formula.specs.declared.atoms.Spatial.{Spatial}
use Rattle.heap_formula.specs.declared.atoms.Spatial.TheVariants.{Cell, Pred}
use Rattle.heap_formula.specs.declared.judgements.Judgement.{Judgement}
use Rattle.heap_formula.specs.declared.judgements.Judgement.TheVariants.{Entail, Term as Runs}
use Rattle.heap_formula.specs.Symbolic.{SymbolicHeap}
use Rattle.rule_table.specs.Tests.{same_term}
use Rattle.back_links.specs.Listing.{is_one_of, stands_in_pure, stands_in_spatial, stands_in_heap, stands_in}
use Rattle.proof_picture.specs.Kept.{flag}
use Rattle.proof_picture.specs.Marks.{marked, marked_terms, marked_pure, marked_pures, marked_spatial, marked_spatials}
use Rattle.proof_picture.specs.Marks.{marked_heap, marked_heaps, marked_judgement}

-- the flags that f sets are those of the numbers that pass the test
record Marks (f : List Bool → List Bool) (test : ℕ → Bool) : Type 0 where
  size : (flags : List Bool) → length (f flags) ≡ length flags
  set : (flags : List Bool) (n : ℕ) → n < length flags → flag (f flags) n ≡ (flag flags n || test n)

or-assoc : (a b c : Bool) → ((a || b) || c) ≡ (a || (b || c))
or-assoc true b c = refl
or-assoc false b c = refl

or-true : (a : Bool) → (a || true) ≡ true
or-true true = refl
or-true false = refl

marks-none : Marks (λ flags. flags) (λ n. false)
marks-none = record { size = λ flags. refl; set = λ flags n h. sym (or-false (flag flags n)) }

marks-then : {f g : List Bool → List Bool} {p q : ℕ → Bool} → Marks f p → Marks g q
    → Marks (λ flags. g (f flags)) (λ n. p n || q n)
marks-then {f = f} {g = g} {p = p} {q = q} a b = record {
  size = λ flags. b.size (f flags) ∙ a.size flags;
  set = λ flags n h.
      let within : n < length (f flags) = subst (λ (k : ℕ). n < k) (sym (a.size flags)) h in
      b.set (f flags) n within ∙ (ap (λ x. x || q n) (a.set flags n h) ∙ or-assoc (flag flags n) (p n) (q n));
}

marks-same : {f : List Bool → List Bool} {p q : ℕ → Bool} → Marks f p → ((n : ℕ) → p n ≡ q n) → Marks f q
marks-same a same = record { size = a.size; set = λ flags n h. a.set flags n h ∙ ap (λ x. flag flags n || x) (same n) }

-- ---- one term

set-flag : (flags : List Bool) (m n : ℕ) → m < length flags → (b : Bool) → nat_eq m n ≡ b
    → flag (slice_set flags m true) n ≡ (flag flags n || b)
set-flag flags m n within true e =
    let same : m ≡ n = eqb-true m n e in
    subst (λ (k : ℕ). flag (slice_set flags m true) k ≡ (flag flags k || true)) same
    (unwrap_or-slice_get (slice_set flags m true) m false
    ∙ (get_or-set_same flags m true false within ∙ sym (or-true (flag flags m))))
set-flag flags m n within false e =
    let other : n ≡ m → ⊥ = λ h. eqb-false m n e (sym h) in
    unwrap_or-slice_get (slice_set flags m true) n false
    ∙ (get_or-set_other flags m n true false other ∙ (sym (unwrap_or-slice_get flags n false)
    ∙ sym (or-false (flag flags n))))

univ-size : (m : ℕ) (flags : List Bool) (b : Bool) → length (cond b (slice_set flags m true) flags) ≡ length flags
univ-size m flags true = length-set flags m true
univ-size m flags false = refl

past : (flags : List Bool) (m n : ℕ) → length flags ≤ m → n < length flags → (b : Bool) → nat_eq m n ≡ b
    → flag flags n ≡ (flag flags n || b)
past flags m n above within true e = let same : m ≡ n = eqb-true m n e in absurd (omega arith)
past flags m n above within false e = sym (or-false (flag flags n))

univ-set : (m : ℕ) (flags : List Bool) (n : ℕ) → n < length flags → (b : Bool) → nat_lt m (length flags) ≡ b
    → flag (cond b (slice_set flags m true) flags) n ≡ (flag flags n || nat_eq m n)
univ-set m flags n within true e = set-flag flags m n (ltb-true m (length flags) e) (nat_eq m n) refl
univ-set m flags n within false e = past flags m n (ltb-false m (length flags) e) within (nat_eq m n) refl

marks-term : (t : Term) → Marks (λ flags. marked flags t) (λ n. same_term t (Univ n))
marks-term Nil = marks-none
marks-term (Exist m) = marks-none
marks-term (Univ m) = record {
  size = λ flags. univ-size m flags (nat_lt m (length flags));
  set = λ flags n h. univ-set m flags n h (nat_lt m (length flags)) refl;
}

-- ---- larger parts

marks-terms : (ts : List Term) → Marks (λ flags. marked_terms flags ts) (λ n. is_one_of n ts)
marks-terms [] = marks-none
marks-terms (t ∷ ts) = marks-then (marks-term t) (marks-terms ts)

marks-pure : (x : Pure) → Marks (λ flags. marked_pure flags x) (λ n. stands_in_pure n x)
marks-pure (Eq t u) = marks-then (marks-term t) (marks-term u)
marks-pure (Neq t u) = marks-then (marks-term t) (marks-term u)

marks-pures : (xs : List Pure) → Marks (λ flags. marked_pures flags xs) (λ n. list_any (stands_in_pure n) xs)
marks-pures [] = marks-none
marks-pures (x ∷ xs) = marks-then (marks-pure x) (marks-pures xs)

marks-spatial : (x : Spatial) → Marks (λ flags. marked_spatial flags x) (λ n. stands_in_spatial n x)
marks-spatial (Cell t ts) = marks-then (marks-term t) (marks-terms ts)
marks-spatial (Pred q ts) = marks-terms ts

marks-spatials : (xs : List Spatial) → Marks (λ flags. marked_spatials flags xs)
    (λ n. list_any (stands_in_spatial n) xs)
marks-spatials [] = marks-none
marks-spatials (x ∷ xs) = marks-then (marks-spatial x) (marks-spatials xs)

marks-heap : (a : SymbolicHeap) → Marks (λ flags. marked_heap flags a) (λ n. stands_in_heap n a)
marks-heap a = marks-then (marks-pures a.pure) (marks-spatials a.spatial)

marks-heaps : (hs : List SymbolicHeap) → Marks (λ flags. marked_heaps flags hs) (λ n. list_any (stands_in_heap n) hs)
marks-heaps [] = marks-none
marks-heaps (a ∷ hs) = marks-then (marks-heap a) (marks-heaps hs)

marks-judgement : (j : Judgement) → Marks (λ flags. marked_judgement flags j) (λ n. stands_in n j)
marks-judgement (Entail a bs) = marks-then (marks-heap a) (marks-heaps bs)
marks-judgement (Runs i a) = marks-same (marks-heap a) (λ n. sym (or-false (stands_in_heap n a)))

-- ---- from no flags on

no-flag : (k n : ℕ) → n < k → flag (replicate k false) n ≡ false
no-flag k n within = unwrap_or-slice_get (replicate k false) n false ∙ get_or-replicate k n false false within

standing : (j : Judgement) (count n : ℕ) → n < count
    → flag (marked_judgement (replicate count false) j) n ≡ stands_in n j
standing j count n within =
    let flags = replicate count false in
    let size : length flags ≡ count = length-replicate count false in
    let h : n < length flags = omega arith in
    (marks-judgement j).set flags n h ∙ ap (λ b. b || stands_in n j) (no-flag count n within)

pub all_standing : {V E : Type 0} (items : V → List Bool) (r : Result V E) (j : Judgement) (count : ℕ)
    → IfOk r (λ f. items f ≡ marked_judgement (replicate count false) j)
    → IfOk r (λ f. (n : ℕ) → n < count → flag (items f) n ≡ stands_in n j)
all_standing items (Ok f) j count is = λ n within. ap (λ (fs : List Bool). flag fs n) is ∙ standing j count n within
all_standing items (Err e) j count is = tt
