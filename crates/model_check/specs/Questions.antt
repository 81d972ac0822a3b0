-- A question: whether a predicate holds of values, and in which parts of the heap.
use Rattle.std.specs.Prelude.{◌≡◌, ℕ, List, Bool, true, ◌++◌, ◌&&◌, nat_eq, refl}
use Rattle.std.proofs.Common.{subst, ap}
use Rattle.std.proofs.lemmas.Bool.{and_parts, and_from, eqb-true, eq-eqb}
use Rattle.std.specs.Bool.{Decides}
use Rattle.std.specs.Cmp.{IsPartialEquivalence, IsEquivalence, decided, partial_equiv_from_equiv}
use Rattle.std.specs.Cmp.Lexicographic.{pointwise}
use Rattle.std.specs.Hash as fed
use Rattle.std.specs.Hash.{HashWrites}
use Rattle.cyc_basics.proofs.Tests.{pointwise_is, pointwise_self}

pub record Question : Type 0 where
  pub predicate : ℕ
  pub values : List ℕ

abbrev pub question_eq : Question → Question → Bool
question_eq a b = nat_eq a.predicate b.predicate && pointwise nat_eq a.values b.values

-- lists that `==` takes for equal are one list
pub lists_decide : (xs ys : List ℕ) → Decides (pointwise nat_eq xs ys) (xs ≡ ys)
lists_decide xs ys = (
  pointwise_is nat_eq (λ x y. eqb-true x y) xs ys,
  λ e.
      subst (λ zs. pointwise nat_eq xs zs ≡ true) e (pointwise_self nat_eq (λ x. eq-eqb x x refl) xs),
)

pub question_same : (a b : Question) → question_eq a b ≡ true → a ≡ b
question_same a b h =
    let p = and_parts (nat_eq a.predicate b.predicate) (pointwise nat_eq a.values b.values) h in
    let e : a.predicate ≡ b.predicate = eqb-true a.predicate b.predicate p.0 in
    let f = pointwise_is nat_eq (λ x y. eqb-true x y) a.values b.values p.1 in
    λ i. record { predicate = e i; values = f i }

pub question_refl : (a : Question) → question_eq a a ≡ true
question_refl a = and_from (nat_eq a.predicate a.predicate) (pointwise nat_eq a.values a.values)
    (eq-eqb a.predicate a.predicate refl) (pointwise_self nat_eq (λ x. eq-eqb x x refl) a.values)

question_decides : (a b : Question) → Decides (question_eq a b) (a ≡ b)
question_decides a b = (question_same a b, λ e. subst (λ z. question_eq a z ≡ true) e (question_refl a))

pub question_equiv : IsEquivalence question_eq
question_equiv = decided question_eq question_decides

pub question_per : IsPartialEquivalence question_eq
question_per = partial_equiv_from_equiv question_equiv

-- ---- what `hash` feeds

abbrev pub question_writes : Question → HashWrites
question_writes q = fed.u16 q.predicate ++ fed.slice fed.u64 q.values

pub question_alike : (a b : Question) → question_eq a b ≡ true → question_writes a ≡ question_writes b
question_alike a b h = ap question_writes (question_same a b h)

-- ---- the same of lists of words

pub lists_equiv : IsEquivalence (pointwise nat_eq)
lists_equiv = decided (pointwise nat_eq) lists_decide

pub lists_per : IsPartialEquivalence (pointwise nat_eq)
lists_per = partial_equiv_from_equiv lists_equiv

abbrev pub list_writes : List ℕ → HashWrites
list_writes xs = fed.slice fed.u64 xs

pub lists_alike : (xs ys : List ℕ) → pointwise nat_eq xs ys ≡ true → list_writes xs ≡ list_writes ys
lists_alike xs ys h = ap list_writes (pointwise_is nat_eq (λ x y. eqb-true x y) xs ys h)
