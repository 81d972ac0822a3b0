-- What is known stays without a contradiction where a pair, a cell or a variable comes in, and where two classes that
-- nothing keeps apart become one.
use Rattle.std.proofs.Common.{◌≡◌, ℕ, zero, suc, ◌<◌, ◌≤◌, ◌+◌, ◌⊎◌, inl, inr, arith, List, [], ◌∷◌, ◌++◌, length}
use Rattle.std.proofs.Common.{Option, Some, None, slice_get, set, length-append, length-set, sym, refl, ap, subst, ◌∙◌}
use Rattle.std.proofs.lemmas.Option.{slice_get_within, slice_get_past, none-some}
use Rattle.std.proofs.lemmas.Bool.{cases_Bool, cases_eq, cases_lt, true≢false}
use Rattle.cyc_basics.proofs.Places.{get_append_left, get_end, get_within}
use Rattle.heap_formula.specs.contracts.terms.TermPartialEq.TheImpl.{eq-value as term_eq}
use Rattle.heap_formula.proofs.Equal.{term_eq-Decides}
use Rattle.heap_formula.specs.declared.terms.Term.{Term}
use Rattle.heap_formula.specs.declared.terms.Term.TheVariants.{Nil, Univ, Exist}
use Rattle.refute_unfoldings.specs.declared.unfolding.SymbolicCell.{SymbolicCell}
use Rattle.refute_unfoldings.specs.Consistency.{Known, IsConsistent, AreReplaced, class_in, AreTwo, AreApart, HasCell}
use Rattle.refute_unfoldings.specs.Consistency.{MustDiffer}

-- what stands in a list with one more at its end
pub at_end : {X : Type 0} (xs : List X) (x : X) (i : ℕ) (z : X) → slice_get (xs ++ x ∷ []) i ≡ Some z
    → (slice_get xs i ≡ Some z) ⊎ ((i ≡ length xs) × (z ≡ x))
at_end [] x zero z h = inr (refl, cc)
at_end [] x (suc i) z h = absurd (none-some z h)
at_end (y ∷ xs) x zero z h = inl h
at_end (y ∷ xs) x (suc i) z h =
    elim (at_end xs x i z h) [ inl a ↦ inl a | inr b ↦ inr (ap suc b.0, b.1) ]

-- ---- a pair that is to differ

pub pair_added : (k : Known) (t u : Term) → IsConsistent k → AreTwo k.classes t u
    → IsConsistent (record { classes = k.classes; cells = k.cells; apart = k.apart ++ (t, u) ∷ [] })
pair_added k t u is two =
    record {
      apart = λ i pair at.
          elim (at_end k.apart (t, u) i pair at) [
            | inl a ↦ is.apart i pair a
            | inr b ↦ subst (λ (p : Term × Term). AreTwo k.classes p.0 p.1) (sym b.1) two
          ];
      placed = is.placed;
      distinct = is.distinct;
    }

-- ---- a cell

pub cell_added : (k : Known) (c : SymbolicCell) → IsConsistent k → AreTwo k.classes Nil c.address
    → (HasCell k (class_in k.classes c.address) → ⊥)
    → IsConsistent (record { classes = k.classes; cells = k.cells ++ c ∷ []; apart = k.apart })
cell_added k c is placed free =
    record {
      apart = is.apart;
      placed = λ i d at.
          elim (at_end k.cells c i d at) [
            | inl a ↦ is.placed i d a
            | inr b ↦ subst (λ (x : SymbolicCell). AreTwo k.classes Nil x.address) (sym b.1) placed
          ];
      distinct = λ i j d e below at_i at_j.
          elim (at_end k.cells c j e at_j) [
            | inl a ↦
                elim (at_end k.cells c i d at_i) [
                  | inl a' ↦ is.distinct i j d e below a' a
                  | inr b' ↦ (let within = slice_get_within k.cells j e a in absurd (omega arith))
                ]
            | inr b ↦
                elim (at_end k.cells c i d at_i) [
                  | inl a' ↦ λ same. free (
                    i,
                    d,
                    a',
                    subst (λ (x : SymbolicCell). class_in k.classes d.address
                        ≡ class_in k.classes x.address) b.1 same,
                  )
                  | inr b' ↦ absurd (omega arith)
                ]
          ];
    }

-- ---- a variable

abbrev entry : ℕ → Option Term → Term
entry m o = elim o [ None ↦ Univ m | Some t ↦ t ]

entry_grows : (classes : List Term) (n m : ℕ) → n ≡ length classes → (found : Option Term) → slice_get classes m ≡ found
    → entry m (slice_get (classes ++ Univ n ∷ []) m) ≡ entry m found
entry_grows classes n m e (Some t) at = ap (entry m) (get_append_left classes (Univ n ∷ []) m t at)
entry_grows classes n m e None at =
    elim (cases_lt m (length classes)) [
      | inl below ↦ (let found = get_within classes m below in absurd (none-some found.0 (sym at ∙ found.1)))
      | inr above ↦ at_or_past above (cases_lt (length classes) m)
    ]
  where
    at_or_past : length classes ≤ m → ((length classes < m) ⊎ (m ≤ length classes))
        → entry m (slice_get (classes ++ Univ n ∷ []) m) ≡ Univ m
    at_or_past above (inl past) = (let none : slice_get (classes ++ Univ n ∷ []) m
        ≡ None = slice_get_past (classes ++ Univ n ∷ []) m (let longer = length-append classes (Univ n ∷ []) in
        omega arith) in ap (entry m) none)
    at_or_past above (inr here) =
        (let same : m ≡ length classes = omega arith in
        let found : slice_get (classes ++ Univ n ∷ []) m
        ≡ Some (Univ n) = subst (λ (i : ℕ). slice_get (classes ++ Univ n ∷ []) i ≡ Some (Univ n)) (sym same)
        (get_end classes (Univ n)) in
        ap (entry m) found ∙ ap Univ (e ∙ sym same))

pub same_class : (classes : List Term) (n : ℕ) (t : Term) → n ≡ length classes
    → class_in (classes ++ Univ n ∷ []) t ≡ class_in classes t
same_class classes n Nil e = refl
same_class classes n (Exist m) e = refl
same_class classes n (Univ m) e = entry_grows classes n m e (slice_get classes m) refl

two_grow : (classes : List Term) (n : ℕ) (t u : Term) → n ≡ length classes → AreTwo classes t u
    → AreTwo (classes ++ Univ n ∷ []) t u
two_grow classes n t u e two = λ same. two (sym (same_class classes n t e) ∙ same ∙ same_class classes n u e)

pub variable_added : (k : Known) (n : ℕ) → n ≡ length k.classes → IsConsistent k
    → IsConsistent (record { classes = k.classes ++ Univ n ∷ []; cells = k.cells; apart = k.apart })
variable_added k n e is =
    record {
      apart = λ i pair at. two_grow k.classes n pair.0 pair.1 e (is.apart i pair at);
      placed = λ i c at. two_grow k.classes n Nil c.address e (is.placed i c at);
      distinct = λ i j c d below at_i at_j. two_grow k.classes n c.address d.address e
          (is.distinct i j c d below at_i at_j);
    }

-- ---- two classes become one

set_same : {X : Type 0} (xs : List X) (n : ℕ) (x : X) → n < length xs → slice_get (set xs n x) n ≡ Some x
set_same [] n x h = absurd (omega arith)
set_same (y ∷ xs) zero x h = refl
set_same (y ∷ xs) (suc n) x h = set_same xs n x (omega arith)

set_other : {X : Type 0} (xs : List X) (n i : ℕ) (x : X) → (i ≡ n → ⊥) → slice_get (set xs n x) i ≡ slice_get xs i
set_other [] n i x other = refl
set_other (y ∷ xs) zero zero x other = absurd (other refl)
set_other (y ∷ xs) zero (suc i) x other = refl
set_other (y ∷ xs) (suc n) zero x other = refl
set_other (y ∷ xs) (suc n) (suc i) x other = set_other xs n i x (λ e. other (ap suc e))

-- what stands in the place of a class
abbrev pub IsNow : Term → Term → Term → Option Term → Type 0
IsNow gone kept c found = (c ≡ gone → found ≡ Some kept) × ((c ≡ gone → ⊥) → found ≡ Some c)

-- the first n places are done
abbrev pub AreSoFar : Term → Term → List Term → List Term → ℕ → Type 0
AreSoFar gone kept from to n =
    (length to ≡ length from)
    × ((i : ℕ) (c : Term) → slice_get from i ≡ Some c
    → (n ≤ i → slice_get to i ≡ Some c) × (i < n → IsNow gone kept c (slice_get to i)))

some_is : (a b : Term) → Some a ≡ Some b → a ≡ b
some_is a b e = cc

pub one_replaced : (gone kept : Term) (from to : List Term) (n : ℕ) (x : Term) → AreSoFar gone kept from to n
    → slice_get to n ≡ Some x → x ≡ gone
    → AreSoFar gone kept from (set to n kept) (n + 1)
one_replaced gone kept from to n x done at same = (length-set to n kept ∙ done.0, places)
  where
    within : n < length to
    within = slice_get_within to n x at

    places : (i : ℕ) (c : Term) → slice_get from i ≡ Some c
        → (n + 1 ≤ i → slice_get (set to n kept) i ≡ Some c)
        × (i < n + 1 → IsNow gone kept c (slice_get (set to n kept) i))
    places i c c_at =
        elim (cases_eq i n) [
          | inl here ↦
              (let now : slice_get (set to n kept) i
              ≡ Some kept = subst (λ (k : ℕ). slice_get (set to n kept) k ≡ Some kept) (sym here)
              (set_same to n kept within) in
              let was : slice_get to i ≡ Some c = (done.1 i c c_at).0 (omega arith) in
              let is : c ≡ gone = some_is c x (sym was ∙ ap (slice_get to) here ∙ at) ∙ same in
              (λ past. absurd (omega arith), λ below. (λ e. now, λ other. absurd (other is))))
          | inr elsewhere ↦
              (let kept_at = set_other to n i kept elsewhere in (
                λ past. kept_at ∙ (done.1 i c c_at).0 (omega arith),
                λ below. (
                  λ e. kept_at ∙ ((done.1 i c c_at).1 (omega arith)).0 e,
                  λ other. kept_at
                      ∙ ((done.1 i c c_at).1 (omega arith)).1 other,
                ),
              ))
        ]

pub one_left : (gone kept : Term) (from to : List Term) (n : ℕ) (x : Term) → AreSoFar gone kept from to n
    → slice_get to n ≡ Some x → (x ≡ gone → ⊥) → AreSoFar gone kept from to (n + 1)
one_left gone kept from to n x done at other = (done.0, places)
  where
    places : (i : ℕ) (c : Term) → slice_get from i ≡ Some c
        → (n + 1 ≤ i → slice_get to i ≡ Some c) × (i < n + 1 → IsNow gone kept c (slice_get to i))
    places i c c_at =
        elim (cases_eq i n) [
          | inl here ↦
              (let was : slice_get to i ≡ Some c = (done.1 i c c_at).0 (omega arith) in
              let is : c ≡ x = some_is c x (sym was ∙ ap (slice_get to) here ∙ at) in
              (λ past. was, λ below. (λ e. absurd (other (sym is ∙ e)), λ e. was)))
          | inr elsewhere ↦ (λ past. (done.1 i c c_at).0 (omega arith), λ below. (done.1 i c c_at).1 (omega arith))
        ]

pub all_replaced : (gone kept : Term) (from to : List Term) (n : ℕ) → AreSoFar gone kept from to n → length to ≤ n
    → AreReplaced gone kept from to
all_replaced gone kept from to n done end = (
  done.0,
  λ i c at. (let within = slice_get_within from i c at in let same = done.0 in
      (done.1 i c at).1 (omega arith)),
)

pub none_replaced : (gone kept : Term) (from to : List Term) → to ≡ from → AreSoFar gone kept from to 0
none_replaced gone kept from to same = (
  ap length same,
  λ i c at.
      (λ past. ap (λ xs. slice_get xs i) same ∙ at, λ below. absurd (omega arith)),
)

pub same_or_not : (a b : Term) → (a ≡ b) ⊎ (a ≡ b → ⊥)
same_or_not a b =
    let d = term_eq-Decides a b in
    elim (cases_Bool (term_eq.it a b)) [
      | inl is ↦ inl (d.0 is)
      | inr is ↦ inr (λ same. true≢false (sym (d.1 same) ∙ is))
    ]

past_none : (xs : List Term) (m : ℕ) → slice_get xs m ≡ None → length xs ≤ m
past_none xs m none =
    elim (cases_lt m (length xs)) [
      | inl below ↦ (let found = get_within xs m below in absurd (none-some found.0 (sym none ∙ found.1)))
      | inr above ↦ above
    ]

-- what the class of a term comes to
abbrev Comes : Term → Term → List Term → List Term → Term → Type 0
Comes gone kept from to t = (class_in to t ≡ class_in from t) ⊎ ((class_in from t ≡ gone) × (class_in to t ≡ kept))

entry_comes : (gone kept : Term) (from to : List Term) (m : ℕ) → AreReplaced gone kept from to → (found : Option Term)
    → slice_get from m ≡ found
    → (entry m (slice_get to m) ≡ entry m found) ⊎ ((entry m found ≡ gone) × (entry m (slice_get to m) ≡ kept))
entry_comes gone kept from to m r None at =
    inl (ap (entry m) (slice_get_past to m (let outside = past_none from m at in let same = r.0 in omega arith)))
entry_comes gone kept from to m r (Some c) at =
    elim (same_or_not c gone) [
      | inl same ↦ inr (same, ap (entry m) ((r.1 m c at).0 same))
      | inr other ↦ inl (ap (entry m) ((r.1 m c at).1 other))
    ]

comes : (gone kept : Term) (from to : List Term) (t : Term) → AreReplaced gone kept from to → Comes gone kept from to t
comes gone kept from to Nil r = inl refl
comes gone kept from to (Exist m) r = inl refl
comes gone kept from to (Univ m) r = entry_comes gone kept from to m r (slice_get from m) refl

-- two terms stay apart unless the one is of the class that goes, and the other of the one that comes
stay_two : (gone kept : Term) (from to : List Term) (x y : Term) → AreReplaced gone kept from to → AreTwo from x y
    → (class_in from x ≡ gone → class_in from y ≡ kept → ⊥) → (class_in from x ≡ kept → class_in from y ≡ gone → ⊥)
    → AreTwo to x y
stay_two gone kept from to x y r two one other =
    λ same.
    elim (comes gone kept from to x r) [
      | inl a ↦
          elim (comes gone kept from to y r) [
            | inl b ↦ two (sym a ∙ same ∙ b)
            | inr b ↦ other (sym a ∙ same ∙ b.1) b.0
          ]
      | inr a ↦
          elim (comes gone kept from to y r) [
            | inl b ↦ one a.0 (sym b ∙ sym same ∙ a.1)
            | inr b ↦ two (a.0 ∙ sym b.0)
          ]
    ]

-- what may not be joined: a pair that is to differ, or two places where something stands
abbrev pub IsKeptFrom : Known → Term → Term → Type 0
IsKeptFrom k a b = AreApart k a b ⊎ (((a ≡ Nil) ⊎ HasCell k a) × ((b ≡ Nil) ⊎ HasCell k b))

turned : (k : Known) (a b : Term) → IsKeptFrom k a b → IsKeptFrom k b a
turned k a b (inl apart) = inl (apart.0, apart.1, apart.2, elim apart.3 [ inl x ↦ inr x | inr x ↦ inl x ])
turned k a b (inr placed) = inr (placed.1, placed.0)

pub joined : (k : Known) (gone kept : Term) (to : List Term) → (IsKeptFrom k gone kept → ⊥) → IsConsistent k
    → AreReplaced gone kept k.classes to
    → IsConsistent (record { classes = to; cells = k.cells; apart = k.apart })
joined k gone kept to free is r =
    record {
      apart = λ i pair at.
          stay_two gone kept k.classes to pair.0 pair.1 r (is.apart i pair at)
          (λ a b. free (inl (i, pair, at, inl (a, b))))
          (λ a b. free (inl (i, pair, at, inr (a, b))));
      placed = λ i c at.
          stay_two gone kept k.classes to Nil c.address r (is.placed i c at)
          (λ a b. free (inr (inl (sym a), inr (i, c, at, b))))
          (λ a b. free (inr (inr (i, c, at, b), inl (sym a))));
      distinct = λ i j c d below at_i at_j.
          stay_two gone kept k.classes to c.address d.address r (is.distinct i j c d below at_i at_j)
          (λ a b. free (inr (inr (i, c, at_i, a), inr (j, d, at_j, b))))
          (λ a b. free (inr (inr (j, d, at_j, b), inr (i, c, at_i, a))));
    }

-- nothing changes where a class takes its own place
unchanged : (k : Known) (gone kept : Term) (to : List Term) → gone ≡ kept → IsConsistent k
    → AreReplaced gone kept k.classes to
    → IsConsistent (record { classes = to; cells = k.cells; apart = k.apart })
unchanged k gone kept to same is r =
    record {
      apart = λ i pair at. still pair.0 pair.1 (is.apart i pair at);
      placed = λ i c at. still Nil c.address (is.placed i c at);
      distinct = λ i j c d below at_i at_j. still c.address d.address (is.distinct i j c d below at_i at_j);
    }
  where
    stays : (t : Term) → class_in to t ≡ class_in k.classes t
    stays t = elim (comes gone kept k.classes to t r) [ inl a ↦ a | inr b ↦ b.1 ∙ sym same ∙ sym b.0 ]

    still : (x y : Term) → AreTwo k.classes x y → AreTwo to x y
    still x y two = λ e. two (sym (stays x) ∙ e ∙ stays y)

-- the classes of two terms that nothing keeps apart become one
pub equated : (k : Known) (t u : Term) (to : List Term) → (MustDiffer k t u → ⊥) → IsConsistent k
    → AreReplaced (class_in k.classes u) (class_in k.classes t) k.classes to
    → IsConsistent (record { classes = to; cells = k.cells; apart = k.apart })
equated k t u to free is r = elim (same_or_not (class_in k.classes u) (class_in k.classes t)) [
  | inl same ↦ unchanged k (class_in k.classes u) (class_in k.classes t) to same is r
  | inr other ↦ joined k (class_in k.classes u) (class_in k.classes t) to
      (λ kept. free (λ e. other (sym e), turned k (class_in k.classes u) (class_in k.classes t) kept)) is r
]

pub equated_back : (k : Known) (t u : Term) (to : List Term) → (MustDiffer k t u → ⊥) → IsConsistent k
    → AreReplaced (class_in k.classes t) (class_in k.classes u) k.classes to
    → IsConsistent (record { classes = to; cells = k.cells; apart = k.apart })
equated_back k t u to free is r = elim (same_or_not (class_in k.classes t) (class_in k.classes u)) [
  | inl same ↦ unchanged k (class_in k.classes t) (class_in k.classes u) to same is r
  | inr other ↦ joined k (class_in k.classes t) (class_in k.classes u) to (λ kept. free (other, kept)) is r
]
