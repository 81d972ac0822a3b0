-- Steps of the loops that make a range.
use Rattle.std.specs.Prelude.{nat_eq, if◌then◌else◌}
use Rattle.std.specs.List.{list_any}
use Rattle.std.specs.FinMap.{entries}
use Rattle.std.proofs.Common.{◌≡◌, ℕ, zero, suc, ◌+◌, ◌<◌, ◌≤◌, List, [], ◌∷◌, ◌++◌, length, append_assoc, take, get_or}
use Rattle.std.proofs.Common.{map, Some, None, inl, inr, refl, sym, ap, ◌∙◌, subst, arith}
use Rattle.std.proofs.lemmas.Bool.{cases_lt}
use Rattle.std.proofs.lemmas.List.{take_more, length-take-le}
use Rattle.heap_formula.specs.declared.terms.Term.TheVariants.{Univ, Exist}
use Rattle.heap_formula.specs.declared.atoms.Pure.TheVariants.{Eq}
use Rattle.heap_formula.specs.Symbolic.{SymbolicHeap}
use Rattle.heap_formula.specs.Definitions.{Definition}
use Rattle.heap_formula.specs.Fresh.{heap_bound, heap_exists}
use Rattle.heap_formula.specs.Words.{Each, max_of}
use Rattle.heap_formula.specs.Cells.{Cells, cell_at}
use Rattle.heap_formula.proofs.AllMembers.{each_imply, each_last}
use Rattle.heap_formula.proofs.SomeMember.{one_front, one_last}
use Rattle.cyc_basics.specs.Words.{IsMember, tabulated}
use Rattle.model_check.proofs.OnlyLocals.{member_each}
use Rattle.model_check.proofs.PlaceLists.{inserted, covers_all}
use Rattle.general_models.specs.Ranges.{Occur, IsRange, HasFewVariables, HaveFewVariables, Takes, TakesAll, HasCell}
use Rattle.general_models.specs.Ranges.{TakesCell, TakesCells}
use Rattle.heap_formula.specs.Values.{Stack}
use Rattle.general_models.specs.RangedGrounding.{choice_atoms, opened, with_each, with_values}
use Rattle.general_models.proofs.RangedCases.{append_nil}

-- a member more, and what holds of those before still does
pub next_each : {X : Type 0} (P Q : X → Type 0) (xs : List X) (i : ℕ) (d x : X) → i < length xs → x ≡ get_or xs i d
    → ((y : X) → P y → Q y) → Q x → Each P (take i xs) → Each Q (take (i + 1) xs)
next_each P Q xs i d x l is more q e =
    subst (Each Q) (sym (take_more xs i d l)) (each_last Q (take i xs) (get_or xs i d)
    (each_imply P Q more (take i xs) e) (subst Q is q))

few_more : (m n : ℕ) → m ≤ n → (b : SymbolicHeap) → HasFewVariables m b → HasFewVariables n b
few_more m n l b h = let f : heap_bound b + heap_exists b ≤ m = h in omega arith

pub next_case_few : (m n : ℕ) (bs : List SymbolicHeap) (i : ℕ) (b : SymbolicHeap) → m ≤ n
    → heap_bound b + heap_exists b ≤ n → i < length bs → b ≡ get_or bs i b → Each (HasFewVariables m) (take i bs)
    → Each (HasFewVariables n) (take (i + 1) bs)
next_case_few m n bs i b l h lt is e = next_each (HasFewVariables m) (HasFewVariables n) bs i b b lt is (few_more m n l)
    h e

pub next_def_few : (m n : ℕ) (ds : List Definition) (i : ℕ) (d : Definition) → m ≤ n → Each (HasFewVariables n) d.cases
    → i < length ds → d ≡ get_or ds i d → HaveFewVariables m (take i ds) → HaveFewVariables n (take (i + 1) ds)
next_def_few m n ds i d l h lt is e = next_each (λ d. Each (HasFewVariables m) d.cases)
    (λ d. Each (HasFewVariables n) d.cases) ds i d d lt is (λ d.
    each_imply (HasFewVariables m) (HasFewVariables n) (few_more m n l) d.cases) h e

-- ---- what is taken into a list

pub taken : (x : ℕ) (old new : List ℕ) → new ≡ (if list_any (nat_eq x) old then old else old ++ x ∷ [])
    → Takes old new x
taken x old new e = record { kept = λ v m. inserted x old new e v (inl m); there = inserted x old new e x (inr refl) }

pub none_taken : (old : List ℕ) → TakesAll old old []
none_taken old = record { kept = λ v m. m; there = tt }

pub next_taken : (a b c vs : List ℕ) (i : ℕ) → i < length vs → TakesAll a b (take i vs) → Takes b c (get_or vs i 0)
    → TakesAll a c (take (i + 1) vs)
next_taken a b c vs i l t k = record {
  kept = λ v m. k.kept v (t.kept v m);
  there = next_each (λ v. IsMember v b) (λ v. IsMember v c) vs i 0 (get_or vs i 0) l refl k.kept k.there t.there;
}

pub no_cell_taken : (h : Cells) (old new : List ℕ) (a : ℕ) → cell_at h a ≡ None → Takes old new a
    → TakesCell h old new a
no_cell_taken h old new a n t = record {
  kept = t.kept;
  there = λ vs e.
      absurd (let z : None ≡ Some vs = sym n ∙ e in cc);
}

pub cell_taken : (h : Cells) (a b c : List ℕ) (at : ℕ) (fs : List ℕ) → cell_at h at ≡ Some fs → Takes a b at
    → TakesAll b c fs → TakesCell h a c at
cell_taken h a b c at fs s t k = record {
  kept = λ v m. k.kept v (t.kept v m);
  there = λ vs e. (
    k.kept at t.there,
    (let w : Some fs ≡ Some vs = sym s ∙ e in let f : fs ≡ vs = cc in
        subst (Each (λ v. IsMember v c)) f k.there),
  );
}

pub no_cells_taken : (h : Cells) (old : List ℕ) → TakesCells h old old []
no_cells_taken h old = record { kept = λ v m. m; there = tt }

has_more : (h : Cells) (b c : List ℕ) → ((v : ℕ) → IsMember v b → IsMember v c) → (a : ℕ) → HasCell h b a
    → HasCell h c a
has_more h b c k a t vs e = let r = t vs e in (k a r.0, each_imply (λ v. IsMember v b) (λ v. IsMember v c) k vs r.1)

pub next_cell_taken : (h : Cells) (a b c as' : List ℕ) (i : ℕ) → i < length as' → TakesCells h a b (take i as')
    → TakesCell h b c (get_or as' i 0) → TakesCells h a c (take (i + 1) as')
next_cell_taken h a b c as' i l t k = record {
  kept = λ v m. k.kept v (t.kept v m);
  there = next_each (HasCell h b) (HasCell h c) as' i 0 (get_or as' i 0) l refl (has_more h b c k.kept) k.there t.there;
}

pub numbers_occur : (h : Cells) (old a b c stack addresses : List ℕ) → addresses ≡ map (λ c. c.0) (entries h)
    → Takes old a 0 → TakesAll a b stack → TakesCells h b c addresses → Occur h c
numbers_occur h old a b c stack addresses e t u w = record {
  nil = w.kept 0 (u.kept 0 t.there);
  cells = λ at vs s. member_each (HasCell h c) at addresses ((covers_all h addresses addresses e
      (λ x m. m)).listed at vs s) w.there vs s;
}

pub stack_stays : (h : Cells) (a b c stack addresses : List ℕ) → TakesAll a b stack → TakesCells h b c addresses
    → Each (λ v. IsMember v c) stack
stack_stays h a b c stack addresses u w = each_imply (λ v. IsMember v b) (λ v. IsMember v c) w.kept stack u.there

-- ---- fresh values

pub no_fresh : (numbers : List ℕ) (base : ℕ) → Each (λ v. v < base) numbers → IsRange numbers numbers base 0
no_fresh numbers base l = record { below = l; kept = λ v m. m; others = λ i lt. absurd (omega arith) }

pub next_fresh : (range new numbers : List ℕ) (base i : ℕ) → new ≡ range ++ (base + i) ∷ []
    → IsRange range numbers base i → IsRange new numbers base (i + 1)
next_fresh range new numbers base i e r = record {
  below = r.below;
  kept = λ v m. subst (IsMember v) (sym e) (one_front (λ u. u ≡ v) range ((base + i) ∷ []) (r.kept v m));
  others = λ j l. subst (IsMember (base + j)) (sym e) (at j l);
}
  where
    at : (j : ℕ) → j < i + 1 → IsMember (base + j) (range ++ (base + i) ∷ [])
    at j l = elim (cases_lt j i) [
      | inl lt ↦ one_front (λ u. u ≡ base + j) range ((base + i) ∷ []) (r.others j lt)
      | inr ge ↦ (let q : i ≡ j = omega arith in one_last (λ u. u ≡ base + j) range (base + i) (ap (λ n. base + n) q))
    ]

below_all : (most : ℕ) (vs : List ℕ) → max_of vs ≤ most → Each (λ v. v < most + 1) vs
below_all most [] l = tt
below_all most (v ∷ vs) l = (omega arith, below_all most vs (omega arith))

-- the numbers are below a base above their greatest
pub below_base : (most : ℕ) (vs us : List ℕ) → us ≡ vs → most ≡ max_of vs → Each (λ v. v < most + 1) us
below_base most vs us e m = subst (Each (λ v. v < most + 1)) (sym e) (below_all most vs (omega arith))

-- ---- stacks and choices, one more

pub tabulated_more : (f : ℕ → ℕ) (n : ℕ) → tabulated f (n + 1) ≡ tabulated f n ++ f n ∷ []
tabulated_more f n = let e : n + 1 ≡ suc n = omega arith in ap (tabulated f) e ∙ more f n
  where
    more : (f : ℕ → ℕ) (n : ℕ) → tabulated f (suc n) ≡ tabulated f n ++ f n ∷ []
    more f zero = refl
    more f (suc n) = ap (λ u. f zero ∷ u) (more (λ i. f (suc i)) n)

choice_last : (first : ℕ) (ns : List ℕ) (n : ℕ) → choice_atoms first (ns ++ n ∷ []) ≡ choice_atoms first ns
    ++ Eq (Exist n) (Univ (first + length ns)) ∷ []
choice_last first [] n = let e : first ≡ first + 0 = omega arith in ap (λ k. Eq (Exist n) (Univ k) ∷ []) e
choice_last first (m ∷ ns) n =
    let e : suc first + length ns ≡ first + suc (length ns) = omega arith in
    ap (λ u. Eq (Exist m) (Univ first) ∷ u) (choice_last (suc first) ns n
    ∙ ap (λ k. choice_atoms (suc first) ns ++ Eq (Exist n) (Univ k) ∷ []) e)

pub opened_none : (b : SymbolicHeap) (first : ℕ) → b ≡ opened b first []
opened_none b first = λ j. record { pure = sym (append_nil b.pure) j; spatial = b.spatial }

pub next_choice : (b copy new : SymbolicHeap) (first i par : ℕ) (ns : List ℕ) → i < length ns → par ≡ first + i
    → copy ≡ opened b first (take i ns) → new ≡ record {
      pure = copy.pure ++ Eq (Exist (get_or ns i 0)) (Univ par) ∷ [];
      spatial = copy.spatial;
    } → new ≡ opened b first (take (i + 1) ns)
next_choice b copy new first i par ns l pe ce ne =
    let n = get_or ns i 0 in
    let k : length (take i ns) ≡ i = length-take-le i ns (omega arith) in
    let p : par ≡ first + length (take i ns) = omega arith in
    let last : choice_atoms first (take (i + 1) ns) ≡ choice_atoms first (take i ns) ++ Eq (Exist n) (Univ par)
    ∷ [] = ap (choice_atoms first) (take_more ns i 0 l) ∙ choice_last first (take i ns) n
    ∙ ap (λ m. choice_atoms first (take i ns) ++ Eq (Exist n) (Univ m) ∷ []) (sym p) in
    let pure : copy.pure ++ Eq (Exist n) (Univ par) ∷ [] ≡ b.pure
    ++ choice_atoms first (take (i + 1) ns) = ap (λ h. h.pure ++ Eq (Exist n) (Univ par) ∷ []) ce
    ∙ append_assoc b.pure (choice_atoms first (take i ns)) (Eq (Exist n) (Univ par) ∷ [])
    ∙ ap (λ u. b.pure ++ u) (sym last) in
    let spatial : copy.spatial ≡ b.spatial = ap (λ h. h.spatial) ce in
    ne ∙ (λ j. record { pure = pure j; spatial = spatial j })

pub next_front : (f : ℕ → ℕ) (i : ℕ) (old new : List ℕ) (v : ℕ) → new ≡ old ++ v ∷ [] → v ≡ f i → old ≡ tabulated f i
    → new ≡ tabulated f (i + 1)
next_front f i old new v ne ve is =
    ne ∙ ap (λ u. old ++ u ∷ []) ve ∙ ap (λ us. us ++ f i ∷ []) is ∙ sym (tabulated_more f i)

pub next_values : (range : List ℕ) (s : Stack) (i : ℕ) (old view new : List Stack) → view ≡ old
    → new ≡ with_each range view → old ≡ with_values range s i → new ≡ with_values range s (i + 1)
next_values range s i old view new ve ne is =
    let f : suc i ≡ i + 1 = omega arith in
    ne ∙ ap (with_each range) (ve ∙ is) ∙ ap (with_values range s) f
