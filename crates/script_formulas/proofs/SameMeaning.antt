-- A formula holds where one of its cases does.
use Rattle.std.proofs.Common.{◌≡◌, ℕ, suc, ◌+◌, ◌≤◌, Bool, true, false, not, ◌&&◌, List, [], ◌∷◌, ◌++◌, length, Ok}
use Rattle.std.proofs.Common.{refl, sym, ap, ◌∙◌, subst, arith, ◌⊎◌, inl, inr, length-append, true≢false}
use Rattle.std.proofs.lemmas.Bool.{cases_eq}
use Rattle.std.proofs.lemmas.Bool.Decides.{leb_tells}
use Rattle.heap_formula.proofs.SomeMember.{one_front}
use Rattle.heap_formula.specs.declared.atoms.Pure.{Pure}
use Rattle.heap_formula.specs.declared.atoms.Pure.TheVariants.{Eq, Neq}
use Rattle.heap_formula.specs.Values.{Stack, value}
use Rattle.heap_formula.specs.Meaning.{PureHolds}
use Rattle.heap_formula.specs.Words.{Each}
use Rattle.script_formulas.specs.declared.formula.ScriptAtom.{ScriptAtom}
use Rattle.script_formulas.specs.Formulas.{Formula, True, False, Empty, Says, Atom, Not, And, Or, Sep, Exists}
use Rattle.script_formulas.specs.Heaps.{SortedCells}
use Rattle.script_formulas.specs.Meaning.{SortedFamily, SortedAtomHolds, FormulaHolds, sorted_least, sorted_stage}
use Rattle.script_formulas.proofs.SortedHeaps.{sorted_map, sorted_star_none, sorted_none_star}
use Rattle.script_formulas.specs.declared.cases.joining.Way.TheVariants.{Conjunction, Separation}
use Rattle.script_formulas.specs.Cases.{SymbolicCase, open_case, empty_case, pure_case, atom_case, one_more}
use Rattle.script_formulas.specs.Cases.{all_one_more}
use Rattle.script_formulas.specs.Forms.{signed, truth, both_or_one, literals, formula_cases}
use Rattle.script_formulas.specs.Holding.{AtomsHold, CaseHolds, OneCaseHolds, IsDisjunctiveForm, IsStagedForm}
use Rattle.script_formulas.specs.Scope.{IsBound, IsBoundFormula, AreFine, bound_term, bound_formula}
use Rattle.std.specs.List.{list_all}
use Rattle.std.proofs.lemmas.Bool.{leb-true}
use Rattle.heap_formula.specs.declared.terms.Term.{Term}
use Rattle.heap_formula.specs.declared.terms.Term.TheVariants.{Nil, Univ, Exist}
use Rattle.script_formulas.specs.declared.formula.ScriptAtom.TheVariants.{Cell, Call}
use Rattle.script_formulas.proofs.Answers.{after_answer, test_answer, same_answer}
use Rattle.script_formulas.proofs.Fine.{fine_literals, fine_cases, lists_of_all, all_of_is}
use Rattle.script_formulas.proofs.JoinedCases.{one_behind, one_split, join_lists_holds, join_lists_parts}

-- the claim, or its negation
abbrev pub Signed : Bool → Type 0 → Type 0
Signed true A = A
Signed false A = A → ⊥

-- two claims come of one another
pub record Same (A B : Type 0) : Type 0 where
  pub to : A → B
  pub back : B → A

-- a claim that is decided, and says what another does, with its sign
pub record Literal (sign : Bool) (A B : Type 0) : Type 0 where
  pub decided : A ⊎ (A → ⊥)
  pub same : Same (Signed sign A) B

not_twice : {A : Type 0} → A ⊎ (A → ⊥) → ((A → ⊥) → ⊥) → A
not_twice (inl a) n = a
not_twice (inr not_so) n = absurd (n not_so)

not_decided : {A : Type 0} → A ⊎ (A → ⊥) → (A → ⊥) ⊎ ((A → ⊥) → ⊥)
not_decided (inl a) = inr (λ n. n a)
not_decided (inr not_so) = inl not_so

both_decided : {A B : Type 0} → A ⊎ (A → ⊥) → B ⊎ (B → ⊥) → (A × B) ⊎ (A × B → ⊥)
both_decided (inl a) (inl b) = inl (a, b)
both_decided (inl a) (inr n) = inr (λ p. n p.1)
both_decided (inr n) e = inr (λ p. n p.0)

one_decided : {A B : Type 0} → A ⊎ (A → ⊥) → B ⊎ (B → ⊥) → (A ⊎ B) ⊎ (A ⊎ B → ⊥)
one_decided (inl a) e = inl (inl a)
one_decided (inr n) (inl b) = inl (inr b)
one_decided {A = A} {B = B} (inr n) (inr m) = inr (λ p. elim p [ inl a ↦ n a | inr b ↦ m b ])

end_of : (e : Stack) → e ++ [] ≡ e
end_of [] = refl
end_of (x ∷ e) = λ i. x ∷ end_of e i

none_of : (own : List ℕ) → length own ≡ 0 → own ≡ []
none_of [] p = refl
none_of (x ∷ own) p = absurd (omega arith)

pure_decided : (s e : Stack) (p : Pure) → PureHolds s e p ⊎ (PureHolds s e p → ⊥)
pure_decided s e (Eq t u) = cases_eq (value s e t) (value s e u)
pure_decided s e (Neq t u) = not_decided (cases_eq (value s e t) (value s e u))

signed_to : (s e : Stack) (sign : Bool) (p : Pure) → Signed sign (PureHolds s e p) → PureHolds s e (signed sign p)
signed_to s e true p h = h
signed_to s e false (Eq t u) h = h
signed_to s e false (Neq t u) h = not_twice (cases_eq (value s e t) (value s e u)) h

signed_back : (s e : Stack) (sign : Bool) (p : Pure) → PureHolds s e (signed sign p) → Signed sign (PureHolds s e p)
signed_back s e true p h = h
signed_back s e false (Eq t u) h = h
signed_back s e false (Neq t u) h = λ n. n h

turned : {A B : Type 0} (sign : Bool) → Literal (not sign) A B → Literal sign (A → ⊥) B
turned true l = record { decided = not_decided l.decided; same = l.same }
turned false l = record {
  decided = not_decided l.decided;
  same = record { to = λ n. l.same.to (not_twice l.decided n); back = λ b n. n (l.same.back b) };
}

module _ (locations : List ℕ) (P : SortedFamily) (s : Stack) where
  abbrev Means : Stack → Formula → SortedCells → Type 0
  Means e f h = FormulaHolds locations P s e f h

  abbrev One : Stack → List SymbolicCase → SortedCells → Type 0
  One e cs h = OneCaseHolds locations P s e cs h

  open_holds : (e : Stack) (h : SortedCells) → CaseHolds locations P s e open_case h
  open_holds e h = ([], refl, tt, tt)

  pure_to : (e : Stack) (p : Pure) (h : SortedCells) → PureHolds s e p → CaseHolds locations P s e (pure_case p) h
  pure_to e p h a = ([], refl, (subst (λ u. PureHolds s u p) (sym (end_of e)) a, tt), tt)

  pure_back : (e : Stack) (p : Pure) (h : SortedCells) → CaseHolds locations P s e (pure_case p) h → PureHolds s e p
  pure_back e p h c = subst (λ u. PureHolds s u p) (ap (λ own. e ++ own) (none_of c.0 c.1) ∙ end_of e) c.2.0

  atom_to : (e : Stack) (a : ScriptAtom) (h : SortedCells) → SortedAtomHolds locations P s e a h
      → CaseHolds locations P s e (atom_case a) h
  atom_to e a h c = (
    [],
    refl,
    tt,
    subst (λ u. AtomsHold false locations P s u (a ∷ []) h) (sym (end_of e))
        (sorted_star_none c),
  )

  atom_back : (e : Stack) (a : ScriptAtom) (h : SortedCells) → CaseHolds locations P s e (atom_case a) h
      → SortedAtomHolds locations P s e a h
  atom_back e a h c =
      let there : AtomsHold false locations P s e (a ∷ []) h = subst (λ u. AtomsHold false locations P s u (a ∷ []) h)
      (ap (λ own. e ++ own) (none_of c.0 c.1) ∙ end_of e) c.3 in
      sorted_none_star there

  one_of : (e : Stack) (c : SymbolicCase) (h : SortedCells) → One e (c ∷ []) h → CaseHolds locations P s e c h
  one_of e c h (inl x) = x
  one_of e c h (inr x) = absurd x

  -- ---- formulas without quantifiers that say nothing of the heap

  truth_to : (sign : Bool) (e : Stack) (h : SortedCells) → Signed sign (Unit {0}) → One e (truth sign) h
  truth_to true e h a = inl (open_holds e h)
  truth_to false e h a = a tt

  truth_back : (sign : Bool) (e : Stack) (h : SortedCells) → One e (truth sign) h → Signed sign (Unit {0})
  truth_back true e h o = tt
  truth_back false e h o = λ a. o

  untruth_to : (sign : Bool) (e : Stack) (h : SortedCells) → Signed sign ⊥ → One e (truth (not sign)) h
  untruth_to true e h a = absurd a
  untruth_to false e h a = inl (open_holds e h)

  untruth_back : (sign : Bool) (e : Stack) (h : SortedCells) → One e (truth (not sign)) h → Signed sign ⊥
  untruth_back true e h o = o
  untruth_back false e h o = λ a. a

  -- both of two claims: their joins, or one of the negations
  both_literal : (sign : Bool) (e : Stack) (A B : Type 0) (xs ys cs : List SymbolicCase) (h : SortedCells)
      → length e ≤ 1024 → AreFine (length e) xs → AreFine (length e) ys
      → Literal sign A (One e xs h) → Literal sign B (One e ys h) → both_or_one sign (length e) xs ys ≡ Ok cs
      → Literal sign (A × B) (One e cs h)
  both_literal true e A B xs ys cs h small fa fb la lb p =
      let q = lists_of_all Conjunction (length e) xs ys cs p in
      record {
        decided = both_decided la.decided lb.decided;
        same = record {
          to = λ ab. join_lists_holds locations P s Conjunction e xs ys cs fa fb small q h
              (la.same.to ab.0, lb.same.to ab.1);
          back = λ o. let parts = join_lists_parts locations P s Conjunction e xs ys cs fa fb small q h o in
              (la.same.back parts.0, lb.same.back parts.1);
        };
      }
  both_literal false e A B xs ys cs h small fa fb la lb p =
      let is = all_of_is xs ys cs p in
      let to : (A × B → ⊥) → One e (xs ++ ys) h =
      elim la.decided as (λ _. (A × B → ⊥) → One e (xs ++ ys) h) [
        | inl a ↦ λ n. one_behind _ xs ys (lb.same.to (λ b. n (a, b)))
        | inr m ↦ λ n. one_front _ xs ys (la.same.to m)
      ] in
      let back : One e (xs ++ ys) h → A × B → ⊥ =
      λ o. elim (one_split _ xs ys o) [ inl x ↦ (λ ab. la.same.back x ab.0) | inr y ↦ (λ ab. lb.same.back y ab.1) ] in
      record {
        decided = both_decided la.decided lb.decided;
        same = record {
          to = λ n. subst (λ l. One e l h) is (to n);
          back = λ o. back (subst (λ l. One e l h) (sym is) o);
        };
      }

  one_literal : (sign : Bool) (e : Stack) (A B : Type 0) (xs ys cs : List SymbolicCase) (h : SortedCells)
      → length e ≤ 1024 → AreFine (length e) xs → AreFine (length e) ys
      → Literal sign A (One e xs h) → Literal sign B (One e ys h) → both_or_one (not sign) (length e) xs ys ≡ Ok cs
      → Literal sign (A ⊎ B) (One e cs h)
  one_literal true e A B xs ys cs h small fa fb la lb p =
      let is = all_of_is xs ys cs p in
      let to : A ⊎ B → One e (xs ++ ys) h = λ ab. elim ab [
        | inl a ↦ one_front _ xs ys (la.same.to a)
        | inr b ↦ one_behind _ xs ys (lb.same.to b)
      ] in
      let back : One e (xs ++ ys) h → A ⊎ B = λ o. elim (one_split _ xs ys o)
      [ inl x ↦ inl (la.same.back x) | inr y ↦ inr (lb.same.back y) ] in
      record {
        decided = one_decided la.decided lb.decided;
        same = record {
          to = λ n. subst (λ l. One e l h) is (to n);
          back = λ o. back (subst (λ l. One e l h) (sym is) o);
        };
      }
  one_literal false e A B xs ys cs h small fa fb la lb p =
      let q = lists_of_all Conjunction (length e) xs ys cs p in
      let back : One e cs h → A ⊎ B → ⊥ =
      λ o ab.
      let parts = join_lists_parts locations P s Conjunction e xs ys cs fa fb small q h o in
      elim ab [ inl a ↦ la.same.back parts.0 a | inr b ↦ lb.same.back parts.1 b ] in
      record {
        decided = one_decided la.decided lb.decided;
        same = record {
          to = λ n. join_lists_holds locations P s Conjunction e xs ys cs fa fb small q h
              (la.same.to (λ a. n (inl a)), lb.same.to (λ b. n (inr b)));
          back = back;
        };
      }

  pub literals_hold : (sign : Bool) (e : Stack) (f : Formula) (cs : List SymbolicCase) → length e ≤ 1024
      → IsBoundFormula (length e) f → literals sign (length e) f ≡ Ok cs → (h : SortedCells)
      → Literal sign (Means e f h) (One e cs h)
  literals_hold sign e True cs small b p h =
      let is : truth sign ≡ cs = cc in
      record {
        decided = inl tt;
        same = record {
          to = λ a. subst (λ l. One e l h) is (truth_to sign e h a);
          back = λ o. truth_back sign e h (subst (λ l. One e l h) (sym is) o);
        };
      }
  literals_hold sign e False cs small b p h =
      let is : truth (not sign) ≡ cs = cc in
      record {
        decided = inr (λ a. a);
        same = record {
          to = λ a. subst (λ l. One e l h) is (untruth_to sign e h a);
          back = λ o. untruth_back sign e h (subst (λ l. One e l h) (sym is) o);
        };
      }
  literals_hold sign e Empty cs small b p h = absurd cc
  literals_hold sign e (Says q) cs small b p h =
      let is : pure_case (signed sign q) ∷ [] ≡ cs = cc in
      record {
        decided = pure_decided s e q;
        same = record {
          to = λ a. subst (λ l. One e l h) is (inl (pure_to e (signed sign q) h (signed_to s e sign q a)));
          back = λ o. signed_back s e sign q (pure_back e (signed sign q) h
              (one_of e (pure_case (signed sign q)) h (subst (λ l. One e l h) (sym is) o)));
        };
      }
  literals_hold sign e (Atom a) cs small b p h = absurd cc
  literals_hold sign e (Not f) cs small b p h = turned sign (literals_hold (not sign) e f cs small b p h)
  literals_hold sign e (And f g) cs small b p h =
      let q = after_answer (literals sign (length e) f) _ cs p in
      let r = after_answer (literals sign (length e) g) _ cs q.2 in
      both_literal sign e _ _ q.0 r.0 cs h small (fine_literals sign (length e) f q.0 b.0 q.1)
      (fine_literals sign (length e) g r.0 b.1 r.1)
      (literals_hold sign e f q.0 small b.0 q.1 h) (literals_hold sign e g r.0 small b.1 r.1 h) r.2
  literals_hold sign e (Or f g) cs small b p h =
      let q = after_answer (literals sign (length e) f) _ cs p in
      let r = after_answer (literals sign (length e) g) _ cs q.2 in
      one_literal sign e _ _ q.0 r.0 cs h small (fine_literals sign (length e) f q.0 b.0 q.1)
      (fine_literals sign (length e) g r.0 b.1 r.1)
      (literals_hold sign e f q.0 small b.0 q.1 h) (literals_hold sign e g r.0 small b.1 r.1 h) r.2
  literals_hold sign e (Sep f g) cs small b p h = absurd cc
  literals_hold sign e (Exists sort f) cs small b p h = absurd cc

  -- ---- quantifiers

  -- the values of a case's variables below one more quantifier
  under : (e : Stack) (v : ℕ) (own : List ℕ) → (e ++ v ∷ []) ++ own ≡ e ++ v ∷ own
  under [] v own = refl
  under (x ∷ e) v own = λ i. x ∷ under e v own i

  one_more_is : (c d : SymbolicCase) → one_more c ≡ Ok d
      → record { quantified = c.quantified + 1; any_heap = c.any_heap; pure = c.pure; atoms = c.atoms } ≡ d
  one_more_is c d p =
      let one : SymbolicCase = record {
        quantified = c.quantified + 1;
        any_heap = c.any_heap;
        pure = c.pure;
        atoms = c.atoms;
      } in
      same_answer one d (test_answer _ _ (Ok one) d p).1

  more_to : (e : Stack) (v : ℕ) (c d : SymbolicCase) → one_more c ≡ Ok d → (h : SortedCells)
      → CaseHolds locations P s (e ++ v ∷ []) c h → CaseHolds locations P s e d h
  more_to e v c d p h t =
      let there : CaseHolds locations P s e (record {
        quantified = c.quantified + 1;
        any_heap = c.any_heap;
        pure = c.pure;
        atoms = c.atoms;
      }) h = (
        v ∷ t.0,
        omega (arith, t.1),
        subst (λ u. Each (PureHolds s u) c.pure) (under e v t.0) t.2,
        subst (λ u. AtomsHold c.any_heap locations P s u c.atoms h) (under e v t.0) t.3,
      ) in
      subst (λ x. CaseHolds locations P s e x h) (one_more_is c d p) there

  more_split : (e : Stack) (c : SymbolicCase) (h : SortedCells) (own : List ℕ) → length own ≡ c.quantified + 1
      → Each (PureHolds s (e ++ own)) c.pure → AtomsHold c.any_heap locations P s (e ++ own) c.atoms h
      → (v : ℕ) × CaseHolds locations P s (e ++ v ∷ []) c h
  more_split e c h [] len ps at = absurd (omega arith)
  more_split e c h (v ∷ own) len ps at = (
    v,
    (
      own,
      omega arith,
      subst (λ u. Each (PureHolds s u) c.pure) (sym (under e v own)) ps,
      subst (λ u. AtomsHold c.any_heap locations P s u c.atoms h) (sym (under e v own)) at,
    ),
  )

  more_back : (e : Stack) (c d : SymbolicCase) → one_more c ≡ Ok d → (h : SortedCells) → CaseHolds locations P s e d h
      → (v : ℕ) × CaseHolds locations P s (e ++ v ∷ []) c h
  more_back e c d p h t =
      let there : CaseHolds locations P s e (record {
        quantified = c.quantified + 1;
        any_heap = c.any_heap;
        pure = c.pure;
        atoms = c.atoms;
      }) h =
      subst (λ x. CaseHolds locations P s e x h) (sym (one_more_is c d p)) t in
      more_split e c h there.0 there.1 there.2 there.3

  all_more_to : (e : Stack) (v : ℕ) (cs ds : List SymbolicCase) → all_one_more cs ≡ Ok ds → (h : SortedCells)
      → One (e ++ v ∷ []) cs h → One e ds h
  all_more_to e v [] ds p h o = absurd o
  all_more_to e v (c ∷ cs) ds p h o =
      let q = after_answer (one_more c) _ ds p in
      let r = after_answer (all_one_more cs) _ ds q.2 in
      let is : q.0 ∷ r.0 ≡ ds = cc in
      let there : One e (q.0 ∷ r.0) h = elim o [
        | inl x ↦ inl (more_to e v c q.0 q.1 h x)
        | inr y ↦ inr
            (all_more_to e v cs r.0 r.1 h y)
      ] in
      subst (λ l. One e l h) is there

  all_more_back : (e : Stack) (cs ds : List SymbolicCase) → all_one_more cs ≡ Ok ds → (h : SortedCells) → One e ds h
      → (v : ℕ) × One (e ++ v ∷ []) cs h
  all_more_back e [] ds p h o = let is : ds ≡ [] = cc in let none : ⊥ = subst (λ l. One e l h) is o in absurd none
  all_more_back e (c ∷ cs) ds p h o =
      let q = after_answer (one_more c) _ ds p in
      let r = after_answer (all_one_more cs) _ ds q.2 in
      let is : ds ≡ q.0 ∷ r.0 = cc in
      let there : One e (q.0 ∷ r.0) h = subst (λ l. One e l h) is o in
      elim there [
        | inl x ↦ let m = more_back e c q.0 q.1 h x in (m.0, inl m.1)
        | inr y ↦ let m = all_more_back e cs r.0 r.1 h y in (m.0, inr m.1)
      ]

  -- ---- all formulas

  one_longer : (e : Stack) (v : ℕ) → length (e ++ v ∷ []) ≡ length e + 1
  one_longer e v = length-append e (v ∷ [])

  pub cases_hold : (e : Stack) (f : Formula) (cs : List SymbolicCase) → length e ≤ 1024 → IsBoundFormula (length e) f
      → formula_cases (length e) f ≡ Ok cs → (h : SortedCells) → Same (Means e f h) (One e cs h)
  cases_hold e True cs small b p h =
      let is : truth true ≡ cs = cc in
      record { to = λ a. subst (λ l. One e l h) is (truth_to true e h tt); back = λ o. tt }
  cases_hold e False cs small b p h =
      let is : [] ≡ cs = cc in
      record { to = λ a. absurd a; back = λ o. let none : ⊥ = subst (λ l. One e l h) (sym is) o in none }
  cases_hold e Empty cs small b p h =
      let is : empty_case ∷ [] ≡ cs = cc in
      record {
        to = λ a. subst (λ l. One e l h) is (inl ([], refl, tt, a));
        back = λ o. (one_of e empty_case h (subst (λ l. One e l h) (sym is) o)).3;
      }
  cases_hold e (Says q) cs small b p h =
      let is : pure_case q ∷ [] ≡ cs = cc in
      record {
        to = λ a. subst (λ l. One e l h) is (inl (pure_to e q h a));
        back = λ o. pure_back e q h (one_of e (pure_case q) h (subst (λ l. One e l h) (sym is) o));
      }
  cases_hold e (Atom a) cs small b p h =
      let is : atom_case a ∷ [] ≡ cs = cc in
      record {
        to = λ c. subst (λ l. One e l h) is (inl (atom_to e a h c));
        back = λ o. atom_back e a h (one_of e (atom_case a) h (subst (λ l. One e l h) (sym is) o));
      }
  cases_hold e (Not f) cs small b p h = (literals_hold false e f cs small b p h).same
  cases_hold e (And f g) cs small b p h =
      let q = after_answer (formula_cases (length e) f) _ cs p in
      let r = after_answer (formula_cases (length e) g) _ cs q.2 in
      let fa = fine_cases (length e) f q.0 b.0 q.1 in
      let fb = fine_cases (length e) g r.0 b.1 r.1 in
      let l = lists_of_all Conjunction (length e) q.0 r.0 cs r.2 in
      let first = cases_hold e f q.0 small b.0 q.1 h in
      let second = cases_hold e g r.0 small b.1 r.1 h in
      record {
        to = λ ab. join_lists_holds locations P s Conjunction e q.0 r.0 cs fa fb small l h
            (first.to ab.0, second.to ab.1);
        back = λ o. let parts = join_lists_parts locations P s Conjunction e q.0 r.0 cs fa fb small l h o in
            (first.back parts.0, second.back parts.1);
      }
  cases_hold e (Or f g) cs small b p h =
      let q = after_answer (formula_cases (length e) f) _ cs p in
      let r = after_answer (formula_cases (length e) g) _ cs q.2 in
      let is = all_of_is q.0 r.0 cs r.2 in
      let first = cases_hold e f q.0 small b.0 q.1 h in
      let second = cases_hold e g r.0 small b.1 r.1 h in
      let to : Means e f h ⊎ Means e g h → One e (q.0 ++ r.0) h =
      λ ab. elim ab [ inl x ↦ one_front _ q.0 r.0 (first.to x) | inr y ↦ one_behind _ q.0 r.0 (second.to y) ] in
      let back : One e (q.0 ++ r.0) h → Means e f h ⊎ Means e g h =
      λ o. elim (one_split _ q.0 r.0 o) [ inl x ↦ inl (first.back x) | inr y ↦ inr (second.back y) ] in
      record { to = λ ab. subst (λ l. One e l h) is (to ab); back = λ o. back (subst (λ l. One e l h) (sym is) o) }
  cases_hold e (Sep f g) cs small b p h =
      let q = after_answer (formula_cases (length e) f) _ cs p in
      let r = after_answer (formula_cases (length e) g) _ cs q.2 in
      let fa = fine_cases (length e) f q.0 b.0 q.1 in
      let fb = fine_cases (length e) g r.0 b.1 r.1 in
      let l = lists_of_all Separation (length e) q.0 r.0 cs r.2 in
      record {
        to = λ t. join_lists_holds locations P s Separation e q.0 r.0 cs fa fb small l h
            (sorted_map (λ k x. (cases_hold e f q.0 small b.0 q.1 k).to x)
            (λ k x. (cases_hold e g r.0 small b.1 r.1 k).to x) t);
        back = λ o. sorted_map (λ k x. (cases_hold e f q.0 small b.0 q.1 k).back x)
            (λ k x. (cases_hold e g r.0 small b.1 r.1 k).back x)
            (join_lists_parts locations P s Separation e q.0 r.0 cs fa fb small l h o);
      }
  cases_hold e (Exists sort f) cs small b p h =
      let t = test_answer _ _ _ cs p in
      let less : length e + 1 ≤ 1024 = elim (leb_tells 1024 (length e))
      [ inl much ↦ absurd (true≢false (sym much.0 ∙ t.0)) | inr few ↦ omega (arith, few.1) ] in
      let r = after_answer (formula_cases (length e + 1) f) _ cs t.1 in
      let inner = λ (v : ℕ). cases_hold (e ++ v ∷ []) f r.0 (subst (λ n. n ≤ 1024) (sym (one_longer e v)) less)
      (subst (λ n. IsBoundFormula n f) (sym (one_longer e v)) b)
      (subst (λ n. formula_cases n f ≡ Ok r.0) (sym (one_longer e v)) r.1) h in
      record {
        to = λ x. all_more_to e x.0 r.0 cs r.2 h ((inner x.0).to x.1);
        back = λ o. let m = all_more_back e r.0 cs r.2 h o in (m.0, (inner m.0).back m.1);
      }

-- ---- whether each variable is bound

both_true : (a b : Bool) → (a && b) ≡ true → (a ≡ true) × (b ≡ true)
both_true true b p = (refl, p)
both_true false b p = absurd cc

term_bound : (d : ℕ) (t : Term) → bound_term d t ≡ true → IsBound d t
term_bound d Nil p = tt
term_bound d (Univ n) p = tt
term_bound d (Exist n) p = leb-true (suc n) d p

terms_bound : (d : ℕ) (ts : List Term) → list_all (bound_term d) ts ≡ true → Each (IsBound d) ts
terms_bound d [] p = tt
terms_bound d (t ∷ ts) p = let q = both_true _ _ p in (term_bound d t q.0, terms_bound d ts q.1)

pub formula_bound : (d : ℕ) (f : Formula) → bound_formula d f ≡ true → IsBoundFormula d f
formula_bound d True p = tt
formula_bound d False p = tt
formula_bound d Empty p = tt
formula_bound d (Says (Eq t u)) p = let q = both_true _ _ p in (term_bound d t q.0, term_bound d u q.1)
formula_bound d (Says (Neq t u)) p = let q = both_true _ _ p in (term_bound d t q.0, term_bound d u q.1)
formula_bound d (Atom (Cell t c ts)) p = let q = both_true _ _ p in (term_bound d t q.0, terms_bound d ts q.1)
formula_bound d (Atom (Call c ts)) p = terms_bound d ts p
formula_bound d (Not f) p = formula_bound d f p
formula_bound d (And f g) p = let q = both_true _ _ p in (formula_bound d f q.0, formula_bound d g q.1)
formula_bound d (Or f g) p = let q = both_true _ _ p in (formula_bound d f q.0, formula_bound d g q.1)
formula_bound d (Sep f g) p = let q = both_true _ _ p in (formula_bound d f q.0, formula_bound d g q.1)
formula_bound d (Exists sort f) p = formula_bound (d + 1) f (both_true _ _ p).1

pub form_holds : (f : Formula) (cs : List SymbolicCase) → bound_formula 0 f ≡ true → formula_cases 0 f ≡ Ok cs
    → IsDisjunctiveForm f cs
form_holds f cs b p locations bodies s h =
    let same = cases_hold locations (sorted_least locations bodies) s [] f cs (omega arith) (formula_bound 0 f b) p h in
    (same.to, same.back)

pub form_staged : (f : Formula) (cs : List SymbolicCase) → bound_formula 0 f ≡ true → formula_cases 0 f ≡ Ok cs
    → IsStagedForm f cs
form_staged f cs b p locations bodies n s h =
    let same = cases_hold locations (sorted_stage locations bodies n) s [] f cs (omega arith) (formula_bound 0 f b) p
    h in
    (same.to, same.back)
