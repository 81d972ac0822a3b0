-- The cases of a formula have few variables, which are bound, and an open case has no atoms.
use Rattle.std.proofs.Common.{◌≡◌, ℕ, ◌+◌, ◌-◌, ◌≤◌, Bool, true, false, cond, not, ◌&&◌, List, [], ◌∷◌, ◌++◌, map, None}
use Rattle.std.proofs.Common.{Ok, refl, sym, ◌∙◌, subst, arith, leb, ltb, inl, inr, true≢false}
use Rattle.std.proofs.lemmas.Bool.Decides.{leb_tells}
use Rattle.heap_formula.proofs.AllMembers.{each_append}
use Rattle.heap_formula.specs.declared.terms.Term.{Term}
use Rattle.heap_formula.specs.declared.terms.Term.TheVariants.{Nil, Univ, Exist}
use Rattle.heap_formula.specs.declared.atoms.Pure.{Pure}
use Rattle.heap_formula.specs.declared.atoms.Pure.TheVariants.{Eq, Neq}
use Rattle.heap_formula.specs.Closedness.{InPure}
use Rattle.script_formulas.specs.declared.formula.ScriptAtom.{ScriptAtom}
use Rattle.script_formulas.specs.Formulas.{Formula, True, False, Empty, Says, Atom, Not, And, Or, Sep, Exists}
use Rattle.script_formulas.specs.declared.cases.refused.Unsupported.TheVariants.{Quantifiers}
use Rattle.script_formulas.specs.declared.cases.joining.Way.{Way}
use Rattle.script_formulas.specs.declared.cases.joining.Way.TheVariants.{Conjunction, Separation}
use Rattle.script_formulas.specs.Cases.{SymbolicCase, one_more, all_one_more}
use Rattle.script_formulas.specs.Shifting.{shift_term, in_atom}
use Rattle.script_formulas.specs.Joining.{both_cases, way_refusal, size_refusal, join, join_with, join_lists, join_all}
use Rattle.script_formulas.specs.Joining.{all_of}
use Rattle.script_formulas.specs.Forms.{signed, truth, both_or_one, literals, formula_cases}
use Rattle.script_formulas.specs.Scope.{IsBound, IsBoundFormula, IsFine, AreFine}
use Rattle.script_formulas.proofs.Answers.{after_answer, unless_answer, test_answer, test_none, same_answer}
use Rattle.script_formulas.proofs.Stacks.{each_pure_imply, each_atom_imply, each_pure_map, each_atom_map}

pub bound_more : (m n : ℕ) → m ≤ n → (t : Term) → IsBound m t → IsBound n t
bound_more m n le Nil b = tt
bound_more m n le (Univ k) b = tt
bound_more m n le (Exist k) b = omega arith

bound_shifted : (d k q : ℕ) (t : Term) → IsBound (d + q) t → IsBound (d + (k + q)) (shift_term d k t)
bound_shifted d k q Nil b = tt
bound_shifted d k q (Univ n) b = tt
bound_shifted d k q (Exist n) b =
    elim (leb d n && leb n (65535 - k)) as (λ c. IsBound (d + (k + q)) (cond c (Exist (n + k)) (Exist n)))
    [ true ↦ omega arith | false ↦ omega arith ]

first_true : (a b : Bool) → (a && b) ≡ true → a ≡ true
first_true true b p = refl
first_true false b p = p

second_true : (a b : Bool) → (a && b) ≡ true → b ≡ true
second_true true b p = p
second_true false b p = absurd cc

no_atoms : (f : Term → Term) (xs ys : List ScriptAtom) → xs ≡ [] → ys ≡ [] → xs ++ map (in_atom f) ys ≡ []
no_atoms f xs ys p q = λ i. p i ++ map (in_atom f) (q i)

-- what a join of two cases is
pub record IsJoin (way : Way) (d : ℕ) (a b c : SymbolicCase) : Type 0 where
  pub both : c ≡ both_cases d a b
  pub fits : way_refusal way a.any_heap b.any_heap ≡ None
  pub few : a.quantified + b.quantified ≤ 1024

not_more : (n : ℕ) → ltb 1024 n ≡ false → n ≤ 1024
not_more n p = elim (leb_tells 1025 n) [ inl much ↦ absurd cc | inr few ↦ omega arith ]

pub joined_is : (way : Way) (d : ℕ) (a b c : SymbolicCase) → join way d a b ≡ Ok c → IsJoin way d a b c
joined_is way d a b c p =
    let q = unless_answer (way_refusal way a.any_heap b.any_heap) _ c p in
    let r = unless_answer (size_refusal a b) _ c q.1 in
    let small = test_none _ _ _ r.0 in
    record { both = cc; fits = q.0; few = not_more _ small.0 }

fine_both : (way : Way) (d : ℕ) (a b : SymbolicCase) → IsFine d a → IsFine d b
    → way_refusal way a.any_heap b.any_heap ≡ None → a.quantified + b.quantified ≤ 1024 → IsFine d (both_cases d a b)
fine_both way d a b fa fb fits few =
    record {
      few = few;
      pures =
          each_append _ a.pure _ (each_pure_imply _ _ (bound_more (d + a.quantified) (d + (a.quantified + b.quantified))
          (omega arith)) a.pure fa.pures)
          (each_pure_map _ _ (shift_term d a.quantified) (bound_shifted d a.quantified b.quantified) b.pure fb.pures);
      heap =
          each_append _ a.atoms _ (each_atom_imply _ _ (bound_more (d + a.quantified)
          (d + (a.quantified + b.quantified)) (omega arith)) a.atoms fa.heap)
          (each_atom_map _ _ (shift_term d a.quantified) (bound_shifted d a.quantified b.quantified) b.atoms fb.heap);
      open_heap = λ o. no_atoms _ a.atoms b.atoms (fa.open_heap (first_true a.any_heap b.any_heap o))
          (fb.open_heap (second_true a.any_heap b.any_heap o));
    }

pub fine_join : (way : Way) (d : ℕ) (a b c : SymbolicCase) → IsFine d a → IsFine d b → join way d a b ≡ Ok c
    → IsFine d c
fine_join way d a b c fa fb p =
    let j = joined_is way d a b c p in
    subst (IsFine d) (sym j.both) (fine_both way d a b fa fb j.fits j.few)

pub fine_join_with : (way : Way) (d : ℕ) (a : SymbolicCase) (ys cs : List SymbolicCase) → IsFine d a → AreFine d ys
    → join_with way d a ys ≡ Ok cs → AreFine d cs
fine_join_with way d a [] cs fa fb p = subst (AreFine d) (let same : [] ≡ cs = cc in same) tt
fine_join_with way d a (b ∷ ys) cs fa fb p =
    let q = after_answer (join way d a b) _ cs p in
    let r = after_answer (join_with way d a ys) _ cs q.2 in
    let same : q.0 ∷ r.0 ≡ cs = cc in
    subst (AreFine d) same (fine_join way d a b q.0 fa fb.0 q.1, fine_join_with way d a ys r.0 fa fb.1 r.1)

pub fine_join_lists : (way : Way) (d : ℕ) (xs ys cs : List SymbolicCase) → AreFine d xs → AreFine d ys
    → join_lists way d xs ys ≡ Ok cs → AreFine d cs
fine_join_lists way d [] ys cs fa fb p = subst (AreFine d) (let same : [] ≡ cs = cc in same) tt
fine_join_lists way d (a ∷ xs) ys cs fa fb p =
    let q = after_answer (join_with way d a ys) _ cs p in
    let r = after_answer (join_lists way d xs ys) _ cs q.2 in
    let same : q.0 ++ r.0 ≡ cs = cc in
    subst (AreFine d) same (each_append _ q.0 r.0 (fine_join_with way d a ys q.0 fa.0 fb q.1)
    (fine_join_lists way d xs ys r.0 fa.1 fb r.1))

pub lists_of_all : (way : Way) (d : ℕ) (xs ys cs : List SymbolicCase) → join_all way d xs ys ≡ Ok cs
    → join_lists way d xs ys ≡ Ok cs
lists_of_all way d xs ys cs p = (test_answer _ _ _ cs p).1

pub all_of_is : (xs ys cs : List SymbolicCase) → all_of xs ys ≡ Ok cs → xs ++ ys ≡ cs
all_of_is xs ys cs p = same_answer (xs ++ ys) cs (test_answer _ _ (Ok (xs ++ ys)) cs p).1

fine_all_of : (d : ℕ) (xs ys cs : List SymbolicCase) → AreFine d xs → AreFine d ys → all_of xs ys ≡ Ok cs → AreFine d cs
fine_all_of d xs ys cs fa fb p = subst (AreFine d) (all_of_is xs ys cs p) (each_append _ xs ys fa fb)

fine_both_or_one : (sign : Bool) (d : ℕ) (xs ys cs : List SymbolicCase) → AreFine d xs → AreFine d ys
    → both_or_one sign d xs ys ≡ Ok cs → AreFine d cs
fine_both_or_one true d xs ys cs fa fb p = fine_join_lists Conjunction d xs ys cs fa fb
    (lists_of_all Conjunction d xs ys cs p)
fine_both_or_one false d xs ys cs fa fb p = fine_all_of d xs ys cs fa fb p

fine_truth : (d : ℕ) (b : Bool) → AreFine d (truth b)
fine_truth d true = (record { few = omega arith; pures = tt; heap = tt; open_heap = λ _. refl }, tt)
fine_truth d false = tt

plus_none : (d : ℕ) (t : Term) → IsBound d t → IsBound (d + 0) t
plus_none d t b = bound_more d (d + 0) (omega arith) t b

bound_signed : (d : ℕ) (sign : Bool) (p : Pure) → InPure (IsBound d) p → InPure (IsBound (d + 0)) (signed sign p)
bound_signed d true (Eq t u) b = (plus_none d t b.0, plus_none d u b.1)
bound_signed d true (Neq t u) b = (plus_none d t b.0, plus_none d u b.1)
bound_signed d false (Eq t u) b = (plus_none d t b.0, plus_none d u b.1)
bound_signed d false (Neq t u) b = (plus_none d t b.0, plus_none d u b.1)

pub fine_literals : (sign : Bool) (d : ℕ) (f : Formula) (cs : List SymbolicCase) → IsBoundFormula d f
    → literals sign d f ≡ Ok cs → AreFine d cs
fine_literals sign d True cs b p = subst (AreFine d) (let same : truth sign ≡ cs = cc in same) (fine_truth d sign)
fine_literals sign d False cs b p = subst (AreFine d) (let same : truth (not sign) ≡ cs = cc in same)
    (fine_truth d (not sign))
fine_literals sign d Empty cs b p = absurd cc
fine_literals sign d (Says q) cs b p =
    subst (AreFine d) (let same : record { quantified = 0; any_heap = true; pure = signed sign q ∷ []; atoms = [] } ∷ []
    ≡ cs = cc in same)
    (record { few = omega arith; pures = (bound_signed d sign q b, tt); heap = tt; open_heap = λ _. refl }, tt)
fine_literals sign d (Atom a) cs b p = absurd cc
fine_literals sign d (Not f) cs b p = fine_literals (not sign) d f cs b p
fine_literals sign d (And f g) cs b p =
    let q = after_answer (literals sign d f) _ cs p in
    let r = after_answer (literals sign d g) _ cs q.2 in
    fine_both_or_one sign d q.0 r.0 cs (fine_literals sign d f q.0 b.0 q.1) (fine_literals sign d g r.0 b.1 r.1) r.2
fine_literals sign d (Or f g) cs b p =
    let q = after_answer (literals sign d f) _ cs p in
    let r = after_answer (literals sign d g) _ cs q.2 in
    fine_both_or_one (not sign) d q.0 r.0 cs (fine_literals sign d f q.0 b.0 q.1) (fine_literals sign d g r.0 b.1 r.1)
    r.2
fine_literals sign d (Sep f g) cs b p = absurd cc
fine_literals sign d (Exists sort f) cs b p = absurd cc

fine_one_more : (d : ℕ) (c e : SymbolicCase) → IsFine (d + 1) c → one_more c ≡ Ok e → IsFine d e
fine_one_more d c e f p =
    let one : SymbolicCase = record {
      quantified = c.quantified + 1;
      any_heap = c.any_heap;
      pure = c.pure;
      atoms = c.atoms;
    } in
    let q = test_answer (leb 1024 c.quantified) Quantifiers (Ok one) e p in
    let same : one ≡ e = same_answer one e q.1 in
    let le : c.quantified + 1 ≤ 1024 = elim (leb_tells 1024 c.quantified)
    [ inl much ↦ absurd (true≢false (sym much.0 ∙ q.0)) | inr few ↦ omega arith ] in
    subst (IsFine d) same (record {
      few = le;
      pures = each_pure_imply _ _ (bound_more (d + 1 + c.quantified) (d + (c.quantified + 1)) (omega arith))
          c.pure f.pures;
      heap = each_atom_imply _ _ (bound_more (d + 1 + c.quantified) (d + (c.quantified + 1)) (omega arith))
          c.atoms f.heap;
      open_heap = f.open_heap;
    })

fine_all_one_more : (d : ℕ) (cs es : List SymbolicCase) → AreFine (d + 1) cs → all_one_more cs ≡ Ok es → AreFine d es
fine_all_one_more d [] es f p = subst (AreFine d) (let same : [] ≡ es = cc in same) tt
fine_all_one_more d (c ∷ cs) es f p =
    let q = after_answer (one_more c) _ es p in
    let r = after_answer (all_one_more cs) _ es q.2 in
    let same : q.0 ∷ r.0 ≡ es = cc in
    subst (AreFine d) same (fine_one_more d c q.0 f.0 q.1, fine_all_one_more d cs r.0 f.1 r.1)

pub fine_cases : (d : ℕ) (f : Formula) (cs : List SymbolicCase) → IsBoundFormula d f → formula_cases d f ≡ Ok cs
    → AreFine d cs
fine_cases d True cs b p = subst (AreFine d) (let same : truth true ≡ cs = cc in same) (fine_truth d true)
fine_cases d False cs b p = subst (AreFine d) (let same : [] ≡ cs = cc in same) tt
fine_cases d Empty cs b p =
    subst (AreFine d) (let same : record { quantified = 0; any_heap = false; pure = []; atoms = [] } ∷ [] ≡ cs = cc in
    same)
    (record { few = omega arith; pures = tt; heap = tt; open_heap = λ _. refl }, tt)
fine_cases d (Says q) cs b p =
    subst (AreFine d) (let same : record { quantified = 0; any_heap = true; pure = q ∷ []; atoms = [] } ∷ [] ≡ cs = cc
    in same)
    (record { few = omega arith; pures = (bound_signed d true q b, tt); heap = tt; open_heap = λ _. refl }, tt)
fine_cases d (Atom a) cs b p =
    subst (AreFine d) (let same : record { quantified = 0; any_heap = false; pure = []; atoms = a ∷ [] } ∷ [] ≡ cs = cc
    in same) (
      record {
        few = omega arith;
        pures = tt;
        heap = each_atom_imply _ _ (plus_none d) (a ∷ []) (b, tt);
        open_heap = λ e. absurd cc;
      },
      tt,
    )
fine_cases d (Not f) cs b p = fine_literals false d f cs b p
fine_cases d (And f g) cs b p =
    let q = after_answer (formula_cases d f) _ cs p in
    let r = after_answer (formula_cases d g) _ cs q.2 in
    fine_join_lists Conjunction d q.0 r.0 cs (fine_cases d f q.0 b.0 q.1) (fine_cases d g r.0 b.1 r.1)
    (lists_of_all Conjunction d q.0 r.0 cs r.2)
fine_cases d (Or f g) cs b p =
    let q = after_answer (formula_cases d f) _ cs p in
    let r = after_answer (formula_cases d g) _ cs q.2 in
    fine_all_of d q.0 r.0 cs (fine_cases d f q.0 b.0 q.1) (fine_cases d g r.0 b.1 r.1) r.2
fine_cases d (Sep f g) cs b p =
    let q = after_answer (formula_cases d f) _ cs p in
    let r = after_answer (formula_cases d g) _ cs q.2 in
    fine_join_lists Separation d q.0 r.0 cs (fine_cases d f q.0 b.0 q.1) (fine_cases d g r.0 b.1 r.1)
    (lists_of_all Separation d q.0 r.0 cs r.2)
fine_cases d (Exists sort f) cs b p =
    let q = test_answer _ _ _ cs p in
    let r = after_answer (formula_cases (d + 1) f) _ cs q.1 in
    fine_all_one_more d r.0 cs (fine_cases (d + 1) f r.0 b r.1) r.2
