-- How the sides of a question grow with each formula.
use Rattle.std.proofs.Common.{◌≡◌, ℕ, Bool, true, false, List, [], ◌∷◌, ◌++◌, length, Ok, refl, sym, ap}
use Rattle.std.proofs.Common.{◌∙◌, ◌+◌, subst, ◌⊎◌, inl, inr, arith}
use Rattle.std.proofs.lemmas.Bool.{cases_eq}
use Rattle.heap_formula.specs.declared.atoms.Pure.{Pure}
use Rattle.heap_formula.specs.declared.atoms.Pure.TheVariants.{Eq, Neq}
use Rattle.heap_formula.specs.Closedness.{InPure}
use Rattle.heap_formula.specs.Values.{Stack, value}
use Rattle.heap_formula.specs.Meaning.{PureHolds}
use Rattle.heap_formula.specs.Words.{Each}
use Rattle.heap_formula.proofs.AllMembers.{each_append, each_front, each_back}
use Rattle.heap_formula.proofs.SomeMember.{one_front}
use Rattle.script_formulas.specs.Formulas.{Formula}
use Rattle.script_formulas.specs.Heaps.{SortedCells}
use Rattle.script_formulas.specs.Meaning.{sorted_least}
use Rattle.script_formulas.specs.declared.cases.joining.Way.TheVariants.{Conjunction}
use Rattle.script_formulas.specs.Cases.{SymbolicCase, pure_case}
use Rattle.script_formulas.specs.Joining.{join_all}
use Rattle.script_formulas.specs.Forms.{signed}
use Rattle.script_formulas.specs.Holding.{AtomsHold, IsDisjunctiveForm}
use Rattle.script_formulas.specs.Scope.{IsBound, IsFine, AreFine}
use Rattle.script_formulas.proofs.Fine.{fine_join_lists, lists_of_all}
use Rattle.script_formulas.proofs.JoinedCases.{one_behind, one_split, join_lists_holds, join_lists_parts}
use Rattle.script_formulas.specs.Sides.{Says, SaysCase, SaysOne, SaysSides, AreSides, AreWithout, negations}

-- a claim of values and a heap, over any definitions
abbrev pub Claim : Type 1
Claim = List ℕ → List Formula → Stack → SortedCells → Type 0

-- the claim holds exactly where one of the first cases does and none of the others
abbrev pub IsSaid : Claim → List SymbolicCase → List SymbolicCase → Type 0
IsSaid X first second =
    (locations : List ℕ) (bodies : List Formula) (s : Stack) (h : SortedCells)
    → (X locations bodies s h → SaysOne locations bodies s h first × (SaysOne locations bodies s h second → ⊥))
    × (SaysOne locations bodies s h first × (SaysOne locations bodies s h second → ⊥) → X locations bodies s h)

-- the claim with one of these cases
pub joined_said : (X : Claim) (first second more joined : List SymbolicCase) → AreFine 0 first → AreFine 0 more
    → join_all Conjunction 0 first more ≡ Ok joined → IsSaid X first second
    → IsSaid (λ locations bodies s h. X locations bodies s h × SaysOne locations bodies s h more) joined second
joined_said X first second more joined fa fb p said locations bodies s h =
    let q = lists_of_all Conjunction 0 first more joined p in
    let before = said locations bodies s h in
    let to : X locations bodies s h × SaysOne locations bodies s h more
    → SaysOne locations bodies s h joined × (SaysOne locations bodies s h second → ⊥) =
    λ x.
    let b = before.0 x.0 in (
      join_lists_holds locations (sorted_least locations bodies) s Conjunction [] first more joined fa fb (omega arith)
          q h (b.0, x.1),
      b.1,
    ) in
    let back : SaysOne locations bodies s h joined × (SaysOne locations bodies s h second → ⊥)
    → X locations bodies s h × SaysOne locations bodies s h more =
    λ y.
    let parts = join_lists_parts locations (sorted_least locations bodies) s Conjunction [] first more joined fa fb
    (omega arith) q h y.0 in
    (before.1 (parts.0, y.1), parts.1) in
    (to, back)

pub joined_fine : (first more joined : List SymbolicCase) → AreFine 0 first → AreFine 0 more
    → join_all Conjunction 0 first more ≡ Ok joined → AreFine 0 joined
joined_fine first more joined fa fb p = fine_join_lists Conjunction 0 first more joined fa fb
    (lists_of_all Conjunction 0 first more joined p)

-- the claim without a case that says something of the heap
pub denied_said : (X : Claim) (first second : List SymbolicCase) (c : SymbolicCase) → IsSaid X first second
    → IsSaid (λ locations bodies s h. X locations bodies s h × (SaysCase locations bodies s h c → ⊥)) first
    (second ++ c ∷ [])
denied_said X first second c said locations bodies s h =
    let before = said locations bodies s h in
    let to : X locations bodies s h × (SaysCase locations bodies s h c → ⊥)
    → SaysOne locations bodies s h first × (SaysOne locations bodies s h (second ++ c ∷ []) → ⊥) =
    λ x.
    let b = before.0 x.0 in (
      b.0,
      λ o. elim (one_split _ second (c ∷ []) o) [
        | inl old ↦ b.1 old
        | inr new ↦ elim new
            [ inl is ↦ x.1 is | inr none ↦ none ]
      ],
    ) in
    let back : SaysOne locations bodies s h first × (SaysOne locations bodies s h (second ++ c ∷ []) → ⊥)
    → X locations bodies s h × (SaysCase locations bodies s h c → ⊥) =
    λ y. (before.1 (y.0, λ o. y.1 (one_front _ second (c ∷ []) o)), λ is. y.1 (one_behind _ second (c ∷ []) (inl is)))
    in
    (to, back)

-- ---- the negation of a case that says nothing of the heap

none_of : (own : List ℕ) → length own ≡ 0 → own ≡ []
none_of [] p = refl
none_of (x ∷ own) p = absurd (omega arith)

flipped : (s e : Stack) (p : Pure) → PureHolds s e p ⊎ PureHolds s e (signed false p)
flipped s e (Eq t u) = cases_eq (value s e t) (value s e u)
flipped s e (Neq t u) = elim (cases_eq (value s e t) (value s e u)) [ inl is ↦ inr is | inr other ↦ inl other ]

not_both : (s e : Stack) (p : Pure) → PureHolds s e p → PureHolds s e (signed false p) → ⊥
not_both s e (Eq t u) a b = b a
not_both s e (Neq t u) a b = a b

module _ (locations : List ℕ) (bodies : List Formula) (s : Stack) (h : SortedCells) where
  negation_to : (ps : List Pure) → (Each (PureHolds s []) ps → ⊥) → SaysOne locations bodies s h (negations ps)
  negation_to [] n = absurd (n tt)
  negation_to (p ∷ ps) n =
      elim (flipped s [] p) [
        | inl a ↦ inr (negation_to ps (λ rest. n (a, rest)))
        | inr b ↦ inl ([], refl, (b, tt), tt)
      ]

  negation_back : (ps : List Pure) → SaysOne locations bodies s h (negations ps) → Each (PureHolds s []) ps → ⊥
  negation_back [] o a = o
  negation_back (p ∷ ps) o a =
      elim o [
        | inl c ↦ not_both s [] p a.0 (subst (λ own. PureHolds s own (signed false p)) (none_of c.0 c.1) c.2.0)
        | inr more ↦ negation_back ps more a.1
      ]

  pub case_negated : (c : SymbolicCase) → c.any_heap ≡ true → c.quantified ≡ 0 → (SaysCase locations bodies s h c → ⊥)
      → SaysOne locations bodies s h (negations c.pure)
  case_negated c any none n =
      negation_to c.pure (λ ps. n ([], sym none, ps, open_says c.any_heap any))
    where
      open_says : (b : Bool) → b ≡ true → AtomsHold b locations (sorted_least locations bodies) s [] c.atoms h
      open_says true p = tt
      open_says false p = absurd cc

  pub negated_case : (c : SymbolicCase) → c.quantified ≡ 0 → SaysOne locations bodies s h (negations c.pure)
      → SaysCase locations bodies s h c → ⊥
  negated_case c none o says =
      negation_back c.pure o (subst (λ own. Each (PureHolds s own) c.pure) (none_of says.0 (says.1 ∙ none)) says.2)

negation_fine : (p : Pure) → InPure (IsBound 0) p → IsFine 0 (pure_case (signed false p))
negation_fine (Eq t u) b = record { few = omega arith; pures = (b, tt); heap = tt; open_heap = λ _. refl }
negation_fine (Neq t u) b = record { few = omega arith; pures = (b, tt); heap = tt; open_heap = λ _. refl }

negations_fine_of : (n : ℕ) → n ≡ 0 → (ps : List Pure) → Each (InPure (IsBound n)) ps → AreFine 0 (negations ps)
negations_fine_of n is [] b = tt
negations_fine_of n is (p ∷ ps) b = (
  negation_fine p (subst (λ m. InPure (IsBound m) p) is b.0),
  negations_fine_of n is ps b.1,
)

pub negations_fine : (c : SymbolicCase) → IsFine 0 c → c.quantified ≡ 0 → AreFine 0 (negations c.pure)
negations_fine c fine none = negations_fine_of (0 + c.quantified) (ap (λ n. 0 + n) none) c.pure fine.pures

-- the claim without a case that says nothing of the heap
pub open_denied_said : (X : Claim) (first second joined : List SymbolicCase) (c : SymbolicCase) → AreFine 0 first
    → IsFine 0 c → c.any_heap ≡ true → c.quantified ≡ 0
    → join_all Conjunction 0 first (negations c.pure) ≡ Ok joined → IsSaid X first second
    → IsSaid (λ locations bodies s h. X locations bodies s h × (SaysCase locations bodies s h c → ⊥)) joined second
open_denied_said X first second joined c fa fc any none p said locations bodies s h =
    let with_negations = joined_said X first second (negations c.pure) joined fa (negations_fine c fc none)
    p said locations bodies s h in (
      λ x. with_negations.0 (x.0, case_negated locations bodies s h c any none x.1),
      λ y. let x = with_negations.1 y in (x.0, negated_case locations bodies s h c none x.1),
    )

-- ---- formula by formula

abbrev pub Before : List SymbolicCase → List SymbolicCase → Claim
Before first second locations bodies s h = SaysSides locations bodies s h first second

before_said : (first second : List SymbolicCase) → IsSaid (Before first second) first second
before_said first second locations bodies s h = (λ x. x, λ x. x)

pub asserted_more : (fs : List Formula) (f : Formula) (first more joined : List SymbolicCase) → AreFine 0 first
    → AreFine 0 more → IsDisjunctiveForm f more → join_all Conjunction 0 first more ≡ Ok joined
    → AreSides fs [] first [] → AreSides (fs ++ f ∷ []) [] joined []
asserted_more fs f first more joined fa fb form p said locations bodies s h =
    let P = Says locations bodies s h in
    let step = joined_said (λ l b t g. Each (Says l b t g) fs × Each (λ f. Says l b t g f → ⊥) []) first []
    more joined fa fb p said locations bodies s h in
    let same = form locations bodies s h in (
      λ x. step.0 ((each_front P fs (f ∷ []) x.0, tt), same.0 (each_back P fs (f ∷ []) x.0).0),
      λ y. let x = step.1 y in (each_append P fs (f ∷ []) x.0.0 (same.1 x.1, tt), tt),
    )

pub without_more : (cs : List SymbolicCase) (c : SymbolicCase)
    (first second third fourth fifth sixth : List SymbolicCase) → AreWithout cs first second third fourth
    → AreWithout (c ∷ []) third fourth fifth sixth
    → AreWithout (cs ++ c ∷ []) first second fifth sixth
without_more cs c first second third fourth fifth sixth before after locations bodies s h =
    let b = before locations bodies s h in
    let a = after locations bodies s h in (
      λ x. a.0 (b.0 (x.0, λ o. x.1 (one_front _ cs (c ∷ []) o)), λ o. x.1 (one_behind _ cs (c ∷ []) o)),
      λ y. let z = a.1 y in let w = b.1 z.0 in (
        w.0,
        λ o. elim (one_split _ cs (c ∷ []) o)
            [ inl old ↦ w.1 old | inr new ↦ z.1 new ],
      ),
    )

single_none : (locations : List ℕ) (bodies : List Formula) (s : Stack) (h : SortedCells) (c : SymbolicCase)
    → (SaysCase locations bodies s h c → ⊥) → SaysOne locations bodies s h (c ∷ []) → ⊥
single_none locations bodies s h c n (inl x) = n x
single_none locations bodies s h c n (inr x) = x

pub without_closed : (c : SymbolicCase) (first second : List SymbolicCase)
    → AreWithout (c ∷ []) first second first (second ++ c ∷ [])
without_closed c first second locations bodies s h =
    let step = denied_said (Before first second) first second c (before_said first second) locations bodies s h in
    (λ x. step.0 (x.0, λ says. x.1 (inl says)), λ y. let x = step.1 y in (x.0, single_none locations bodies s h c x.1))

pub without_open : (c : SymbolicCase) (first second joined : List SymbolicCase) → AreFine 0 first → IsFine 0 c
    → c.any_heap ≡ true → c.quantified ≡ 0 → join_all Conjunction 0 first (negations c.pure) ≡ Ok joined
    → AreWithout (c ∷ []) first second joined second
without_open c first second joined fa fc any none p locations bodies s h =
    let step = open_denied_said (Before first second) first second joined c fa fc any none p (before_said first second)
    locations bodies s h in
    (λ x. step.0 (x.0, λ says. x.1 (inl says)), λ y. let x = step.1 y in (x.0, single_none locations bodies s h c x.1))

pub denied_more : (fs gs : List Formula) (g : Formula) (cs first second third fourth : List SymbolicCase)
    → IsDisjunctiveForm g cs → AreWithout cs first second third fourth
    → AreSides fs gs first second → AreSides fs (gs ++ g ∷ []) third fourth
denied_more fs gs g cs first second third fourth form without said locations bodies s h =
    let N : Formula → Type 0 = λ f. Says locations bodies s h f → ⊥ in
    let before = said locations bodies s h in
    let step = without locations bodies s h in
    let same = form locations bodies s h in (
      λ x. step.0 (before.0 (x.0, each_front N gs (g ∷ []) x.1), λ o. (each_back N gs (g ∷ []) x.1).0 (same.1 o)),
      λ y. let z = step.1 y in let w = before.1 z.0 in
          (w.0, each_append N gs (g ∷ []) w.1 (λ says. z.1 (same.0 says), tt)),
    )
