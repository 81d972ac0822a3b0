-- The premises of a rule are within the limits where the theory, the sequent and the rule are.
use Rattle.std.proofs.Common.{◌≡◌, ℕ, zero, suc, ◌+◌, Bool, true, false, ◌&&◌, List, [], ◌∷◌, map, length, Option, Some}
use Rattle.std.proofs.Common.{None, refl, subst, leb-true}
use Rattle.std.specs.Prelude.{Ok, Err, slice_get, nat_eq, nat_le}
use Rattle.std.specs.List.{list_all}
use Rattle.std.proofs.lemmas.Bool.{and_parts}
use Rattle.heap_formula.specs.declared.proof_rules.Side.{Side}
use Rattle.heap_formula.specs.declared.proof_rules.Side.TheVariants.{Left as TheLeft, Right as TheRight}
use Rattle.heap_formula.specs.Words.{Each}
use Rattle.heap_formula.specs.Positions.{without}
use Rattle.fo_formula.specs.declared.atoms.FoAtom.{FoAtom}
use Rattle.fo_formula.specs.declared.atoms.FoAtom.TheVariants.{Equation, Predicate}
use Rattle.fo_formula.specs.declared.nodes.FoRule.{FoRule}
use Rattle.fo_formula.specs.declared.nodes.FoRule.TheVariants.{Axiom, Refl, Clash, Decompose, Replace, WeakenLeft}
use Rattle.fo_formula.specs.declared.nodes.FoRule.TheVariants.{WeakenRight, Contract, Unfold, Cut, Right}
use Rattle.fo_formula.specs.declared.sequents.FoSequent.{FoSequent}
use Rattle.fo_formula.specs.declared.theory.FoDefinition.{FoDefinition}
use Rattle.fo_formula.specs.declared.theory.FoTheory.{FoTheory}
use Rattle.fo_formula.specs.declared.numbers.Kind.TheVariants.{Locals}
use Rattle.fo_formula.specs.Bounds.{atoms_bound, sequent_bound}
use Rattle.fo_formula.specs.Meaning.{cases_of}
use Rattle.fo_formula.specs.Sizes.{sequent_size, words_size, atom_size}
use Rattle.fo_formula.specs.Values.{sign_value}
use Rattle.fo_formula.specs.Words.{Word, in_atom}
use Rattle.fo_formula.specs.declared.table.faults.FoFault.{FoFault}
use Rattle.fo_formula.specs.declared.table.faults.FoFault.TheVariants.{NoSuchAtom, AtomsDiffer, NotAbsurd, NotVariable}
use Rattle.fo_formula.specs.declared.table.faults.FoFault.TheVariants.{NoSuchCase, NoFreshVariable, TermCount}
use Rattle.fo_formula.specs.declared.table.faults.FoFault.TheVariants.{TooManyAtoms, TooManyTerms}
use Rattle.fo_formula.specs.declared.table.premises.FoPremise.{FoPremise}
use Rattle.fo_formula.specs.Answers.{Answer, needs, finds, equation, predicate, is_short, is_small, within, limited}
use Rattle.fo_formula.specs.Tests.{same_word, same_atom, only_variable, is_absurd, have_one_constructor}
use Rattle.fo_formula.specs.Table.{image_sign, argument_equations, weakened_left, weakened_right, decomposed, with_term}
use Rattle.fo_formula.specs.Table.{named, unnamed, contracted, fresh_locals, unfold_premise, is_numbered, right_premise}
use Rattle.fo_formula.specs.Table.{cut_right, cut_left, rule_answer}
use Rattle.fo_formula.specs.Small.{IsSmallSequent}
use Rattle.fo_logic.specs.Limits.{IsSignWithin, IsCaseSign, IsTermWithin, IsAtomOf, IsAtomWithin, HasAtomsWithin}
use Rattle.fo_logic.specs.Limits.{IsSequentWithin, IsRuleWithin, IsDefinitionWithin, IsTheoryWithin}
use Rattle.fo_logic.proofs.Lists.{each_set}
use Rattle.fo_logic.proofs.Filled.{atom_filled, atoms_filled, value_fills, image_fills, variables_within}
use Rattle.fo_logic.proofs.Filled.{arguments_within}
use Rattle.heap_formula.proofs.AllMembers.{each_append, each_at, each_made, each_both, each_without}

abbrev pub IsPremiseWithin : FoTheory → FoPremise → Type 0
IsPremiseWithin t p = IsSequentWithin t p.sequent

abbrev pub IsPremiseSmall : FoPremise → Type 0
IsPremiseSmall p = IsSmallSequent p.sequent

abbrev pub HasPremiseAtoms : FoTheory → FoPremise → Type 0
HasPremiseAtoms t p = HasAtomsWithin t p.sequent

-- where the answer is premises, they are within the limits
abbrev pub StaysWithin : FoTheory → Answer → Type 0
StaysWithin t (Ok ps) = Each (IsPremiseWithin t) ps
StaysWithin t (Err f) = Unit {0}

-- ---- what the tests tell

small_of : (s : FoSequent) → is_short s ≡ true → is_small s ≡ true → IsSmallSequent s
small_of s a b =
    let p = and_parts (nat_le (length s.left) 32) (nat_le (length s.right) 16) a in
    record {
      left = leb-true (length s.left) 32 p.0;
      right = leb-true (length s.right) 16 p.1;
      size = leb-true (sequent_size s) 4096 b;
    }

all_small : (ps : List FoPremise) → list_all (λ (p : FoPremise). is_short p.sequent) ps ≡ true
    → list_all (λ (p : FoPremise). is_small p.sequent) ps ≡ true → Each IsPremiseSmall ps
all_small [] a b = tt
all_small (p ∷ ps) a b =
    let c = and_parts (is_short p.sequent) (list_all (λ (p : FoPremise). is_short p.sequent) ps) a in
    let d = and_parts (is_small p.sequent) (list_all (λ (p : FoPremise). is_small p.sequent) ps) b in
    (small_of p.sequent c.0 d.0, all_small ps c.1 d.1)

all_numbered : (n : ℕ) (cases : List (List FoAtom)) → list_all (is_numbered n) cases ≡ true
    → Each (λ (c : List FoAtom). is_numbered n c ≡ true) cases
all_numbered n [] h = tt
all_numbered n (c ∷ cases) h =
    let p = and_parts (is_numbered n c) (list_all (is_numbered n) cases) h in (p.0, all_numbered n cases p.1)

module _ (t : FoTheory) where
  needs_within : (b : Bool) (f : FoFault) (rest : Answer) → (b ≡ true → StaysWithin t rest)
      → StaysWithin t (needs b f rest)
  needs_within true f rest g = g refl
  needs_within false f rest g = tt

  finds_within : {X : Type 0} (o : Option X) (f : FoFault) (rest : X → Answer)
      → ((x : X) → o ≡ Some x → StaysWithin t (rest x)) → StaysWithin t (finds o f rest)
  finds_within None f rest g = tt
  finds_within (Some x) f rest g = g x refl

  equation_within : (x : FoAtom) (rest : Word → Word → Answer)
      → ((l r : Word) → x ≡ Equation l r → StaysWithin t (rest l r)) → StaysWithin t (equation x rest)
  equation_within (Equation l r) rest g = g l r refl
  equation_within (Predicate p ts) rest g = tt

  predicate_within : (x : FoAtom) (rest : ℕ → List Word → Answer)
      → ((p : ℕ) (ts : List Word) → x ≡ Predicate p ts → StaysWithin t (rest p ts)) → StaysWithin t (predicate x rest)
  predicate_within (Equation l r) rest g = tt
  predicate_within (Predicate p ts) rest g = g p ts refl

  small_within : (s : FoSequent) (n : ℕ) (ps : List FoPremise) (rest : Answer)
      → (Each IsPremiseSmall ps → StaysWithin t rest) → StaysWithin t (within s n ps rest)
  small_within s n ps rest g =
      needs_within (list_all (λ (p : FoPremise). is_short p.sequent) ps) TooManyAtoms _ (λ a.
      needs_within (nat_le (sequent_size s + n) 4096 && list_all (λ (p : FoPremise). is_small p.sequent) ps)
      TooManyTerms rest (λ b.
      g (all_small ps a (and_parts (nat_le (sequent_size s + n) 4096)
      (list_all (λ (p : FoPremise). is_small p.sequent) ps) b).1)))

  limited_within : (s : FoSequent) (n : ℕ) (ps : List FoPremise) → Each (HasPremiseAtoms t) ps
      → StaysWithin t (limited s n ps)
  limited_within s n ps atoms =
      small_within s n ps (Ok ps) (λ small. each_both IsPremiseSmall (HasPremiseAtoms t) ps small atoms)

  -- ---- cases

  cases_within : (ds : List FoDefinition) → Each (IsDefinitionWithin t) ds → (p : ℕ)
      → Each (λ (c : List FoAtom). Each (IsAtomOf t (IsCaseSign t)) c) (cases_of ds p)
  cases_within [] h p = tt
  cases_within (d ∷ ds) h zero = h.0
  cases_within (d ∷ ds) h (suc p) = cases_within ds h.1 p

module _ (t : FoTheory) (theory : IsTheoryWithin t) (s : FoSequent) (ok : IsSequentWithin t s) where
  abbrev IsIn : FoAtom → Type 0
  IsIn = IsAtomWithin t

  lefts : Each IsIn s.left
  lefts = ok.1.0

  rights : Each IsIn s.right
  rights = ok.1.1

  kept : (i : ℕ) → Each IsIn (without i s.left)
  kept i = each_without IsIn i s.left lefts

  left_at : (i : ℕ) (x : FoAtom) → slice_get s.left i ≡ Some x → IsIn x
  left_at i x at = each_at IsIn s.left i x at lefts

  sides : (l r : Word) (i : ℕ) (x : FoAtom) → slice_get s.left i ≡ Some x → x ≡ Equation l r
      → IsTermWithin t l × IsTermWithin t r
  sides l r i x at is = subst IsIn is (left_at i x at)

  arguments : (p : ℕ) (ts : List Word) (x : FoAtom) → IsIn x → x ≡ Predicate p ts → Each (IsTermWithin t) ts
  arguments p ts x h is = (subst IsIn is h).1

  -- the named side's variable goes
  other_side : (side : Side) (l r : Word) → IsTermWithin t l × IsTermWithin t r → IsTermWithin t (unnamed side l r)
  other_side TheLeft l r h = h.1
  other_side TheRight l r h = h.0

  replaced_within : (i n : ℕ) (w : Word) → IsTermWithin t w → HasPremiseAtoms t (with_term s i n w)
  replaced_within i n w h =
      let f = image_sign ((n, w) ∷ []) in
      let fills = image_fills t ((n, w) ∷ []) (h, tt) in (
        atoms_filled (IsSignWithin t) (IsSignWithin t) f fills t (without i s.left) (kept i),
        atoms_filled (IsSignWithin t) (IsSignWithin t) f fills t s.right rights,
      )

  unfold_within : (i n : ℕ) (args : List Word) (case : List FoAtom) → Each (IsTermWithin t) args
      → Each (IsAtomOf t (IsCaseSign t)) case → is_numbered n case ≡ true
      → HasPremiseAtoms t (unfold_premise s i args n case)
  unfold_within i n args case args_within case_within numbered =
      let locals = fresh_locals n case in
      let named = variables_within t n (atoms_bound Locals case) (leb-true (n + atoms_bound Locals case) 65535 numbered)
      in
      let fills = value_fills t theory.constant args locals args_within named in (
        each_append IsIn (without i s.left) (map (in_atom (sign_value args locals)) case) (kept i)
            (atoms_filled (IsCaseSign t) (IsSignWithin t) (sign_value args locals) fills t case case_within),
        rights,
      )

  unfolds_within : (i n : ℕ) (args : List Word) (cases : List (List FoAtom)) → Each (IsTermWithin t) args
      → Each (λ (c : List FoAtom). Each (IsAtomOf t (IsCaseSign t)) c) cases
      → Each (λ (c : List FoAtom). is_numbered n c ≡ true) cases
      → Each (HasPremiseAtoms t) (map (unfold_premise s i args n) cases)
  unfolds_within i n args [] a c m = tt
  unfolds_within i n args (case ∷ cases) a c m = (
    unfold_within i n args case a c.0 m.0,
    unfolds_within i n args cases a c.1 m.1,
  )

  rights_within : (j : ℕ) (args terms : List Word) (case : List FoAtom) → Each (IsTermWithin t) args
      → Each (IsTermWithin t) terms → Each (IsAtomOf t (IsCaseSign t)) case
      → Each (HasPremiseAtoms t) (map (right_premise s j args terms) case)
  rights_within j args terms case args_within terms_within case_within =
      each_made (right_premise s j args terms) (IsAtomOf t (IsCaseSign t)) (HasPremiseAtoms t) (λ x h. (
        lefts,
        each_set IsIn s.right j (in_atom (sign_value args terms) x) rights
            (atom_filled (IsCaseSign t) (IsSignWithin t) (sign_value args terms)
            (value_fills t theory.constant args terms args_within terms_within) t x h),
      )) case case_within

  rule_within : (rule : FoRule) → IsRuleWithin t rule → StaysWithin t (rule_answer t s rule)
  rule_within (Axiom i j) h =
      finds_within t (slice_get s.left i) NoSuchAtom _ (λ x at.
      finds_within t (slice_get s.right j) NoSuchAtom _ (λ y there.
      needs_within t (same_atom x y) AtomsDiffer (limited s 0 []) (λ _. limited_within t s 0 [] tt)))
  rule_within (Refl j) h =
      finds_within t (slice_get s.right j) NoSuchAtom _ (λ x at.
      equation_within t x _ (λ l r is. needs_within t (same_word l r) AtomsDiffer (limited s 0 [])
      (λ _. limited_within t s 0 [] tt)))
  rule_within (Clash i) h =
      finds_within t (slice_get s.left i) NoSuchAtom _ (λ x at.
      equation_within t x _ (λ l r is. needs_within t (is_absurd l r) NotAbsurd (limited s 0 [])
      (λ _. limited_within t s 0 [] tt)))
  rule_within (Decompose i) h =
      finds_within t (slice_get s.left i) NoSuchAtom _ (λ x at.
      equation_within t x _ (λ l r is.
      needs_within t (have_one_constructor l r) AtomsDiffer (limited s 0 (decomposed s i l r ∷ [])) (λ one.
      let both = sides l r i x at is in
      limited_within t s 0 (decomposed s i l r ∷ []) (
        (
          each_append IsIn (without i s.left) (argument_equations l r) (kept i)
              (arguments_within t l r one both.0 both.1),
          rights,
        ),
        tt,
      ))))
  rule_within (Replace i side) h =
      finds_within t (slice_get s.left i) NoSuchAtom _ (λ x at.
      equation_within t x _ (λ l r is.
      finds_within t (only_variable (named side l r)) NotVariable _ (λ n only.
      limited_within t s 0 (with_term s i n (unnamed side l r) ∷ [])
      (replaced_within i n (unnamed side l r) (other_side side l r (sides l r i x at is)), tt))))
  rule_within (WeakenLeft i) h =
      finds_within t (slice_get s.left i) NoSuchAtom _
      (λ x at. limited_within t s 0 (weakened_left s i ∷ []) ((kept i, rights), tt))
  rule_within (WeakenRight j) h =
      finds_within t (slice_get s.right j) NoSuchAtom _
      (λ x at. limited_within t s 0 (weakened_right s j ∷ []) ((lefts, each_without IsIn j s.right rights), tt))
  rule_within (Contract i) h =
      finds_within t (slice_get s.left i) NoSuchAtom _ (λ x at.
      limited_within t s 0 (contracted s i x ∷ [])
      ((each_append IsIn s.left (x ∷ []) lefts (left_at i x at, tt), rights), tt))
  rule_within (Unfold i) h =
      finds_within t (slice_get s.left i) NoSuchAtom _ (λ x at.
      predicate_within t x _ (λ p args is.
      let n = sequent_bound s in
      let cases = cases_of t.definitions p in
      let ps = map (unfold_premise s i args n) cases in
      small_within t s 0 ps _ (λ small.
      needs_within t (list_all (is_numbered n) cases) NoFreshVariable (Ok ps) (λ numbered.
      each_both IsPremiseSmall (HasPremiseAtoms t) ps small
      (unfolds_within i n args cases (arguments p args x (left_at i x at) is)
      (cases_within t t.definitions theory.definitions p) (all_numbered n cases numbered))))))
  rule_within (Cut x) h =
      limited_within t s (atom_size x) (cut_right s x ∷ cut_left s x ∷ []) (
        (lefts, each_append IsIn s.right (x ∷ []) rights (h, tt)),
        ((each_append IsIn s.left (x ∷ []) lefts (h, tt), rights), tt),
      )
  rule_within (Right j c terms) h =
      finds_within t (slice_get s.right j) NoSuchAtom _ (λ y at.
      predicate_within t y _ (λ p args is.
      finds_within t (slice_get (cases_of t.definitions p) c) NoSuchCase _ (λ case there.
      needs_within t (nat_eq (length terms) (atoms_bound Locals case)) TermCount _ (λ count.
      limited_within t s (words_size terms) (map (right_premise s j args terms) case)
      (rights_within j args terms case (arguments p args y (each_at IsIn s.right j y at rights) is) h
      (each_at (λ (c : List FoAtom). Each (IsAtomOf t (IsCaseSign t)) c) (cases_of t.definitions p) c case there
      (cases_within t t.definitions theory.definitions p)))))))

pub premises_within : (t : FoTheory) (s : FoSequent) (rule : FoRule) (ps : List FoPremise) → IsTheoryWithin t
    → IsSequentWithin t s → IsRuleWithin t rule → rule_answer t s rule ≡ Ok ps → Each (IsPremiseWithin t) ps
premises_within t s rule ps theory ok h is = subst (StaysWithin t) is (rule_within t theory s ok rule h)
