-- The numbers of a reason without a fault are within the limits.
use Rattle.std.proofs.Common.{◌≡◌, ℕ, zero, suc, ◌<◌, ◌≤◌, List, [], ◌∷◌, length, Option, Some, None, slice_get, refl}
use Rattle.std.proofs.Common.{subst, arith}
use Rattle.std.specs.Prelude.{Ok, Err}
use Rattle.std.proofs.lemmas.Option.{slice_get_within}
use Rattle.heap_formula.specs.Words.{Each}
use Rattle.fo_formula.specs.declared.atoms.FoAtom.{FoAtom}
use Rattle.fo_formula.specs.declared.atoms.FoAtom.TheVariants.{Equation, Predicate}
use Rattle.fo_formula.specs.declared.nodes.FoLink.{FoLink}
use Rattle.fo_formula.specs.declared.nodes.FoReason.TheVariants.{Rule, Link}
use Rattle.fo_formula.specs.declared.nodes.FoRule.{FoRule}
use Rattle.fo_formula.specs.declared.nodes.FoRule.TheVariants.{Axiom, Refl, Clash, Decompose, Replace, WeakenLeft}
use Rattle.fo_formula.specs.declared.nodes.FoRule.TheVariants.{WeakenRight, Contract, Unfold, Cut, Right}
use Rattle.fo_formula.specs.declared.sequents.FoSequent.{FoSequent}
use Rattle.fo_formula.specs.declared.theory.FoDefinition.{FoDefinition}
use Rattle.fo_formula.specs.declared.theory.FoTheory.{FoTheory}
use Rattle.fo_formula.specs.Meaning.{cases_of}
use Rattle.fo_formula.specs.Words.{Word}
use Rattle.fo_formula.specs.Small.{IsSmallSequent, IsSmallDefinition}
use Rattle.fo_formula.specs.declared.table.faults.FoFault.{FoFault}
use Rattle.fo_formula.specs.declared.table.faults.FoFault.TheVariants.{NoSuchAtom, NoSuchCase}
use Rattle.fo_formula.specs.declared.table.premises.FoPremise.{FoPremise}
use Rattle.fo_formula.specs.Answers.{Answer, finds, predicate}
use Rattle.fo_formula.specs.LinkTable.{link_fault, linked}
use Rattle.fo_formula.specs.Table.{rule_answer}
use Rattle.fo_formula.proofs.Links.{Names, link_names}
use Rattle.fo_logic.specs.Limits.{IsSequentWithin, IsTheoryWithin, IsNumberWithin, numbers_of, numbers_of_rule}
use Rattle.heap_formula.proofs.AllMembers.{each_append}

-- ---- what holds where the answer is premises

abbrev pub WhereOk : Type 0 → Answer → Type 0
WhereOk P (Ok ps) = P
WhereOk P (Err f) = Unit {0}

module _ (P : Type 0) where
  given : (answer : Answer) → P → WhereOk P answer
  given (Ok ps) h = h
  given (Err f) h = tt

  finds_given : {X : Type 0} (o : Option X) (f : FoFault) (rest : X → Answer)
      → ((x : X) → o ≡ Some x → WhereOk P (rest x)) → WhereOk P (finds o f rest)
  finds_given None f rest g = tt
  finds_given (Some x) f rest g = g x refl

  predicate_given : (x : FoAtom) (rest : ℕ → List Word → Answer)
      → ((p : ℕ) (args : List Word) → WhereOk P (rest p args)) → WhereOk P (predicate x rest)
  predicate_given (Equation l r) rest g = tt
  predicate_given (Predicate p args) rest g = g p args

-- ---- rules

-- a place in a short list
place : {X : Type 0} (xs : List X) (i : ℕ) (x : X) → length xs ≤ 32 → slice_get xs i ≡ Some x → IsNumberWithin i
place xs i x few at = let below = slice_get_within xs i x at in omega arith

few_cases : (ds : List FoDefinition) → Each IsSmallDefinition ds → (p : ℕ) → length (cases_of ds p) ≤ 32
few_cases [] h p = omega arith
few_cases (d ∷ ds) h zero = let few = h.0.cases in omega arith
few_cases (d ∷ ds) h (suc p) = few_cases ds h.1 p

module _ (t : FoTheory) (theory : IsTheoryWithin t) (s : FoSequent) (small : IsSmallSequent s) where
  few_right : length s.right ≤ 32
  few_right = let few = small.right in omega arith

  left_place : (i : ℕ) (rest : FoAtom → Answer)
      → WhereOk (Each IsNumberWithin (i ∷ [])) (finds (slice_get s.left i) NoSuchAtom rest)
  left_place i rest =
      let P = Each IsNumberWithin (i ∷ []) in
      finds_given P (slice_get s.left i) NoSuchAtom rest (λ x at. given P (rest x) (place s.left i x small.left at, tt))

  right_place : (j : ℕ) (rest : FoAtom → Answer)
      → WhereOk (Each IsNumberWithin (j ∷ [])) (finds (slice_get s.right j) NoSuchAtom rest)
  right_place j rest =
      let P = Each IsNumberWithin (j ∷ []) in
      finds_given P (slice_get s.right j) NoSuchAtom rest
      (λ x at. given P (rest x) (place s.right j x few_right at, tt))

  numbered : (rule : FoRule) → WhereOk (Each IsNumberWithin (numbers_of_rule rule)) (rule_answer t s rule)
  numbered (Axiom i j) =
      let P = Each IsNumberWithin (i ∷ j ∷ []) in
      finds_given P (slice_get s.left i) NoSuchAtom _ (λ x at.
      finds_given P (slice_get s.right j) NoSuchAtom _ (λ y there.
      given P _ (place s.left i x small.left at, (place s.right j y few_right there, tt))))
  numbered (Refl j) = right_place j _
  numbered (Clash i) = left_place i _
  numbered (Decompose i) = left_place i _
  numbered (Replace i side) = left_place i _
  numbered (WeakenLeft i) = left_place i _
  numbered (WeakenRight j) = right_place j _
  numbered (Contract i) = left_place i _
  numbered (Unfold i) = left_place i _
  numbered (Cut x) = given (Unit {0}) (rule_answer t s (Cut x)) tt
  numbered (Right j c terms) =
      let P = Each IsNumberWithin (j ∷ c ∷ []) in
      finds_given P (slice_get s.right j) NoSuchAtom _ (λ y at.
      predicate_given P y _ (λ p args.
      finds_given P (slice_get (cases_of t.definitions p) c) NoSuchCase _ (λ case there.
      given P _ (
        place s.right j y few_right at,
        (
          place (cases_of t.definitions p) c case
              (few_cases t.definitions theory.small p) there,
          tt,
        ),
      ))))

pub rule_numbers : (t : FoTheory) (s : FoSequent) (rule : FoRule) (ps : List FoPremise) → IsTheoryWithin t
    → IsSequentWithin t s → rule_answer t s rule ≡ Ok ps → Each IsNumberWithin (numbers_of (Rule rule))
rule_numbers t s rule ps theory ok is =
    subst (WhereOk (Each IsNumberWithin (numbers_of_rule rule))) is (numbered t theory s ok.0 rule)

-- ---- links

-- each entry of a map is a place
entries_within : (atoms : List FoAtom) (ms : List ℕ) (xs : List FoAtom) → length atoms ≤ 32 → Names atoms ms xs
    → Each IsNumberWithin ms
entries_within atoms [] xs few names = tt
entries_within atoms (m ∷ ms) [] few names = absurd names
entries_within atoms (m ∷ ms) (x ∷ xs) few names = (place atoms m x few names.0, entries_within atoms ms xs few names.1)

pub link_numbers : (t : FoTheory) (bud companion : FoSequent) (link : FoLink) → IsSequentWithin t bud → link.to < 20000
    → link_fault bud companion link ≡ None → Each IsNumberWithin (numbers_of (Link link))
link_numbers t bud companion link ok few none =
    let names = link_names bud companion link none in
    let few_right = ok.0.right in
    let short : length bud.right ≤ 32 = omega arith in
    let lefts = entries_within bud.left link.left_map (linked link companion.left) ok.0.left names.0 in
    let rights = entries_within bud.right link.right_map (linked link companion.right) short names.1 in
    (omega arith, each_append IsNumberWithin link.left_map link.right_map lefts rights)
