-- Theories, sequents and reasons within the limits of a file: terms over the constructors, predicates with as many
-- arguments as they take, variables up to number 65,534, and few atoms and terms.
use Rattle.std.specs.Prelude.{ℕ, ◌≡◌, ◌≤◌, ◌<◌, ◌+◌, ◌^◌, List, [], ◌∷◌, ◌++◌, map, length, Some, slice_get}
use Rattle.cyc_basics.specs.declared.limits.TheConstants.{GREATEST_VARIABLE, MOST_TERMS}
use Rattle.heap_formula.specs.Words.{Each}
use Rattle.fo_formula.specs.declared.terms.Sign.{Sign}
use Rattle.fo_formula.specs.declared.terms.Sign.TheVariants.{Universal, Local, Constructor}
use Rattle.fo_formula.specs.declared.atoms.FoAtom.{FoAtom}
use Rattle.fo_formula.specs.declared.atoms.FoAtom.TheVariants.{Equation, Predicate}
use Rattle.fo_formula.specs.Nodes.{FoNode}
use Rattle.fo_formula.specs.declared.nodes.FoReason.{FoReason}
use Rattle.fo_formula.specs.declared.nodes.FoReason.TheVariants.{Rule, Link}
use Rattle.fo_formula.specs.declared.nodes.FoRule.{FoRule}
use Rattle.fo_formula.specs.declared.nodes.FoRule.TheVariants.{Axiom, Refl, Clash, Decompose, Replace, WeakenLeft}
use Rattle.fo_formula.specs.declared.nodes.FoRule.TheVariants.{WeakenRight, Contract, Unfold, Cut, Right}
use Rattle.fo_formula.specs.declared.sequents.FoSequent.{FoSequent}
use Rattle.fo_formula.specs.declared.theory.FoDefinition.{FoDefinition}
use Rattle.fo_formula.specs.declared.theory.FoTheory.{FoTheory}
use Rattle.fo_formula.specs.Words.{Word, IsTerm}
use Rattle.fo_formula.specs.Values.{IsConstructor}
use Rattle.fo_formula.specs.Shapes.{HasConstant}
use Rattle.fo_formula.specs.Sizes.{sequent_size, reason_size}
use Rattle.fo_formula.specs.Small.{IsSmallSequent, IsSmallDefinition}

-- ---- terms and atoms

-- a sign of a sequent: a variable whose number a file may have, or a constructor with its number of arguments
abbrev pub IsSignWithin : FoTheory → Sign → Type 0
IsSignWithin t (Universal n) = n ≤ GREATEST_VARIABLE
IsSignWithin t (Local n) = ⊥
IsSignWithin t (Constructor c k) = IsConstructor t.constructors c k

-- a sign of a case: an argument of the predicate, a local, or a constructor with its number of arguments
abbrev pub IsCaseSign : FoTheory → Sign → Type 0
IsCaseSign t (Universal n) = Unit {0}
IsCaseSign t (Local n) = Unit {0}
IsCaseSign t (Constructor c k) = IsConstructor t.constructors c k

-- a term of such signs
abbrev pub IsTermOf : (Sign → Type 0) → Word → Type 0
IsTermOf Q w = IsTerm w × Each Q w

-- the predicate is defined, and takes so many arguments
abbrev pub TakesArguments : FoTheory → ℕ → ℕ → Type 0
TakesArguments t p n = slice_get (map (λ (d : FoDefinition). d.arity) t.definitions) p ≡ Some n

-- an atom of terms of such signs
abbrev pub IsAtomOf : FoTheory → (Sign → Type 0) → FoAtom → Type 0
IsAtomOf t Q (Equation l r) = IsTermOf Q l × IsTermOf Q r
IsAtomOf t Q (Predicate p ts) = TakesArguments t p (length ts) × Each (IsTermOf Q) ts

abbrev pub IsTermWithin : FoTheory → Word → Type 0
IsTermWithin t w = IsTermOf (IsSignWithin t) w

abbrev pub IsAtomWithin : FoTheory → FoAtom → Type 0
IsAtomWithin t x = IsAtomOf t (IsSignWithin t) x

-- ---- sequents and reasons

abbrev pub HasAtomsWithin : FoTheory → FoSequent → Type 0
HasAtomsWithin t s = Each (IsAtomWithin t) s.left × Each (IsAtomWithin t) s.right

abbrev pub IsSequentWithin : FoTheory → FoSequent → Type 0
IsSequentWithin t s = IsSmallSequent s × HasAtomsWithin t s

abbrev pub IsRuleWithin : FoTheory → FoRule → Type 0
IsRuleWithin t (Cut x) = IsAtomWithin t x
IsRuleWithin t (Right j c terms) = Each (IsTermWithin t) terms
IsRuleWithin t _ = Unit {0}

-- a variable and its term
abbrev pub IsPairWithin : FoTheory → ℕ × Word → Type 0
IsPairWithin t pair = (pair.0 ≤ GREATEST_VARIABLE) × IsTermWithin t pair.1

abbrev pub IsReasonWithin : FoTheory → FoReason → Type 0
IsReasonWithin t (Rule rule) = IsRuleWithin t rule
IsReasonWithin t (Link link) = Each (IsPairWithin t) link.substitution

-- ---- nodes

-- the positions and cases that a rule names, and the nodes and positions that a link does
abbrev pub numbers_of_rule : FoRule → List ℕ
numbers_of_rule (Axiom i j) = i ∷ j ∷ []
numbers_of_rule (Refl j) = j ∷ []
numbers_of_rule (Clash i) = i ∷ []
numbers_of_rule (Decompose i) = i ∷ []
numbers_of_rule (Replace i side) = i ∷ []
numbers_of_rule (WeakenLeft i) = i ∷ []
numbers_of_rule (WeakenRight j) = j ∷ []
numbers_of_rule (Contract i) = i ∷ []
numbers_of_rule (Unfold i) = i ∷ []
numbers_of_rule (Cut x) = []
numbers_of_rule (Right j c terms) = j ∷ c ∷ []

abbrev pub numbers_of : FoReason → List ℕ
numbers_of (Rule rule) = numbers_of_rule rule
numbers_of (Link link) = link.to ∷ (link.left_map ++ link.right_map)

-- a number has at most nine digits
abbrev pub IsNumberWithin : ℕ → Type 0
IsNumberWithin n = n < 10 ^ 9

-- a node within the limits, with its reason at most 4,096 terms
pub record IsNodeWithin (t : FoTheory) (n : FoNode) : Type 0 where
  pub sequent : IsSequentWithin t n.judgement
  pub reason : IsReasonWithin t n.reason
  pub size : sequent_size n.judgement + reason_size n.reason ≤ MOST_TERMS
  pub numbers : Each IsNumberWithin (numbers_of n.reason)
  pub premises : Each IsNumberWithin n.premises

-- ---- theories

abbrev pub IsDefinitionWithin : FoTheory → FoDefinition → Type 0
IsDefinitionWithin t d = Each (λ (case : List FoAtom). Each (IsAtomOf t (IsCaseSign t)) case) d.cases

-- a first constructor without arguments, and definitions within the limits, of terms over the constructors
pub record IsTheoryWithin (t : FoTheory) : Type 0 where
  pub constant : HasConstant t
  pub small : Each IsSmallDefinition t.definitions
  pub definitions : Each (IsDefinitionWithin t) t.definitions
