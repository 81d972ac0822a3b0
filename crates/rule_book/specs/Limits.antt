-- What may stand in a proof file of a version with these limits.
use Rattle.std.specs.Prelude.{◌≡◌, ℕ, ◌<◌, ◌≤◌, ◌^◌, List, length, true, None}
use Rattle.cyc_basics.specs.declared.limits.Limits.{Limits}
use Rattle.cyc_basics.specs.declared.limits.TheConstants.{GREATEST_VARIABLE, MOST_ARGUMENTS, MOST_DISJUNCTS}
use Rattle.cyc_basics.specs.declared.limits.TheConstants.{VARIABLE_NUMBERS}
use Rattle.heap_formula.specs.declared.terms.Term.{Term}
use Rattle.heap_formula.specs.declared.atoms.Spatial.{Spatial}
use Rattle.heap_formula.specs.declared.atoms.Spatial.TheVariants.{Cell, Pred}
use Rattle.heap_formula.specs.declared.commands.Command.{Command}
use Rattle.heap_formula.specs.declared.commands.Command.TheVariants.{Ends}
use Rattle.heap_formula.specs.declared.judgements.Judgement.{Judgement}
use Rattle.heap_formula.specs.declared.judgements.Judgement.TheVariants.{Entail, Term as Runs}
use Rattle.heap_formula.specs.declared.judgements.Premise.{Premise}
use Rattle.heap_formula.specs.declared.proof_rules.Link.{Link}
use Rattle.heap_formula.specs.declared.proof_rules.Rule.{Rule}
use Rattle.heap_formula.specs.declared.proof_rules.Rule.TheVariants.{Absurd, Rewrite, Split, Distinct, Weaken, Unfold}
use Rattle.heap_formula.specs.declared.proof_rules.Rule.TheVariants.{Cut, Done, Choose, PureRight, Instantiate, Frame}
use Rattle.heap_formula.specs.declared.proof_rules.Rule.TheVariants.{UnfoldRight, Exec, Drop}
use Rattle.heap_formula.specs.declared.proof_rules.Reason.{Reason}
use Rattle.heap_formula.specs.declared.proof_rules.Reason.TheVariants.{Step, Back}
use Rattle.heap_formula.specs.Closedness.{IsUniversal, IsUniversalHeap}
use Rattle.heap_formula.specs.Definitions.{Definition}
use Rattle.heap_formula.specs.Fresh.{heap_bound, heap_exists}
use Rattle.heap_formula.specs.Judgements.{antecedent}
use Rattle.heap_formula.specs.Symbolic.{SymbolicHeap}
use Rattle.heap_formula.specs.Words.{Each}
use Rattle.goto_lang.specs.Lines.{IsLineOf}
use Rattle.pred_defs.specs.Faults.{case_fault}
use Rattle.rule_table.specs.Answer.{number_bound, heaps_of, is_short, has_numbers}

-- ---- heaps and judgements

-- a cell has one to eight fields
abbrev pub HasFields : Spatial → Type 0
HasFields (Cell t ts) = (0 < length ts) × (length ts ≤ MOST_ARGUMENTS)
HasFields (Pred q ts) = Unit {0}

-- a heap outside definitions: no more atoms than the version allows, variables up to number 65,534, known predicates
-- with their numbers of arguments, and cells of one to eight fields
pub record IsHeapWithin (most : Limits) (ds : List Definition) (a : SymbolicHeap) : Type 0 where
  pub short : is_short most a ≡ true
  pub numbers : has_numbers a ≡ true
  pub known : case_fault ds a ≡ None
  pub fields : Each HasFields a.spatial

-- one to sixteen disjuncts; or one of so many lines
abbrev pub IsFormWithin : ℕ → Judgement → Type 0
IsFormWithin count (Entail a bs) = (0 < length bs) × (length bs ≤ MOST_DISJUNCTS)
IsFormWithin count (Runs i a) = IsLineOf count i

-- a judgement over these definitions, and so many lines
pub record IsJudgementWithin (most : Limits) (ds : List Definition) (count : ℕ) (j : Judgement) : Type 0 where
  pub heaps : Each (IsHeapWithin most ds) (heaps_of j)
  pub universal : IsUniversalHeap (antecedent j)
  pub form : IsFormWithin count j

abbrev pub IsPremiseWithin : Limits → List Definition → ℕ → Premise → Type 0
IsPremiseWithin most ds count p = IsJudgementWithin most ds count p.judgement

-- ---- programs

-- the disjuncts of an end, of which there are one to sixteen
abbrev pub IsCommandWithin : Limits → List Definition → Command → Type 0
IsCommandWithin most ds (Ends bs) = Each (IsHeapWithin most ds) bs × (0 < length bs) × (length bs ≤ MOST_DISJUNCTS)
IsCommandWithin most ds _ = Unit {0}

-- the ends of a program
abbrev pub AreEndsWithin : Limits → List Definition → List Command → Type 0
AreEndsWithin most ds lines = Each (IsCommandWithin most ds) lines

-- ---- definitions

-- a case: a heap with the parameters as its universal variables, and no more locals than the version allows
pub record IsCaseWithin (most : Limits) (ds : List Definition) (arity : ℕ) (case : SymbolicHeap) : Type 0 where
  pub heap : IsHeapWithin most ds case
  pub parameters : heap_bound case ≤ arity
  pub locals : heap_exists case ≤ most.locals

-- a definition: no more parameters and cases than the version allows, and one case at least
pub record IsDefinitionWithin (most : Limits) (ds : List Definition) (d : Definition) : Type 0 where
  pub arity : d.arity ≤ most.arguments
  pub some_case : 0 < length d.cases
  pub few : length d.cases ≤ most.cases
  pub cases : Each (IsCaseWithin most ds d.arity) d.cases

-- ---- reasons

-- a variable up to number 65,534, and no existential
abbrev pub IsTermWithin : Term → Type 0
IsTermWithin t = IsUniversal t × (number_bound t ≤ VARIABLE_NUMBERS)

-- the terms and the formula of a rule
abbrev pub IsRuleWithin : Limits → List Definition → Rule → Type 0
IsRuleWithin most ds (Split t u) = IsTermWithin t × IsTermWithin u
IsRuleWithin most ds (Cut places f) = IsHeapWithin most ds f
IsRuleWithin most ds (Instantiate v t) = (v ≤ GREATEST_VARIABLE) × IsTermWithin t
IsRuleWithin most ds _ = Unit {0}

abbrev pub IsPairWithin : ℕ × Term → Type 0
IsPairWithin pair = (pair.0 ≤ GREATEST_VARIABLE) × IsTermWithin pair.1

-- what a rule or a link brings in of its own
abbrev pub IsReasonWithin : Limits → List Definition → Reason → Type 0
IsReasonWithin most ds (Step rule) = IsRuleWithin most ds rule
IsReasonWithin most ds (Back link) = Each IsPairWithin link.subst

-- a number of at most nine digits
abbrev pub IsShortNumber : ℕ → Type 0
IsShortNumber n = n < 10 ^ 9

abbrev pub HasShortRule : Rule → Type 0
HasShortRule Absurd = Unit {0}
HasShortRule (Rewrite k side) = IsShortNumber k
HasShortRule (Split t u) = Unit {0}
HasShortRule (Distinct i k) = IsShortNumber i × IsShortNumber k
HasShortRule (Weaken k) = IsShortNumber k
HasShortRule (Unfold k) = IsShortNumber k
HasShortRule (Cut places f) = Each IsShortNumber places
HasShortRule Done = Unit {0}
HasShortRule (Choose k) = IsShortNumber k
HasShortRule (PureRight k) = IsShortNumber k
HasShortRule (Instantiate v t) = Unit {0}
HasShortRule (Frame i k) = IsShortNumber i × IsShortNumber k
HasShortRule (UnfoldRight k c) = IsShortNumber k × IsShortNumber c
HasShortRule Exec = Unit {0}
HasShortRule (Drop k) = IsShortNumber k

-- the numbers of the link's nodes and places
pub record HasShortLink (link : Link) : Type 0 where
  pub target : IsShortNumber link.target
  pub map : Each IsShortNumber link.map
  pub disjuncts : Each IsShortNumber link.disjuncts

-- the numbers of atoms, disjuncts, cases and nodes that a reason names
abbrev pub HasShortNumbers : Reason → Type 0
HasShortNumbers (Step rule) = HasShortRule rule
HasShortNumbers (Back link) = HasShortLink link
