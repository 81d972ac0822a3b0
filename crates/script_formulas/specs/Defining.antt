-- The goal and the definitions that a script becomes.
use Rattle.std.specs.Prelude.{◌≡◌, ◌≢◌, ℕ, List, [], ◌∷◌, ◌++◌, map, length, slice_get, Some}
use Rattle.std.specs.List.{AllZip}
use Rattle.heap_formula.specs.declared.terms.Term.{Term}
use Rattle.heap_formula.specs.declared.terms.Term.TheVariants.{Univ}
use Rattle.heap_formula.specs.declared.atoms.Spatial.TheVariants.{Pred}
use Rattle.heap_formula.specs.declared.judgements.Judgement.{Judgement}
use Rattle.heap_formula.specs.declared.judgements.Judgement.TheVariants.{Entail}
use Rattle.heap_formula.specs.Symbolic.{SymbolicHeap}
use Rattle.heap_formula.specs.Definitions.{Definition}
use Rattle.script_formulas.specs.declared.script.Script.{Script}
use Rattle.script_formulas.specs.declared.script.Predicate.{Predicate}
use Rattle.script_formulas.specs.declared.goals.heaps.Numbers.{Numbers}
use Rattle.script_formulas.specs.declared.goals.heaps.Variables.{Variables}
use Rattle.script_formulas.specs.declared.goals.heaps.Free.{Free}
use Rattle.script_formulas.specs.declared.goals.heaps.Free.TheVariants.{Known}
use Rattle.script_formulas.specs.declared.goals.question.Question.{Question}
use Rattle.script_formulas.specs.declared.goals.question.Question.TheVariants.{Entailment, Satisfiability}
use Rattle.script_formulas.specs.Cases.{SymbolicCase}
use Rattle.script_formulas.specs.Formulas.{Formula, formula_of}
use Rattle.script_formulas.specs.Holding.{IsDisjunctiveForm, IsStagedForm}
use Rattle.script_formulas.specs.Scope.{AreFine}
use Rattle.script_formulas.specs.Sorts.{IsSorted}
use Rattle.script_formulas.specs.Sides.{AreSides, AreDenied, ClosedCases}
use Rattle.script_formulas.specs.Translating.{AreTermsOf, IsHeapOf, AreHeapsOf, ArePlaced, AreRaised, AreDisjuncts}
use Rattle.script_formulas.specs.Translating.{AreToldApart, impossible}

-- the cases of a definition for these heaps: one that never holds where there are none
abbrev pub AreCasesOf : List SymbolicHeap → List SymbolicHeap → Type 0
AreCasesOf [] cases = cases ≡ impossible ∷ []
AreCasesOf (h ∷ hs) cases = cases ≡ h ∷ hs

-- a definition has the cases of a body, each of which says something of the heap
pub record IsDefinedBy (numbers : Numbers) (arity : ℕ) (body : Formula) (d : Definition) : Type 0 where
  pub cases : List SymbolicCase
  pub form : IsDisjunctiveForm body cases
  pub staged : IsStagedForm body cases
  pub fine : AreFine 0 cases
  pub closed : ClosedCases cases
  pub heaps : List SymbolicHeap
  pub translated : AreHeapsOf numbers (Known arity) cases heaps
  pub taken : AreCasesOf heaps d.cases
  pub parameters : d.arity ≡ arity

-- a definition with these heaps stands behind the others
abbrev pub HasDefined : List Definition → ℕ → List SymbolicHeap → List Definition → Type 0
HasDefined before arity heaps ds = (d : Definition) × (d.arity ≡ arity) × AreCasesOf heaps d.cases
    × (ds ≡ before ++ d ∷ [])

-- so does one with just these cases
abbrev pub HasPushed : List Definition → ℕ → List SymbolicHeap → List Definition → Type 0
HasPushed before arity cases ds = (d : Definition) × (d.arity ≡ arity) × (d.cases ≡ cases) × (ds ≡ before ++ d ∷ [])

-- the definition of a body stands behind the others
abbrev pub HasBody : Numbers → ℕ → Formula → List Definition → List Definition → Type 0
HasBody numbers arity body before ds = (d : Definition) × IsDefinedBy numbers arity body d × (ds ≡ before ++ d ∷ [])

-- a definition is that of the script's predicate p
abbrev pub IsDefinedIn : List Predicate → Numbers → ℕ → Definition → Type 0
IsDefinedIn predicates numbers p d = (predicate : Predicate) × (slice_get predicates p ≡ Some predicate)
    × IsDefinedBy numbers (length predicate.parameters.items) (formula_of predicate.body) d

abbrev pub AreDefinedIn : List Predicate → Numbers → List ℕ → List Definition → Type 0
AreDefinedIn predicates numbers ps ds = AllZip (IsDefinedIn predicates numbers) ps ds

-- ---- the goal

-- a call of a predicate
abbrev pub call_of : ℕ → List Term → SymbolicHeap
call_of p ts = record { pure = []; spatial = Pred p ts ∷ [] }

-- a definition behind others has the cases, and the heap calls it with the constants that occur in them; those have
-- their places in the order for numbers
pub record IsCallOf (numbers : Numbers) (constants : ℕ) (order : List ℕ) (cs : List SymbolicCase) (h : SymbolicHeap)
    (before ds : List Definition) : Type 0 where
  pub listed : List ℕ
  pub arguments : List Term
  pub outer : Variables
  pub placed : ArePlaced outer.free constants order
  pub are_arguments : AreTermsOf outer (map Univ listed) arguments
  pub called : h ≡ call_of (length before) arguments
  pub inner : Free
  pub parameters : ArePlaced inner constants listed
  pub heaps : List SymbolicHeap
  pub translated : AreHeapsOf numbers inner cs heaps
  pub definition : Definition
  pub taken : AreCasesOf heaps definition.cases
  pub defined : ds ≡ before ++ definition ∷ []

-- the only case as a heap whose quantified variables come behind the constants
abbrev pub IsRaisedOf : Numbers → ℕ → List ℕ → SymbolicCase → SymbolicHeap → Type 0
IsRaisedOf numbers constants order c h = (v : Variables) × ArePlaced v.free constants order
    × AreRaised v.quantified constants order × IsHeapOf numbers v c h

-- the antecedent for the cases, where there are these constants, and the definitions before and with what it calls: one
-- that never holds, the only case with its quantified variables as constants, or a call of a predicate that has the
-- cases
abbrev pub IsAntecedent : Numbers → ℕ → List ℕ → List SymbolicCase → SymbolicHeap → List Definition
    → List Definition → Type 0
IsAntecedent numbers constants order [] h before ds = (h ≡ impossible) × (ds ≡ before)
IsAntecedent numbers constants order (c ∷ []) h before ds = IsRaisedOf numbers constants order c h × (ds ≡ before)
IsAntecedent numbers constants order (c ∷ d ∷ cs) h before ds =
    IsCallOf numbers constants order (c ∷ d ∷ cs) h before ds

-- both sides of the goal, for the cases of both. A constant has its place in the order for a number, and so has a
-- quantified variable of the only first case, whose number comes behind the constants
pub record IsJudgement (numbers : Numbers) (constants : ℕ) (order : List ℕ) (first second : List SymbolicCase)
    (before ds : List Definition) (goal : Judgement) : Type 0 where
  pub left : SymbolicHeap
  pub right : List SymbolicHeap
  pub antecedent : IsAntecedent numbers constants order first left before ds
  pub disjuncts : AreDisjuncts numbers constants order second right
  pub is : goal ≡ Entail left right

-- an entailment is asked where something that speaks of the heap is denied, and then all cases on the left speak of it
abbrev pub IsAsked : Question → List SymbolicCase → List SymbolicCase → Type 0
IsAsked Entailment first second = (second ≢ []) × ClosedCases first
IsAsked Satisfiability first second = second ≡ []

-- a well sorted script; the definitions and the goal say, heap by heap, what the cases of both sides of the script and
-- of its predicates say
pub record IsGoalOf (script : Script) (question : Question) (ds : List Definition) (goal : Judgement)
    (predicates : List ℕ) : Type 0 where
  pub sorted : IsSorted script
  pub numbers : Numbers
  pub first : List SymbolicCase
  pub second : List SymbolicCase
  pub own : List Definition
  pub sides : AreSides (map formula_of script.asserted.items) (map formula_of script.denied.items) first second
  pub fine_first : AreFine 0 first
  pub fine_second : AreDenied second
  pub told : AreToldApart numbers.widths.items
  pub fields : numbers.fields.items ≡ map (λ c. length c.fields.items) script.constructors.items
  pub used : predicates ≡ numbers.predicates.items
  pub asked : IsAsked question first second
  pub defined : AreDefinedIn script.predicates.items numbers numbers.predicates.items own
  pub order : List ℕ
  pub judged : IsJudgement numbers (length script.constants.items) order first second own ds goal
