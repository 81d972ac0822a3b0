-- What is within the limits is so in one way.
use Rattle.std.proofs.Common.{◌≡◌, ℕ, Bool, true, List, length, Option, None}
use Rattle.std.proofs.Props.{props}
use Rattle.std.specs.Coded.{Coded-set, coded_bool, coded_ℕ, ×_prop, Unit-prop, le_prop}
use Rattle.cyc_basics.specs.declared.limits.Limits.{Limits}
use Rattle.heap_formula.specs.declared.terms.Term.{Term}
use Rattle.heap_formula.specs.declared.terms.Term.TheVariants.{Nil, Univ, Exist}
use Rattle.heap_formula.specs.declared.atoms.Pure.{Pure}
use Rattle.heap_formula.specs.declared.atoms.Pure.TheVariants.{Eq, Neq}
use Rattle.heap_formula.specs.declared.atoms.Spatial.{Spatial}
use Rattle.heap_formula.specs.declared.atoms.Spatial.TheVariants.{Cell, Pred}
use Rattle.heap_formula.specs.declared.commands.Command.{Command}
use Rattle.heap_formula.specs.declared.commands.Command.TheVariants as commands
use Rattle.heap_formula.specs.declared.judgements.Judgement.{Judgement}
use Rattle.heap_formula.specs.declared.judgements.Judgement.TheVariants.{Entail, Term as Runs}
use Rattle.heap_formula.specs.Closedness.{InPure, InSpatial, IsUniversal}
use Rattle.heap_formula.specs.Definitions.{Definition}
use Rattle.heap_formula.specs.Judgements.{antecedent}
use Rattle.heap_formula.specs.Symbolic.{SymbolicHeap}
use Rattle.goto_lang.specs.Lines.{IsUniversalCommand, MayStandAt, IsProgram}
use Rattle.pred_defs.specs.declared.faults.DefFault.{DefFault}
use Rattle.pred_defs.specs.Faults.{case_fault}
use Rattle.rule_table.specs.Answer.{heaps_of, is_short, has_numbers}
use Rattle.cyc_grammar.specs.Classes.{is_free_name}
use Rattle.heap_syntax.specs.Words.{reserved}
use Rattle.heap_syntax.specs.declared.version.Version.{Version}
use Rattle.heap_syntax.specs.LineGrammar.{has_free_branches, has_ends}
use Rattle.rule_book.specs.Limits.{HasFields, IsHeapWithin, IsFormWithin, IsJudgementWithin, IsCaseWithin}
use Rattle.rule_book.specs.Limits.{IsDefinitionWithin, IsCommandWithin}
use Rattle.formula_reader.specs.Within.{IsCommandOf, IsProblemWithin}
use Rattle.heap_formula.proofs.AllMembers.{each_prop}

true_prop : (b : Bool) → IsProp (b ≡ true)
true_prop b = Coded-set coded_bool b true

faults_set : IsSet (Option DefFault)
faults_set = hlevel props

none_prop : (o : Option DefFault) → IsProp (o ≡ None)
none_prop o = faults_set o None

fields_prop : (x : Spatial) → IsProp (HasFields x)
fields_prop (Cell t ts) = ×_prop le_prop le_prop
fields_prop (Pred q ts) = Unit-prop

universal_prop : (t : Term) → IsProp (IsUniversal t)
universal_prop Nil = Unit-prop
universal_prop (Univ n) = Unit-prop
universal_prop (Exist n) = λ a b. absurd a

pure_prop : (x : Pure) → IsProp (InPure IsUniversal x)
pure_prop (Eq t u) = ×_prop (universal_prop t) (universal_prop u)
pure_prop (Neq t u) = ×_prop (universal_prop t) (universal_prop u)

spatial_prop : (x : Spatial) → IsProp (InSpatial IsUniversal x)
spatial_prop (Cell t ts) = ×_prop (universal_prop t) (each_prop IsUniversal universal_prop ts)
spatial_prop (Pred q ts) = each_prop IsUniversal universal_prop ts

command_prop : (c : Command) → IsProp (IsUniversalCommand c)
command_prop (commands.Assign x t) = universal_prop t
command_prop (commands.Load x t k) = universal_prop t
command_prop (commands.Store t k u) = ×_prop (universal_prop t) (universal_prop u)
command_prop (commands.New x k) = Unit-prop
command_prop (commands.Free t) = universal_prop t
command_prop (commands.IfEq t u j) = ×_prop (universal_prop t) (universal_prop u)
command_prop (commands.IfNeq t u j) = ×_prop (universal_prop t) (universal_prop u)
command_prop (commands.IfAny j) = Unit-prop
command_prop (commands.Goto j) = Unit-prop
command_prop commands.Stop = Unit-prop
command_prop (commands.Ends bs) = Unit-prop

of_version_prop : (version : Version) (limit : Limits) (c : Command) → IsProp (IsCommandOf version limit c)
of_version_prop version limit (commands.Assign x t) = Unit-prop
of_version_prop version limit (commands.Load x t k) = le_prop
of_version_prop version limit (commands.Store t k u) = le_prop
of_version_prop version limit (commands.New x k) = le_prop
of_version_prop version limit (commands.Free t) = Unit-prop
of_version_prop version limit (commands.IfEq t u j) = Unit-prop
of_version_prop version limit (commands.IfNeq t u j) = Unit-prop
of_version_prop version limit (commands.IfAny j) = true_prop (has_free_branches version)
of_version_prop version limit (commands.Goto j) = Unit-prop
of_version_prop version limit commands.Stop = Unit-prop
of_version_prop version limit (commands.Ends bs) = true_prop (has_ends version)

stands_prop : (n i : ℕ) (c : Command) → IsProp (MayStandAt n i c)
stands_prop n i (commands.Assign x t) = le_prop
stands_prop n i (commands.Load x t k) = ×_prop le_prop (×_prop le_prop le_prop)
stands_prop n i (commands.Store t k u) = ×_prop le_prop (×_prop le_prop le_prop)
stands_prop n i (commands.New x k) = ×_prop le_prop (×_prop le_prop le_prop)
stands_prop n i (commands.Free t) = le_prop
stands_prop n i (commands.IfEq t u j) = ×_prop le_prop (×_prop le_prop le_prop)
stands_prop n i (commands.IfNeq t u j) = ×_prop le_prop (×_prop le_prop le_prop)
stands_prop n i (commands.IfAny j) = ×_prop le_prop (×_prop le_prop le_prop)
stands_prop n i (commands.Goto j) = ×_prop le_prop le_prop
stands_prop n i commands.Stop = Unit-prop
stands_prop n i (commands.Ends bs) = Unit-prop

program_prop : (lines : List Command) → IsProp (IsProgram lines)
program_prop lines p q = λ i. record {
  few_lines = le_prop p.few_lines q.few_lines i;
  few_variables = le_prop p.few_variables q.few_variables i;
  commands = λ n c at. stands_prop (length lines) n c (p.commands n c at) (q.commands n c at) i;
  universal = each_prop IsUniversalCommand command_prop lines p.universal q.universal i;
}

form_prop : (count : ℕ) (j : Judgement) → IsProp (IsFormWithin count j)
form_prop count (Entail a bs) = ×_prop le_prop le_prop
form_prop count (Runs i a) = ×_prop le_prop le_prop

module _ (limit : Limits) (ds : List Definition) where
  heap_prop : (a : SymbolicHeap) → IsProp (IsHeapWithin limit ds a)
  heap_prop a p q = λ i. record {
    short = true_prop (is_short limit a) p.short q.short i;
    numbers = true_prop (has_numbers a) p.numbers q.numbers i;
    known = none_prop (case_fault ds a) p.known q.known i;
    fields = each_prop HasFields fields_prop a.spatial p.fields q.fields i;
  }

  judgement_prop : (count : ℕ) (j : Judgement) → IsProp (IsJudgementWithin limit ds count j)
  judgement_prop count j p q = λ i. record {
    heaps = each_prop (IsHeapWithin limit ds) heap_prop (heaps_of j) p.heaps q.heaps i;
    universal = ×_prop (each_prop (InPure IsUniversal) pure_prop (antecedent j).pure)
        (each_prop (InSpatial IsUniversal) spatial_prop (antecedent j).spatial) p.universal q.universal i;
    form = form_prop count j p.form q.form i;
  }

  case_prop : (arity : ℕ) (c : SymbolicHeap) → IsProp (IsCaseWithin limit ds arity c)
  case_prop arity c p q =
      λ i. record {
        heap = heap_prop c p.heap q.heap i;
        parameters = le_prop p.parameters q.parameters i;
        locals = le_prop p.locals q.locals i;
      }

  definition_prop : (d : Definition) → IsProp (IsDefinitionWithin limit ds d)
  definition_prop d p q = λ i. record {
    arity = le_prop p.arity q.arity i;
    some_case = le_prop p.some_case q.some_case i;
    few = le_prop p.few q.few i;
    cases = each_prop (IsCaseWithin limit ds d.arity) (case_prop d.arity) d.cases p.cases q.cases i;
  }

  ends_prop : (c : Command) → IsProp (IsCommandWithin limit ds c)
  ends_prop (commands.Ends bs) =
      λ p q i. (each_prop (IsHeapWithin limit ds) heap_prop bs p.0 q.0 i, le_prop p.1 q.1 i, le_prop p.2 q.2 i)
  ends_prop (commands.Assign x t) = Unit-prop
  ends_prop (commands.Load x t k) = Unit-prop
  ends_prop (commands.Store t k u) = Unit-prop
  ends_prop (commands.New x k) = Unit-prop
  ends_prop (commands.Free t) = Unit-prop
  ends_prop (commands.IfEq t u j) = Unit-prop
  ends_prop (commands.IfNeq t u j) = Unit-prop
  ends_prop (commands.IfAny j) = Unit-prop
  ends_prop (commands.Goto j) = Unit-prop
  ends_prop commands.Stop = Unit-prop

pub within_prop : (version : Version) (limit : Limits) (ds : List Definition) (lines : List Command) (goal : Judgement)
    → IsProp (IsProblemWithin version limit ds lines goal)
within_prop version limit ds lines goal p q = λ i. record {
  few = le_prop p.few q.few i;
  definitions = each_prop (IsDefinitionWithin limit ds) (definition_prop limit ds) ds p.definitions q.definitions i;
  program = program_prop lines p.program q.program i;
  commands = each_prop (IsCommandOf version limit) (of_version_prop version limit) lines p.commands q.commands i;
  ends = each_prop (IsCommandWithin limit ds) (ends_prop limit ds) lines p.ends q.ends i;
  goal = judgement_prop limit ds (length lines) goal p.goal q.goal i;
  free = λ n d at. true_prop (is_free_name reserved d.name) (p.free n d at) (q.free n d at) i;
  own = λ m n d e at_m at_n same. Coded-set coded_ℕ m n (p.own m n d e at_m at_n same) (q.own m n d e at_m at_n same) i;
}
