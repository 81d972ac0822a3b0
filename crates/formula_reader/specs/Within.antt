-- What the values of a problem are within, in terms of the values alone: what is within has a text.
use Rattle.std.specs.Prelude.{◌≡◌, ℕ, ◌≤◌, true, List, length, Some, slice_get}
use Rattle.cyc_basics.specs.declared.limits.Limits.{Limits}
use Rattle.cyc_basics.specs.declared.limits.TheConstants.{MOST_PREDICATES}
use Rattle.heap_formula.specs.declared.commands.Command.{Command}
use Rattle.heap_formula.specs.declared.commands.Command.TheVariants.{IfAny, Load, New, Store, Ends}
use Rattle.heap_formula.specs.declared.judgements.Judgement.{Judgement}
use Rattle.heap_formula.specs.Definitions.{Definition}
use Rattle.heap_formula.specs.Words.{Each}
use Rattle.goto_lang.specs.Lines.{IsProgram}
use Rattle.cyc_grammar.specs.Classes.{is_free_name}
use Rattle.heap_syntax.specs.Words.{reserved}
use Rattle.heap_syntax.specs.declared.version.Version.{Version}
use Rattle.heap_syntax.specs.LineGrammar.{has_free_branches, has_ends}
use Rattle.rule_book.specs.Limits.{IsJudgementWithin, IsDefinitionWithin, AreEndsWithin}

-- each definition has a name that is not reserved
abbrev pub HaveFreeNames : List Definition → Type 0
HaveFreeNames ds = (q : ℕ) (d : Definition) → slice_get ds q ≡ Some d → is_free_name reserved d.name ≡ true

-- no two definitions have one name
abbrev pub HaveOwnNames : List Definition → Type 0
HaveOwnNames ds =
    (p q : ℕ) (d e : Definition) → slice_get ds p ≡ Some d → slice_get ds q ≡ Some e → d.name ≡ e.name → p ≡ q

-- the version has the command, and cells may have the field, or as many
abbrev pub IsCommandOf : Version → Limits → Command → Type 0
IsCommandOf version most (IfAny j) = has_free_branches version ≡ true
IsCommandOf version most (Load x t k) = k ≤ most.arguments
IsCommandOf version most (Store t k u) = k ≤ most.arguments
IsCommandOf version most (New x k) = k ≤ most.arguments
IsCommandOf version most (Ends bs) = has_ends version ≡ true
IsCommandOf version most c = Unit {0}

-- the definitions, the program with its ends and the goal are within these limits, the version has the program's
-- commands, and each predicate has a free name of its own
pub record IsProblemWithin (version : Version) (most : Limits) (ds : List Definition) (lines : List Command)
    (judgement : Judgement) : Type 0 where
  pub few : length ds ≤ MOST_PREDICATES
  pub definitions : Each (IsDefinitionWithin most ds) ds
  pub free : HaveFreeNames ds
  pub own : HaveOwnNames ds
  pub program : IsProgram lines
  pub commands : Each (IsCommandOf version most) lines
  pub ends : AreEndsWithin most ds lines
  pub goal : IsJudgementWithin most ds (length lines) judgement
