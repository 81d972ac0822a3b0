-- A rule has few premises.
use Rattle.std.proofs.Common.{◌≡◌, ◌≤◌, List, length, arith}
use Rattle.std.specs.Prelude.{Ok}
use Rattle.cyc_basics.specs.Limits.{AreLimits}
use Rattle.cyc_basics.specs.declared.limits.TheConstants.{MOST_CASES}
use Rattle.cyc_basics.specs.declared.limits.Limits.{Limits}
use Rattle.heap_formula.specs.declared.commands.Command.{Command}
use Rattle.heap_formula.specs.declared.judgements.Judgement.{Judgement}
use Rattle.heap_formula.specs.declared.judgements.Premise.{Premise}
use Rattle.heap_formula.specs.declared.proof_rules.Rule.{Rule}
use Rattle.heap_formula.specs.Definitions.{Definition, HasFewCases}
use Rattle.heap_formula.specs.Words.{Each}
use Rattle.rule_table.specs.RuleBook.{rule_answer}
use Rattle.rule_book.specs.Limits.{IsDefinitionWithin}
use Rattle.heap_formula.proofs.AllMembers.{each_imply}
use Rattle.rule_table.proofs.FewPremises.{rule_few, premises_few as given_few}

pub are_few : (most : Limits) (ds : List Definition) → AreLimits most → (es : List Definition)
    → Each (IsDefinitionWithin most ds) es → Each HasFewCases es
are_few most ds bounded =
    each_imply (IsDefinitionWithin most ds) HasFewCases (λ d within. omega (arith, within.few, bounded.cases))

pub few_premises : (most : Limits) (ds : List Definition) (lines : List Command) (j : Judgement) (rule : Rule)
    (ps : List Premise) → Each HasFewCases ds → rule_answer most ds lines j rule ≡ Ok ps → length ps ≤ MOST_CASES
few_premises most ds lines j rule ps d e = given_few (rule_answer most ds lines j rule) ps
    (rule_few most ds lines d j rule) e

pub premises_few : (most : Limits) (ds : List Definition) (lines : List Command) (j : Judgement) (rule : Rule)
    (ps : List Premise) → AreLimits most → Each (IsDefinitionWithin most ds) ds
    → rule_answer most ds lines j rule ≡ Ok ps → length ps ≤ MOST_CASES
premises_few most ds lines j rule ps bounded d e =
    few_premises most ds lines j rule ps (are_few most ds bounded ds d) e
