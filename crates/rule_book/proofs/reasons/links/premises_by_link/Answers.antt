use Rattle.std.proofs.Common.{◌≤◌, sym, ap, ◌∙◌, length, subst}
use Rattle.cyc_basics.specs.declared.limits.TheConstants.{MOST_SPATIAL}
use Rattle.heap_formula.specs.Judgements.{IsLocallySound}
use Rattle.rule_table.specs.Answer.{one}
use Rattle.rule_table.specs.RuleBook.{variables_of}
use Rattle.rule_table.proofs.AllRules.{has_variables}
use Rattle.rule_table.proofs.LinkRule.{link_is_sound}
use Rattle.rule_book.specs.ProgramLinks.{program_link_parts}
use Rattle.rule_book.proofs.SmallEntries.{link_pairs_small}
use Rattle.rule_book.proofs.reasons.links.premises_by_link.Goals as goal

pub link_premise-requires : goal.link_premise-requires
link_premise-requires c =
    let few = subst (λ (a : _). length a.spatial ≤ MOST_SPATIAL) c.antecedent.ensures c.spatial-atoms.ensures.at_most in
    let lines = c.args.program.now in
    let bud = c.args.bud.now in
    link_pairs_small bud c.args.companion.now c.args.link.now (variables_of lines bud) few
    (program_link_parts lines bud c.args.companion.now c.args.link.now (sym c.fault_of_link.ensures ∙ c.in_default.is)).0

pub returns-clause-sound : goal.returns-clause-sound
returns-clause-sound c = λ ds universal.
    let lines = c.args.program.now in
    let bud = c.args.bud.now in
    let companion = c.args.companion.now in
    let link = c.args.link.now in
    let parts = program_link_parts lines bud companion link (sym c.fault_of_link.ensures ∙ c.in_default.is) in
    let premises = c.in_ok-one_premise.ensures ∙ ap one c.in_ok-premise.ensures in
    subst (IsLocallySound ds lines bud) (sym premises)
    (link_is_sound ds lines bud companion link (variables_of lines bud) universal (has_variables lines bud) parts.1
    parts.0)
