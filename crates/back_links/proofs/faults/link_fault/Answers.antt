use Rattle.std.proofs.Common.{sym, ◌∙◌}
use Rattle.rule_table.proofs.LinkRule.{link_is_sound}
use Rattle.back_links.proofs.faults.link_fault.Goals as goal

pub returns-clause-sound : goal.returns-clause-sound
returns-clause-sound c =
    λ none universal ds lines variables whole.
    link_is_sound ds lines c.args.bud.now c.args.companion.now c.args.link.now c.args.p universal variables whole
    (sym c.first_fault.ensures ∙ none)
