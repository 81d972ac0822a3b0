use Rattle.std.proofs.Common.{◌∙◌, sym}
use Rattle.fo_formula.specs.LinkTable.{linked}
use Rattle.fo_formula.proofs.Links.{link_names}
use Rattle.fo_rules.proofs.LinkMaking.{names_small}
use Rattle.fo_rules.proofs.linking.premises_by_link.Goals as goal

pub link_premise-requires-clause-small : goal.link_premise-requires-clause-small
link_premise-requires-clause-small c =
    let bud = c.args.bud.now in
    let companion = c.args.companion.now in
    let link = c.args.link.now in
    let names = link_names bud companion link (sym c.in_ok-fault.ensures ∙ c.in-None.is) in
    names_small bud.left link.left_map (linked link companion.left) names.0 c.requires.bud_few
