use Rattle.std.proofs.Common.{◌∙◌, sym, ap}
use Rattle.std.specs.Option.{option_map}
use Rattle.fo_formula.specs.declared.table.faults.FoFault.TheVariants.{LinkRight}
use Rattle.fo_rules.proofs.LinkMaking.{placed}
use Rattle.fo_rules.proofs.linking.right_fault.Goals as goal

pub returns-in-Some : goal.returns-in-Some
returns-in-Some c =
    let link = c.args.link.now in
    let e = placed link c.args.change.now c.args.bud.now.right c.as_slice.result.now c.as_slice-entries.result.now
    link.right_map c.as_slice-atoms.result.now c.args.companion.now.right c.in_ok-k.field-0 c.requires.change
    c.as_slice.ensures c.as_slice-entries.ensures c.as_slice-atoms.ensures c.in_ok-k.ensures in
    ap (option_map LinkRight) (sym c.in-Some.is ∙ e)

pub returns-in-None : goal.returns-in-None
returns-in-None c =
    let link = c.args.link.now in
    let e = placed link c.args.change.now c.args.bud.now.right c.as_slice.result.now c.as_slice-entries.result.now
    link.right_map c.as_slice-atoms.result.now c.args.companion.now.right c.in_ok-k.field-0 c.requires.change
    c.as_slice.ensures c.as_slice-entries.ensures c.as_slice-atoms.ensures c.in_ok-k.ensures in
    ap (option_map LinkRight) (sym c.in-None.is ∙ e)
