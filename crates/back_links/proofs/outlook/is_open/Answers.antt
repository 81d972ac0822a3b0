use Rattle.std.proofs.Common.{sym, ◌∙◌, subst}
use Rattle.heap_formula.specs.Substitution.{Bindings}
use Rattle.back_links.specs.Outlook.{AreForced}
use Rattle.back_links.proofs.Openings.{closed}
use Rattle.back_links.proofs.outlook.is_open.Goals as goal

pub returns : goal.returns
returns c = λ e.
    closed c.args.search.now c.args.places.now c.deref.result.now
    (subst (λ (ps : Bindings). AreForced c.args.search.now c.args.places.now ps) (sym c.deref.ensures.value)
    c.in_ok-pairs.ensures) (sym c.could_go_on.ensures ∙ e)
