use Rattle.std.proofs.Common.{◌≡◌, ap, subst}
use Rattle.std.specs.Prelude.{IfOk}
use Rattle.fo_search.specs.declared.moves.wanted.Wanted.TheVariants.{Values}
use Rattle.fo_search.specs.Links.{is_fit}
use Rattle.fo_search.specs.Choosing.{does}
use Rattle.fo_search.proofs.moves.choosing.links.Goals as goal

pub returns : goal.returns
returns c =
    let bud = c.args.goal.now.bud.now in
    let companion = c.args.goal.now.companion.now in
    let done : is_fit bud companion c.in_ok-link.link
    ≡ does (Values c.args.goal.now) c.args.terms.now = ap (is_fit bud companion) c.in_ok-link.ensures in
    subst (λ b. IfOk c.is_fit.result (λ r. r ≡ b)) done c.is_fit.ensures
