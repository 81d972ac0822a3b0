use Rattle.std.proofs.Common.{◌≡◌, List, length, ap, ◌∙◌, subst}
use Rattle.std.specs.Prelude.{IfOk}
use Rattle.fo_formula.specs.declared.nodes.FoLink.{FoLink}
use Rattle.fo_search.specs.Subterms.{subterms}
use Rattle.fo_search.specs.Links.{variables}
use Rattle.fo_search.proofs.Listed.{links_first}
use Rattle.fo_search.proofs.moves.links.links_to.Goals as goal

pub returns : goal.returns
returns c =
    let bud = c.args.bud.now in
    let companion = c.args.companion.now in
    let sources : c.deref.result.now ≡ variables companion = c.deref.ensures.value ∙ c.in_ok-sources.ensures in
    let values : c.deref-2.result.now ≡ subterms bud = c.deref-2.ensures.value ∙ c.in_ok-values.ensures in
    let count : c.len.result ≡ length (variables companion) = c.len.ensures ∙ c.in_ok-sources.sources.ok.0
    ∙ ap length c.in_ok-sources.ensures in
    let done = links_first c.args.most bud companion c.args.number c.deref.result.now c.deref-2.result.now c.len.result
    c.deref-3.result.now sources values count (c.deref-3.ensures.value ∙ c.in_ok-choices.ensures) in
    subst (λ (ls : List FoLink). IfOk c.links_by.result (λ v. v.items ≡ ls)) done c.links_by.ensures
