use Rattle.std.proofs.Common.{sym, ◌∙◌}
use Rattle.back_links.specs.Outlook.{could_cover_each}
use Rattle.back_links.proofs.Openings.{pairs_closed}
use Rattle.back_links.proofs.outlook.covers_are_open.Goals as goal

pub returns : goal.returns
returns c = λ e places.
    pairs_closed c.args.search.now places c.args.pairs.now
    ((λ i. could_cover_each (sym c.disjuncts.ensures.value i) c.args.pairs.now (sym c.disjuncts-2.ensures.value i))
    ∙ sym c.could_cover_each.ensures ∙ e)
