use Rattle.std.proofs.Common.{sym, ◌∙◌}
use Rattle.back_links.proofs.Cuts.{could_cut}
use Rattle.back_links.proofs.listing.put_open_place.Goals as goal

pub returns-then-not-put-clause-closed : goal.returns-then-not-put-clause-closed
returns-then-not-put-clause-closed c = λ e rest.
    let s = c.args.search.now in
    could_cut s.bud.now s.companion.now s.target s.variables s.values.now s.sources.now c.args.made.now.items c.args.m
    c.args.x.now rest (sym c.in_ok-put.ensures.could ∙ c.if-not-put.true)
