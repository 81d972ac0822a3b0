use Rattle.std.proofs.Common.{◌++◌, ◌∷◌, [], sym, ◌∙◌}
use Rattle.back_links.proofs.Cuts.{value_cut}
use Rattle.back_links.proofs.listing.put_open_pair.Goals as goal

pub returns-then-not-put-clause-closed : goal.returns-then-not-put-clause-closed
returns-then-not-put-clause-closed c = λ e rest.
    let s = c.args.search.now in
    value_cut s.bud.now s.companion.now s.target s.variables c.args.places.now
    (c.args.made.now.items ++ (c.args.n, c.args.v) ∷ []) c.args.n rest
    (sym c.in_ok-put.ensures.could ∙ c.if-not-put.true)
