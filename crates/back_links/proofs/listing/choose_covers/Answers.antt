use Rattle.std.proofs.Common.{◌≡◌, [], false, sym, ◌∙◌}
use Rattle.back_links.specs.Listing.{number_choices}
use Rattle.back_links.specs.Branches.{by_entries}
use Rattle.rule_table.specs.Answer.{disjuncts}
use Rattle.back_links.specs.Prospects.{have_covers}
use Rattle.back_links.proofs.Selecting.{no_more}
use Rattle.back_links.proofs.Cuts.{covers_cut}
use Rattle.back_links.proofs.listing.choose_covers.Goals as goal

pub returns-then-not-have_covers : goal.returns-then-not-have_covers
returns-then-not-have_covers c =
    let s = c.args.search.now in
    let rest = number_choices (disjuncts s.bud.now) (disjuncts s.companion.now) in
    let pairs : c.from_vec-subst.result ≡ c.args.pairs.now = c.from_vec-subst.ensures ∙ c.in_ok-from_slice.ensures.items
    in
    let no_cover : have_covers (disjuncts s.bud.now) c.args.pairs.now (disjuncts s.companion.now)
    ≡ false = sym (λ i. have_covers (c.disjuncts-2.ensures.value i) (pairs i) (c.disjuncts.ensures.value i))
    ∙ sym c.have_covers.ensures ∙ c.if-not-have_covers.true in
    no_more s.most c.args.found.now.items
    (by_entries s.bud.now s.companion.now s.target s.variables c.args.places.now c.args.pairs.now [] rest)
    c.requires
    (covers_cut s.bud.now s.companion.now s.target s.variables c.args.places.now c.args.pairs.now rest no_cover)
