use Rattle.std.proofs.Common.{◌≡◌, List, ◌++◌, take, sym, ap, ◌∙◌}
use Rattle.heap_formula.specs.declared.proof_rules.Link.{Link}
use Rattle.heap_formula.specs.Symbolic.{SymbolicHeap}
use Rattle.heap_formula.specs.Judgements.{antecedent}
use Rattle.back_links.specs.Listing.{number_choices, values_of, universals}
use Rattle.back_links.specs.Branches.{by_places}
use Rattle.back_links.proofs.Selecting.{none_taken}
use Rattle.back_links.proofs.Cuts.{links_are, unlike}
use Rattle.back_links.proofs.listing.first_links.Goals as goal

pub returns : goal.returns
returns c =
    let bud = c.args.bud.now in
    let companion = c.args.companion.now in
    let sources : c.deref.result.now ≡ universals companion = c.deref.ensures.value ∙ c.in_ok-sources.ensures in
    let values : c.deref-2.result.now ≡ values_of bud = c.deref-2.ensures.value ∙ c.in_ok-values.ensures in
    let atoms : c.spatial.result.now ≡ (antecedent companion).spatial = c.spatial.ensures.value
    ∙ ap (λ (a : SymbolicHeap). a.spatial) c.antecedent.ensures in
    c.in_ok-choose_places.ensures.found
    ∙ (λ i. take c.args.most (c.new-found.ensures.items i ++ by_places bud companion c.args.target c.args.p (values i)
    (sources i) (c.new-places.ensures.items i) (number_choices (antecedent bud).spatial (atoms i))))
    ∙ ap (λ (zs : List Link). take c.args.most zs) (links_are bud companion c.args.target c.args.p)

pub returns-then-not-are_alike : goal.returns-then-not-are_alike
returns-then-not-are_alike c =
    c.new-found.ensures.items ∙ sym (none_taken c.args.most _
    (unlike c.args.bud.now c.args.companion.now c.args.target c.args.p
    (sym c.are_alike.ensures ∙ c.if-not-are_alike.true)))
