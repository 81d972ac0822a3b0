use Rattle.std.proofs.Common.{map, ap, ◌∙◌}
use Rattle.std.specs.List.{filter}
use Rattle.fo_formula.specs.declared.nodes.FoRule.TheVariants.{Right}
use Rattle.fo_search.specs.After.{suits}
use Rattle.fo_search.specs.Subterms.{lists_of}
use Rattle.fo_search.proofs.moves.rights.whole_case.Goals as goal

pub returns : goal.returns
returns c left values =
    ap (map (λ ts. Right c.args.atom c.args.case ts))
    (c.begin-walk.ensures (suits left c.in_ok-arguments.arguments c.args.body.now) values
    ∙ (λ i. filter (suits left (c.in_ok-arguments.ensures.cases i) c.args.body.now)
    (lists_of (c.bound_of_atoms.ensures.value i) values)))
