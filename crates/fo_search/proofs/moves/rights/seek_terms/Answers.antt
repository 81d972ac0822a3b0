use Rattle.std.proofs.Common.{◌≡◌, List, map, ap, subst}
use Rattle.std.specs.Prelude.{IfOk}
use Rattle.fo_formula.specs.declared.atoms.FoAtom.{FoAtom}
use Rattle.fo_formula.specs.declared.nodes.FoRule.TheVariants.{Right}
use Rattle.fo_search.specs.After.{suits}
use Rattle.fo_search.specs.Walks.{choices_left, IsFirstLeft}
use Rattle.fo_search.proofs.moves.rights.seek_terms.Goals as goal

pub returns-clause-kept : goal.returns-clause-kept
returns-clause-kept c =
    let case = c.args.case.now in
    let values = c.args.at.now.values.now in
    ap (map (λ ts. Right case.atom case.case ts))
    (subst (λ (xs : List FoAtom). choices_left (suits xs case.arguments case.body.now) values c.seek.new.walk
    ≡ choices_left (suits xs case.arguments case.body.now) values case.walk) c.as_slice.ensures c.seek.ensures.kept)

pub returns-clause-first : goal.returns-clause-first
returns-clause-first c =
    let case = c.args.case.now in
    subst (λ (xs : List FoAtom). IfOk c.seek.result
    (IsFirstLeft (suits xs case.arguments case.body.now) c.args.at.now.values.now c.seek.new.walk))
    c.as_slice.ensures c.seek.ensures.first
