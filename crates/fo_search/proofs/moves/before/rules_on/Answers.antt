use Rattle.std.proofs.Common.{◌<◌, ◌++◌, List, [], length, get_or, ap, ◌∙◌, subst}
use Rattle.fo_formula.specs.declared.atoms.FoAtom.{FoAtom}
use Rattle.fo_formula.specs.declared.atoms.FoAtom.TheVariants.{Equation}
use Rattle.search_moves.proofs.FoldPlaces.{placed}
use Rattle.fo_search.specs.Lines.{line_at, atoms_on}
use Rattle.fo_search.proofs.moves.before.rules_on.Goals as goal

pub loop-k-preserved : goal.loop-k-preserved
loop-k-preserved c =
    let s = c.args.sequent.now in
    let line = c.args.line.now in
    let atom = get_or (atoms_on s line) c.loop-k.k (Equation [] []) in
    let stands : c.loop-k.k < length (atoms_on s line) = subst (λ (xs : List FoAtom). c.loop-k.k < length xs)
    c.atoms_on-k-end.ensures c.loop-k-test.true in
    let added = c.in_ok-push_rules_at.ensures atom
    ∙ ap (λ right. c.loop-k.rules.items ++ line_at right line c.loop-k.k atom) c.as_slice-right.ensures in
    placed (line_at s.right line) (atoms_on s line) c.loop-k.k (Equation [] [])
    c.loop-k.rules.items c.push_rules_at.new.rules.items _ stands added c.loop-k.invariant
