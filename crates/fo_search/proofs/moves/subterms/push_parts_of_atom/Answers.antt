use Rattle.std.proofs.Common.{◌≡◌, List, sym, ap, ◌∙◌, subst}
use Rattle.std.specs.Result.{OnOk}
use Rattle.std.specs.List.{flat_map}
use Rattle.fo_formula.specs.declared.atoms.FoAtom.{FoAtom}
use Rattle.fo_formula.specs.Words.{Word}
use Rattle.fo_search.specs.Subterms.{terms_of_atom, parts_of, once}
use Rattle.fo_search.proofs.Onces.{sides_added}
use Rattle.fo_search.proofs.moves.subterms.push_parts_of_atom.Goals as goal

pub returns-in_ok-push_parts-in-Equation : goal.returns-in_ok-push_parts-in-Equation
returns-in_ok-push_parts-in-Equation c =
    let old = c.args.words.now.items in
    let one = c.push_parts.new.words.items in
    let both = sides_added old one _ _ _ (c.in_ok-push_parts-in-Equation.ensures
    ∙ ap (λ (w : Word). once old (parts_of w)) c.as_slice.ensures)
    (ap (λ (w : Word). once one (parts_of w)) c.as_slice-in-Equation.ensures) in
    let done : once one (parts_of c.as_slice-in-Equation.result.now)
    ≡ once old (flat_map parts_of (terms_of_atom c.args.atom.now)) = both
    ∙ ap (λ (x : FoAtom). once old (flat_map parts_of (terms_of_atom x))) (sym c.in-Equation.is) in
    subst (λ (ws : List Word). OnOk c.push_parts-in-Equation.result (c.push_parts-in-Equation.new.words.items ≡ ws))
    done c.push_parts-in-Equation.ensures
