use Rattle.std.proofs.Common.{◌≡◌, ◌∙◌, List, ap}
use Rattle.std.specs.List.{remove}
use Rattle.fo_formula.specs.declared.atoms.FoAtom.{FoAtom}
use Rattle.heap_formula.proofs.Places.{remove_is_without}
use Rattle.fo_rules.proofs.parts.building.atoms_without.Goals as goal

pub returns-clause-value : goal.returns-clause-value
returns-clause-value c =
    let e : c.into_vec-kept.result.items ≡ c.args.atoms.now = cc (c.in_ok-clone.ensures.cases) in
    c.remove.ensures.items ∙ ap (λ (xs : List FoAtom). remove xs c.args.i) e
    ∙ remove_is_without c.args.atoms.now c.args.i c.requires
