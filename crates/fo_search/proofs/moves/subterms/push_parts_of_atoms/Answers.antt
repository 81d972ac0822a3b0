use Rattle.std.proofs.Common.{ap, ◌∙◌}
use Rattle.std.specs.List.{flat_map}
use Rattle.fo_formula.specs.declared.atoms.FoAtom.{FoAtom}
use Rattle.fo_search.specs.Subterms.{terms_of_atom, parts_of, once}
use Rattle.fo_search.proofs.Onces.{atom_added}
use Rattle.fo_search.proofs.moves.subterms.push_parts_of_atoms.Goals as goal

pub loop-atom-preserved : goal.loop-atom-preserved
loop-atom-preserved c =
    atom_added c.loop-atom.words.items c.push_parts_of_atom.new.words.items c.args.atoms.now c.loop-atom.atom-index
    c.atom-item.result _ c.loop-atom-test.true (c.in_ok-push_parts_of_atom.ensures
    ∙ ap (λ (x : FoAtom). once c.loop-atom.words.items (flat_map parts_of (terms_of_atom x))) c.atom-item.is)
    c.loop-atom.invariant
