use Rattle.std.proofs.Common.{◌≡◌, drop}
use Rattle.std.specs.List.{flat_map}
use Rattle.fo_search.specs.Subterms.{terms_of_atom, parts_of, once}
use Rattle.fo_search.proofs.moves.subterms.push_parts_of_atoms.Given as goal

abbrev pub invariant-loop-atom : goal.invariant-loop-atom
invariant-loop-atom l = once l.words.items (flat_map parts_of (flat_map terms_of_atom (drop l.atom-index l.atoms)))
    ≡ once l.initial.words.items (flat_map parts_of (flat_map terms_of_atom l.atoms))
