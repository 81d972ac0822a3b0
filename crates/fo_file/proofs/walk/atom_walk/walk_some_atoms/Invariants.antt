use Rattle.std.proofs.Common.{◌≡◌, ◌+◌, drop}
use Rattle.std.specs.Prelude.{map}
use Rattle.fo_syntax.specs.Trees.{atom_of}
use Rattle.fo_file.specs.AtomSpans.{total_span, total_terms, AreAtoms}
use Rattle.fo_file.specs.AtomFlaws.{atoms_flaw}
use Rattle.fo_file.proofs.walk.atom_walk.walk_some_atoms.Given as goal

abbrev pub invariant-loop-n : goal.invariant-loop-n
invariant-loop-n l =
    (atoms_flaw l.fn.constructors l.fn.scope l.fn.predicates l.fn.most l.n l.reached.terms l.reached.token l.limit
    (map atom_of (drop l.n l.trees))
    ≡ atoms_flaw l.fn.constructors l.fn.scope l.fn.predicates l.fn.most 0 l.fn.from.terms l.fn.from.token l.fn.limit
    (map atom_of l.trees))
    × ((l.reached.token + total_span (map atom_of (drop l.n l.trees))
    ≡ l.fn.from.token + total_span (map atom_of l.trees))
    × ((l.reached.terms + total_terms (map atom_of (drop l.n l.trees))
    ≡ l.fn.from.terms + total_terms (map atom_of l.trees)) × AreAtoms (map atom_of (drop l.n l.trees))))
