-- An end with numbered variables is seen as it is.
use Rattle.std.proofs.Common.{◌≡◌, List, refl}
use Rattle.std.specs.Prelude.{map}
use Rattle.heap_syntax.specs.declared.definitions.tree.TermTree.{TermTree}
use Rattle.heap_syntax.specs.declared.ends.tree.EndTree.{EndTree}
use Rattle.heap_syntax.specs.EndTrees as shared
use Rattle.heap_syntax.specs.NumberedEnds.{end_of}
use Rattle.heap_syntax.proofs.SeenTrees.{map-same, itself, heaps-same}

pub end-same : (e : EndTree TermTree) → shared.end_of itself e ≡ end_of e
end-same e = rw (heaps-same e.disjuncts.items) refl

pub ends-same : (es : List (EndTree TermTree)) → map (shared.end_of itself) es ≡ map end_of es
ends-same es = map-same (shared.end_of itself) end_of end-same es
