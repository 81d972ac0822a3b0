use Rattle.std.proofs.Common.{ap}
use Rattle.heap_syntax.specs.Trees as shared
use Rattle.heap_syntax.proofs.SeenTrees.{itself, heap-same, gives-same}
use Rattle.heap_syntax.specs.DefinitionTrees.{Heap, heap_of}
use Rattle.heap_syntax.specs.DefinitionGrammar.{terms, heap}
use Rattle.heap_syntax.proofs.definitions.term_heaps.heap.Goals as goal

pub returns : goal.returns
returns c = gives-same (λ x. (shared.heap_of itself x, c.heap.new.cursor)) (λ x. (heap_of x, c.heap.new.cursor))
    (λ x. ap (λ (h : Heap). (h, c.heap.new.cursor)) (heap-same x)) c.heap.result
    ((heap (terms c.args.universal)).read c.args.cursor.now) c.heap.ensures
