use Rattle.std.proofs.Common.{List, ap}
use Rattle.std.specs.Prelude.{map}
use Rattle.heap_syntax.specs.Trees as shared
use Rattle.heap_syntax.specs.Words.{marked}
use Rattle.heap_syntax.proofs.SeenTrees.{itself, heaps-same, gives-same}
use Rattle.heap_syntax.specs.DefinitionTrees.{Heap, heap_of}
use Rattle.heap_syntax.specs.DefinitionGrammar.{heaps}
use Rattle.heap_syntax.proofs.definitions.term_heaps.heaps.Goals as goal

pub returns : goal.returns
returns c = gives-same (λ x. (map (shared.heap_of itself) x.items, c.heaps.new.cursor))
    (λ x. (map heap_of x.items, c.heaps.new.cursor)) (λ x. ap (λ (hs : List Heap). (hs, c.heaps.new.cursor))
    (heaps-same x.items)) c.heaps.result ((heaps (marked c.args.between.now)
    (marked c.args.behind.now)).read c.args.cursor.now) c.heaps.ensures
