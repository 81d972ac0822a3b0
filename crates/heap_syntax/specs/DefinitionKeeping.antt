-- What is kept of definitions as they are read.
pub use Rattle.heap_syntax.specs.Keeping.{heap_front, heaps_front}
use Rattle.heap_syntax.specs.declared.keep.Keep.{Keep}
use Rattle.heap_syntax.specs.DefinitionTrees.{Definition}

abbrev pub definition_front : Keep → Definition → Definition
definition_front k d = record { name = d.name; arity = d.arity; cases = heaps_front k d.cases }
