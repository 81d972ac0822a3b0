-- What is kept of definitions has no more tokens.
use Rattle.std.proofs.Common.{ℕ, ◌≤◌, List, arith}
use Rattle.std.specs.Prelude.{map}
use Rattle.heap_syntax.specs.declared.keep.Keep.TheVariants.{Beyond}
use Rattle.heap_reader.specs.Spans.{total}
use Rattle.heap_reader.proofs.FrontSpans.{all-span, heaps-span}
use Rattle.heap_syntax.specs.DefinitionKeeping.{definition_front}
use Rattle.heap_syntax.specs.DefinitionTrees.{Definition}
use Rattle.heap_reader.specs.DefinitionSpans.{term_span, definition_span}

module _ (m : ℕ) where
  definition-span : (d : Definition) → definition_span (definition_front (Beyond m) d) ≤ definition_span d
  definition-span d = omega (arith, heaps-span term_span m d.cases)

  pub definitions-span : (ds : List Definition) → total definition_span (map (definition_front (Beyond m)) ds)
      ≤ total definition_span ds
  definitions-span ds = all-span definition_span (definition_front (Beyond m)) definition-span ds
