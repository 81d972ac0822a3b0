use Rattle.std.proofs.Common.{◌≡◌, length, map}
use Rattle.proof_syntax.specs.Trees.{definition_of, end_of}
use Rattle.file_reader.specs.Fronts.{IsFront}
use Rattle.file_reader.proofs.front.read_front.Given as goal

abbrev pub invariant-parts : goal.invariant-parts
invariant-parts l = record {
  read : IsFront l.behind l.version (map definition_of l.definitions.items) l.lines.items (map end_of l.ends.items)
      l.fn.cursor l.cursor;
  count : l.count ≡ length l.fn.cursor;
}

abbrev pub decreases-parts : goal.decreases-parts
decreases-parts l = length l.cursor
