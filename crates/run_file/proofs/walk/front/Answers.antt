use Rattle.std.proofs.Common.{length, map, ap, arith}
use Rattle.std.proofs.lemmas.List.{length-map}
use Rattle.heap_syntax.specs.DefinitionTrees.{definition_of}
use Rattle.heap_reader.specs.DefinitionFlaws.{heading}
use Rattle.run_file.proofs.walk.front.Goals as goal

pub walk_definitions-requires-clause-there : goal.walk_definitions-requires-clause-there
walk_definitions-requires-clause-there c =
    let ds = c.args.tree.now.definitions.items in
    omega (
      arith,
      ap length c.requires.known,
      length-map (map definition_of ds) heading,
      length-map ds definition_of,
      ap length c.deref.ensures.value,
    )
