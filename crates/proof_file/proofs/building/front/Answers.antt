use Rattle.std.proofs.Common.{length, map, ap, arith}
use Rattle.std.proofs.lemmas.List.{length-map}
use Rattle.proof_syntax.specs.Trees.{definition_of}
use Rattle.proof_file.specs.Flaws.{heading}
use Rattle.proof_file.proofs.building.front.Goals as goal

pub walk_definitions-requires-clause-there : goal.walk_definitions-requires-clause-there
walk_definitions-requires-clause-there c =
    let ds = c.args.definitions.now in
    omega (arith, ap length c.requires.known, length-map (map definition_of ds) heading, length-map ds definition_of)
