-- Node 0 with its start.
use Rattle.buchi_core.specs.View.{forest_of}
use Rattle.buchi_inclusion.proofs.Exploring.{first_is}
use Rattle.std.proofs.Common.{arith}
use Rattle.std.proofs.lemmas.Option.{slice_get_within}
use Rattle.buchi_inclusion.proofs.product.first_forest.Goals as goal

pub unreachable-requires : goal.unreachable-requires
unreachable-requires c = omega (
  arith,
  c.in_default.ensures,
  slice_get_within c.args.graph.now 0 c.requires.graph.root c.requires.graph.is_root,
)

pub returns-clause-start : goal.returns-clause-start
returns-clause-start c =
    let f = first_is c.args.graph.now c.in-Some.root.now c.positions.result.now (forest_of c.start.result)
    c.requires.graph c.in-Some.ensures c.positions.ensures c.start.ensures in
    f.0

pub returns-clause-found : goal.returns-clause-found
returns-clause-found c =
    let f = first_is c.args.graph.now c.in-Some.root.now c.positions.result.now (forest_of c.start.result)
    c.requires.graph c.in-Some.ensures c.positions.ensures c.start.ensures in
    f.1
