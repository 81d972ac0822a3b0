use Rattle.rule_table.proofs.Reflects.{decided_spatial}
use Rattle.rule_table.proofs.atom_tests.is_same_atom.Goals as goal

pub returns : goal.returns
returns c = decided_spatial c.is_same_spatial.result c.args.x.now c.args.y.now c.is_same_spatial.ensures
