use Rattle.std.proofs.Common.{arith, ◌≡◌, ◌++◌, take, drop, ◌+◌}
use Rattle.std.proofs.lemmas.Grind.{common_steps}
use Rattle.heap_formula.specs.Positions.{without}
use Rattle.rule_table.proofs.Parts.{without_parts}
use Rattle.rule_table.proofs.building.atoms_without.Goals as goal

pub returns-clause-value : goal.returns-clause-value
returns-clause-value g c =
    let p : take c.args.k c.args.atoms.now ++ drop (c.args.k + 1) c.args.atoms.now
    ≡ without c.args.k c.args.atoms.now = without_parts c.args.atoms.now c.args.k in
    grind (arith, common_steps, p)
