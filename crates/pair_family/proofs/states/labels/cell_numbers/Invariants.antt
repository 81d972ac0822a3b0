use Rattle.std.proofs.Common.{◌≡◌, filter}
use Rattle.pair_family.specs.Combination.{upto}
use Rattle.pair_family.specs.Labels.{is_cell_label}
use Rattle.pair_family.proofs.states.labels.cell_numbers.Given as goal

abbrev pub invariant-loop-i : goal.invariant-loop-i
invariant-loop-i l = l.numbers.items ≡ filter (is_cell_label l.labels l.cells) (upto l.i)
