use Rattle.std.proofs.Common.{◌≡◌, drop}
use Rattle.std.specs.List.{list_all}
use Rattle.formula_reader.specs.Excess.{is_use}
use Rattle.formula_reader.proofs.limits.heaps.are_known.Given as goal

abbrev pub invariant-loop-atom : goal.invariant-loop-atom
invariant-loop-atom l = list_all (is_use l.defs) (drop l.atom-index l.atoms) ≡ list_all (is_use l.defs) l.atoms
