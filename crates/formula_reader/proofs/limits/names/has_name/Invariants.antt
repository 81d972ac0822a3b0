use Rattle.std.proofs.Common.{◌≡◌, drop}
use Rattle.pred_defs.specs.Faults.{has_name}
use Rattle.formula_reader.proofs.limits.names.has_name.Given as goal

abbrev pub invariant-loop-known : goal.invariant-loop-known
invariant-loop-known l = has_name (drop l.known-index l.defs) l.name ≡ has_name l.defs l.name
