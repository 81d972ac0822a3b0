use Rattle.std.proofs.Common.{◌≡◌, drop}
use Rattle.std.specs.List.{list_any}
use Rattle.pred_defs.specs.Faults.{has_stranger}
use Rattle.pred_defs.proofs.library.some_has_stranger.Given as goal

abbrev pub invariant-loop-case : goal.invariant-loop-case
invariant-loop-case l = list_any (has_stranger l.arity) (drop l.case-index l.cases)
    ≡ list_any (has_stranger l.arity) l.cases
