use Rattle.std.proofs.Common.{◌≡◌, ◌<◌, ◌≤◌, ◌-◌, ◌^◌, vec_len, length}
use Rattle.model_check.specs.Tables.{IsDerived, AreClosed, AreSettled, AreBefore}
use Rattle.model_check.proofs.solving.solve.Given as goal

abbrev pub invariant-loop-before : goal.invariant-loop-before
invariant-loop-before l = record {
  sound : IsDerived l.rules l.table.items;
  rows : vec_len l.table ≡ l.count;
  clock : 0 < vec_len l.log;
  longer : l.before ≤ vec_len l.log;
  closed : vec_len l.log ≡ l.before → AreClosed l.table.items l.rules;
  settled : AreSettled l.table.items l.grown.items l.applied.items l.rules;
  before : AreBefore l.applied.items (vec_len l.log);
  applied_length : vec_len l.applied ≡ length l.rules;
  grown_length : vec_len l.grown ≡ l.count;
}

-- Each turn finds a mask.
abbrev pub decreases-loop-before : goal.decreases-loop-before
decreases-loop-before l = 2 ^ 64 - l.before
