use Rattle.std.proofs.Common.{◌≡◌, ◌≤◌, ◌+◌, ◌-◌, vec_len, length}
use Rattle.std.specs.List.{sum_by}
use Rattle.model_check.specs.Tables.{IsDerived, AreSettled, AreBefore}
use Rattle.model_check.proofs.TableSteps.{AreClosedFrom}
use Rattle.model_check.proofs.solving.refresh_rules.Given as goal

abbrev pub invariant-loop-k : goal.invariant-loop-k
invariant-loop-k l = record {
  sound : IsDerived l.rules l.table.items;
  rows : vec_len l.table ≡ vec_len l.initial.table;
  longer : vec_len l.initial.log ≤ vec_len l.log;
  counted : vec_len l.log + sum_by length l.initial.table.items ≡ vec_len l.initial.log + sum_by length l.table.items;
  closed : vec_len l.log ≡ vec_len l.initial.log → AreClosedFrom l.table.items (l.count - l.k) l.rules;
  settled : AreSettled l.table.items l.grown.items l.applied.items l.rules;
  before : AreBefore l.applied.items (vec_len l.log);
  applied_length : vec_len l.applied ≡ vec_len l.initial.applied;
  grown_length : vec_len l.grown ≡ vec_len l.initial.grown;
}
