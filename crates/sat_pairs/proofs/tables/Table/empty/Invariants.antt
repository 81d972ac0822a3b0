use Rattle.std.proofs.Common.{◌≡◌, [], map}
use Rattle.std.specs.Prelude.{replicate}
use Rattle.sat_pairs.proofs.tables.Table.empty.Given as goal

abbrev pub invariant-loop : goal.invariant-loop
invariant-loop l = map (λ s. s.keys) l.rows.items ≡ replicate l.counter []
