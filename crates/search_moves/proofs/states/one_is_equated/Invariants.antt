use Rattle.std.proofs.Common.{◌≡◌, drop}
use Rattle.std.specs.List.{list_any}
use Rattle.rule_table.specs.Tests.{equated}
use Rattle.search_moves.proofs.states.one_is_equated.Given as goal

abbrev pub invariant-loop-arg : goal.invariant-loop-arg
invariant-loop-arg l = list_any (λ u. equated l.pures u l.term) (drop l.arg-index l.args)
    ≡ list_any (λ u. equated l.pures u l.term) l.args
