use Rattle.std.proofs.Common.{◌≡◌, ◌++◌, drop}
use Rattle.search_moves.specs.Places.{each_of}
use Rattle.search_moves.specs.Entailments.{distincts_if, distincts}
use Rattle.rule_table.specs.Tests.{is_universal_pure}
use Rattle.search_moves.proofs.distincts.distincts.Given as goal

abbrev pub invariant-loop-wanted : goal.invariant-loop-wanted
invariant-loop-wanted l = l.rules.items ++ each_of (λ x. distincts_if l.atoms (is_universal_pure x) x)
    (drop l.wanted-index l.pures) ≡ distincts l.atoms l.pures
