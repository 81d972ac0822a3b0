use Rattle.std.proofs.Common.{◌≡◌, ◌≤◌, drop, length, Some}
use Rattle.search_moves.specs.Folds.{bind_terms}
use Rattle.search_moves.proofs.folds.binding.bind_lists.Given as goal

abbrev pub invariant-loop-k : goal.invariant-loop-k
invariant-loop-k l = (bind_terms (Some l.binding.items) (drop l.k l.from) (drop l.k l.to)
    ≡ bind_terms (Some l.initial.binding.items) l.from l.to) × (l.k ≤ length l.to)
