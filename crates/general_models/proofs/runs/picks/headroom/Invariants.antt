use Rattle.std.proofs.Common.{◌≡◌, drop, map}
use Rattle.std.specs.Prelude.{max}
use Rattle.heap_formula.specs.Words.{max_of}
use Rattle.general_models.specs.Picks.{pick_most, headroom_of}
use Rattle.general_models.proofs.runs.picks.headroom.Given as goal

abbrev pub invariant-loop-pick : goal.invariant-loop-pick
invariant-loop-pick l = max l.most (max_of (map pick_most (drop l.pick-index l.picks))) ≡ headroom_of l.picks
