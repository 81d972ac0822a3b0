use Rattle.std.proofs.Common.{◌≡◌, ◌≤◌, ◌+◌, ◌*◌, drop}
use Rattle.fo_formula.specs.Words.{end_of}
use Rattle.fo_rules.proofs.splitting.end_of_first.Given as goal

abbrev pub invariant-loop-i : goal.invariant-loop-i
invariant-loop-i l = (l.need ≤ 1 + 255 * l.i) × (l.i + end_of l.need (drop l.i l.word) ≡ end_of 1 l.word)
