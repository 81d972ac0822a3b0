use Rattle.std.proofs.Common.{◌≡◌, drop}
use Rattle.formula_reader.specs.Excess.{first_of, line_at}
use Rattle.formula_reader.proofs.limits.lines.lines_excess.Given as goal

abbrev pub invariant-loop-place : goal.invariant-loop-place
invariant-loop-place l = first_of (line_at l.version l.most) l.place (drop l.place l.lines)
    ≡ first_of (line_at l.version l.most) 0 l.lines
