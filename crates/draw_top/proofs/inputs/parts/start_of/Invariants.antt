use Rattle.std.proofs.Common.{◌≡◌, drop, map}
use Rattle.cyc_lex.specs.Placed.{placed}
use Rattle.draw_top.specs.Parts.{problem_start, start_from}
use Rattle.draw_top.proofs.inputs.parts.start_of.Given as goal

-- No problem began so far.
abbrev pub invariant-loop-place : goal.invariant-loop-place
invariant-loop-place l = start_from (placed l.before) (map placed (drop l.place l.others))
    ≡ problem_start (map placed l.tokens)
