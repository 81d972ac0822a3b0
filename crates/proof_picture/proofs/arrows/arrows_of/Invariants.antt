use Rattle.std.proofs.Common.{◌≡◌, ◌++◌, map, drop, length}
use Rattle.rule_book.specs.Answers.{targets_of}
use Rattle.proof_file.specs.Links.{is_link}
use Rattle.proof_picture.specs.Arrows.{arrows_from, arrows_with, drawn_of}
use Rattle.proof_picture.specs.Red.{step_in}
use Rattle.proof_picture.proofs.arrows.arrows_of.Given as goal

-- The edges so far, and those of the numbers that are left.
abbrev pub invariant-loop-place : goal.invariant-loop-place
invariant-loop-place l =
    map drawn_of l.arrows.items ++ arrows_from (length l.file.nodes) (is_link l.node.reason)
    (step_in l.steps.steps.keys l.v) l.premises l.place (drop l.place (targets_of l.node.premises l.node.reason))
    ≡ arrows_with l.file (step_in l.steps.steps.keys) l.v l.node l.premises
