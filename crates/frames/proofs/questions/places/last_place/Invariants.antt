use Rattle.std.proofs.Common.{◌≡◌, ◌<◌, false, None, drop, length}
use Rattle.std.specs.Prelude.{IfSome}
use Rattle.frames.specs.Questions.{last_place}
use Rattle.frames.proofs.questions.places.last_place.Given as goal

-- What the rest adds to the place so far is the place in the whole text.
abbrev pub invariant-loop-place : goal.invariant-loop-place
invariant-loop-place l =
    (last_place l.kind false 0 None l.text ≡ last_place l.kind l.comment l.place l.last (drop l.place l.text))
    × IfSome l.last (λ place. place < length l.text)
