use Rattle.std.proofs.Common.{◌≡◌, drop, map}
use Rattle.cyc_lex.specs.Placed.{placed}
use Rattle.frames.specs.Questions.{has_token}
use Rattle.frames.proofs.questions.asking.has_token.Given as goal

-- Those that were passed have another text.
abbrev pub invariant-loop-token : goal.invariant-loop-token
invariant-loop-token l =
    has_token (map placed l.tokens) l.text ≡ has_token (map placed (drop l.token-index l.tokens)) l.text
