use Rattle.std.proofs.Common.{◌≡◌, drop, map}
use Rattle.cyc_lex.specs.Word.{word}
use Rattle.proof_picture.specs.Layout.{blank_layout, steps}
use Rattle.proof_picture.proofs.layout.lay_out.Given as goal

-- What is laid out so far, and the words that are left.
abbrev pub invariant-loop-token : goal.invariant-loop-token
invariant-loop-token l = steps l.layout (map word (drop l.token-index l.tokens))
    ≡ steps (blank_layout l.flags) (map word l.tokens)
