use Rattle.std.proofs.Common.{◌≡◌, drop, map}
use Rattle.cyc_lex.specs.Word.{word}
use Rattle.proof_picture.specs.Words.{blank_renaming, renamed_all, scope_of}
use Rattle.proof_picture.proofs.names.words.named_tokens.Given as goal

-- What is renamed so far, and the words that are left.
abbrev pub invariant-loop-token : goal.invariant-loop-token
invariant-loop-token l = renamed_all (scope_of l.scope) l.renaming (map word (drop l.token-index l.tokens))
    ≡ renamed_all (scope_of l.scope) blank_renaming (map word l.tokens)
