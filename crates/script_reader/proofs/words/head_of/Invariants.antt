use Rattle.std.proofs.Common.{◌≡◌, map, drop}
use Rattle.script_reader.specs.Words.{named, head_word}
use Rattle.script_reader.proofs.words.head_of.Given as goal

abbrev pub invariant-loop-word : goal.invariant-loop-word
invariant-loop-word l = named l.text (map head_word (drop l.word-index l.words))
    ≡ named l.text (map head_word l.words)
