use Rattle.std.proofs.Common.{◌≡◌, drop}
use Rattle.std.specs.List.{list_all}
use Rattle.fo_search.specs.Choosing.{settles_word}
use Rattle.fo_search.proofs.moves.settling.settles_words.Given as goal

abbrev pub invariant-loop-word : goal.invariant-loop-word
invariant-loop-word l = list_all (settles_word l.change) (drop l.word-index l.words)
    ≡ list_all (settles_word l.change) l.words
