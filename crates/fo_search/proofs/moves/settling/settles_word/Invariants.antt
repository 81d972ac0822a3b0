use Rattle.std.proofs.Common.{◌≡◌, drop}
use Rattle.fo_search.specs.Choosing.{settles_word}
use Rattle.fo_search.proofs.moves.settling.settles_word.Given as goal

abbrev pub invariant-loop-sign : goal.invariant-loop-sign
invariant-loop-sign l = settles_word l.change (drop l.sign-index l.word) ≡ settles_word l.change l.word
