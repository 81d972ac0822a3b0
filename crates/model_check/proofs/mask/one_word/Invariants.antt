use Rattle.std.proofs.Common.{◌≡◌, replicate}
use Rattle.model_check.proofs.mask.one_word.Given as goal

abbrev pub invariant-loop-word : goal.invariant-loop-word
invariant-loop-word l = l.words.items ≡ replicate l._word 0
