use Rattle.std.proofs.Common.{◌≡◌, drop}
use Rattle.std.specs.List.{list_any}
use Rattle.fo_formula.specs.Tests.{same_word}
use Rattle.fo_search.proofs.moves.subterms.is_among.Given as goal

abbrev pub invariant-loop-other : goal.invariant-loop-other
invariant-loop-other l = list_any (same_word l.word) (drop l.other-index l.words) ≡ list_any (same_word l.word) l.words
