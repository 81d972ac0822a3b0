use Rattle.std.proofs.Common.{◌≡◌, drop}
use Rattle.fo_search.specs.Subterms.{parts_of, once}
use Rattle.fo_search.proofs.moves.subterms.push_parts.Given as goal

abbrev pub invariant-loop-k : goal.invariant-loop-k
invariant-loop-k l = once l.words.items (parts_of (drop l.k l.word)) ≡ once l.initial.words.items (parts_of l.word)
