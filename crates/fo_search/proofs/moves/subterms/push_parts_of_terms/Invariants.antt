use Rattle.std.proofs.Common.{◌≡◌, drop}
use Rattle.std.specs.List.{flat_map}
use Rattle.fo_search.specs.Subterms.{parts_of, once}
use Rattle.fo_search.proofs.moves.subterms.push_parts_of_terms.Given as goal

abbrev pub invariant-loop-term : goal.invariant-loop-term
invariant-loop-term l = once l.words.items (flat_map parts_of (drop l.term-index l.terms))
    ≡ once l.initial.words.items (flat_map parts_of l.terms)
