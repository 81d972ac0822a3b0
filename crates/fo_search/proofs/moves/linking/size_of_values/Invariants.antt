use Rattle.std.proofs.Common.{◌≡◌, ◌≤◌, ◌+◌, ℕ, drop, map}
use Rattle.fo_formula.specs.Sizes.{words_size}
use Rattle.fo_formula.specs.Words.{Word}
use Rattle.fo_rules.specs.Capping.{capped}
use Rattle.fo_search.proofs.moves.linking.size_of_values.Given as goal

abbrev pub invariant-loop-source : goal.invariant-loop-source
invariant-loop-source l = (l.size ≤ 4097) × (capped (l.size + words_size
    (map (λ (pair : ℕ × Word). pair.1) (drop l._source-index l.pairs)))
    ≡ capped (words_size (map (λ (pair : ℕ × Word). pair.1) l.pairs)))
