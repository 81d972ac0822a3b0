use Rattle.std.proofs.Common.{◌≡◌, ◌++◌, drop}
use Rattle.fo_formula.specs.Traces.{pairs_from, same_pairs}
use Rattle.fo_rules.proofs.parts.pairing.pairs_of_same.Given as goal

abbrev pub invariant-loop-place : goal.invariant-loop-place
invariant-loop-place l = l.pairs ++ pairs_from (λ k. k) l.place (drop l.place l.atoms) ≡ same_pairs l.atoms
