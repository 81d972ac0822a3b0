-- A check of a correct file with few states can say one thing.
use Rattle.std.proofs.Common.{◌≡◌, ℕ, ◌≤◌, List, arith, refl}
use Rattle.trace_pairs.specs.Graph.{Node}
use Rattle.buchi_inclusion.specs.Answers.{HasAtMost}
use Rattle.buchi_inclusion.proofs.Exact.{not_both}
use Rattle.proof_file.specs.declared.file.ProofFile.{ProofFile}
use Rattle.logics.specs.declared.verdict.Verdict.TheVariants.{Accepted, RuleRefused, PathRefused, TooManyStates}
use Rattle.proof_check.specs.Verdicts.{Verdict, file_graph, state_limit, IsCorrect, IsVerdict}

-- states that are at most n are at most as many as any greater number
pub at_most_more : (g : List Node) (n m : ℕ) → n ≤ m → HasAtMost g n → HasAtMost g m
at_most_more g n m b h = (h.0, h.1, omega (arith, h.2))

-- no other verdict is true of a correct file with few states
pub correct_is_accepted : (f : ProofFile) (v : Verdict) → IsVerdict f v → IsCorrect f
    → HasAtMost (file_graph f) state_limit → v ≡ Accepted
correct_is_accepted f Accepted is correct few = refl
correct_is_accepted f (RuleRefused v fault) is correct few = cc (correct.nodes v is.node is.at, is.first)
correct_is_accepted f (PathRefused l) is correct few = absurd (is.2 (correct.paths l is.1))
correct_is_accepted f TooManyStates is correct few = absurd (not_both (file_graph f) state_limit few is.1)
