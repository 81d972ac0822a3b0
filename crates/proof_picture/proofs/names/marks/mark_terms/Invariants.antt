use Rattle.std.proofs.Common.{◌≡◌, drop}
use Rattle.proof_picture.specs.Marks.{marked_terms}
use Rattle.proof_picture.proofs.names.marks.mark_terms.Given as goal

abbrev pub invariant-loop-term : goal.invariant-loop-term
invariant-loop-term l = marked_terms l.flags (drop l.term-index l.terms) ≡ marked_terms l.fn.flags l.terms
