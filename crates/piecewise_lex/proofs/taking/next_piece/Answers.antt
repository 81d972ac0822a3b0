use Rattle.std.proofs.Common.{◌∙◌, sym}
use Rattle.std.specs.Prelude.{slice_index}
use Rattle.piecewise_lex.proofs.FirstBytes.{plain-single}
use Rattle.piecewise_lex.proofs.taking.next_piece.Goals as goal

pub single-requires-then-is_plain-clause-alone : goal.single-requires-then-is_plain-clause-alone
single-requires-then-is_plain-clause-alone c = plain-single (slice_index c.as_bytes.result.now 0)
    (sym c.is_plain.ensures ∙ c.if-is_plain.true)
