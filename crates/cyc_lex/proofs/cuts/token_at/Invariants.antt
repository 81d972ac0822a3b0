use Rattle.cyc_lex.specs.Cutting.{cut_text}
use Rattle.cyc_lex.proofs.CutLaws.{IsAtToken}
use Rattle.cyc_lex.proofs.cuts.token_at.Given as goal

abbrev pub invariant-tokens : goal.invariant-tokens
invariant-tokens l = IsAtToken (cut_text l.fn.place l.fn.comment l.fn.text) l.fn.number l.cut l.left

abbrev pub decreases-tokens : goal.decreases-tokens
decreases-tokens l = l.left
