use Rattle.std.proofs.Common.{sym, subst}
use Rattle.cyc_grammar.specs.Syntax.{Reading}
use Rattle.cyc_grammar.specs.Giving.{Gives}
use Rattle.proof_syntax.specs.Trees.{Reason, reason_of}
use Rattle.proof_syntax.proofs.ReasonParts.{reason-read}
use Rattle.proof_syntax.proofs.read_reasons.kept_reason.Goals as goal

pub returns : goal.returns
returns c =
    subst (λ (q : Reading Reason). Gives (λ x. (reason_of x, c.kept_parts.new.cursor)) c.kept_parts.result q)
    (sym (reason-read c.args.keep c.in_ok-word.word c.args.cursor.now c.reason_word.new.cursor c.in_ok-word.ensures))
    c.kept_parts.ensures
