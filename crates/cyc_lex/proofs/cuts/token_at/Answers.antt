use Rattle.cyc_lex.specs.Cutting.{cut_text}
use Rattle.cyc_lex.proofs.CutLaws.{at-first, cut-comment}
use Rattle.cyc_lex.proofs.cuts.token_at.Goals as goal

pub tokens-init : goal.tokens-init
tokens-init c =
    at-first c.skip_comment.result.1 c.skip_comment.result.0.now (cut_text c.args.place c.args.comment c.args.text.now)
    c.args.number c.cut_token-cut.result c.cut_token-cut.ensures
    (cut-comment c.args.place c.skip_comment.result.1 c.args.comment c.args.text.now c.skip_comment.result.0.now
    c.skip_comment.ensures.rest c.skip_comment.ensures.place) c.requires.within
