use Rattle.std.proofs.Common.{◌-◌, ◌∙◌, length, refl, ap, subst, sym, ℕ, List}
use Rattle.std.specs.Str.{chars}
use Rattle.cyc_lex.specs.Lexing.{HasRoom, pass_all}
use Rattle.cyc_lex.specs.Lexing.{comment_len}
use Rattle.cyc_lex.proofs.Pieces.{split}
use Rattle.cyc_lex.proofs.lexing.skip_comment.Goals as goal

pub returns-then-not-comment-clause-rest : goal.returns-then-not-comment-clause-rest
unfolding comment_len
returns-then-not-comment-clause-rest c = rw c.if-not-comment.true refl

pub returns-then-not-comment-clause-place : goal.returns-then-not-comment-clause-place
unfolding comment_len pass_all
returns-then-not-comment-clause-place c = rw c.if-not-comment.true refl

pub overflow_sub-size : goal.overflow_sub-size
overflow_sub-size c = (split c.args.text.now c.args.place c.run-behind.result
    (c.run-behind.result.offset - c.args.place.offset) _ c.utf8.text c.run-behind.ensures c.requires refl).after

pub split_at-requires : goal.split_at-requires
split_at-requires c = (split c.args.text.now c.args.place c.run-behind.result
    (c.run-behind.result.offset - c.args.place.offset) _ c.utf8.text c.run-behind.ensures c.requires refl).boundary

pub returns-clause-rest : goal.returns-clause-rest
unfolding comment_len
returns-clause-rest c = ap chars c.split_at.ensures.back
    ∙ (split c.args.text.now c.args.place c.run-behind.result (c.run-behind.result.offset - c.args.place.offset)
    _ c.utf8.text c.run-behind.ensures c.requires refl).rest ∙ rw c.if-not-comment.false refl

pub returns-clause-place : goal.returns-clause-place
unfolding comment_len
returns-clause-place c = c.run-behind.ensures ∙ rw c.if-not-comment.false refl

pub returns-clause-room : goal.returns-clause-room
returns-clause-room c = subst (λ (x : List ℕ). HasRoom c.run-behind.result (length x)) (sym c.split_at.ensures.back)
    (split c.args.text.now c.args.place c.run-behind.result (c.run-behind.result.offset - c.args.place.offset)
    _ c.utf8.text c.run-behind.ensures c.requires refl).room
