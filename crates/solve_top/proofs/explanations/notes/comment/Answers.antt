use Rattle.solve_top.proofs.NoteLaws.{comment-note}
use Rattle.solve_top.proofs.explanations.notes.comment.Goals as goal

pub returns-clause-note : goal.returns-clause-note
returns-clause-note c = comment-note _ _ _ _ c.in_ok-line.ensures.ok c.in_ok-push_parts.ensures.text
    c.in_ok-push_str.ensures.bytes c.in_ok-push_parts.ensures.fits
