use Rattle.check_answers.proofs.InPieces.{fresh_part, fresh_wrote}
use Rattle.check_answers.proofs.check_input.Goals as goal

pub returns-clause-answered : goal.returns-clause-answered
returns-clause-answered g c a = fresh_wrote _ _ _ _ _ c.new.ensures (c.run_in_pieces.ensures.answered a)

pub returns-clause-write_fault : goal.returns-clause-write_fault
returns-clause-write_fault g c e =
    let wrote = c.run_in_pieces.ensures.write_fault e in (wrote.0, fresh_part _ _ _ _ c.new.ensures wrote.1)
