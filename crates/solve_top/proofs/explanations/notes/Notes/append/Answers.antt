use Rattle.solve_top.proofs.NoteLaws.{notes-extended}
use Rattle.solve_top.proofs.explanations.notes.Notes.append.Goals as goal

pub invariant_of-self-2 : goal.invariant_of-self-2
invariant_of-self-2 c = notes-extended _ _ _ _ c.in_ok-extend_from_slice.ensures.items c.as_slice.ensures.value
    c.self.invariant c.others.invariant
