use Rattle.std.proofs.Common.{take}
use Rattle.model_check.specs.ForcedLocals.{stack_of}
use Rattle.model_check.specs.Grounding.{AskedPieces}
use Rattle.model_check.proofs.grounding.pieces_of.Given as goal

abbrev pub invariant-loop-atom : goal.invariant-loop-atom
invariant-loop-atom l = AskedPieces l.places.keys l.initial.questions.keys l.questions.keys l.stack (stack_of l.locals)
    (take l.atom-index l.atoms) l.pieces.items
