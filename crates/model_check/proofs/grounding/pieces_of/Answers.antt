use Rattle.std.proofs.Common.{◌<◌, length, refl, arith}
use Rattle.model_check.specs.ForcedLocals.{stack_of}
use Rattle.model_check.proofs.Asking.{asked_next_at, listed_at}
use Rattle.model_check.proofs.grounding.pieces_of.Goals as goal

pub loop-atom-preserved : goal.loop-atom-preserved
loop-atom-preserved c =
    let h : c.loop-atom.atom-index < length c.args.atoms.now = omega arith in
    let k = c.in_ok-piece.ensures c.in_ok-piece.piece refl in
    asked_next_at c.args.places.now.keys c.args.questions.now.keys c.loop-atom.questions.keys
    c.piece_of.new.questions.keys c.args.stack.now (stack_of c.args.locals.now)
    c.args.atoms.now c.loop-atom.atom-index c.atom-item.result c.loop-atom.pieces.items c.push.new.self.items
    c.in_ok-piece.piece h c.atom-item.is c.loop-atom.invariant k c.in_ok-push.ensures.items

pub piece_of-requires : goal.piece_of-requires
piece_of-requires c =
    record {
      listed = listed_at c.args.places.now.keys c.args.stack.now (stack_of c.args.locals.now)
          c.args.atoms.now c.loop-atom.atom-index c.atom-item.result c.loop-atom-test.true c.atom-item.is
          c.requires.listed;
    }
