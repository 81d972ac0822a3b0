use Rattle.std.proofs.Common.{◌∙◌, sym, arith}
use Rattle.script_reader.proofs.Skipping.{stray-ended, stray-found, stray-later}
use Rattle.script_reader.proofs.trees.reading.first_stray.Goals as goal

pub returns-in-Stray : goal.returns-in-Stray
returns-in-Stray c =
    sym (stray-found c.args.bytes.now c.pieces.at c.piece_from-piece.result c.pieces-test.true
    c.piece_from-piece.ensures.value c.piece_from-piece.ensures.within c.in-Stray.is)
    ∙ c.pieces.invariant.same

pub pieces-preserved : goal.pieces-preserved
pieces-preserved c = record {
  within = let h = c.piece_from-piece.ensures.within in omega (arith, h);
  same =
      sym (stray-later c.args.bytes.now c.pieces.at c.piece_from-piece.result c.pieces-test.true
      c.piece_from-piece.ensures.value c.piece_from-piece.ensures.within c.in_default.not-Stray)
      ∙ c.pieces.invariant.same;
}

pub returns : goal.returns
returns c = sym (stray-ended c.args.bytes.now c.pieces.at (omega (arith, c.pieces-test.false)))
    ∙ c.pieces.invariant.same
