use Rattle.std.proofs.Common.{arith}
use Rattle.std.proofs.lemmas.Str.{IsCharBoundary-after_ascii}
use Rattle.piecewise_lex.proofs.FirstBytes.{next-single}
use Rattle.piecewise_lex.proofs.taking.single.Goals as goal

pub split_at-requires : goal.split_at-requires
split_at-requires c = IsCharBoundary-after_ascii c.args.text.now 0 c.utf8.text c.requires.some
    (omega (arith, c.requires.first, c.requires.alone.ascii))

pub returns : goal.returns
returns c =
    let n = next-single c.args.place c.args.text.now c.args.byte c.args.piece c.utf8.text c.requires.room
    c.requires.some c.requires.first c.requires.alone in
    rw (c.split_at.ensures.front, c.split_at.ensures.back, c.pass.ensures) n
