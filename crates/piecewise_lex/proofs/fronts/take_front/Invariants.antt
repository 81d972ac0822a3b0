use Rattle.std.proofs.Common.{length, map}
use Rattle.std.specs.Str.{chars, IsUtf8}
use Rattle.cyc_lex.specs.Lexing.{HasRoom}
use Rattle.piecewise_lex.specs.Owned.{owned}
use Rattle.piecewise_lex.specs.Taking.{reading, HasTaken}
use Rattle.piecewise_lex.proofs.fronts.take_front.Given as goal

abbrev pub invariant-tokens : goal.invariant-tokens
invariant-tokens l = record {
  taken : HasTaken (reading l.fn.place l.fn.comment l.fn.text) (map owned l.tokens.items)
      (reading l.place l.comment l.rest);
  room : HasRoom l.place (length l.rest);
  utf8 : IsUtf8 l.rest;
}

abbrev pub decreases-tokens : goal.decreases-tokens
decreases-tokens l = length (chars l.rest)
