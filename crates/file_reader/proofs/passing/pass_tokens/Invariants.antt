use Rattle.std.proofs.Common.{List, length}
use Rattle.std.specs.Str.{chars, IsUtf8}
use Rattle.cyc_lex.specs.Lexing.{HasRoom}
use Rattle.cyc_lex.specs.Placed.{Placed}
use Rattle.piecewise_lex.specs.Taking.{reading, HasTaken}
use Rattle.file_reader.proofs.passing.pass_tokens.Given as goal

abbrev pub invariant-tokens : goal.invariant-tokens
invariant-tokens l = record {
  taken : (ts : List Placed) × HasTaken (reading l.fn.place l.fn.comment l.fn.text) ts
      (reading l.place l.comment l.rest);
  room : HasRoom l.place (length l.rest);
  utf8 : IsUtf8 l.rest;
}

abbrev pub decreases-tokens : goal.decreases-tokens
decreases-tokens l = length (chars l.rest)
