-- Tokens with texts of their own.
use Rattle.std.specs.Prelude.{◌≤◌, length}
use Rattle.cyc_basics.specs.declared.limits.TheConstants.{LONGEST_NAME}
use Rattle.cyc_lex.specs.declared.token.Token.{Token}
use Rattle.cyc_lex.specs.Placed.{Placed}
use Rattle.piecewise_lex.specs.declared.owned.OwnedToken.{OwnedToken}

abbrev pub owned : OwnedToken → Placed
owned t = record { kind = t.kind; text = t.text; line = t.line; column = t.column }

-- its text has at most 64 bytes
abbrev pub IsShort : Token → Type 0
IsShort t = length t.text.now ≤ LONGEST_NAME
