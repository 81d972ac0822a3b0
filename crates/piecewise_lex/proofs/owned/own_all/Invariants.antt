use Rattle.std.proofs.Common.{◌≡◌, map, take}
use Rattle.cyc_lex.specs.Placed.{placed}
use Rattle.piecewise_lex.specs.Owned.{owned}
use Rattle.piecewise_lex.proofs.owned.own_all.Given as goal

abbrev pub invariant-loop-token : goal.invariant-loop-token
invariant-loop-token l = map owned l.all.items ≡ map placed (take l.token-index l.tokens)
