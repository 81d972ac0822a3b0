use Rattle.std.proofs.Common.{subst, sym, All}
use Rattle.std.specs.Str.{chars}
use Rattle.std.proofs.lemmas.Str.{scalars-chars}
use Rattle.piecewise_lex.specs.Owned.{IsShort}
use Rattle.piecewise_lex.proofs.ShortTokens.{short-all}
use Rattle.piecewise_lex.proofs.batch.take_all.Goals as goal

pub own_all-requires : goal.own_all-requires
own_all-requires c = subst (All IsShort) (sym c.deref.ensures.value)
    (short-all c.args.whole c.args.place _ (chars c.args.text.now) c.in_ok-tokens.tokens.items
    (scalars-chars c.args.text.now c.utf8.text) c.in_ok-tokens.ensures)
