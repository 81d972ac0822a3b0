use Rattle.std.proofs.Common.{List, Result, Err}
use Rattle.std.proofs.lemmas.Result.{err_from_is_err_and}
use Rattle.cyc_lex.specs.Placed.{Placed}
use Rattle.cyc_lex.specs.declared.place.Place.{Place}
use Rattle.cyc_lex.specs.declared.place.Bad.{Bad}
use Rattle.cyc_lex.specs.declared.place.Bad.TheVariants as bads
use Rattle.cyc_lex.specs.declared.place.Stop.{Stop}
use Rattle.cyc_lex.specs.declared.place.Stop.TheVariants as stops
use Rattle.cyc_lex.specs.Lexing.{Stops}
use Rattle.cyc_lex.specs.Answer.{Answers, stop_fault}
use Rattle.cyc_lex.proofs.cutting.tokens.Goals as goal

told : (stop : Stop) (r : Result (List Placed) (Bad × Place)) → Stops stop r → Answers (Err (stop_fault stop)) r
told stops.OutOfMemory r is = tt
told (stops.At bads.Byte place) r is = is
told (stops.At bads.Utf8 place) r is = is
told (stops.At bads.LongNumber place) r is = is
told (stops.At bads.LongName place) r is = is

pub returns-in_err-items-clause-exact : goal.returns-in_err-items-clause-exact
returns-in_err-items-clause-exact c =
    let p = err_from_is_err_and c.from_residual.result c.from_residual.ensures.1 in
    rw (p.1, p.2) (told c.in_err-items.field-0.0 _ c.in_err-items.ensures.lexed)
