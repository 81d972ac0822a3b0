use Rattle.std.proofs.Common.{◌∙◌, ap}
use Rattle.std.specs.Prelude.{option_and_then}
use Rattle.std.specs.Str.Parse.{ParsesUnsigned, ExplainsUnsignedError, HasUnsignedDigitsIfOk}
use Rattle.clap.proofs.WalkLemmas.{one_text-rows}
use Rattle.clap.specs.Words.{found_of, one_text}
use Rattle.cyc_words.specs.Words.{number_in}
use Rattle.cyc_words.proofs.Numbers.{number-read}
use Rattle.cyc_words.proofs.meaning.number_of.Goals as goal

pub returns : goal.returns
returns c low high n fits is =
    let found = found_of c.args.matches.now in
    number-read (λ t x. ParsesUnsigned 32 10 t x × ExplainsUnsignedError 10 t x × HasUnsignedDigitsIfOk t x) low high n
    (one_text found c.args.id.now) c.get_one.result (λ t x g. g.0) fits
    c.get_one.ensures.value (ap (option_and_then (number_in low high)) (one_text-rows found c.args.id.now) ∙ is)
