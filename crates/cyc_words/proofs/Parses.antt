-- What a parse by this command says of the meaning of the line.
use Rattle.std.proofs.Common.{◌≡◌, ◌∙◌, List, [], ◌∷◌, Option, None, true, refl, sym, ap, subst, inl, inr}
use Rattle.clap.specs.Words.{App, HasKind, HasMatchesOf, IsAmong, Kinds, Row, Text, fault_of, is_simple}
use Rattle.clap.specs.Words.{is_simple_and_free, kind_of, subcommand_of, subcommand_rows_of}
use Rattle.clap.specs.declared.error.Error.{Error}
use Rattle.clap.specs.declared.error.ErrorKind.{ErrorKind}
use Rattle.clap.specs.declared.error.ErrorKind.TheVariants.{OutOfMemory}
use Rattle.clap.specs.declared.parser.matches.ArgMatches.{ArgMatches}
use Rattle.clap.proofs.OnLiterals.{clap_on_literals}
use Rattle.cyc_words.specs.Command.{cyclist_app}
use Rattle.cyc_words.specs.Words.{HasMeaning, found_meaning, meaning_of_line, taken_meaning}
use Rattle.cyc_words.proofs.Taken.{taken_means}

-- clap says of such a command when it refuses words
is_free : is_simple_and_free cyclist_app ≡ true
unfolding clap_on_literals
is_free = refl

-- and what it finds
is_plain : is_simple cyclist_app ≡ true
unfolding clap_on_literals
is_plain = refl

-- the line was taken, and this subcommand was found
pub record Takes (line : List Text) (found : Option (Text × List Row)) : Type 0 where
  pub faultless : fault_of cyclist_app line ≡ []
  pub same : found ≡ subcommand_of cyclist_app line

pub parsed : (app : App) (line : List Text) (m : ArgMatches) → app ≡ cyclist_app
    → (is_simple_and_free app ≡ true → fault_of app line ≡ []) → HasMatchesOf app line m
    → Takes line (subcommand_rows_of m)
parsed app line m is kinds matches = record {
  faultless = subst (λ (a : App). fault_of a line ≡ []) is (kinds (ap is_simple_and_free is ∙ is_free));
  same = (subst (λ (a : App). HasMatchesOf a line m) is matches is_plain).1;
}

pub found_means : (line : List Text) (found : Option (Text × List Row)) → Takes line found → HasMeaning found
found_means line found takes = subst (λ f. HasMeaning f) (sym takes.same) (taken_means line takes.faultless)

pub found_is : (line : List Text) (found : Option (Text × List Row)) → Takes line found
    → found_meaning found ≡ meaning_of_line line
found_is line found takes = rw (takes.faultless, takes.same) refl

-- ---- a line that is refused

among : (kinds : Kinds) (k : ErrorKind) (found : Option (Text × List Row)) → IsAmong k kinds
    → None ≡ taken_meaning kinds found
among [] k found h = absurd h
among (x ∷ xs) k found h = refl

pub refused : (app : App) (line : List Text) (e : Error) → app ≡ cyclist_app
    → (is_simple_and_free app ≡ true → HasKind (fault_of app line) e) → (kind_of e ≡ OutOfMemory → ⊥)
    → None ≡ meaning_of_line line
refused app line e is kinds other =
    let has : HasKind (fault_of app line) e = kinds (ap is_simple_and_free is ∙ is_free) in
    elim (subst (λ (a : App). HasKind (fault_of a line) e) is has) [
      | inl memory ↦ absurd (other memory)
      | inr some ↦ among (fault_of cyclist_app line) (kind_of e) (subcommand_of cyclist_app line) some
    ]
