-- How many brackets are open around what may come next.
use Rattle.std.specs.Prelude.{ℕ}
use Rattle.fo_syntax.specs.declared.terms.bracket.Awaited.{Awaited}
use Rattle.fo_syntax.specs.declared.terms.bracket.Awaited.TheVariants.{First, Next, Nothing}

abbrev pub depth : Awaited → ℕ
depth (First n) = n
depth (Next n) = n
depth Nothing = 0
