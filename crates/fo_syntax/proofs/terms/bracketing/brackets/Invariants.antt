use Rattle.std.proofs.Common.{◌≡◌, ◌++◌, ◌∷◌, [], drop}
use Rattle.std.specs.Prelude.{map}
use Rattle.fo_syntax.specs.Trees.{sign_of}
use Rattle.fo_syntax.specs.Seen.{mark_seen}
use Rattle.fo_syntax.specs.Brackets.{brackets}
use Rattle.fo_syntax.proofs.terms.bracketing.brackets.Given as goal

abbrev pub invariant-loop-sign : goal.invariant-loop-sign
invariant-loop-sign l = map mark_seen l.marks.items ++ brackets l.waits (map sign_of (drop l.sign-index l.signs))
    ≡ brackets (l.arguments ∷ []) (map sign_of l.signs)
