use Rattle.std.proofs.Common.{◌≡◌, ◌+◌, ◌-◌, ◌*◌, ◌≤◌, ℕ, List, drop}
use Rattle.std.specs.Prelude.{map, IfSome}
use Rattle.fo_syntax.specs.Trees.{sign_of}
use Rattle.fo_syntax.proofs.PlaceLaws.{HaveRoom}
use Rattle.fo_file.specs.Arguments.{numbers, until_ninth}
use Rattle.fo_file.specs.AtomFlaws.{signs_flaw}
use Rattle.fo_file.proofs.walk.term_walk.walk_signs.Given as goal

-- some numbers tell which arguments the next terms are
abbrev pub invariant-loop-n : goal.invariant-loop-n
invariant-loop-n l =
    ((ns : List ℕ)
    × ((until_ninth ns ≡ l.ninth)
    × (signs_flaw l.fn.names l.fn.scope ns (l.fn.from.terms + l.n) l.fn.from.token l.limit
    (map sign_of (drop l.n l.signs)) (drop l.n l.places)
    ≡ signs_flaw l.fn.names l.fn.scope (numbers l.fn.arguments) l.fn.from.terms l.fn.from.token l.fn.limit
    (map sign_of l.signs) l.places)))
    × (HaveRoom (18446744073709551616 - (l.fn.from.token + 1)) (drop l.n l.places)
    × IfSome l.ninth (λ t. t ≤ 8 * (l.n + 1)))
