use Rattle.std.proofs.Common.{◌≡◌, drop, map}
use Rattle.std.specs.List.{list_any}
use Rattle.std.specs.Prelude.{◌&&◌, ◌||◌, nat_eq}
use Rattle.heap_formula.specs.declared.judgements.Pair.{Pair}
use Rattle.proof_picture.specs.Arrows.{drawn_of}
use Rattle.proof_picture.specs.Carried.{flag_at, flags_of, goes_over}
use Rattle.proof_picture.proofs.carried.goes_along.Given as goal

-- None of the pairs so far goes on to a link.
abbrev pub invariant-loop-pair : goal.invariant-loop-pair
invariant-loop-pair l =
    list_any (λ (p : Pair). nat_eq p.old l.atom && (l.arrow.is_link || flag_at (map flags_of l.behind.items)
    l.v l.arrow.target p.new)) (drop l.pair-index l.arrow.pairs)
    ≡ goes_over (map flags_of l.behind.items) l.v (drawn_of l.arrow) l.atom
