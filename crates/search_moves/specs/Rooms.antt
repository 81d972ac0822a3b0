-- Room for a case of a predicate on the right side, and for the cases of one on the left.
use Rattle.std.specs.Prelude.{ℕ, ◌+◌, max, map, List, length, Bool, ◌&&◌, nat_le}
use Rattle.std.specs.List.{list_all}
use Rattle.cyc_basics.specs.declared.limits.Limits.{Limits}
use Rattle.cyc_basics.specs.declared.limits.TheConstants.{VARIABLE_NUMBERS}
use Rattle.heap_formula.specs.declared.judgements.Judgement.{Judgement}
use Rattle.heap_formula.specs.Judgements.{antecedent}
use Rattle.heap_formula.specs.Symbolic.{SymbolicHeap}
use Rattle.heap_formula.specs.Words.{max_of}
use Rattle.rule_table.specs.Answer.{disjuncts, heaps_of, is_short}
use Rattle.heap_formula.specs.Fresh.{heap_numbers}

-- a case can stand in the place of an atom of b, beside a, also where each variable of b and of the case has its own
-- number
abbrev pub has_room_for : Limits → SymbolicHeap → SymbolicHeap → SymbolicHeap → Bool
has_room_for most a b case =
    is_short most a
    && (nat_le (length b.pure + length case.pure) most.pure
    && (nat_le (length b.spatial + length case.spatial) (most.spatial + 1)
    && (nat_le (heap_numbers a) VARIABLE_NUMBERS
    && nat_le (heap_numbers b + heap_numbers case) VARIABLE_NUMBERS)))

-- 1 plus the greatest number of a variable of the judgement, 0 if it has none
abbrev pub judgement_numbers : Judgement → ℕ
judgement_numbers j = max_of (map heap_numbers (heaps_of j))

-- a case can stand in the place of an atom of a, its locals having numbers from n on
abbrev pub has_room_from : Limits → ℕ → SymbolicHeap → SymbolicHeap → Bool
has_room_from most n a case =
    nat_le (length a.pure + length case.pure) most.pure
    && (nat_le (length a.spatial + length case.spatial) (most.spatial + 1)
    && nat_le (n + heap_numbers case) VARIABLE_NUMBERS)

-- each case can stand in the place of an atom of the antecedent, its locals having numbers above all of the judgement
abbrev pub has_room_left : Limits → ℕ → Judgement → List SymbolicHeap → Bool
has_room_left most p j cases =
    list_all (is_short most) (disjuncts j)
    && list_all (has_room_from most (max p (judgement_numbers j)) (antecedent j)) cases
