-- What of a run a run file within these limits has room for.
use Rattle.std.specs.Prelude.{ℕ, ◌^◌, ◌&&◌, Bool, true, nat_lt, nat_le, List, length}
use Rattle.std.specs.List.{list_all}
use Rattle.std.specs.FinMap.{entries}
use Rattle.cyc_basics.specs.declared.limits.Limits.{Limits}
use Rattle.cyc_basics.specs.declared.limits.TheConstants.{MOST_VALUES}
use Rattle.heap_formula.specs.Cells.{Cells}
use Rattle.general_models.specs.declared.runs.growth.Growth.{Growth}
use Rattle.general_models.specs.declared.runs.growth.ValuePair.{ValuePair}
use Rattle.general_models.specs.declared.runs.picks.Pick.{Pick}
use Rattle.general_models.specs.declared.runs.picks.Pick.TheVariants.{Cell, Jumps}
use Rattle.model_file.specs.declared.version.ModelVersion.{ModelVersion}
use Rattle.model_file.specs.Versions.{model_limits}
use Rattle.run_file.specs.declared.tree.Outcome.{Outcome}
use Rattle.run_file.specs.declared.tree.Outcome.TheVariants.{Faults, Repeats, Grows, Breaks}
use Rattle.run_file.specs.Grammar.{has_breaks}

-- a number of at most nine digits
abbrev pub is_short_number : ℕ → Bool
is_short_number n = nat_lt n (10 ^ 9)

abbrev pub are_short_numbers : List ℕ → Bool
are_short_numbers ns = list_all is_short_number ns

-- a field at least
abbrev pub are_fields : Limits → List ℕ → Bool
are_fields most vs = nat_lt 0 (length vs) && nat_le (length vs) most.arguments && are_short_numbers vs

abbrev pub is_short_cell : Limits → ℕ → List ℕ → Bool
is_short_cell most a vs = is_short_number a && are_fields most vs

abbrev pub is_short_entry : Limits → ℕ × List ℕ → Bool
is_short_entry most e = is_short_cell most e.0 e.1

abbrev pub is_short_pick : Limits → Pick → Bool
is_short_pick most (Cell a vs) = is_short_cell most a vs
is_short_pick most (Jumps b) = true

abbrev pub is_short_pair : ValuePair → Bool
is_short_pair p = is_short_number p.before && is_short_number p.after

-- a pair at least
abbrev pub are_short_pairs : List ValuePair → Bool
are_short_pairs ps = nat_lt 0 (length ps) && list_all is_short_pair ps

abbrev pub is_short_growth : Growth → Bool
is_short_growth g = is_short_number g.first && is_short_number g.again && are_short_pairs g.renaming

abbrev pub is_short_outcome : ModelVersion → Outcome → Bool
is_short_outcome v (Faults l n) = is_short_number l && is_short_number n
is_short_outcome v (Repeats m n) = is_short_number m && is_short_number n
is_short_outcome v (Grows g) = is_short_growth g
is_short_outcome v (Breaks n) = has_breaks v && is_short_number n

abbrev pub is_short_stack : List ℕ → Bool
is_short_stack s = nat_le (length s) MOST_VALUES && are_short_numbers s

abbrev pub is_short_heap : Limits → Cells → Bool
is_short_heap most h = nat_le (length (entries h)) most.cells && list_all (is_short_entry most) (entries h)

-- a stack, a heap, picks and an outcome that a run file of the version may have
abbrev pub is_short_run : ModelVersion → List ℕ → Cells → List Pick → Outcome → Bool
is_short_run v s h ps o =
    is_short_stack s && is_short_heap (model_limits v) h && list_all (is_short_pick (model_limits v)) ps
    && is_short_outcome v o
