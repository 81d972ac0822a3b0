-- How many tokens the picks of a run file have, the one token after a part counted in.
use Rattle.std.specs.Prelude.{ℕ, ◌+◌, List}
use Rattle.general_models.specs.declared.runs.picks.Pick.{Pick}
use Rattle.general_models.specs.declared.runs.picks.Pick.TheVariants.{Cell, Jumps}
use Rattle.heap_reader.specs.Spans.{total_or}
use Rattle.model_file.specs.Spans.{numbers_span}

-- as of a cell of the heap, or one word
abbrev pub pick_span : Pick → ℕ
pick_span (Cell a vs) = 3 + numbers_span vs + 1
pick_span (Jumps b) = 2

-- ";" where there is no pick
abbrev pub picks_span : List Pick → ℕ
picks_span ps = total_or 1 pick_span ps
