-- How many tokens the parts of a model file have, the one token after a part counted in.
use Rattle.std.specs.Prelude.{ℕ, ◌+◌, ◌*◌, List, [], ◌∷◌, length}
use Rattle.heap_reader.specs.Spans.{total_or}
use Rattle.model_file.specs.Trees.{Cell}

-- a word stands after each number
abbrev pub numbers_span : List ℕ → ℕ
numbers_span ns = 2 * length ns

-- ";" where there is no value
abbrev pub values_span : List ℕ → ℕ
values_span [] = 1
values_span (n ∷ ns) = numbers_span (n ∷ ns)

-- the address, the arrow and "(", then the fields
abbrev pub cell_span : Cell → ℕ
cell_span c = 3 + numbers_span c.fields + 1

-- ";" where there is no cell
abbrev pub cells_span : List Cell → ℕ
cells_span cs = total_or 1 cell_span cs
