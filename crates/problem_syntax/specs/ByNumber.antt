-- Names found by the numbers that stand for them.
use Rattle.std.specs.Prelude.{◌≡◌, List, Some, slice_get, true}
use Rattle.problem_syntax.specs.Names.{Name, has, place_of}

-- where a name of the scope has number n, entry n is that name
abbrev pub IsByNumber : List Name → List Name → Type 0
IsByNumber scope names = (n : Name) → has scope n ≡ true → slice_get names (place_of scope n) ≡ Some n
