use Rattle.std.proofs.Common.{◌≡◌, drop, map}
use Rattle.std.specs.List.{list_any}
use Rattle.std.specs.Str.{bytes_eq}
use Rattle.problem_syntax.specs.Trees.{text_of}
use Rattle.formula_reader.proofs.walk.is_among.Given as goal

abbrev pub invariant-loop-known : goal.invariant-loop-known
invariant-loop-known l = list_any (bytes_eq l.text) (map text_of (drop l.known-index l.texts))
    ≡ list_any (bytes_eq l.text) (map text_of l.texts)
