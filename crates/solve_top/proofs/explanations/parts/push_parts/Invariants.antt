use Rattle.std.specs.String.{string_bytes}
use Rattle.solve_top.proofs.NoteLaws.{IsPartly}
use Rattle.solve_top.proofs.explanations.parts.push_parts.Given as goal

abbrev pub invariant-loop-part : goal.invariant-loop-part
invariant-loop-part l = IsPartly (string_bytes l.fn.line) (string_bytes l.line) l.parts l.part-index
