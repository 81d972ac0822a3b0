use Rattle.std.proofs.Common.{◌≡◌, map, take}
use Rattle.proof_picture.specs.Naming.{words_of}
use Rattle.proof_picture.specs.Titles.{lines_in}
use Rattle.proof_picture.proofs.names.titles.program_lines.Given as goal

abbrev pub invariant-loop-statement : goal.invariant-loop-statement
invariant-loop-statement l = map words_of l.lines.items ≡ lines_in (map words_of (take l.statement-index l.statements))
