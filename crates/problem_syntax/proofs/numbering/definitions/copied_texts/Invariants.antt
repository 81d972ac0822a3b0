use Rattle.std.proofs.Common.{◌≡◌, map, take}
use Rattle.problem_syntax.specs.Trees.{text_of}
use Rattle.problem_syntax.proofs.numbering.definitions.copied_texts.Given as goal

abbrev pub invariant-loop-text : goal.invariant-loop-text
invariant-loop-text l = map text_of l.copy.items ≡ map text_of (take l.text-index l.texts)
