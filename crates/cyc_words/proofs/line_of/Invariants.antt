use Rattle.std.proofs.Common.{◌≡◌, ◌∷◌, map, take, string_bytes, codes}
use Rattle.cyc_words.proofs.line_of.Given as goal

-- so far the line has the program's name and the words up to here
abbrev pub invariant-loop-word : goal.invariant-loop-word
invariant-loop-word l = map (λ s. s.now) l.line.items ≡ codes "cyclist" ∷ map string_bytes (take l.word-index l.words)
