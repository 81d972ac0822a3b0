use Rattle.std.proofs.Common.{◌≡◌, map, drop, List, ℕ}
use Rattle.std.specs.Borrow.{Bor}
use Rattle.script_reader.specs.Words.{is_among}
use Rattle.script_reader.proofs.words.is_theory_sort.Given as goal

abbrev pub invariant-loop-word : goal.invariant-loop-word
invariant-loop-word l = is_among l.text (map (λ (w : Bor (List ℕ)). w.now) (drop l.word-index l.words))
    ≡ is_among l.text (map (λ (w : Bor (List ℕ)). w.now) l.words)
