use Rattle.std.proofs.Common.{◌≡◌, ◌≤◌, drop}
use Rattle.std.specs.Prelude.{map}
use Rattle.cyc_lex.specs.Writing.{write_all}
use Rattle.fo_syntax.specs.declared.terms.bracket.Awaited.TheVariants.{First}
use Rattle.fo_syntax.specs.Depth.{depth}
use Rattle.fo_syntax.specs.Seen.{mark_seen}
use Rattle.fo_syntax.specs.Steps.{words_steps, fits_steps}
use Rattle.fo_syntax.specs.Grammar.{within}
use Rattle.fo_syntax.proofs.terms.write_terms.write_marks.Given as goal

abbrev pub invariant-loop-item : goal.invariant-loop-item
invariant-loop-item l =
    (write_all l.writer (words_steps (within l.fn.locals) l.awaited (map mark_seen (drop l.item-index l.items)))
    ≡ write_all l.fn.writer (words_steps (within l.fn.locals) (First 0) (map mark_seen l.items)))
    × (fits_steps (within l.fn.locals) l.awaited (map mark_seen (drop l.item-index l.items))
    × (depth l.awaited ≤ l.item-index))
