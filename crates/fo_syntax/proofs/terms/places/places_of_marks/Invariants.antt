use Rattle.std.proofs.Common.{◌≡◌, ◌≤◌, ◌++◌, ◌∷◌, [], drop}
use Rattle.std.specs.Prelude.{map}
use Rattle.fo_syntax.specs.declared.terms.bracket.Awaited.TheVariants.{First}
use Rattle.fo_syntax.specs.Depth.{depth}
use Rattle.fo_syntax.specs.Seen.{mark_seen}
use Rattle.fo_syntax.specs.Places.{marks_at, marks_end}
use Rattle.fo_syntax.proofs.terms.places.places_of_marks.Given as goal

abbrev pub invariant-loop-mark : goal.invariant-loop-mark
invariant-loop-mark l =
    (l.places.items ++ (marks_at l.at l.awaited (map mark_seen (drop l.mark-index l.marks))
    ++ marks_end l.at l.awaited (map mark_seen (drop l.mark-index l.marks)) ∷ []) ≡ 0
    ∷ marks_at 2 (First 0) (map mark_seen l.marks) ++ marks_end 2 (First 0) (map mark_seen l.marks) ∷ [])
    × ((marks_end l.at l.awaited (map mark_seen (drop l.mark-index l.marks))
    ≡ marks_end 2 (First 0) (map mark_seen l.marks)) × (depth l.awaited ≤ l.mark-index))
