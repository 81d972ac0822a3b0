use Rattle.std.proofs.Common.{◌≡◌, ◌+◌, ◌++◌, ◌∷◌, [], List, drop, get_or, refl, sym, ap, ◌∙◌, arith}
use Rattle.std.specs.Prelude.{map}
use Rattle.cyc_grammar.proofs.WrittenTexts.{left-at, none-at}
use Rattle.fo_syntax.specs.declared.terms.bracket.Awaited.TheVariants.{First}
use Rattle.fo_syntax.specs.declared.terms.bracket.Mark.TheVariants as marked
use Rattle.fo_syntax.specs.declared.terms.tree.SignTree.TheVariants as signs
use Rattle.fo_syntax.specs.Seen.{mark_seen}
use Rattle.fo_syntax.specs.Brackets.{Mark}
use Rattle.fo_syntax.specs.Places.{marks_at, marks_end}
use Rattle.fo_syntax.proofs.PlaceLaws.{placed, room}
use Rattle.fo_syntax.proofs.StepLoops.{deeper}
use Rattle.fo_syntax.proofs.terms.places.places_of_marks.Goals as goal

pub loop-mark-init : goal.loop-mark-init
loop-mark-init c = (rw (c.in_ok-push.ensures.items, c.new-places.ensures.items) refl, (refl, omega arith))

pub put_place-requires : goal.put_place-requires
put_place-requires c =
    let some = marked.Leaf (signs.Variable 0) in
    let left = ap (map mark_seen) (left-at c.args.marks.now c.loop-mark.mark-index some c.loop-mark-test.true) in
    (room c.loop-mark.at c.loop-mark.awaited (mark_seen (get_or c.args.marks.now c.loop-mark.mark-index some))
    (map mark_seen (drop (c.loop-mark.mark-index + 1) c.args.marks.now))
    (map mark_seen (drop c.loop-mark.mark-index c.args.marks.now)) 18446744073709551616 left
    (rw c.loop-mark.invariant.1.0 c.requires)).0

pub overflow_add-at : goal.overflow_add-at
overflow_add-at c =
    let some = marked.Leaf (signs.Variable 0) in
    let left = ap (map mark_seen) (left-at c.args.marks.now c.loop-mark.mark-index some c.loop-mark-test.true) in
    omega (
      arith,
      (room c.loop-mark.at c.loop-mark.awaited (mark_seen
          (get_or c.args.marks.now c.loop-mark.mark-index some))
          (map mark_seen (drop (c.loop-mark.mark-index + 1) c.args.marks.now))
          (map mark_seen (drop c.loop-mark.mark-index c.args.marks.now)) 18446744073709551616 left
          (rw c.loop-mark.invariant.1.0 c.requires)).1,
      c.commas.ensures,
    )

pub overflow_add-at-in-loop-mark : goal.overflow_add-at-in-loop-mark
overflow_add-at-in-loop-mark c =
    let some = marked.Leaf (signs.Variable 0) in
    let left = ap (map mark_seen) (left-at c.args.marks.now c.loop-mark.mark-index some c.loop-mark-test.true) in
    omega (
      arith,
      (room c.loop-mark.at c.loop-mark.awaited (mark_seen
          (get_or c.args.marks.now c.loop-mark.mark-index some))
          (map mark_seen (drop (c.loop-mark.mark-index + 1) c.args.marks.now))
          (map mark_seen (drop c.loop-mark.mark-index c.args.marks.now)) 18446744073709551616 left
          (rw c.loop-mark.invariant.1.0 c.requires)).1,
      c.commas.ensures,
      c.tokens_of_mark.ensures,
    )

pub behind-awaited-requires : goal.behind-awaited-requires
behind-awaited-requires c = omega (arith, c.loop-mark.invariant.1.1, c.loop-mark-test.true)

pub loop-mark-preserved : goal.loop-mark-preserved
loop-mark-preserved c =
    let some = marked.Leaf (signs.Variable 0) in
    let mark = mark_seen (get_or c.args.marks.now c.loop-mark.mark-index some) in
    let rest = map mark_seen (drop (c.loop-mark.mark-index + 1) c.args.marks.now) in
    let whole = map mark_seen (drop c.loop-mark.mark-index c.args.marks.now) in
    let left : whole ≡ mark
    ∷ rest = ap (map mark_seen) (left-at c.args.marks.now c.loop-mark.mark-index some c.loop-mark-test.true) in
    rw (c.commas.ensures, c.tokens_of_mark.ensures, c.behind-awaited.ensures) (
      placed c.loop-mark.at c.loop-mark.awaited mark rest whole c.loop-mark.places.items c.put_place.new.places.items
          (0 ∷ marks_at 2 (First 0) (map mark_seen c.args.marks.now)
          ++ marks_end 2 (First 0) (map mark_seen c.args.marks.now) ∷ [])
          left c.in_ok-put_place.ensures c.loop-mark.invariant.0,
      (
        sym (ap (marks_end c.loop-mark.at c.loop-mark.awaited) left) ∙ c.loop-mark.invariant.1.0,
        deeper c.loop-mark.awaited mark c.loop-mark.mark-index c.loop-mark.invariant.1.1,
      ),
    )

pub returns : goal.returns
returns c =
    let none = ap (map mark_seen) (none-at c.args.marks.now c.loop-mark.mark-index (omega arith)) in
    c.in_ok-push-2.ensures.items ∙ ap (λ (ms : List Mark). c.loop-mark.places.items
    ++ (marks_at c.loop-mark.at c.loop-mark.awaited ms ++ marks_end c.loop-mark.at c.loop-mark.awaited ms ∷ []))
    (sym none) ∙ c.loop-mark.invariant.0
