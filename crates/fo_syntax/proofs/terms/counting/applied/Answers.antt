use Rattle.std.proofs.Common.{◌≡◌, ◌-◌, ◌∷◌, drop, get_or, length, refl, sym, ap, ◌∙◌, arith}
use Rattle.std.specs.Prelude.{map, reverse}
use Rattle.std.proofs.lemmas.List.{length-map}
use Rattle.cyc_grammar.proofs.WrittenTexts.{none-at}
use Rattle.fo_syntax.specs.Trees.{Apply, sign_of}
use Rattle.fo_syntax.specs.declared.terms.bracket.Mark.TheVariants as marks
use Rattle.fo_syntax.specs.declared.terms.tree.SignTree.TheVariants as signs
use Rattle.fo_syntax.specs.Seen.{mark_seen}
use Rattle.fo_syntax.specs.Brackets.{innermost, outer, count, counted}
use Rattle.fo_syntax.specs.Grammar.{applied}
use Rattle.fo_syntax.proofs.CountLaws.{counts-few, shorter, left-before, turned, taken}
use Rattle.fo_syntax.proofs.terms.counting.applied.Goals as goal

pub loop-place-init : goal.loop-place-init
loop-place-init c = rw (
  c.new-signs.ensures.items,
  c.new-counts.ensures,
  none-at (map mark_seen c.args.marks.now) (length c.args.marks.now) (length-map c.args.marks.now mark_seen),
) refl

pub count-requires-clause-inner : goal.count-requires-clause-inner
count-requires-clause-inner c =
    let same = ap (λ x. innermost x.1) c.loop-place.invariant in
    let few = counts-few (drop c.loop-place.place (map mark_seen c.args.marks.now)) in
    omega (
      arith,
      same,
      few.0,
      shorter c.loop-place.place (map mark_seen c.args.marks.now) c.loop-place-test.true
          (rw (length-map c.args.marks.now mark_seen) c.loop-place.auto.place),
      length-map c.args.marks.now mark_seen,
    )

pub count-requires-clause-next : goal.count-requires-clause-next
count-requires-clause-next c =
    let same = ap (λ x. innermost (outer x.1)) c.loop-place.invariant in
    let few = counts-few (drop c.loop-place.place (map mark_seen c.args.marks.now)) in
    omega (
      arith,
      same,
      few.1,
      shorter c.loop-place.place (map mark_seen c.args.marks.now) c.loop-place-test.true
          (rw (length-map c.args.marks.now mark_seen) c.loop-place.auto.place),
      length-map c.args.marks.now mark_seen,
    )

pub loop-place-preserved : goal.loop-place-preserved
loop-place-preserved c =
    let left = left-before mark_seen c.args.marks.now c.loop-place.place (marks.Leaf (signs.Variable 0))
    c.loop-place-test.true c.loop-place.auto.place in
    c.in_ok-count.ensures ∙ ap (count (mark_seen (get_or c.args.marks.now (c.loop-place.place - 1)
    (marks.Leaf (signs.Variable 0))))) c.loop-place.invariant ∙ sym (ap counted left)

pub returns : goal.returns
returns c =
    let first : c.loop-place.place ≡ 0 = omega (arith, c.loop-place-test.false) in
    let all : (reverse (map sign_of c.loop-place.signs.items), c.loop-place.counts)
    ≡ counted (map mark_seen c.args.marks.now) = c.loop-place.invariant
    ∙ ap (λ k. counted (drop k (map mark_seen c.args.marks.now))) first in
    let number = c.unwrap_or-arguments.ensures ∙ taken c.pop.result c.loop-place.counts c.pop.new.self c.pop.ensures in
    ap (map sign_of) (c.reverse.ensures.items ∙ ap reverse c.in_ok-push.ensures.items)
    ∙ turned sign_of c.loop-place.signs.items (signs.Apply c.args.name c.unwrap_or-arguments.result)
    ∙ ap (λ k. Apply c.args.name.now k ∷ reverse (map sign_of c.loop-place.signs.items)) number
    ∙ ap (applied c.args.name.now) all
