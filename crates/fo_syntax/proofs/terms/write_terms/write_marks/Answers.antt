use Rattle.std.proofs.Common.{◌≡◌, ◌+◌, ◌∷◌, drop, get_or, refl, ap, arith}
use Rattle.std.specs.Prelude.{map}
use Rattle.cyc_lex.specs.Writing.{write_all}
use Rattle.cyc_grammar.proofs.WrittenTexts.{left-at, none-at}
use Rattle.fo_syntax.specs.declared.terms.bracket.Awaited.TheVariants.{First}
use Rattle.fo_syntax.specs.declared.terms.bracket.Mark.TheVariants as marked
use Rattle.fo_syntax.specs.declared.terms.tree.SignTree.TheVariants as signs
use Rattle.fo_syntax.specs.Seen.{mark_seen}
use Rattle.fo_syntax.specs.Steps.{words_steps}
use Rattle.fo_syntax.specs.Grammar.{within, marks}
use Rattle.fo_syntax.proofs.StepLoops.{deeper}
use Rattle.fo_syntax.proofs.StepWrites.{wrote-step, wrote-steps, step-fits}
use Rattle.fo_syntax.proofs.terms.write_terms.write_marks.Goals as goal

pub loop-item-init : goal.loop-item-init
unfolding marks
loop-item-init c = (refl, (c.requires, omega arith))

pub write_mark-requires : goal.write_mark-requires
write_mark-requires c =
    let some = marked.Leaf (signs.Variable 0) in
    let left = ap (map mark_seen) (left-at c.args.items.now c.loop-item.item-index some c.loop-item-test.true) in
    (step-fits (within c.args.locals) c.loop-item.awaited
    (mark_seen (get_or c.args.items.now c.loop-item.item-index some))
    (map mark_seen (drop (c.loop-item.item-index + 1) c.args.items.now))
    (map mark_seen (drop c.loop-item.item-index c.args.items.now)) left c.loop-item.invariant.1.0).0

pub behind-awaited-requires : goal.behind-awaited-requires
behind-awaited-requires c = omega (arith, c.loop-item.invariant.1.1, c.loop-item-test.true)

pub loop-item-preserved : goal.loop-item-preserved
loop-item-preserved c =
    let some = marked.Leaf (signs.Variable 0) in
    let item = mark_seen (get_or c.args.items.now c.loop-item.item-index some) in
    let rest = map mark_seen (drop (c.loop-item.item-index + 1) c.args.items.now) in
    let whole = map mark_seen (drop c.loop-item.item-index c.args.items.now) in
    let left : whole ≡ item
    ∷ rest = ap (map mark_seen) (left-at c.args.items.now c.loop-item.item-index some c.loop-item-test.true) in
    rw c.behind-awaited.ensures (
      wrote-step (within c.args.locals) c.loop-item.awaited c.loop-item.writer c.write_mark.new.writer
          (write_all c.args.writer.now (words_steps (within c.args.locals) (First 0) (map mark_seen c.args.items.now)))
          item rest whole left c.in_ok-write_mark.ensures c.loop-item.invariant.0,
      (
        (step-fits (within c.args.locals) c.loop-item.awaited item rest whole left c.loop-item.invariant.1.0).1,
        deeper c.loop-item.awaited item c.loop-item.item-index c.loop-item.invariant.1.1,
      ),
    )

pub returns : goal.returns
unfolding marks
returns c = wrote-steps (within c.args.locals) c.loop-item.awaited c.loop-item.writer
    (write_all c.args.writer.now (words_steps (within c.args.locals) (First 0) (map mark_seen c.args.items.now)))
    (map mark_seen (drop c.loop-item.item-index c.args.items.now))
    (ap (map mark_seen) (none-at c.args.items.now c.loop-item.item-index (omega arith))) c.loop-item.invariant.0
