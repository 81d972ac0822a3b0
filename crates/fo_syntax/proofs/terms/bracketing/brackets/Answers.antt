use Rattle.std.proofs.Common.{◌+◌, ◌++◌, ◌∷◌, [], drop, get_or, sym, ap, ◌∙◌, arith}
use Rattle.std.specs.Prelude.{map}
use Rattle.cyc_grammar.proofs.WrittenTexts.{left-at, none-at}
use Rattle.fo_syntax.specs.Trees.{sign_of}
use Rattle.fo_syntax.specs.declared.terms.tree.SignTree.TheVariants as signs
use Rattle.fo_syntax.specs.Seen.{mark_seen}
use Rattle.fo_syntax.specs.Brackets.{brackets}
use Rattle.fo_syntax.proofs.CountLaws.{opened-next}
use Rattle.fo_syntax.proofs.terms.bracketing.brackets.Goals as goal

pub loop-sign-preserved : goal.loop-sign-preserved
loop-sign-preserved c =
    let sign = get_or c.args.signs.now c.loop-sign.sign-index (signs.Variable 0) in
    let left = ap (map sign_of) (left-at c.args.signs.now c.loop-sign.sign-index (signs.Variable 0)
    c.loop-sign-test.true) in
    rw (c.in_ok-put.ensures.waits, c.in_ok-close.ensures.waits)
    (opened-next (map mark_seen c.loop-sign.marks.items) (map mark_seen c.close.new.marks.items)
    (map mark_seen c.put.new.marks.items) c.loop-sign.waits (sign_of sign)
    (map sign_of (drop (c.loop-sign.sign-index + 1) c.args.signs.now))
    (map sign_of (drop c.loop-sign.sign-index c.args.signs.now))
    (brackets (c.args.arguments ∷ []) (map sign_of c.args.signs.now))
    left c.in_ok-close.ensures.marks c.in_ok-put.ensures.marks c.loop-sign.invariant)

pub returns : goal.returns
returns c =
    let none = ap (map sign_of) (none-at c.args.signs.now c.loop-sign.sign-index (omega arith)) in
    c.in_ok-close-2.ensures.marks ∙ ap (λ ss. map mark_seen c.loop-sign.marks.items ++ brackets c.loop-sign.waits ss)
    (sym none) ∙ c.loop-sign.invariant
