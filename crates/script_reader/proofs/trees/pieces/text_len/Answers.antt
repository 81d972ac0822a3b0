use Rattle.std.proofs.Common.{◌≡◌, ◌∙◌, ◌+◌, sym, subst, arith, Bool, false}
use Rattle.script_reader.proofs.Texts.{Passed, passed_end, passed_end_closing, passed_last, passed_other, passed_quote}
use Rattle.script_reader.proofs.trees.pieces.text_len.Goals.{then-byte-eq34, else-byte-eq34+else-closing}
use Rattle.script_reader.proofs.trees.pieces.text_len.Goals as goal

pub returns-then-closing : goal.returns-then-closing
returns-then-closing c =
    passed_last c.args.bytes.now c.loop-i.i c.loop-i-test.true c.if-byte-eq34.false
    (subst (λ (b : Bool). Passed c.args.bytes.now c.loop-i.i b) c.if-closing.true c.loop-i.invariant)

pub loop-i-preserved : goal.loop-i-preserved
loop-i-preserved c = elim c.if-byte-eq34.branch [
  | then-byte-eq34 w ↦
      subst (λ (b : Bool). Passed c.args.bytes.now (c.loop-i.i + 1) b) (sym w.closing-is)
      (passed_quote c.args.bytes.now c.loop-i.i c.loop-i.closing c.loop-i-test.true w.if-byte-eq34.true
      c.loop-i.invariant)
  | else-byte-eq34+else-closing w ↦
      let no : c.if-byte-eq34.closing ≡ false = w.closing-is ∙ w.if-closing.false in
      subst (λ (b : Bool). Passed c.args.bytes.now (c.loop-i.i + 1) b) (sym no)
      (passed_other c.args.bytes.now c.loop-i.i c.loop-i-test.true w.if-byte-eq34.false
      (subst (λ (b : Bool). Passed c.args.bytes.now c.loop-i.i b) w.if-closing.false c.loop-i.invariant))
]

pub returns-then-closing-2 : goal.returns-then-closing-2
returns-then-closing-2 c =
    passed_end_closing c.args.bytes.now c.loop-i.i (omega (arith, c.loop-i-test.false))
    (subst (λ (b : Bool). Passed c.args.bytes.now c.loop-i.i b) c.if-closing-2.true c.loop-i.invariant)

pub returns-else-closing-2 : goal.returns-else-closing-2
returns-else-closing-2 c =
    passed_end c.args.bytes.now c.loop-i.i (omega (arith, c.loop-i-test.false))
    (subst (λ (b : Bool). Passed c.args.bytes.now c.loop-i.i b) c.if-closing-2.false c.loop-i.invariant)
