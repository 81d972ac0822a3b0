use Rattle.std.proofs.Common.{◌≡◌, ◌+◌, ◌∙◌, true, false, sym, subst, arith}
use Rattle.std.proofs.lemmas.Grind.{common_steps}
use Rattle.script_answers.proofs.Begun.{Looked, looked_comment, looked_start, looked_gap, looked_here, looked_all}
use Rattle.script_answers.proofs.begins.is_script.Goals as goal
use Rattle.script_answers.proofs.begins.is_script.Goals.{then-comment, else-comment+then-byte-eq59}
use Rattle.script_answers.proofs.begins.is_script.Goals.{else-comment+else-byte-eq59+else-not-is_space}

pub returns-then-not-is_space : goal.returns-then-not-is_space
returns-then-not-is_space c =
    let none : c.is_space.result ≡ false = grind (arith, common_steps) in
    looked_here c.args.input.now c.bytes.next-index c.bytes-test.true c.bytes.comment c.if-comment.false
    c.if-byte-eq59.false (sym c.is_space.ensures ∙ none) c.bytes.invariant

pub bytes-preserved : goal.bytes-preserved
bytes-preserved c =
    let input = c.args.input.now in
    let i = c.bytes.next-index in
    let here = c.bytes-test.true in
    let looked = c.bytes.invariant in
    elim c.if-comment.branch [
      | then-comment w ↦ looked_comment input i here c.bytes.comment c.if-comment.comment w.if-comment.true w.comment-is
          looked
      | else-comment+then-byte-eq59 w ↦ looked_start input i here c.bytes.comment c.if-comment.comment
          w.if-comment.false w.comment-is w.if-byte-eq59.true looked
      | else-comment+else-byte-eq59+else-not-is_space w ↦ (
          let some : w.is_space.result ≡ true = grind (arith, common_steps) in
          subst (Looked input (i + 1)) (sym w.comment-is) (looked_gap input i here c.bytes.comment
          w.if-comment.false w.if-byte-eq59.false (sym w.is_space.ensures ∙ some) looked))
    ]

pub returns : goal.returns
returns c = looked_all c.args.input.now c.bytes.next-index c.bytes.comment c.bytes-test.false c.bytes.invariant
