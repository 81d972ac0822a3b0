use Rattle.std.proofs.Common.{◌≡◌, ap, ◌+◌, true, false, Ok, vec_len, ◌≤◌, arith}
use Rattle.model_check.proofs.locals.evaluate.Goals as goal

pub returns-then-not-branch : goal.returns-then-not-branch
returns-then-not-branch c = c.in_ok-follow_all.ensures false (ap Ok c.if-not-branch.true)

pub returns-then-len-before : goal.returns-then-len-before
returns-then-len-before c =
    let r = c.in_ok-follow_all.ensures true (ap Ok c.if-not-branch.false) in
    let e : vec_len c.follow_all.new.locals ≡ vec_len c.loop-round.locals = omega arith in
    (r.0, r.2 e)

pub loop-round-preserved : goal.loop-round-preserved
loop-round-preserved c =
    let r = c.in_ok-follow_all.ensures true (ap Ok c.if-not-branch.false) in
    let l : vec_len c.loop-round.locals ≤ vec_len c.follow_all.new.locals = r.1 in
    let m : c.loop-round._round + 1 ≤ vec_len c.follow_all.new.locals = omega arith in
    record { forced = r.0; longer = m }
