use Rattle.std.proofs.Common.{ℕ, ◌+◌, sym, subst, arith}
use Rattle.goto_lang.specs.States.{IsLeastFree}
use Rattle.goto_lang.proofs.Gaps.{last_free}
use Rattle.goto_lang.proofs.cells.Cells.least_free.Goals as goal

pub returns : goal.returns
returns c =
    let e = c.len-count.ensures.value in
    subst (λ (n : ℕ). IsLeastFree c.args.self.now (n + 1)) (sym e)
    (last_free c.args.self.now (λ b p l. c.loop-address.invariant b p (omega arith)))
