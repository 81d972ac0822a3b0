use Rattle.std.proofs.Common.{arith}
use Rattle.goto_lang.specs.States.{state_of}
use Rattle.general_models.proofs.AlikeTests.{not_alike_once, not_alike_stacks, alike_exact}
use Rattle.general_models.proofs.runs.alike.are_alike.Goals as goal

pub returns-then-not-are_one_to_one : goal.returns-then-not-are_one_to_one
returns-then-not-are_one_to_one c =
    not_alike_once c.args.pairs.now (state_of c.args.one.now) (state_of c.args.other.now)
    c.are_one_to_one.result c.if-not-are_one_to_one.true c.are_one_to_one.ensures

pub returns-then-not-are_paired : goal.returns-then-not-are_paired
returns-then-not-are_paired c =
    not_alike_stacks c.args.pairs.now (state_of c.args.one.now) (state_of c.args.other.now)
    c.are_paired.result c.if-not-are_paired.true (rw (c.as_slice.ensures, c.as_slice-2.ensures) at c.are_paired.ensures)

pub returns : goal.returns
returns c =
    alike_exact c.args.pairs.now (state_of c.args.one.now) (state_of c.args.other.now) c.has_like_cells.result
    (omega arith) (c.is_paired.ensures.0 c.if-not-is_paired.false)
    (c.are_one_to_one.ensures.0 c.if-not-are_one_to_one.false)
    ((rw (c.as_slice.ensures, c.as_slice-2.ensures) at c.are_paired.ensures).0 c.if-not-are_paired.false)
    c.has_like_cells.ensures
