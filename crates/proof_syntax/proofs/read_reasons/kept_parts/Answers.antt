use Rattle.std.proofs.Common.{refl}
use Rattle.std.proofs.lemmas.Result.{err_from_is_err_and}
use Rattle.proof_syntax.specs.declared.reason_word.ReasonWord.TheVariants as words
use Rattle.proof_syntax.specs.Grammar.{kept_parts}
use Rattle.proof_syntax.proofs.ReasonParts.{part_at, fault_at}
use Rattle.proof_syntax.proofs.read_reasons.kept_parts.Goals as goal

pub returns-in_err-position-in-Rewrite : goal.returns-in_err-position-in-Rewrite
unfolding kept_parts
returns-in_err-position-in-Rewrite c = let p = err_from_is_err_and c.from_residual.result c.from_residual.ensures.1 in
    rw (p.1, p.2) (fault_at c.args.keep words.Rewrite _ _ _ c.in-Rewrite.is c.in_err-position-in-Rewrite.ensures)

pub returns-in_err-left-in-Split : goal.returns-in_err-left-in-Split
unfolding kept_parts
returns-in_err-left-in-Split c = let p = err_from_is_err_and c.from_residual-in_err-left-in-Split.result
    c.from_residual-in_err-left-in-Split.ensures.1 in rw (p.1, p.2)
    (fault_at c.args.keep words.Split _ _ _ c.in-Split.is c.in_err-left-in-Split.ensures)

pub returns-in_err-first-in-Distinct : goal.returns-in_err-first-in-Distinct
unfolding kept_parts
returns-in_err-first-in-Distinct c = let p = err_from_is_err_and c.from_residual-in_err-first-in-Distinct.result
    c.from_residual-in_err-first-in-Distinct.ensures.1 in rw (p.1, p.2)
    (fault_at c.args.keep words.Distinct _ _ _ c.in-Distinct.is c.in_err-first-in-Distinct.ensures)

pub returns-in_err-number-in-Weaken : goal.returns-in_err-number-in-Weaken
unfolding kept_parts
returns-in_err-number-in-Weaken c = let p = err_from_is_err_and c.from_residual-in_err-number-in-Weaken.result
    c.from_residual-in_err-number-in-Weaken.ensures.1 in rw (p.1, p.2)
    (fault_at c.args.keep words.Weaken _ _ _ c.in-Weaken.is c.in_err-number-in-Weaken.ensures)

pub returns-in_err-number-in-Unfold : goal.returns-in_err-number-in-Unfold
unfolding kept_parts
returns-in_err-number-in-Unfold c = let p = err_from_is_err_and c.from_residual-in_err-number-in-Unfold.result
    c.from_residual-in_err-number-in-Unfold.ensures.1 in rw (p.1, p.2)
    (fault_at c.args.keep words.Unfold _ _ _ c.in-Unfold.is c.in_err-number-in-Unfold.ensures)

pub returns-in_err-positions-in-Cut : goal.returns-in_err-positions-in-Cut
unfolding kept_parts
returns-in_err-positions-in-Cut c = let p = err_from_is_err_and c.from_residual-in_err-positions-in-Cut.result
    c.from_residual-in_err-positions-in-Cut.ensures.1 in rw (p.1, p.2)
    (fault_at c.args.keep words.Cut _ _ _ c.in-Cut.is c.in_err-positions-in-Cut.ensures)

pub returns-in_err-number-in-Choose : goal.returns-in_err-number-in-Choose
unfolding kept_parts
returns-in_err-number-in-Choose c = let p = err_from_is_err_and c.from_residual-in_err-number-in-Choose.result
    c.from_residual-in_err-number-in-Choose.ensures.1 in rw (p.1, p.2)
    (fault_at c.args.keep words.Choose _ _ _ c.in-Choose.is c.in_err-number-in-Choose.ensures)

pub returns-in_err-number-in-PureRight : goal.returns-in_err-number-in-PureRight
unfolding kept_parts
returns-in_err-number-in-PureRight c = let p = err_from_is_err_and c.from_residual-in_err-number-in-PureRight.result
    c.from_residual-in_err-number-in-PureRight.ensures.1 in rw (p.1, p.2)
    (fault_at c.args.keep words.PureRight _ _ _ c.in-PureRight.is c.in_err-number-in-PureRight.ensures)

pub returns-in_err-variable-in-Instantiate : goal.returns-in_err-variable-in-Instantiate
unfolding kept_parts
returns-in_err-variable-in-Instantiate c = let p = err_from_is_err_and
    c.from_residual-in_err-variable-in-Instantiate.result c.from_residual-in_err-variable-in-Instantiate.ensures.1 in
    rw (p.1, p.2)
    (fault_at c.args.keep words.Instantiate _ _ _ c.in-Instantiate.is c.in_err-variable-in-Instantiate.ensures)

pub returns-in_err-left-in-Frame : goal.returns-in_err-left-in-Frame
unfolding kept_parts
returns-in_err-left-in-Frame c = let p = err_from_is_err_and c.from_residual-in_err-left-in-Frame.result
    c.from_residual-in_err-left-in-Frame.ensures.1 in rw (p.1, p.2)
    (fault_at c.args.keep words.Frame _ _ _ c.in-Frame.is c.in_err-left-in-Frame.ensures)

pub returns-in_err-atom-in-UnfoldRight : goal.returns-in_err-atom-in-UnfoldRight
unfolding kept_parts
returns-in_err-atom-in-UnfoldRight c = let p = err_from_is_err_and c.from_residual-in_err-atom-in-UnfoldRight.result
    c.from_residual-in_err-atom-in-UnfoldRight.ensures.1 in rw (p.1, p.2)
    (fault_at c.args.keep words.UnfoldRight _ _ _ c.in-UnfoldRight.is c.in_err-atom-in-UnfoldRight.ensures)

pub returns-in_err-number-in-Drop : goal.returns-in_err-number-in-Drop
unfolding kept_parts
returns-in_err-number-in-Drop c = let p = err_from_is_err_and c.from_residual-in_err-number-in-Drop.result
    c.from_residual-in_err-number-in-Drop.ensures.1 in rw (p.1, p.2)
    (fault_at c.args.keep words.Drop _ _ _ c.in-Drop.is c.in_err-number-in-Drop.ensures)

pub returns-in_err-link-in-Link : goal.returns-in_err-link-in-Link
unfolding kept_parts
returns-in_err-link-in-Link c = let p = err_from_is_err_and c.from_residual-in_err-link-in-Link.result
    c.from_residual-in_err-link-in-Link.ensures.1 in rw (p.1, p.2)
    (fault_at c.args.keep words.Link _ _ _ c.in-Link.is c.in_err-link-in-Link.ensures)

pub returns-in-Absurd : goal.returns-in-Absurd
unfolding kept_parts
returns-in-Absurd c = part_at c.args.keep words.Absurd _ _ tt _ c.in-Absurd.is refl

pub returns-in-Done : goal.returns-in-Done
unfolding kept_parts
returns-in-Done c = part_at c.args.keep words.Done _ _ tt _ c.in-Done.is refl

pub returns-in-Exec : goal.returns-in-Exec
unfolding kept_parts
returns-in-Exec c = part_at c.args.keep words.Exec _ _ tt _ c.in-Exec.is refl

pub returns-in_ok-position-in-Rewrite : goal.returns-in_ok-position-in-Rewrite
unfolding kept_parts
returns-in_ok-position-in-Rewrite c = part_at c.args.keep words.Rewrite _ _ _ _ c.in-Rewrite.is
    c.in_ok-position-in-Rewrite.ensures

pub returns-in_ok-left-in-Split : goal.returns-in_ok-left-in-Split
unfolding kept_parts
returns-in_ok-left-in-Split c = part_at c.args.keep words.Split _ _ _ _ c.in-Split.is c.in_ok-left-in-Split.ensures

pub returns-in_ok-first-in-Distinct : goal.returns-in_ok-first-in-Distinct
unfolding kept_parts
returns-in_ok-first-in-Distinct c = part_at c.args.keep words.Distinct _ _ _ _ c.in-Distinct.is
    c.in_ok-first-in-Distinct.ensures

pub returns-in_ok-number-in-Weaken : goal.returns-in_ok-number-in-Weaken
unfolding kept_parts
returns-in_ok-number-in-Weaken c = part_at c.args.keep words.Weaken _ _ _ _ c.in-Weaken.is
    c.in_ok-number-in-Weaken.ensures

pub returns-in_ok-number-in-Unfold : goal.returns-in_ok-number-in-Unfold
unfolding kept_parts
returns-in_ok-number-in-Unfold c = part_at c.args.keep words.Unfold _ _ _ _ c.in-Unfold.is
    c.in_ok-number-in-Unfold.ensures

pub returns-in_ok-positions-in-Cut : goal.returns-in_ok-positions-in-Cut
unfolding kept_parts
returns-in_ok-positions-in-Cut c = part_at c.args.keep words.Cut _ _ _ _ c.in-Cut.is c.in_ok-positions-in-Cut.ensures

pub returns-in_ok-number-in-Choose : goal.returns-in_ok-number-in-Choose
unfolding kept_parts
returns-in_ok-number-in-Choose c = part_at c.args.keep words.Choose _ _ _ _ c.in-Choose.is
    c.in_ok-number-in-Choose.ensures

pub returns-in_ok-number-in-PureRight : goal.returns-in_ok-number-in-PureRight
unfolding kept_parts
returns-in_ok-number-in-PureRight c = part_at c.args.keep words.PureRight _ _ _ _ c.in-PureRight.is
    c.in_ok-number-in-PureRight.ensures

pub returns-in_ok-variable-in-Instantiate : goal.returns-in_ok-variable-in-Instantiate
unfolding kept_parts
returns-in_ok-variable-in-Instantiate c = part_at c.args.keep words.Instantiate _ _ _ _ c.in-Instantiate.is
    c.in_ok-variable-in-Instantiate.ensures

pub returns-in_ok-left-in-Frame : goal.returns-in_ok-left-in-Frame
unfolding kept_parts
returns-in_ok-left-in-Frame c = part_at c.args.keep words.Frame _ _ _ _ c.in-Frame.is c.in_ok-left-in-Frame.ensures

pub returns-in_ok-atom-in-UnfoldRight : goal.returns-in_ok-atom-in-UnfoldRight
unfolding kept_parts
returns-in_ok-atom-in-UnfoldRight c = part_at c.args.keep words.UnfoldRight _ _ _ _ c.in-UnfoldRight.is
    c.in_ok-atom-in-UnfoldRight.ensures

pub returns-in_ok-number-in-Drop : goal.returns-in_ok-number-in-Drop
unfolding kept_parts
returns-in_ok-number-in-Drop c = part_at c.args.keep words.Drop _ _ _ _ c.in-Drop.is c.in_ok-number-in-Drop.ensures

pub returns-in_ok-link-in-Link : goal.returns-in_ok-link-in-Link
unfolding kept_parts
returns-in_ok-link-in-Link c = part_at c.args.keep words.Link _ _ _ _ c.in-Link.is c.in_ok-link-in-Link.ensures
