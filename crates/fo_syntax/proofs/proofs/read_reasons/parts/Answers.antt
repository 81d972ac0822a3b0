use Rattle.std.proofs.lemmas.Result.{err_from_is_err_and}
use Rattle.fo_syntax.specs.declared.proofs.reason_word.ReasonWord.TheVariants as words
use Rattle.fo_syntax.specs.ProofGrammar.{parts}
use Rattle.fo_syntax.proofs.ReasonParts.{part_at, fault_at}
use Rattle.fo_syntax.proofs.proofs.read_reasons.parts.Goals as goal

pub returns-in_err-left-in-Axiom : goal.returns-in_err-left-in-Axiom
unfolding parts
returns-in_err-left-in-Axiom c = let p = err_from_is_err_and c.from_residual.result c.from_residual.ensures.1 in
    rw (p.1, p.2) (fault_at words.Axiom _ _ _ c.in-Axiom.is c.in_err-left-in-Axiom.ensures)

pub returns-in_err-number-in-Refl : goal.returns-in_err-number-in-Refl
unfolding parts
returns-in_err-number-in-Refl c = let p = err_from_is_err_and c.from_residual-in_err-number-in-Refl.result
    c.from_residual-in_err-number-in-Refl.ensures.1 in rw (p.1, p.2)
    (fault_at words.Refl _ _ _ c.in-Refl.is c.in_err-number-in-Refl.ensures)

pub returns-in_err-number-in-Clash : goal.returns-in_err-number-in-Clash
unfolding parts
returns-in_err-number-in-Clash c = let p = err_from_is_err_and c.from_residual-in_err-number-in-Clash.result
    c.from_residual-in_err-number-in-Clash.ensures.1 in rw (p.1, p.2)
    (fault_at words.Clash _ _ _ c.in-Clash.is c.in_err-number-in-Clash.ensures)

pub returns-in_err-number-in-Decompose : goal.returns-in_err-number-in-Decompose
unfolding parts
returns-in_err-number-in-Decompose c = let p = err_from_is_err_and c.from_residual-in_err-number-in-Decompose.result
    c.from_residual-in_err-number-in-Decompose.ensures.1 in rw (p.1, p.2)
    (fault_at words.Decompose _ _ _ c.in-Decompose.is c.in_err-number-in-Decompose.ensures)

pub returns-in_err-atom-in-Replace : goal.returns-in_err-atom-in-Replace
unfolding parts
returns-in_err-atom-in-Replace c = let p = err_from_is_err_and c.from_residual-in_err-atom-in-Replace.result
    c.from_residual-in_err-atom-in-Replace.ensures.1 in rw (p.1, p.2)
    (fault_at words.Replace _ _ _ c.in-Replace.is c.in_err-atom-in-Replace.ensures)

pub returns-in_err-number-in-WeakenLeft : goal.returns-in_err-number-in-WeakenLeft
unfolding parts
returns-in_err-number-in-WeakenLeft c = let p = err_from_is_err_and c.from_residual-in_err-number-in-WeakenLeft.result
    c.from_residual-in_err-number-in-WeakenLeft.ensures.1 in
    rw (p.1, p.2) (fault_at words.WeakenLeft _ _ _ c.in-WeakenLeft.is c.in_err-number-in-WeakenLeft.ensures)

pub returns-in_err-number-in-WeakenRight : goal.returns-in_err-number-in-WeakenRight
unfolding parts
returns-in_err-number-in-WeakenRight c = let p = err_from_is_err_and c.from_residual-in_err-number-in-WeakenRight.result
    c.from_residual-in_err-number-in-WeakenRight.ensures.1 in
    rw (p.1, p.2) (fault_at words.WeakenRight _ _ _ c.in-WeakenRight.is c.in_err-number-in-WeakenRight.ensures)

pub returns-in_err-number-in-Contract : goal.returns-in_err-number-in-Contract
unfolding parts
returns-in_err-number-in-Contract c = let p = err_from_is_err_and c.from_residual-in_err-number-in-Contract.result
    c.from_residual-in_err-number-in-Contract.ensures.1 in rw (p.1, p.2)
    (fault_at words.Contract _ _ _ c.in-Contract.is c.in_err-number-in-Contract.ensures)

pub returns-in_err-number-in-Unfold : goal.returns-in_err-number-in-Unfold
unfolding parts
returns-in_err-number-in-Unfold c = let p = err_from_is_err_and c.from_residual-in_err-number-in-Unfold.result
    c.from_residual-in_err-number-in-Unfold.ensures.1 in rw (p.1, p.2)
    (fault_at words.Unfold _ _ _ c.in-Unfold.is c.in_err-number-in-Unfold.ensures)

pub returns-in_err-atom-in-Cut : goal.returns-in_err-atom-in-Cut
unfolding parts
returns-in_err-atom-in-Cut c = let p = err_from_is_err_and c.from_residual-in_err-atom-in-Cut.result
    c.from_residual-in_err-atom-in-Cut.ensures.1 in rw (p.1, p.2)
    (fault_at words.Cut _ _ _ c.in-Cut.is c.in_err-atom-in-Cut.ensures)

pub returns-in_err-atom-in-Right : goal.returns-in_err-atom-in-Right
unfolding parts
returns-in_err-atom-in-Right c = let p = err_from_is_err_and c.from_residual-in_err-atom-in-Right.result
    c.from_residual-in_err-atom-in-Right.ensures.1 in rw (p.1, p.2)
    (fault_at words.Right _ _ _ c.in-Right.is c.in_err-atom-in-Right.ensures)

pub returns-in_err-link-in-Link : goal.returns-in_err-link-in-Link
unfolding parts
returns-in_err-link-in-Link c = let p = err_from_is_err_and c.from_residual-in_err-link-in-Link.result
    c.from_residual-in_err-link-in-Link.ensures.1 in rw (p.1, p.2)
    (fault_at words.Link _ _ _ c.in-Link.is c.in_err-link-in-Link.ensures)

pub returns-in_ok-left-in-Axiom : goal.returns-in_ok-left-in-Axiom
unfolding parts
returns-in_ok-left-in-Axiom c = part_at words.Axiom _ _ _ _ c.in-Axiom.is c.in_ok-left-in-Axiom.ensures

pub returns-in_ok-number-in-Refl : goal.returns-in_ok-number-in-Refl
unfolding parts
returns-in_ok-number-in-Refl c = part_at words.Refl _ _ _ _ c.in-Refl.is c.in_ok-number-in-Refl.ensures

pub returns-in_ok-number-in-Clash : goal.returns-in_ok-number-in-Clash
unfolding parts
returns-in_ok-number-in-Clash c = part_at words.Clash _ _ _ _ c.in-Clash.is c.in_ok-number-in-Clash.ensures

pub returns-in_ok-number-in-Decompose : goal.returns-in_ok-number-in-Decompose
unfolding parts
returns-in_ok-number-in-Decompose c = part_at words.Decompose _ _ _ _ c.in-Decompose.is
    c.in_ok-number-in-Decompose.ensures

pub returns-in_ok-atom-in-Replace : goal.returns-in_ok-atom-in-Replace
unfolding parts
returns-in_ok-atom-in-Replace c = part_at words.Replace _ _ _ _ c.in-Replace.is c.in_ok-atom-in-Replace.ensures

pub returns-in_ok-number-in-WeakenLeft : goal.returns-in_ok-number-in-WeakenLeft
unfolding parts
returns-in_ok-number-in-WeakenLeft c = part_at words.WeakenLeft _ _ _ _ c.in-WeakenLeft.is
    c.in_ok-number-in-WeakenLeft.ensures

pub returns-in_ok-number-in-WeakenRight : goal.returns-in_ok-number-in-WeakenRight
unfolding parts
returns-in_ok-number-in-WeakenRight c = part_at words.WeakenRight _ _ _ _ c.in-WeakenRight.is
    c.in_ok-number-in-WeakenRight.ensures

pub returns-in_ok-number-in-Contract : goal.returns-in_ok-number-in-Contract
unfolding parts
returns-in_ok-number-in-Contract c = part_at words.Contract _ _ _ _ c.in-Contract.is c.in_ok-number-in-Contract.ensures

pub returns-in_ok-number-in-Unfold : goal.returns-in_ok-number-in-Unfold
unfolding parts
returns-in_ok-number-in-Unfold c = part_at words.Unfold _ _ _ _ c.in-Unfold.is c.in_ok-number-in-Unfold.ensures

pub returns-in_ok-atom-in-Cut : goal.returns-in_ok-atom-in-Cut
unfolding parts
returns-in_ok-atom-in-Cut c = part_at words.Cut _ _ _ _ c.in-Cut.is c.in_ok-atom-in-Cut.ensures

pub returns-in_ok-atom-in-Right : goal.returns-in_ok-atom-in-Right
unfolding parts
returns-in_ok-atom-in-Right c = part_at words.Right _ _ _ _ c.in-Right.is c.in_ok-atom-in-Right.ensures

pub returns-in_ok-link-in-Link : goal.returns-in_ok-link-in-Link
unfolding parts
returns-in_ok-link-in-Link c = part_at words.Link _ _ _ _ c.in-Link.is c.in_ok-link-in-Link.ensures
