use Rattle.std.proofs.Common.{ap, subst, ◌∙◌}
use Rattle.std.proofs.lemmas.Result.{IfOk-weaker}
use Rattle.derivations.specs.System.{search_of}
use Rattle.fo_search.specs.Calculus.{calculus_of}
use Rattle.fo_formula.specs.declared.sequents.FoSequent.{FoSequent}
use Rattle.fo_logic.specs.FirstOrder.{first_order}
use Rattle.derivations.specs.Outcomes.{IsProved as IsFoundIn}
use Rattle.fo_search.proofs.Proofs.{is_search, same_search, is_outcome, is_first, is_proved}
use Rattle.fo_search.proofs.prover.prove_fo.Goals as goal

pub search_proof-requires-clause-of : goal.search_proof-requires-clause-of
search_proof-requires-clause-of c = is_search c.args.problem.now c.in_ok-start.start c.in_ok-start.ensures.order

pub returns-clause-outcome : goal.returns-clause-outcome
returns-clause-outcome c =
    let p = c.args.problem.now in
    let e = c.in_ok-proved.ensures.outcome ∙ ap (λ s. search_of s c.args.most c.args.depth)
    (same_search p c.in_ok-start.start c.in_ok-start.ensures.order) in
    IfOk-weaker c.file_of.result _ _
    (λ q over. is_outcome p c.requires.within c.args.most c.args.depth c.in_ok-proved.proved q over e)
    c.file_of.ensures

pub returns-clause-first : goal.returns-clause-first
returns-clause-first c =
    let p = c.args.problem.now in
    let e = c.in_ok-proved.ensures.outcome ∙ ap (λ s. search_of s c.args.most c.args.depth)
    (same_search p c.in_ok-start.start c.in_ok-start.ensures.order) in
    IfOk-weaker c.file_of.result _ _ (λ q over. is_first p c.requires.within c.args.most c.args.depth q
    (is_outcome p c.requires.within c.args.most c.args.depth c.in_ok-proved.proved q over e)) c.file_of.ensures

pub returns-clause-proved : goal.returns-clause-proved
returns-clause-proved c =
    let p = c.args.problem.now in
    let order = c.in_ok-start.ensures.order in
    let e = c.in_ok-proved.ensures.outcome ∙ ap (λ s. search_of s c.args.most c.args.depth)
    (same_search p c.in_ok-start.start order) in
    let is = subst (λ t. IsFoundIn (first_order p.theory) (calculus_of t) p.goal c.in_ok-proved.proved) order.theory
    (subst (λ (j : FoSequent). IsFoundIn (first_order p.theory) (calculus_of c.in_ok-start.start.logic.logic.theory.now)
    j c.in_ok-proved.proved) order.root c.in_ok-proved.ensures.proved) in
    IfOk-weaker c.file_of.result _ _
    (λ q over. is_proved p c.requires.within c.args.most c.args.depth c.in_ok-proved.proved q over e is)
    c.file_of.ensures
