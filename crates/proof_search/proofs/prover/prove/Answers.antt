use Rattle.std.proofs.Common.{ap, subst, ◌∙◌}
use Rattle.std.proofs.lemmas.Result.{IfOk-weaker}
use Rattle.heap_formula.specs.declared.judgements.Judgement.{Judgement}
use Rattle.derivations.specs.Outcomes.{IsProved as IsFoundIn}
use Rattle.derivations.specs.System.{search_of}
use Rattle.proof_search.specs.Calculus.{logic_over, calculus_of}
use Rattle.proof_search.specs.Moves.{theory_in}
use Rattle.proof_search.specs.Outcomes.{theory_for}
use Rattle.proof_search.proofs.Proofs.{within, is_search, same_search, may_stand, is_outcome, is_first, is_proved}
use Rattle.proof_search.proofs.prover.prove.Goals as goal

pub search_proof-requires-clause-of : goal.search_proof-requires-clause-of
search_proof-requires-clause-of c = is_search c.args.problem.now c.in_ok-start.start c.in_ok-start.ensures.order

pub file_of-requires : goal.file_of-requires
file_of-requires c =
    let p = c.args.problem.now in
    let order = c.in_ok-start.ensures.order in
    let may = within p c.problem_is_within.ensures.definitions c.problem_is_within.ensures.program
    c.problem_is_within.ensures.ends c.problem_is_within.ensures.goal in
    let e = c.in_ok-proved.ensures.outcome ∙ ap (λ s. search_of s c.args.most c.args.depth)
    (same_search p c.in_ok-start.start order) in
    let is = subst (λ t. IsFoundIn (logic_over (theory_for p)) (calculus_of t) p.goal c.in_ok-proved.proved) order.theory
    (subst (λ (j : Judgement). IsFoundIn (logic_over (theory_for p))
    (calculus_of (theory_in c.in_ok-start.start.logic)) j c.in_ok-proved.proved) order.root
    c.in_ok-proved.ensures.proved) in
    may_stand p may c.args.most c.args.depth c.in_ok-proved.proved e is

pub returns-clause-outcome : goal.returns-clause-outcome
returns-clause-outcome c =
    let p = c.args.problem.now in
    let may = within p c.problem_is_within.ensures.definitions c.problem_is_within.ensures.program
    c.problem_is_within.ensures.ends c.problem_is_within.ensures.goal in
    let e = c.in_ok-proved.ensures.outcome ∙ ap (λ s. search_of s c.args.most c.args.depth)
    (same_search p c.in_ok-start.start c.in_ok-start.ensures.order) in
    IfOk-weaker c.file_of.result _ _
    (λ q over. is_outcome p may c.args.most c.args.depth c.in_ok-proved.proved q over e) c.file_of.ensures

pub returns-clause-first : goal.returns-clause-first
returns-clause-first c =
    let p = c.args.problem.now in
    let may = within p c.problem_is_within.ensures.definitions c.problem_is_within.ensures.program
    c.problem_is_within.ensures.ends c.problem_is_within.ensures.goal in
    let e = c.in_ok-proved.ensures.outcome ∙ ap (λ s. search_of s c.args.most c.args.depth)
    (same_search p c.in_ok-start.start c.in_ok-start.ensures.order) in
    IfOk-weaker c.file_of.result _ _ (λ q over. is_first p may c.args.most c.args.depth q
    (is_outcome p may c.args.most c.args.depth c.in_ok-proved.proved q over e)) c.file_of.ensures

pub returns-clause-proved : goal.returns-clause-proved
returns-clause-proved c =
    let p = c.args.problem.now in
    let order = c.in_ok-start.ensures.order in
    let may = within p c.problem_is_within.ensures.definitions c.problem_is_within.ensures.program
    c.problem_is_within.ensures.ends c.problem_is_within.ensures.goal in
    let e = c.in_ok-proved.ensures.outcome ∙ ap (λ s. search_of s c.args.most c.args.depth)
    (same_search p c.in_ok-start.start order) in
    let is = subst (λ t. IsFoundIn (logic_over (theory_for p)) (calculus_of t) p.goal c.in_ok-proved.proved) order.theory
    (subst (λ (j : Judgement). IsFoundIn (logic_over (theory_for p))
    (calculus_of (theory_in c.in_ok-start.start.logic)) j c.in_ok-proved.proved) order.root
    c.in_ok-proved.ensures.proved) in
    IfOk-weaker c.file_of.result _ _
    (λ q over. is_proved p may c.args.most c.args.depth c.in_ok-proved.proved q over e is) c.file_of.ensures
