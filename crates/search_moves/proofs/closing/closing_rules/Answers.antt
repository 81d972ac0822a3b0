use Rattle.std.proofs.Common.{[], ◌∷◌, ◌∙◌, refl, ap}
use Rattle.std.proofs.lemmas.Result.{IfOk-weaker}
use Rattle.std.specs.List.{filter}
use Rattle.heap_formula.specs.declared.proof_rules.Rule.TheVariants.{Done}
use Rattle.search_moves.specs.Trying.{is_applicable}
use Rattle.search_moves.specs.Closing.{closes}
use Rattle.search_moves.specs.Settings.{theory_of}
use Rattle.search_moves.proofs.LeftOpen.{one_closes, no_other_closes}
use Rattle.search_moves.proofs.OfferedParts.{closing_part, done_kept}
use Rattle.search_moves.proofs.closing.closing_rules.Goals as goal

pub returns-then-heaps-ne1-clause-closing : goal.returns-then-heaps-ne1-clause-closing
returns-then-heaps-ne1-clause-closing c =
    ap (filter (closes (theory_of c.args.at.now) c.args.at.now.judgement.now)) c.new.ensures.items
    ∙ no_other_closes (theory_of c.args.at.now)
    c.args.at.now.judgement.now c.args.left.now c.requires.judgement c.requires.cases c.args.heaps.now
    c.if-heaps-ne1.true

pub returns-then-heaps-ne1-clause-offered : goal.returns-then-heaps-ne1-clause-offered
returns-then-heaps-ne1-clause-offered c =
    closing_part (theory_of c.args.at.now) c.args.at.now.judgement.now _ [] _ c.new.ensures.items refl
    (no_other_closes (theory_of c.args.at.now)
    c.args.at.now.judgement.now c.args.left.now c.requires.judgement c.requires.cases c.args.heaps.now
    c.if-heaps-ne1.true)

pub returns-clause-closing : goal.returns-clause-closing
returns-clause-closing c =
    IfOk-weaker c.rule_alone.result _ _ (λ rules is. ap (filter
    (closes (theory_of c.args.at.now) c.args.at.now.judgement.now)) is
    ∙ one_closes (theory_of c.args.at.now)
    c.args.at.now.judgement.now c.args.left.now c.requires.judgement c.requires.cases c.args.heaps.now
    c.if-heaps-ne1.false) c.rule_alone.ensures

pub returns-clause-offered : goal.returns-clause-offered
returns-clause-offered c =
    IfOk-weaker c.rule_alone.result _ _ (λ rules is.
    closing_part (theory_of c.args.at.now) c.args.at.now.judgement.now _
    (filter (is_applicable (theory_of c.args.at.now) c.args.at.now.judgement.now) (Done ∷ [])) _ is
    (done_kept (theory_of c.args.at.now) c.args.at.now.judgement.now)
    (one_closes (theory_of c.args.at.now)
    c.args.at.now.judgement.now c.args.left.now c.requires.judgement c.requires.cases c.args.heaps.now
    c.if-heaps-ne1.false)) c.rule_alone.ensures
