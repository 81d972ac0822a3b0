use Rattle.std.proofs.Common.{List, map, eqb-true, sym, subst, ◌∙◌}
use Rattle.std.proofs.lemmas.List.{nil_from_length}
use Rattle.fo_formula.specs.declared.nodes.FoReason.TheVariants.{Rule}
use Rattle.fo_formula.specs.declared.nodes.FoRule.{FoRule}
use Rattle.derivations.proofs.Visiting.{some_items}
use Rattle.derivations.specs.Effects.{LeavesOut}
use Rattle.derivations.proofs.Leaving.{none_out}
use Rattle.fo_search.specs.Calculus.{rules_at, calculus_of}
use Rattle.fo_search.proofs.Few.{after_few, before_are}
use Rattle.fo_search.proofs.Small.{few_cases}
use Rattle.fo_search.proofs.offering.offers_at.Goals as goal

pub rules_after-requires-clause-few_cases : goal.rules_after-requires-clause-few_cases
rules_after-requires-clause-few_cases c = few_cases c.args.theory.now c.args.made.now c.args.goal.now c.requires.occur

pub returns-then-not-is_empty-clause-rules : goal.returns-then-not-is_empty-clause-rules
returns-then-not-is_empty-clause-rules c =
    let t = c.args.theory.now in
    let before = c.in_ok-before.before in
    none_out (calculus_of t) c.args.made.now c.args.goal.now c.args.most _ _
    (c.in_ok-reasons_by.ensures ∙ before_are t c.args.made.now c.args.goal.now before.items c.in_ok-before.ensures
    (some_items before.items _ (sym before.ok.0) (sym c.is_empty.ensures ∙ c.if-not-is_empty.true)))

pub returns-clause-rules : goal.returns-clause-rules
returns-clause-rules c =
    let t = c.args.theory.now in
    let before = c.in_ok-before.before in
    let none = nil_from_length before.items (sym before.ok.0
    ∙ eqb-true _ _ (sym c.is_empty.ensures ∙ c.if-not-is_empty.false)) in
    subst (λ (rules : List FoRule). LeavesOut (calculus_of t) c.args.made.now c.args.goal.now c.args.most
    (rules_at t c.args.made.now c.args.goal.now) (map Rule rules)) (sym c.in_ok-rules_after.ensures)
    (after_few t c.args.made.now c.args.goal.now c.args.most (sym c.in_ok-before.ensures ∙ none))
