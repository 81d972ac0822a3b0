use Rattle.std.proofs.Common.{◌≡◌, ◌∙◌, [], ◌∷◌, true, false, refl, sym, ap}
use Rattle.std.specs.Prelude.{Ok}
use Rattle.fo_formula.specs.declared.table.premises.FoPremise.{FoPremise}
use Rattle.fo_formula.specs.Table.{with_term}
use Rattle.fo_rules.proofs.Bounding.{within_passes, within_large}
use Rattle.fo_rules.proofs.Replacings.{premise_small, premise_short}
use Rattle.fo_rules.proofs.replacing.replaced.Goals as goal

pub returns-then-not-are_small : goal.returns-then-not-are_small
returns-then-not-are_small c =
    let s = c.args.sequent.now in
    let p = with_term s c.args.i c.args.n c.args.term.now in
    let short = premise_short s c.args.i c.args.n c.args.term.now c.requires.i_in c.requires.left_fits
    c.requires.right_fits in
    let small = premise_small s c.args.i c.args.n c.args.term.now c.in_ok-change.change c.deref.result.now
    c.as_slice.result.now (c.deref.ensures.value ∙ c.in_ok-kept.ensures.value)
    c.as_slice.ensures c.in_ok-change.ensures c.are_small.result c.are_small.ensures in
    let large : c.are_small.result ≡ false = c.if-not-are_small.true in
    within_large s 0 (p ∷ []) (Ok (p ∷ [])) short (small ∙ large)

pub returns : goal.returns
returns c =
    let s = c.args.sequent.now in
    let p = with_term s c.args.i c.args.n c.args.term.now in
    let short = premise_short s c.args.i c.args.n c.args.term.now c.requires.i_in c.requires.left_fits
    c.requires.right_fits in
    let small = premise_small s c.args.i c.args.n c.args.term.now c.in_ok-change.change c.deref.result.now
    c.as_slice.result.now (c.deref.ensures.value ∙ c.in_ok-kept.ensures.value)
    c.as_slice.ensures c.in_ok-change.ensures c.are_small.result c.are_small.ensures in
    let fits : c.are_small.result ≡ true = c.if-not-are_small.false in
    let light : c.is_small_with.result ≡ true = c.if-not-is_small_with.false in
    let made = c.in_ok-one_premise.ensures ∙ ap (λ (q : FoPremise). q ∷ []) c.in_ok-premise.ensures in
    within_passes s 0 (p ∷ []) (Ok (p ∷ [])) short (sym (c.is_small_with.ensures 0 refl) ∙ light) (small ∙ fits)
    ∙ ap Ok (sym made)
