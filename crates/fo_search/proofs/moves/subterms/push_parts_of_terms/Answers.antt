use Rattle.std.proofs.Common.{ap, ◌∙◌}
use Rattle.fo_formula.specs.Words.{Word}
use Rattle.fo_search.specs.Subterms.{parts_of, once}
use Rattle.fo_search.proofs.Onces.{item_added}
use Rattle.fo_search.proofs.moves.subterms.push_parts_of_terms.Goals as goal

pub loop-term-preserved : goal.loop-term-preserved
loop-term-preserved c =
    item_added parts_of c.loop-term.words.items c.push_parts.new.words.items c.args.terms.now c.loop-term.term-index
    c.term-item.result _ c.loop-term-test.true (c.in_ok-push_parts.ensures
    ∙ ap (λ (w : Word). once c.loop-term.words.items (parts_of w)) (c.as_slice.ensures ∙ c.term-item.is))
    c.loop-term.invariant
