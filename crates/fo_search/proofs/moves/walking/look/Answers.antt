use Rattle.std.proofs.Common.{◌≡◌, ◌-◌, false, length, reverse, sym, ap, ◌∙◌}
use Rattle.fo_search.specs.Choosing.{may_do}
use Rattle.fo_search.specs.Walks.{chosen_by}
use Rattle.fo_search.proofs.Choices.{none_done}
use Rattle.fo_search.proofs.moves.walking.look.Goals as goal

pub returns-then-not-branch : goal.returns-then-not-branch
returns-then-not-branch c =
    let s = c.args.search.now in
    let w = c.args.walk.now in
    let made : c.deref-2.result.now ≡ chosen_by s.values.now (reverse w.places.items) = c.deref-2.ensures.value
    ∙ (c.in_ok-made.ensures ∙ ap (λ ps. chosen_by s.values.now (reverse ps)) c.deref.ensures.value) in
    let nothing : may_do s.wanted (chosen_by s.values.now (reverse w.places.items))
    ≡ false = ap (may_do s.wanted) (sym made) ∙ (sym c.in_ok-may_do.ensures ∙ c.if-not-branch.true) in
    none_done s.wanted (chosen_by s.values.now (reverse w.places.items)) (w.count - length (reverse w.places.items))
    s.values.now nothing
