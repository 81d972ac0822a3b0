-- Each turn moves one definition from what is left.
use Rattle.std.proofs.Common.{◌≡◌, ◌+◌, ◌-◌, List, [], ◌∷◌, ◌++◌, arith, ap, sym, ◌∙◌}
use Rattle.heap_formula.specs.Definitions.{Definition}
use Rattle.ring_family.specs.Ring.{definitions_from, ring_definitions}
use Rattle.ring_family.proofs.Growing.{grown, definitions_left, definitions_end}
use Rattle.ring_family.proofs.definitions.definitions.Goals as goal

pub loop-i-init : goal.loop-i-init
loop-i-init c =
    let whole : c.args.k - 0 ≡ c.args.k = omega arith in
    ap (λ (l : List Definition). l ++ definitions_from c.args.k 0 (c.args.k - 0)) c.new-defs.ensures.items
    ∙ ap (definitions_from c.args.k 0) whole

pub loop-i-preserved : goal.loop-i-preserved
loop-i-preserved c =
    let k = c.args.k in
    let i = c.loop-i.i in
    let made = c.loop-i.defs.items in
    let pushed = ◌∙◌ {A = List Definition} c.in_ok-push.ensures.items
    (ap (λ (d : Definition). made ++ d ∷ []) c.in_ok-ring_predicate.ensures) in
    grown made c.push.new.self.items _ (definitions_from k (i + 1) (k - (i + 1))) (ring_definitions k) pushed
    (ap (λ (l : List Definition). made ++ l) (sym (definitions_left k i c.loop-i-test.true)) ∙ c.loop-i.invariant)

pub returns : goal.returns
returns c =
    let made = c.loop-i.defs.items in
    let end = definitions_end c.args.k c.loop-i.i (omega (arith, c.loop-i.auto.i-end, c.loop-i-test.false)) in
    ◌∙◌ {A = List Definition} c.in_ok-push-2.ensures.items
    (◌∙◌ {A = List Definition} (ap (λ (d : Definition). made ++ d ∷ []) c.in_ok-plain_list.ensures)
    (ap (λ (l : List Definition). made ++ l) (sym end) ∙ c.loop-i.invariant))
