use Rattle.std.proofs.Common.{◌≡◌, ◌++◌, ◌∷◌, [], ◌+◌, Ok, take, sym, ap, ◌∙◌}
use Rattle.std.proofs.lemmas.List.{take_more}
use Rattle.script_formulas.specs.Joining.{join_lists}
use Rattle.script_formulas.proofs.Extending.{join_lists_last}
use Rattle.script_formulas.proofs.cases.joining.joined_cases.Goals as goal

pub loop-a-preserved : goal.loop-a-preserved
loop-a-preserved c =
    let made = c.in_ok-push_joined.ensures in
    let a = c.a-item.result in
    let as_is = c.args.first.now in
    let i = c.loop-a.a-index in
    let taken : take (i + 1) as_is ≡ take i as_is ++ a ∷ [] = take_more as_is i a c.loop-a-test.true
    ∙ ap (λ x. take i as_is ++ x ∷ []) (sym c.a-item.is) in
    ap (λ l. join_lists c.args.way c.args.depth l c.args.second.now) taken
    ∙ join_lists_last c.args.way c.args.depth (take i as_is)
    c.args.second.now c.loop-a.made.items made.0 a c.loop-a.invariant made.1
    ∙ ap Ok (sym made.2)
