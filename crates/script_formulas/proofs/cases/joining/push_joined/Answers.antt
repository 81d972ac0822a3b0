use Rattle.std.proofs.Common.{◌≡◌, ◌+◌, ◌++◌, ◌∷◌, [], take, sym, ap, ◌∙◌, arith, append_assoc}
use Rattle.std.proofs.lemmas.Grind.{common_steps}
use Rattle.std.proofs.lemmas.List.{take_more}
use Rattle.script_formulas.specs.Joining.{join_with}
use Rattle.script_formulas.proofs.Extending.{join_with_last}
use Rattle.script_formulas.proofs.cases.joining.push_joined.Goals as goal

pub loop-b-preserved : goal.loop-b-preserved
loop-b-preserved c =
    let so_far = c.loop-b.invariant in
    let d = c.in_ok-joined.field-0 in
    let b = c.b-item.result in
    let bs = c.args.bs.now in
    let i = c.loop-b.b-index in
    let grown = join_with_last c.args.way c.args.depth c.args.a.now (take i bs)
    so_far.0 b d so_far.1 c.in_ok-joined.ensures.value in
    let taken : take (i + 1) bs ≡ take i bs ++ b ∷ [] = take_more bs i b c.loop-b-test.true
    ∙ ap (λ x. take i bs ++ x ∷ []) (sym c.b-item.is) in
    let pushed : c.push.new.self.items ≡ c.loop-b.made.items ++ d ∷ [] = grind (arith, common_steps) in (
      so_far.0 ++ d ∷ [],
      ap (λ l. join_with c.args.way c.args.depth c.args.a.now l) taken ∙ grown,
      pushed ∙ ap (λ l. l ++ d ∷ []) so_far.2 ∙ append_assoc c.args.made.now.items so_far.0 (d ∷ []),
    )
