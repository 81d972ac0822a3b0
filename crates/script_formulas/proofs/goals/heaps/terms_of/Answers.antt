use Rattle.std.proofs.Common.{◌≡◌, ◌++◌, ◌∷◌, [], arith}
use Rattle.std.proofs.lemmas.Grind.{common_steps}
use Rattle.script_formulas.specs.Translating.{IsTermOf}
use Rattle.script_formulas.proofs.Zipping.{zip_next}
use Rattle.script_formulas.proofs.goals.heaps.terms_of.Goals as goal

pub loop-term-preserved : goal.loop-term-preserved
loop-term-preserved c =
    let made = c.in_ok-term_of.field-0 in
    let pushed : c.push.new.self.items ≡ c.loop-term.made.items ++ made ∷ [] = grind (arith, common_steps) in
    zip_next (IsTermOf c.args.variables) c.args.terms.now c.loop-term.term-index _ c.loop-term.made.items
    c.push.new.self.items made c.loop-term-test.true pushed c.loop-term.invariant c.in_ok-term_of.ensures
