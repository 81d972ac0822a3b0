use Rattle.std.proofs.Common.{◌≡◌, ◌++◌, ◌∷◌, [], arith}
use Rattle.std.proofs.lemmas.Grind.{common_steps}
use Rattle.script_formulas.specs.Translating.{IsPureOf}
use Rattle.script_formulas.proofs.Zipping.{zip_next}
use Rattle.script_formulas.proofs.goals.heaps.pures_of.Goals as goal

pub loop-atom-preserved : goal.loop-atom-preserved
loop-atom-preserved c =
    let made = c.in_ok-pure_of.field-0 in
    let pushed : c.push.new.self.items ≡ c.loop-atom.made.items ++ made ∷ [] = grind (arith, common_steps) in
    zip_next (IsPureOf c.args.variables) c.args.atoms.now c.loop-atom.atom-index _ c.loop-atom.made.items
    c.push.new.self.items made c.loop-atom-test.true pushed c.loop-atom.invariant c.in_ok-pure_of.ensures
