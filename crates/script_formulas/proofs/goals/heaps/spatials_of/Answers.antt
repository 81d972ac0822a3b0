use Rattle.std.proofs.Common.{◌≡◌, ◌++◌, ◌∷◌, [], arith}
use Rattle.std.proofs.lemmas.Grind.{common_steps}
use Rattle.script_formulas.specs.Translating.{IsSpatialOf}
use Rattle.script_formulas.proofs.Zipping.{zip_more}
use Rattle.script_formulas.proofs.goals.heaps.spatials_of.Goals as goal

pub loop-atom-preserved : goal.loop-atom-preserved
loop-atom-preserved c =
    let made = c.in_ok-spatial_of.field-0 in
    let pushed : c.push.new.self.items ≡ c.loop-atom.made.items ++ made ∷ [] = grind (arith, common_steps) in
    zip_more (IsSpatialOf c.args.numbers.now c.args.variables) c.args.atoms.now c.loop-atom.atom-index
    c.atom-item.result c.loop-atom.made.items
    c.push.new.self.items made c.loop-atom-test.true c.atom-item.is pushed c.loop-atom.invariant
    c.in_ok-spatial_of.ensures
