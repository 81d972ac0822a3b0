use Rattle.std.proofs.Common.{◌≡◌, rules}
use Rattle.pair_family.specs.declared.states.pairs.PairForm.TheVariants.{Masked}
use Rattle.pair_family.proofs.MaskForms.{form_length}
use Rattle.pair_family.proofs.states.pairs.PairSet.len.Goals as goal

pub returns-in-Masked : goal.returns-in-Masked
returns-in-Masked c =
    let e : c.self.inside.form ≡ Masked c.in-Masked.mask = search rules in
    form_length c.self.inside.form c.in-Masked.mask c.args.self.now e c.self.invariant c.self.view_is
