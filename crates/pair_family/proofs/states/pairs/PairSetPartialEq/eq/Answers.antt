use Rattle.std.proofs.Common.{◌≡◌, ◌∙◌, ap, rules}
use Rattle.std.specs.Cmp.Lexicographic.{pointwise}
use Rattle.pair_family.specs.Equality.{two_eq}
use Rattle.pair_family.specs.Masks.{pairs_in}
use Rattle.pair_family.specs.declared.states.pairs.PairForm.TheVariants.{Masked}
use Rattle.pair_family.proofs.MaskForms.{forms_same, forms_turned}
use Rattle.pair_family.proofs.states.pairs.PairSetPartialEq.eq.Goals as goal

pub returns-in-Masked-Masked : goal.returns-in-Masked-Masked
returns-in-Masked-Masked c =
    let e : c.self.inside.form ≡ Masked c.in-Masked-Masked.mask = search rules in
    let d : c.other.inside.form ≡ Masked c.in-Masked-Masked.others = search rules in
    forms_same c.self.inside.form c.other.inside.form c.in-Masked-Masked.mask c.in-Masked-Masked.others c.args.self.now
    c.args.other.now e d c.self.invariant c.other.invariant c.self.view_is c.other.view_is

pub returns-in-Listed-Masked : goal.returns-in-Listed-Masked
returns-in-Listed-Masked c =
    let e : c.other.inside.form ≡ Masked c.in-Listed-Masked.mask = search rules in
    let l : c.deref-in-Listed-Masked.result.now ≡ c.args.self.now = search rules in
    forms_turned c.other.inside.form c.in-Listed-Masked.mask c.args.self.now c.args.other.now
    c.has_pairs-in-Listed-Masked.result e c.other.view_is
    (c.has_pairs-in-Listed-Masked.ensures ∙ ap (pointwise two_eq (pairs_in c.in-Listed-Masked.mask)) l)
