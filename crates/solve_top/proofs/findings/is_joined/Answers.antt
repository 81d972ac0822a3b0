use Rattle.std.proofs.Common.{◌∙◌, ◌++◌, sym, ap, refl}
use Rattle.solve_top.proofs.findings.is_joined.Goals as goal

pub returns : goal.returns
returns c = λ t.
    let p = c.if-not-begins_with_pure.ensures refl in
    let s = c.begins_with_spatial.ensures t in
    let pure = sym c.pure.ensures.value ∙ p.1 ∙ ap (λ xs. xs ++ p.0) c.pure-2.ensures.value in
    let spatial = sym c.spatial.ensures.value ∙ s.1 ∙ ap (λ xs. xs ++ s.0) c.spatial-2.ensures.value in
    record { frame = record { pure = p.0; spatial = s.0 }; is = λ i. record { pure = pure i; spatial = spatial i } }
