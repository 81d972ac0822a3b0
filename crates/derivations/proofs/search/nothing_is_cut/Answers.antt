use Rattle.std.proofs.Common.{◌≡◌, ◌-◌, [], arith, ap, ◌∙◌}
use Rattle.derivations.specs.System.{members}
use Rattle.derivations.proofs.Induction.{enough}
use Rattle.derivations.proofs.search.nothing_is_cut.Goals as goal

pub returns : goal.returns
returns g c s e n h = let z : s.limit - 0 ≡ s.limit = omega arith in
    enough s e n [] (omega arith) ∙ ap (λ k. members s e k []) z
