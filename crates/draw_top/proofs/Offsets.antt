-- An offset lies within the text.
use Rattle.std.proofs.Common.{◌≡◌, ℕ, suc, ◌≤◌, Bool, true, false, cond, List, [], ◌∷◌, ◌++◌, length, take, drop, refl}
use Rattle.std.proofs.Common.{arith}
use Rattle.draw_top.specs.declared.inputs.parts.Here.{Here}
use Rattle.draw_top.specs.declared.inputs.parts.Start.{Start}
use Rattle.draw_top.specs.Parts.{behind, is_at, offset_from}

within-step : (b : Bool) (more rest : ℕ) → more ≤ rest → cond b 0 (suc more) ≤ suc rest
within-step true more rest h = omega arith
within-step false more rest h = omega arith

pub offset-within : (here : Here) (start : Start) (bytes : List ℕ) → offset_from here start bytes ≤ length bytes
offset-within here start [] = omega arith
offset-within here start (b ∷ bs) =
    within-step (is_at start here b) (offset_from (behind here b) start bs) (length bs)
    (offset-within (behind here b) start bs)
