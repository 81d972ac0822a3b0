-- Which reasons are links.
use Rattle.std.specs.Prelude.{Bool, true, false}
use Rattle.heap_formula.specs.declared.proof_rules.Reason.{Reason}
use Rattle.heap_formula.specs.declared.proof_rules.Reason.TheVariants.{Step, Back}

abbrev pub is_link : Reason → Bool
is_link (Step rule) = false
is_link (Back link) = true
