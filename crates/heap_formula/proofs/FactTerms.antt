-- A chosen term is universal where both are.
use Rattle.std.proofs.Common.{Bool, true, false, cond}
use Rattle.heap_formula.specs.declared.terms.Term.{Term}
use Rattle.heap_formula.specs.Closedness.{IsUniversal}

pub universal_choice : (b : Bool) (t u : Term) → IsUniversal t → IsUniversal u → IsUniversal (cond b t u)
universal_choice true t u p q = p
universal_choice false t u p q = q
