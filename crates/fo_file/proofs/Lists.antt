-- What holds of each member of a list.
use Rattle.std.proofs.Common.{List, [], ◌∷◌}
use Rattle.heap_formula.specs.Words.{Each}

pub each-apply : {X : Type 0} (P Q : X → Type 0) (xs : List X) → Each (λ x. P x → Q x) xs → Each P xs → Each Q xs
each-apply P Q [] f h = tt
each-apply P Q (x ∷ xs) f h = (f.0 h.0, each-apply P Q xs f.1 h.1)
