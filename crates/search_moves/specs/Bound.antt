-- What binding answers.
use Rattle.std.specs.Prelude.{◌≡◌, Bool, true, false, Option, Some, None, Vec}
use Rattle.std.specs.declared.alloc.Global.{Global}
use Rattle.heap_formula.specs.declared.terms.Term.{Term}
use Rattle.search_moves.specs.Folds.{Binding}

-- there is a binding, and it is this one; or there is none
abbrev pub IsBound : Option Binding → Binding → Bool → Type 0
IsBound wanted s true = wanted ≡ Some s
IsBound wanted s false = wanted ≡ None

-- the list is the binding that is wanted; or there is none
abbrev pub IsExtended : Option Binding → Option (Vec (Term × Term) Global) → Type 0
IsExtended wanted None = wanted ≡ None
IsExtended wanted (Some v) = wanted ≡ Some v.items
