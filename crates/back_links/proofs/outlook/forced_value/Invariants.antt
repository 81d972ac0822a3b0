use Rattle.std.proofs.Common.{◌≡◌, ◌⊎◌, [], ◌∷◌, drop, true, Some}
use Rattle.heap_formula.specs.declared.terms.Term.{Term}
use Rattle.heap_formula.specs.Words.{OneOf}
use Rattle.back_links.specs.Searching.{may_send}
use Rattle.back_links.proofs.outlook.forced_value.Given as goal

abbrev pub invariant-loop-v : goal.invariant-loop-v
invariant-loop-v l =
    (w : Term) → OneOf (λ x. x ≡ w) l.search.values.now → may_send l.search l.places ((l.n, w) ∷ []) l.n ≡ true
    → (l.only ≡ Some w) ⊎ OneOf (λ x. x ≡ w) (drop l.v-index l.search.values.now)
