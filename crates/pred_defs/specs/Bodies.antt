-- A case at arguments, its locals as fresh variables.
use Rattle.std.specs.Prelude.{ℕ, ◌+◌, List, slice_index_or}
use Rattle.heap_formula.specs.declared.terms.Term.{Term}
use Rattle.heap_formula.specs.declared.terms.Term.TheVariants.{Nil, Univ as Universal, Exist as Existential}
use Rattle.heap_formula.specs.Symbolic.{SymbolicHeap}
use Rattle.heap_formula.specs.Substitution.{in_heap}
use Rattle.pred_defs.specs.declared.bodies.Fresh.{Fresh}
use Rattle.pred_defs.specs.declared.bodies.Fresh.TheVariants.{Univ, Exist}

-- the fresh variable for local j
abbrev pub fresh_local : Fresh → ℕ → Term
fresh_local (Univ n) j = Universal (n + j)
fresh_local (Exist n) j = Existential (n + j)

-- a case's term: parameter j is argument j, local j is the fresh variable for it
abbrev pub body_term : List Term → Fresh → Term → Term
body_term args fresh Nil = Nil
body_term args fresh (Universal j) = slice_index_or args j Nil
body_term args fresh (Existential j) = fresh_local fresh j

abbrev pub body_of : List Term → Fresh → SymbolicHeap → SymbolicHeap
body_of args fresh case = in_heap (body_term args fresh) case

-- the first of the fresh numbers
abbrev pub first_fresh : Fresh → ℕ
first_fresh (Univ n) = n
first_fresh (Exist n) = n
