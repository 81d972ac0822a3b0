-- Why definitions are refused: the first cause in a written order.
use Rattle.std.specs.Prelude.{◌≡◌, ℕ, List, [], ◌∷◌, length, Bool, false, ◌||◌, nat_eq, nat_lt, nat_le, if◌then◌else◌}
use Rattle.std.specs.Prelude.{Option, Some, None, slice_get, Result, Ok, Err}
use Rattle.std.specs.Str.{bytes_eq}
use Rattle.std.specs.List.{list_any}
use Rattle.cyc_basics.specs.declared.limits.Limits.{Limits}
use Rattle.cyc_basics.specs.declared.limits.TheConstants.{MOST_PREDICATES}
use Rattle.heap_formula.specs.declared.atoms.Spatial.{Spatial}
use Rattle.heap_formula.specs.declared.atoms.Spatial.TheVariants.{Cell, Pred}
use Rattle.heap_formula.specs.declared.heaps.Count.TheVariants.{Predicates, Arguments, Cases, Spatial as SpatialAtoms}
use Rattle.heap_formula.specs.declared.heaps.Count.TheVariants.{Locals, Pure as PureAtoms}
use Rattle.heap_formula.specs.Symbolic.{SymbolicHeap}
use Rattle.heap_formula.specs.Definitions.{Definition}
use Rattle.heap_formula.specs.Fresh.{heap_bound, heap_exists}
use Rattle.pred_defs.specs.declared.faults.DefFault.{DefFault}
use Rattle.pred_defs.specs.declared.faults.DefFault.TheVariants.{Duplicate, Unknown, Arity, Limit, Parameter}
use Rattle.pred_defs.specs.declared.faults.DefFault.TheVariants.{OutOfMemory}
use Rattle.pred_defs.specs.Book.{DefinitionBook}

-- some definition has this name
abbrev pub has_name : List Definition → List ℕ → Bool
has_name [] name = false
has_name (d ∷ ds) name = bytes_eq d.name name || has_name ds name

-- a case has too many pure atoms
abbrev pub has_many_pures : Limits → SymbolicHeap → Bool
has_many_pures most case = nat_lt most.pure (length case.pure)

-- a case has too many spatial atoms
abbrev pub is_long : Limits → SymbolicHeap → Bool
is_long most case = nat_lt most.spatial (length case.spatial)

-- a case has a local past the last that it may have
abbrev pub has_far_local : Limits → SymbolicHeap → Bool
has_far_local most case = nat_lt most.locals (heap_exists case)

-- a case has a universal variable that is no parameter
abbrev pub has_stranger : ℕ → SymbolicHeap → Bool
has_stranger arity case = nat_lt arity (heap_bound case)

-- why a definition is not taken: its name is there, a count is passed, or a variable is no parameter
abbrev pub push_fault : DefinitionBook → List ℕ → ℕ → List SymbolicHeap → Option DefFault
push_fault book name arity cases =
    if has_name book.list name then Some Duplicate
    else if nat_le MOST_PREDICATES (length book.list) then Some (Limit Predicates)
    else if nat_lt book.most.arguments arity then Some (Limit Arguments)
    else if nat_lt book.most.cases (length cases) then Some (Limit Cases)
    else if list_any (has_many_pures book.most) cases then Some (Limit PureAtoms)
    else if list_any (is_long book.most) cases then Some (Limit SpatialAtoms)
    else if list_any (has_far_local book.most) cases then Some (Limit Locals)
    else if list_any (has_stranger arity) cases then Some Parameter
    else None

-- ---- uses of predicates

abbrev pub or_later : Option DefFault → Option DefFault → Option DefFault
or_later (Some fault) later = Some fault
or_later None later = later

-- the first fault among the members, in order
abbrev pub first_fault : {X : Type 0} → (X → Option DefFault) → List X → Option DefFault
first_fault f [] = None
first_fault f (x ∷ xs) = or_later (f x) (first_fault f xs)

-- a use with n arguments of what has this definition
abbrev pub arity_fault : Option Definition → ℕ → Option DefFault
arity_fault None n = Some Unknown
arity_fault (Some d) n = if nat_eq n d.arity then None else Some Arity

-- an atom uses a predicate that is not there, or with another number of arguments
abbrev pub use_fault : List Definition → Spatial → Option DefFault
use_fault ds (Cell t ts) = None
use_fault ds (Pred q ts) = arity_fault (slice_get ds q) (length ts)

abbrev pub case_fault : List Definition → SymbolicHeap → Option DefFault
case_fault ds case = first_fault (use_fault ds) case.spatial

abbrev pub definition_fault : List Definition → Definition → Option DefFault
definition_fault ds d = first_fault (case_fault ds) d.cases

-- the first use that is at fault, in the order of the definitions, their cases and their atoms
abbrev pub closed_fault : List Definition → Option DefFault
closed_fault ds = first_fault (definition_fault ds) ds

-- ---- answers

-- the program's refusal is this one; out of memory is free
abbrev pub IsRefusal : Result (Unit {0}) DefFault → Option DefFault → Type 0
IsRefusal (Ok _) fault = fault ≡ None
IsRefusal (Err OutOfMemory) fault = Unit {0}
IsRefusal (Err Duplicate) fault = fault ≡ Some Duplicate
IsRefusal (Err Unknown) fault = fault ≡ Some Unknown
IsRefusal (Err Arity) fault = fault ≡ Some Arity
IsRefusal (Err (Limit count)) fault = fault ≡ Some (Limit count)
IsRefusal (Err Parameter) fault = fault ≡ Some Parameter
