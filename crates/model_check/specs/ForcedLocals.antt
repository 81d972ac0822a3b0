-- The values that a heap forces on the locals of a formula.
use Rattle.std.specs.Prelude.{◌≡◌, ℕ, ◌+◌, List, [], ◌∷◌, ◌++◌, ◌⊎◌, ◌≤◌, length, Bool, true, false, map, Option, Some}
use Rattle.std.specs.Prelude.{None, slice_get, slice_index, nat_eq, if◌then◌else◌, MatchOption, Vec}
use Rattle.heap_formula.specs.declared.terms.Term.{Term}
use Rattle.heap_formula.specs.declared.terms.Term.TheVariants.{Nil, Univ, Exist}
use Rattle.heap_formula.specs.Words.{Each, max_of}
use Rattle.heap_formula.specs.Values.{Stack, value}
use Rattle.heap_formula.specs.Cells.{Cells, cell_at}
use Rattle.model_check.specs.declared.known.ValueStep.{ValueStep}
use Rattle.model_check.specs.declared.known.ValueStep.TheVariants.{Same, Field}
use Rattle.model_check.specs.declared.locals.Local.{Local}
use Rattle.model_check.specs.declared.locals.Forced.{Forced}
use Rattle.model_check.specs.declared.locals.Forced.TheVariants.{Unknown, Value, Absent}
use Rattle.model_check.specs.Steps.{source, target}
use Rattle.std.specs.declared.alloc.Global.{Global}
use Rattle.cyc_basics.specs.Words.{tabulated}

-- the value of a local, if it has one
abbrev pub local_value : List Local → ℕ → Option ℕ
local_value [] n = None
local_value (l ∷ ls) n = if nat_eq n l.number then Some l.value else local_value ls n

abbrev pub term_value : Stack → List Local → Term → Option ℕ
term_value s ls Nil = Some 0
term_value s ls (Univ n) = Some (slice_index s n)
term_value s ls (Exist n) = local_value ls n

abbrev pub or_zero : Option ℕ → ℕ
or_zero None = 0
or_zero (Some v) = v

-- the locals' values as a stack
abbrev pub stack_of : List Local → Stack
stack_of ls = tabulated (λ n. or_zero (local_value ls n)) (max_of (map (λ l. l.number) ls) + 1)

-- a field of what stands at an address
abbrev pub field_of : Option (List ℕ) → ℕ → Option ℕ
field_of None k = None
field_of (Some vs) k = slice_get vs k

-- what an equation or a cell says of its two terms
abbrev pub StepHolds : Cells → Stack → Stack → ValueStep → Type 0
StepHolds h s e (Same t u) = value s e t ≡ value s e u
StepHolds h s e (Field t k u) = field_of (cell_at h (value s e t)) k ≡ Some (value s e u)

abbrev pub StepsHold : Cells → Stack → Stack → List ValueStep → Type 0
StepsHold h s e steps = Each (StepHolds h s e) steps

-- where the steps hold, the local has this value
abbrev pub HasLocal : Stack → Local → Type 0
HasLocal e l = slice_index e l.number ≡ l.value

-- wherever the steps hold, the locals have these values
abbrev pub AreForced : Cells → Stack → List ValueStep → List Local → Type 0
AreForced h s steps ls = (e : Stack) → StepsHold h s e steps → Each (HasLocal e) ls

abbrev pub IsValued : Stack → List Local → Term → Type 0
IsValued s ls t = (v : ℕ) × (term_value s ls t ≡ Some v)

abbrev pub IsPassed : Stack → List Local → ValueStep → Type 0
IsPassed s ls step = IsValued s ls (source step) → IsValued s ls (target step)

abbrev pub AllPassed : Stack → List Local → List ValueStep → Type 0
AllPassed s ls steps = Each (IsPassed s ls) steps

-- a term gets a value: it had one, or it is a local that had none
abbrev pub Sets : Stack → List Local → List Local → Term → ℕ → Type 0
Sets s old new t v = ((new ≡ old) × IsValued s old t)
    ⊎ ((n : ℕ) × (t ≡ Exist n) × ((new ≡ old ++ (record { number = n; value = v }) ∷ []) × (local_value old n ≡ None)))

-- what the heap and the locals say of a step's target
abbrev pub from_value : Option ℕ → Forced
from_value None = Unknown
from_value (Some v) = Value v

abbrev pub from_field : Option ℕ → Forced
from_field None = Absent
from_field (Some v) = Value v

abbrev pub from_address : Cells → ℕ → Option ℕ → Forced
from_address h k None = Unknown
from_address h k (Some a) = from_field (field_of (cell_at h a) k)

abbrev pub target_of : Cells → Stack → List Local → ValueStep → Forced
target_of h s ls (Same t u) = from_value (term_value s ls t)
target_of h s ls (Field t k u) = from_address h k (term_value s ls t)

-- after a step: nothing fits; or the locals are still forced, and the step is done if none is new
abbrev pub Follows : Cells → Stack → ValueStep → List Local → List Local → Bool → Type 0
Follows h s step old new true = ((e : Stack) → StepHolds h s e step → Each (HasLocal e) old → Each (HasLocal e) new)
    × (((new ≡ old) × IsPassed s new step) ⊎ (length new ≡ length old + 1))
Follows h s step old new false = (e : Stack) → StepHolds h s e step → Each (HasLocal e) old → ⊥

-- after a round of steps
abbrev pub Passes : Cells → Stack → List ValueStep → ℕ → ℕ → List Local → Bool → Type 0
Passes h s steps before after new true = AreForced h s steps new × (before ≤ after)
    × (after ≡ before → AllPassed s new steps)
Passes h s steps before after new false = (e : Stack) → StepsHold h s e steps → ⊥

-- the locals' values are forced, and each step is done; or no values fit
abbrev pub IsEvaluated : Cells → Stack → List ValueStep → Option (List Local) → Type 0
IsEvaluated h s steps None = (e : Stack) → StepsHold h s e steps → ⊥
IsEvaluated h s steps (Some ls) = AreForced h s steps ls × AllPassed s ls steps

-- the same of a list that is found, or of none
abbrev pub Evaluates : Cells → Stack → List ValueStep → Option (Vec Local Global) → Type 0
Evaluates h s steps found =
    MatchOption found (IsEvaluated h s steps None) (λ v. IsEvaluated h s steps (Some v.items))
