-- The program's answers against the logic's; out of memory is free.
use Rattle.std.specs.Prelude.{◌≡◌, List, Result, Ok, Err, Vec}
use Rattle.std.specs.declared.alloc.Global.{Global}
use Rattle.trace_pairs.specs.Graph.{Pair}
use Rattle.logics.specs.declared.premises.Subgoal.{Subgoal}
use Rattle.logics.specs.declared.logic.Refused.{Refused}
use Rattle.logics.specs.declared.logic.Refused.TheVariants.{Fault, OutOfMemory}

abbrev pub IsPremises : {J F : Type 0} → Result (Vec (Subgoal J) Global) (Refused F) → Result (List (Subgoal J)) F
    → Type 0
IsPremises (Ok v) answer = answer ≡ Ok v.items
IsPremises (Err (Fault f)) answer = answer ≡ Err f
IsPremises (Err OutOfMemory) answer = Unit {0}

abbrev pub IsPairsBack : {F : Type 0} → Result (List Pair) (Refused F) → Result (List Pair) F → Type 0
IsPairsBack (Ok pairs) answer = answer ≡ Ok pairs
IsPairsBack (Err (Fault f)) answer = answer ≡ Err f
IsPairsBack (Err OutOfMemory) answer = Unit {0}
