-- The choices of a run.
use Rattle.std.specs.Prelude.{ℕ, max, map, List, [], Bool, true, false, Option, Some, None, if◌then◌else◌}
use Rattle.heap_formula.specs.declared.commands.Command.{Command}
use Rattle.heap_formula.specs.declared.commands.Command.TheVariants.{New, IfAny}
use Rattle.heap_formula.specs.Words.{max_of}
use Rattle.general_models.specs.declared.runs.picks.Pick.{Pick}
use Rattle.general_models.specs.declared.runs.picks.Pick.TheVariants.{Cell, Jumps}

-- the greatest number that the pick names
abbrev pub pick_most : Pick → ℕ
pick_most (Cell a vs) = max (max_of vs) a
pick_most (Jumps b) = 0

-- the greatest number that the picks name, at least 1
abbrev pub headroom_of : List Pick → ℕ
headroom_of ps = max 1 (max_of (map pick_most ps))

-- the pick is of the kind that the command takes; most commands take none
abbrev pub suits : Command → Option Pick → Bool
suits (New x k) None = false
suits (New x k) (Some (Cell a vs)) = true
suits (New x k) (Some (Jumps b)) = false
suits (IfAny j) None = false
suits (IfAny j) (Some (Cell a vs)) = false
suits (IfAny j) (Some (Jumps b)) = true
suits x p = true

-- how many picks the command takes
abbrev pub picks_of : Command → ℕ
picks_of (New x k) = 1
picks_of (IfAny j) = 1
picks_of x = 0

-- the address and the fields of a pick as a step takes them: 1 for a jump, 0 for none
abbrev pub address_of : Option Pick → ℕ
address_of None = 0
address_of (Some (Cell a vs)) = a
address_of (Some (Jumps b)) = if b then 1 else 0

abbrev pub fields_of : Option Pick → List ℕ
fields_of None = []
fields_of (Some (Cell a vs)) = vs
fields_of (Some (Jumps b)) = []
