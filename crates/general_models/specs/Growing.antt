-- States that have what others have, under other names, and perhaps more; and new cells that name nothing unreached.
use Rattle.std.specs.Prelude.{◌≡◌, ℕ, zero, suc, ◌+◌, ◌<◌, ◌≤◌, ◌⊎◌, ◌↔◌, List, [], ◌∷◌, Option, Some, None}
use Rattle.std.specs.Prelude.{slice_get}
use Rattle.cyc_basics.specs.Words.{IsMember}
use Rattle.heap_formula.specs.declared.commands.Command.{Command}
use Rattle.heap_formula.specs.declared.commands.Command.TheVariants.{New}
use Rattle.heap_formula.specs.Words.{Each, OneOf}
use Rattle.heap_formula.specs.Values.{Stack}
use Rattle.heap_formula.specs.Cells.{Cells, cell_at}
use Rattle.heap_formula.specs.Programs.{Config as State, greatest}
use Rattle.goto_lang.specs.declared.configs.Config.{Config}
use Rattle.goto_lang.specs.States.{state_of}
use Rattle.general_models.specs.declared.runs.growth.ValuePair.{ValuePair}
use Rattle.general_models.specs.declared.runs.picks.Pick.{Pick}
use Rattle.general_models.specs.Picks.{address_of, fields_of, picks_of}
use Rattle.general_models.specs.Runs.{PickedStep}

-- the lists are of one length, and R holds of the two numbers at each place
abbrev pub EachPair : (ℕ → ℕ → Type 0) → List ℕ → List ℕ → Type 0
EachPair R [] [] = Unit {0}
EachPair R [] (y ∷ ys) = ⊥
EachPair R (x ∷ xs) [] = ⊥
EachPair R (x ∷ xs) (y ∷ ys) = R x y × EachPair R xs ys

-- a cell stands at the address, with as many fields as these, and R holds of each field and the one at its place there
abbrev pub HasLike : (ℕ → ℕ → Type 0) → List ℕ → Cells → ℕ → Type 0
HasLike R vs h b = (us : List ℕ) × (cell_at h b ≡ Some us) × EachPair R vs us

-- R relates the numbers of the first state to numbers of the second, one to one: nil to nil, what the stacks hold at one
-- place, and with the address of a cell its fields. The second state may have any cells more, and so may the first where
-- R relates their addresses to nothing
pub record Alike (R : ℕ → ℕ → Type 0) (c d : State) : Type 0 where
  pub line : c.line ≡ d.line
  pub nil : R 0 0
  pub to_one : (x y z : ℕ) → R x y → R x z → y ≡ z
  pub from_one : (x y z : ℕ) → R x z → R y z → x ≡ y
  pub stack : EachPair R c.stack d.stack
  pub cells : (a b : ℕ) (vs : List ℕ) → R a b → cell_at c.heap a ≡ Some vs → HasLike R vs d.heap b

-- a value for a field of a new cell: nil, the address of the cell, or what a variable has
abbrev pub IsAtHand : ℕ → Stack → ℕ → Type 0
IsAtHand a s v = (v ≡ 0) ⊎ ((v ≡ a) ⊎ IsMember v s)

-- where the command is `new`, it takes an address above every number of the state, and values at hand for the fields
abbrev pub TakesFresh : Command → ℕ → List ℕ → State → Type 0
TakesFresh (New x k) a vs c = (greatest c < a) × Each (IsAtHand a c.stack) vs
TakesFresh x a vs c = Unit {0}

-- n steps from c to d, which take the first k of the picks in order, and of which each after the first s takes a fresh
-- cell or none
abbrev pub FreshRun : List Command → ℕ → List Pick → ℕ → ℕ → State → ℕ → State → Type 0
FreshRun lines w picks s zero c k d = (k ≡ 0) × (d ≡ c)
FreshRun lines w picks s (suc n) c k d =
    (j : ℕ) × (m : State) × FreshRun lines w picks s n c j m × (p : PickedStep lines w (slice_get picks j) m d)
    × (s ≤ n → TakesFresh p.command (address_of (slice_get picks j)) (fields_of (slice_get picks j)) m)
    × (k ≡ j + picks_of p.command)

-- the state after so many steps; none where the run does not make them so
abbrev pub IsFreshState : List Command → ℕ → List Pick → ℕ → ℕ → State → Option Config → Type 0
IsFreshState lines w picks s steps c None = (k : ℕ) (d : State) → FreshRun lines w picks s steps c k d → ⊥
IsFreshState lines w picks s steps c (Some e) = (k : ℕ) × FreshRun lines w picks s steps c k (state_of e)

-- ---- pairs of values

abbrev pub IsPaired : List ValuePair → ℕ → ℕ → Type 0
IsPaired pairs x y = OneOf (λ p. (p.before ≡ x) × (p.after ≡ y)) pairs

-- a pair that shares one part with this one shares both
abbrev pub IsPairedOnce : List ValuePair → ValuePair → Type 0
IsPairedOnce pairs p = Each (λ q. (q.before ≡ p.before) ↔ (q.after ≡ p.after)) pairs

abbrev pub AreOneToOne : List ValuePair → Type 0
AreOneToOne pairs = Each (IsPairedOnce pairs) pairs

-- where the first heap has a cell at the pair's first value, the second has one like it at the other
abbrev pub HasLikeCell : List ValuePair → Cells → Cells → ValuePair → Type 0
HasLikeCell pairs h g p = (vs : List ℕ) → cell_at h p.before ≡ Some vs → HasLike (IsPaired pairs) vs g p.after
