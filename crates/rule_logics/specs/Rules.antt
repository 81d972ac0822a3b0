-- The rules of a logic as plain data, and their laws.
use Rattle.std.specs.Prelude.{ℕ, ◌≡◌, ◌≤◌, Bool, true, List, Some, Result, Ok, Err, Vec, length, slice_get}
use Rattle.std.specs.declared.alloc.Global.{Global}
use Rattle.logics.specs.declared.premises.Subgoal.{Subgoal}
use Rattle.logics.specs.Laws.{PremiseHolds}

-- judgements, rules and faults
pub record RuleValue (J R F : Type 0) : Type 0 where
  -- whether traces follow a position
  pub follows : J → ℕ → Bool
  -- whether two judgements are one as they stand
  pub same : J → J → Bool
  -- what a rule leaves to be shown, or its first fault
  pub premises : J → R → Result (List (Subgoal J)) F
  -- the rules that a search tries, in order
  pub offers : J → List R

-- the answer as plain data
abbrev pub premises_in : {J F : Type 0} → Result (Vec (Subgoal J) Global) F → Result (List (Subgoal J)) F
premises_in (Ok v) = Ok v.items
premises_in (Err f) = Err f

pub record AreRules {J R F : Type 0} (c : RuleValue J R F) : Type 0 where
  pub one : (j k : J) → c.same j k ≡ true → j ≡ k
  pub itself : (j : J) → c.same j j ≡ true
  pub few : (j : J) (r : R) (ps : List (Subgoal J)) → c.premises j r ≡ Ok ps → length ps ≤ 256

-- at all stages a judgement holds if each premise of a rule holds at the stages that follow
abbrev pub AreSound : {J R F : Type 0} → RuleValue J R F → ((ℕ → ℕ) → J → Type 0) → Type 0
AreSound {J} {R} c Holds =
    (j : J) (r : R) (ps : List (Subgoal J)) → c.premises j r ≡ Ok ps → (σ : ℕ → ℕ)
    → ((k : ℕ) (p : Subgoal J) → slice_get ps k ≡ Some p → PremiseHolds Holds σ p) → Holds σ j
