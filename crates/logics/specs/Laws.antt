-- What has to be so of a logic, for the judgements that may occur and the reasons that may be given.
use Rattle.std.specs.Prelude.{ℕ, ◌≡◌, ◌≤◌, true, List, Some, Ok, slice_get, length}
use Rattle.trace_pairs.specs.Graph.{Pair, Falls}
use Rattle.trace_pairs.specs.System.{AreIn}
use Rattle.logics.specs.declared.premises.Subgoal.{Subgoal}
use Rattle.logics.specs.declared.node.ProofNode.{ProofNode}
use Rattle.logics.specs.Logics.{LogicValue}

-- the pairs lead from positions of the judgement to positions of the premise
abbrev pub Fits : {J R F : Type 0} → LogicValue J R F → J → Subgoal J → Type 0
Fits c j p = AreIn p.pairs (c.positions j) (c.positions p.judgement)

-- a rule's premises are few, and their pairs fit
pub record ArePremises {J R F : Type 0} (c : LogicValue J R F) (j : J) (ps : List (Subgoal J)) : Type 0 where
  pub few : length ps ≤ 256
  pub fit : (k : ℕ) (p : Subgoal J) → slice_get ps k ≡ Some p → Fits c j p

pub record IsInOrder {J R F : Type 0} (c : LogicValue J R F) (Occurs : J → Type 0) (Allows : J → R → Type 0)
    : Type 0 where
  pub same : (j k : J) → c.same j k ≡ true → j ≡ k
  pub rules : (j : J) (r : R) (ps : List (Subgoal J)) → Occurs j → Allows j r → c.premises j r ≡ Ok ps
      → ArePremises c j ps
  pub links : (j : J) (r : R) (k : J) (pairs : List Pair) → Occurs j → Occurs k → Allows j r
      → c.pairs_back j r k ≡ Ok pairs →
      AreIn pairs (c.positions j) (c.positions k)

-- the premise holds at all stages that follow these along its pairs
abbrev pub PremiseHolds : {J : Type 0} → ((ℕ → ℕ) → J → Type 0) → (ℕ → ℕ) → Subgoal J → Type 0
PremiseHolds Holds σ p = (τ : ℕ → ℕ) → Falls p.pairs σ τ → Holds τ p.judgement

-- at all stages the judgement holds if each premise, or the companion, holds at the stages that follow
pub record IsLocallySound {J R F : Type 0} (c : LogicValue J R F) (Occurs : J → Type 0) (Allows : J → R → Type 0)
    (Holds : (ℕ → ℕ) → J → Type 0) : Type 0 where
  pub rules : (j : J) (r : R) (ps : List (Subgoal J)) → Occurs j → Allows j r → c.premises j r ≡ Ok ps → (σ : ℕ → ℕ) →
      ((k : ℕ) (p : Subgoal J) → slice_get ps k ≡ Some p → PremiseHolds Holds σ p) → Holds σ j
  pub links : (j : J) (r : R) (k : J) (pairs : List Pair) → Occurs j → Occurs k → Allows j r
      → c.pairs_back j r k ≡ Ok pairs → (σ : ℕ → ℕ) →
      ((τ : ℕ → ℕ) → Falls pairs σ τ → Holds τ k) → Holds σ j

-- each judgement may occur, and each reason may be given
pub record MayStand {J R : Type 0} (Occurs : J → Type 0) (Allows : J → R → Type 0) (nodes : List (ProofNode J R))
    : Type 0 where
  pub occurs : (v : ℕ) (node : ProofNode J R) → slice_get nodes v ≡ Some node → Occurs node.judgement
  pub allowed : (v : ℕ) (node : ProofNode J R) → slice_get nodes v ≡ Some node → Allows node.judgement node.reason
