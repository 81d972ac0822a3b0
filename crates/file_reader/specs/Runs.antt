-- What is read of nodes, statement by statement.
use Rattle.std.specs.Prelude.{◌≡◌, ℕ, ◌+◌, ◌<◌, ◌≤◌, Bool, List, length, Option, Some, None, Result, Ok, Err}
use Rattle.std.specs.Str.{IsUtf8}
use Rattle.cyc_lex.specs.declared.fault.ReadFault.{ReadFault}
use Rattle.cyc_lex.specs.declared.place.Place.{Place}
use Rattle.cyc_lex.specs.declared.place.Stop.{Stop}
use Rattle.cyc_lex.specs.Lexing.{HasRoom, Stops}
use Rattle.cyc_lex.specs.Placed.{Placed}
use Rattle.cyc_grammar.specs.declared.cursor.Refusal.{Refusal}
use Rattle.cyc_grammar.specs.declared.cursor.Refusal.TheVariants as refusals
use Rattle.piecewise_lex.specs.Taking.{reading, tokens_in, HasTaken}
use Rattle.file_reader.specs.declared.known.KnownFront.{KnownFront}
use Rattle.file_reader.specs.declared.known.Found.{Found}
use Rattle.file_reader.specs.declared.nodes.Ran.{Ran}
use Rattle.file_reader.specs.declared.nodes.NodeStep.{NodeStep}
use Rattle.file_reader.specs.declared.nodes.NodeStep.TheVariants as steps
use Rattle.file_reader.specs.Outcomes.{syntax_fault}
use Rattle.file_reader.specs.Stages.{Stage, Nodes, Dead}
use Rattle.file_reader.specs.Steps.{Takes}
use Rattle.file_reader.specs.Knowns.{begun_in, IsSteady}

-- ---- one statement

-- the tokens are a statement, and this is held after it
pub record IsStepTaken (k : KnownFront) (ts : List Placed) (old new : Found) : Type 0 where
  pub takes : Takes (Nodes (begun_in k old)) ts (Nodes (begun_in k new))
  pub tokens : new.tokens ≡ old.tokens + length ts
  pub steady : IsSteady k new

-- the first dead one of the tokens has so many to the end
pub record IsStepDead (k : KnownFront) (ts : List Placed) (old new : Found) (left : ℕ) : Type 0 where
  pub same : new ≡ old
  pub within : left ≤ length ts
  pub takes : Takes (Nodes (begun_in k old)) ts (Dead (syntax_fault old.tokens ts left))

abbrev pub IsStep : KnownFront → List Placed → Found → Found → NodeStep → Type 0
IsStep k ts old new steps.Taken = IsStepTaken k ts old new
IsStep k ts old new (steps.Dead left) = IsStepDead k ts old new left
IsStep k ts old new steps.Open = new ≡ old

-- what a refusal comes to
abbrev pub IsRefused : Refusal → NodeStep → Type 0
IsRefused (refusals.Dead n) (steps.Dead left) = (left ≡ n) × (0 < left)
IsRefused (refusals.Dead n) steps.Open = Unit {0}
IsRefused (refusals.Dead n) steps.Taken = ⊥
IsRefused refusals.OutOfMemory s = ⊥

-- ---- statement by statement

abbrev pub stage_in : KnownFront → Found → Option ReadFault → Stage
stage_in k f None = Nodes (begun_in k f)
stage_in k f (Some fault) = Dead fault

-- tokens at the front of a text were taken, and this is held after them
pub record IsRun (p : Place) (comment : Bool) (text : List ℕ) (k : KnownFront) (old new : Found) (r : Ran)
    : Type 0 where
  pub tokens : List Placed
  pub taken : HasTaken (reading p comment text) tokens (reading r.place r.comment r.rest.now)
  pub room : HasRoom r.place (length r.rest.now)
  pub utf8 : IsUtf8 r.rest.now
  pub few : new.tokens ≤ r.place.offset
  pub takes : Takes (Nodes (begun_in k old)) tokens (stage_in k new r.dead)
  pub steady : IsSteady k new

-- the fault is the first of the tokens that do not wait
abbrev pub Runs : Place → Bool → List ℕ → KnownFront → Found → Found → Result Ran Stop → Type 0
Runs p comment text k old new (Ok r) = IsRun p comment text k old new r
Runs p comment text k old new (Err e) = Stops e (tokens_in (reading p comment text))
