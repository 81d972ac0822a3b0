-- What the words ask for, and what success says.
use Rattle.std.specs.Prelude.{◌≤◌, ℕ, List, Option}
use Rattle.std.specs.Io.KnownBytes.{Appends}
use Rattle.cyc_runs.specs.Runs.{Answering, IsTold}
use Rattle.rule_logics.specs.Rules.{RuleValue}
use Rattle.rule_logics.specs.declared.texts.program.Task.{Task}
use Rattle.rule_logics.specs.declared.texts.program.Task.TheVariants.{Check, Prove, Usage}
use Rattle.rule_logics.specs.declared.texts.program.TheConstants.{MOST_SEARCHED}
use Rattle.rule_logics.specs.Text.{TextValue}
use Rattle.rule_logics.specs.Answers.{IsChecked, IsProvedWithin, SpellsProof, IsProofOf}

-- a search stays within the greatest depth
abbrev pub IsSearchable : Task → Type 0
IsSearchable (Prove depth) = depth ≤ MOST_SEARCHED
IsSearchable _ = Unit {0}

abbrev pub IsReading : Task → Type 0
IsReading Usage = ⊥
IsReading _ = Unit {0}

module _ {J R F : Type 0} (c : RuleValue J R F) (x : TextValue J R F) (Holds : (ℕ → ℕ) → J → Type 0) where
  abbrev pub IsAnswer : Task → Answering
  IsAnswer Check = IsChecked c x Holds
  IsAnswer (Prove depth) = IsProvedWithin c x Holds depth
  IsAnswer Usage = λ input ending text. Unit {0}

  -- what success says of the bytes that were told and of those that were written
  abbrev pub Succeeded : (J → Type 0) → Task → Option (List ℕ) → Option (List ℕ) → Option (List ℕ) → Type 0
  Succeeded Means Check told old new = (input : List ℕ) × IsTold told input × SpellsProof c x Holds Means input
  Succeeded Means (Prove depth) told old new = (input : List ℕ) × (text : List ℕ) × IsTold told input
      × Appends old new text × IsProofOf c x Holds Means text input
  Succeeded Means Usage told old new = ⊥
