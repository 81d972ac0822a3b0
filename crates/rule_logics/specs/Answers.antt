-- What the commands answer.
use Rattle.std.specs.Prelude.{◌≡◌, ◌<◌, ◌≤◌, ◌⊎◌, ℕ, Bool, true, false, List, [], ◌++◌, length, codes, decimal}
use Rattle.std.specs.Prelude.{count_by, slice_get, Some, Result, Ok, Err}
use Rattle.cyc_lex.specs.declared.fault.ReadFault.{ReadFault}
use Rattle.cyc_runs.specs.declared.endings.Status.{Status}
use Rattle.cyc_runs.specs.declared.endings.Status.TheVariants as status
use Rattle.cyc_runs.specs.Faults.{IsFaultAnswer}
use Rattle.cyc_runs.specs.Runs.{Answering, input_limit}
use Rattle.cyc_runs.specs.Texts.{path_refused_text, not_found_text, derivations_limit_text, states_limit_text}
use Rattle.derivations.specs.declared.search.TheConstants.{DERIVATION_LIMIT}
use Rattle.derivations.specs.System.{Outcome, search_of, IsFound, IsNotFound, HasTooManyDerivations, HasTooManyStates}
use Rattle.logics.specs.declared.node.ProofNode.{ProofNode}
use Rattle.logics.specs.declared.verdict.Verdict.{Verdict}
use Rattle.logics.specs.declared.verdict.Verdict.TheVariants.{Accepted, RuleRefused, PathRefused, TooManyStates}
use Rattle.logics.specs.Verdicts.{IsVerdict}
use Rattle.rule_logics.specs.declared.reasons.Reason.{Reason}
use Rattle.rule_logics.specs.declared.reasons.Reason.TheVariants as reason
use Rattle.rule_logics.specs.declared.reasons.NodeFault.{NodeFault}
use Rattle.rule_logics.specs.declared.reasons.NodeFault.TheVariants.{Rule, LinkDiffers, PremiseCount, PremiseDiffers}
use Rattle.rule_logics.specs.declared.reasons.NodeFault.TheVariants.{NoSuchNode}
use Rattle.rule_logics.specs.Rules.{RuleValue}
use Rattle.rule_logics.specs.Logic.{logic_by}
use Rattle.rule_logics.specs.Searches.{search_by}
use Rattle.rule_logics.specs.declared.texts.answers.TheConstants.{MOST_FILE_NODES}
use Rattle.rule_logics.specs.Text.{TextValue}
use Rattle.rule_logics.specs.Grammar.{read_problem, read_proof}
use Rattle.rule_logics.specs.Reading.{Reads}

-- ---- lines

abbrev pub fault_name_of : {J R F : Type 0} → TextValue J R F → NodeFault F → List ℕ
fault_name_of x (Rule f) = x.fault f
fault_name_of x LinkDiffers = codes "LinkDiffers"
fault_name_of x PremiseCount = codes "PremiseCount"
fault_name_of x (PremiseDiffers place) = codes "PremiseDiffers"
fault_name_of x NoSuchNode = codes "NoSuchNode"

abbrev pub place_text : {F : Type 0} → NodeFault F → List ℕ
place_text (PremiseDiffers place) = codes " " ++ decimal place
place_text _ = []

abbrev pub fault_line : {J R F : Type 0} → TextValue J R F → ℕ → NodeFault F → List ℕ
fault_line x v fault = codes "refused node " ++ decimal v ++ codes " " ++ fault_name_of x fault ++ place_text fault
    ++ codes "\n"

abbrev pub is_link : {J R : Type 0} → ProofNode J (Reason R) → Bool
is_link {J} {R} n = by_reason n.reason
  where
    by_reason : Reason R → Bool
    by_reason (reason.Rule r) = false
    by_reason (reason.Link target) = true

abbrev pub accepted_line : {J R F : Type 0} → TextValue J R F → List (ProofNode J (Reason R)) → List ℕ
accepted_line x nodes = codes "accepted " ++ x.kind ++ codes " nodes " ++ decimal (length nodes) ++ codes " links "
    ++ decimal (count_by is_link nodes) ++ codes "\n"

abbrev pub usage_line : List ℕ → List ℕ
usage_line title = codes "usage: " ++ title ++ codes " check | prove [--depth N]" ++ codes "\n"

abbrev pub verdict_status : {F : Type 0} → Verdict F → Status
verdict_status Accepted = status.Success
verdict_status (RuleRefused v fault) = status.Refused
verdict_status (PathRefused lasso) = status.Refused
verdict_status TooManyStates = status.Limit

abbrev pub verdict_text : {J R F : Type 0} → TextValue J R F → List (ProofNode J (Reason R)) → Verdict (NodeFault F)
    → List ℕ
verdict_text x nodes Accepted = accepted_line x nodes
verdict_text x nodes (RuleRefused v fault) = fault_line x v fault
verdict_text x nodes (PathRefused lasso) = path_refused_text lasso
verdict_text x nodes TooManyStates = codes "limit states\n"

-- there is no node 0, or there are too many nodes, or else the verdict on them
pub data IsProofAnswer {J R F : Type 0} (c : RuleValue J R F) (x : TextValue J R F) (Holds : (ℕ → ℕ) → J → Type 0)
    (nodes : List (ProofNode J (Reason R))) (ending : Status) (text : List ℕ) : Type 0 where
  HasNone : length nodes ≡ 0 → ending ≡ status.Refused → text ≡ codes "refused node 0 NoSuchNode\n"
      → IsProofAnswer c x Holds nodes ending text
  HasMany : MOST_FILE_NODES < length nodes → ending ≡ status.Limit → text ≡ codes "limit nodes\n"
      → IsProofAnswer c x Holds nodes ending text
  HasVerdict : 0 < length nodes → (v : Verdict (NodeFault F)) → IsVerdict (logic_by c) Holds nodes v
      → ending ≡ verdict_status v → text ≡ verdict_text x nodes v → IsProofAnswer c x Holds nodes ending text

-- the nodes are a proof of the goal that is accepted
pub record AreProof {J R F : Type 0} (c : RuleValue J R F) (Holds : (ℕ → ℕ) → J → Type 0) (goal : J)
    (nodes : List (ProofNode J (Reason R))) : Type 0 where
  pub root : ProofNode J (Reason R)
  pub is_root : slice_get nodes 0 ≡ Some root
  pub proves : root.judgement ≡ goal
  pub accepted : IsVerdict (logic_by c) Holds nodes Accepted

module _ {J R F : Type 0} (c : RuleValue J R F) (x : TextValue J R F) (Holds : (ℕ → ℕ) → J → Type 0) where
  -- ---- check

  abbrev pub IsReadAnswer : Result (List (ProofNode J (Reason R))) ReadFault → Status → List ℕ → Type 0
  IsReadAnswer (Ok nodes) ending text = IsProofAnswer c x Holds nodes ending text
  IsReadAnswer (Err fault) ending text = IsFaultAnswer fault ending text

  -- the input is read as a proof, and answered so
  abbrev pub IsChecked : Answering
  IsChecked input ending text = (r : Result (List (ProofNode J (Reason R))) ReadFault)
      × Reads (λ ns. ns) (read_proof x) input r × IsReadAnswer r ending text

  -- ---- prove

  -- the text is a proof of the goal, which `check` accepts
  pub record IsAccepted (goal : J) (text : List ℕ) : Type 0 where
    pub within : length text ≤ input_limit
    pub nodes : List (ProofNode J (Reason R))
    pub read : Reads (λ (ns : List (ProofNode J (Reason R))). ns) (read_proof x) text (Ok nodes)
    pub proof : AreProof c Holds goal nodes

  -- a proof of the goal; or what was found is not accepted as it is written
  abbrev pub IsGiven : J → Status → List ℕ → Type 0
  IsGiven goal ending text = (ending ≡ status.Success) × IsAccepted goal text
      ⊎ (ending ≡ status.Limit) × (text ≡ codes "limit text\n")

  -- what is answered where the search ends so
  abbrev pub IsSaid : ℕ → J → Outcome (Reason R) → Status → List ℕ → Type 0
  IsSaid depth goal (IsFound derivation) ending text = IsGiven goal ending text
  IsSaid depth goal IsNotFound ending text = (ending ≡ status.NotFound) × (text ≡ not_found_text depth)
  IsSaid depth goal HasTooManyDerivations ending text = (ending ≡ status.Limit) × (text ≡ derivations_limit_text)
  IsSaid depth goal HasTooManyStates ending text = (ending ≡ status.Limit) × (text ≡ states_limit_text)

  -- how the search for a proof of the goal ends
  pub record IsFoundAnswer (depth : ℕ) (goal : J) (ending : Status) (text : List ℕ) : Type 0 where
    pub said : IsSaid depth goal (search_of (search_by c goal) DERIVATION_LIMIT depth) ending text

  abbrev pub IsGoalAnswer : ℕ → Result J ReadFault → Status → List ℕ → Type 0
  IsGoalAnswer depth (Ok goal) ending text = IsFoundAnswer depth goal ending text
  IsGoalAnswer depth (Err fault) ending text = IsFaultAnswer fault ending text

  -- the input is read as a judgement, and answered so
  abbrev pub IsProvedWithin : ℕ → Answering
  IsProvedWithin depth input ending text = (r : Result J ReadFault) × Reads (λ s. s) (read_problem x) input r
      × IsGoalAnswer depth r ending text

  -- ---- what success says

  module _ (Means : J → Type 0) where
    -- the bytes spell a proof, whose root is true
    abbrev pub SpellsProof : List ℕ → Type 0
    SpellsProof input =
        (nodes : (List (ProofNode J (Reason R)))) × Reads (λ (ns : (List (ProofNode J (Reason R)))). ns) (read_proof x)
        input (Ok nodes) × ((root : ProofNode J (Reason R)) × (slice_get nodes 0 ≡ Some root)
        × Means root.judgement)

    -- the bytes spell what is true, and the text is a proof of it that is accepted
    abbrev pub IsProofOf : List ℕ → List ℕ → Type 0
    IsProofOf text input = (goal : J) × Reads (λ (s : J). s) (read_problem x) input (Ok goal) × Means goal
        × IsAccepted goal text
