-- The searches for one problem have one answer, and what they find is a proof.
use Rattle.std.proofs.Common.{◌≡◌, ℕ, ◌≤◌, List, Ok, Some, inr, refl, sym, ap, subst, ◌∙◌, length}
use Rattle.cyc_basics.specs.declared.limits.Limits.{Limits}
use Rattle.heap_formula.specs.declared.commands.Command.{Command}
use Rattle.heap_formula.specs.declared.proof_rules.Reason.{Reason}
use Rattle.heap_formula.specs.Definitions.{Definition}
use Rattle.heap_formula.specs.Judgements.{JudgementHolds}
use Rattle.pred_defs.specs.Book.{DefinitionBook}
use Rattle.derivations.specs.System.{Outcome, IsFound, IsNotFound, HasTooManyDerivations, HasTooManyStates, search_of}
use Rattle.formula_reader.specs.declared.problem.Problem.{Problem}
use Rattle.formula_reader.specs.Reading.{AreSame}
use Rattle.proof_file.specs.declared.file.ProofFile.{ProofFile}
use Rattle.proof_file.specs.Reading.{IsRead}
use Rattle.proof_file.specs.Written.{text_of_file}
use Rattle.proof_file.proofs.TextReadings.{text_is_read}
use Rattle.logics.specs.declared.verdict.Verdict.TheVariants.{Accepted}
use Rattle.derivations.specs.Tableau.{replay}
use Rattle.search_moves.specs.Settings.{theory}
use Rattle.search_moves.specs.Trying.{Theory}
use Rattle.proof_search.specs.Calculus.{calculus_of, search_system}
use Rattle.proof_search.specs.Found.{nodes_made}
use Rattle.check_answers.proofs.OneCheck.{one_some}
use Rattle.proof_search.specs.declared.prover.Proved.{Proved}
use Rattle.proof_search.specs.declared.prover.Proved.TheVariants.{Found, NotFound, TooManyDerivations, TooManyStates}
use Rattle.proof_search.specs.Outcomes.{outcome_of, reasons_of, search_for, IsProofFor, IsProved}
use Rattle.cyc_words.specs.declared.tasks.Task.TheVariants.{Check}
use Rattle.cyc_runs.specs.declared.endings.Status.{Status}
use Rattle.cyc_runs.specs.declared.endings.Status.TheVariants as status
use Rattle.cyc_runs.specs.Runs.{input_limit}
use Rattle.check_answers.specs.Answers.{nodes_text}
use Rattle.cyc_top.specs.Answers.{IsAnswer, IsSearch, derivation_limit, file_text, proved_status, proved_text}

-- how a search with this outcome ends
abbrev outcome_status : Outcome Reason → Status
outcome_status (IsFound d) = status.Success
outcome_status IsNotFound = status.NotFound
outcome_status HasTooManyDerivations = status.Limit
outcome_status HasTooManyStates = status.Limit

by_outcome : (a : Proved) → proved_status a ≡ outcome_status (outcome_of a)
by_outcome (Found f) = refl
by_outcome NotFound = refl
by_outcome TooManyDerivations = refl
by_outcome TooManyStates = refl

-- the theory of these definitions and this program
abbrev theory_at : Limits → List Definition → List Command → Theory
theory_at most ds lines = record { most = most; definitions = ds; lines = lines }

-- problems that say the same are searched in one theory
same_theory : (p q : Problem) → AreSame p q → theory p.defs p.program ≡ theory q.defs q.program
same_theory p q same =
    ap (λ most. theory_at most p.defs.list p.program) same.most
    ∙ ap (λ ds. theory_at q.defs.most ds p.program) same.definitions
    ∙ ap (λ lines. theory_at q.defs.most q.defs.list lines) same.program

-- and by one search
same_search : (p q : Problem) → AreSame p q → search_for p ≡ search_for q
same_search p q same =
    ap (λ t. search_system t p.goal) (same_theory p q same)
    ∙ ap (λ j. search_system (theory q.defs q.program) j) same.goal

-- a search that finds ends with success
pub found_search : (depth : ℕ) (p q : Problem) (a : Proved) (d : List Reason) → AreSame p q
    → outcome_of a ≡ search_of (search_for p) derivation_limit depth
    → search_of (search_for q) derivation_limit depth ≡ IsFound d → proved_status a ≡ status.Success
found_search depth p q a d same is found =
    by_outcome a ∙ ap outcome_status (is ∙ ap (λ s. search_of s derivation_limit depth) (same_search p q same) ∙ found)

-- ---- a search has one answer

found_reasons : (d e : List Reason) → IsFound d ≡ IsFound e → d ≡ e
found_reasons d e same = cc

-- the reasons of a proof make its nodes
same_nodes : (p q : Problem) (f g : ProofFile) → AreSame p q → IsProofFor p f → IsProofFor q g
    → reasons_of f ≡ reasons_of g → f.nodes ≡ g.nodes
same_nodes p q f g same first second reasons =
    let with_reasons = subst (λ rs. replay (calculus_of (theory p.defs p.program)) p.goal rs ≡ Some first.tableau)
    reasons first.made in
    let with_goal = subst (λ j. replay (calculus_of (theory p.defs p.program)) j (reasons_of g) ≡ Some first.tableau)
    same.goal with_reasons in
    let made = subst (λ t. replay (calculus_of t) q.goal (reasons_of g) ≡ Some first.tableau) (same_theory p q same)
    with_goal in
    let tableau = one_some first.tableau second.tableau
    (replay (calculus_of (theory q.defs q.program)) q.goal (reasons_of g)) made second.made in
    first.nodes ∙ ap nodes_made tableau ∙ sym second.nodes

-- so the file that is found is one
same_file : (p q : Problem) (f g : ProofFile) → AreSame p q → IsProofFor p f → IsProofFor q g
    → reasons_of f ≡ reasons_of g → file_text f ≡ file_text g
same_file p q f g same first second reasons =
    let version = first.version ∙ same.version ∙ sym second.version in
    let definitions = ap (λ (book : DefinitionBook). book.list) first.definitions ∙ same.definitions
    ∙ sym (ap (λ (book : DefinitionBook). book.list) second.definitions) in
    let program = first.program ∙ same.program ∙ sym second.program in
    let nodes = same_nodes p q f g same first second reasons in
    λ i. text_of_file (version i) (definitions i) (program i) (nodes i)

one_text : (depth : ℕ) (p q : Problem) (a b : Proved) → AreSame p q → IsProved p a → IsProved q b
    → outcome_of a ≡ outcome_of b → proved_text depth a ≡ proved_text depth b
one_text depth p q (Found f) (Found g) same first second e = same_file p q f g same first second (found_reasons _ _ e)
one_text depth p q (Found f) NotFound same first second e = absurd cc
one_text depth p q (Found f) TooManyDerivations same first second e = absurd cc
one_text depth p q (Found f) TooManyStates same first second e = absurd cc
one_text depth p q NotFound (Found g) same first second e = absurd cc
one_text depth p q NotFound NotFound same first second e = refl
one_text depth p q NotFound TooManyDerivations same first second e = absurd cc
one_text depth p q NotFound TooManyStates same first second e = absurd cc
one_text depth p q TooManyDerivations (Found g) same first second e = absurd cc
one_text depth p q TooManyDerivations NotFound same first second e = absurd cc
one_text depth p q TooManyDerivations TooManyDerivations same first second e = refl
one_text depth p q TooManyDerivations TooManyStates same first second e = absurd cc
one_text depth p q TooManyStates (Found g) same first second e = absurd cc
one_text depth p q TooManyStates NotFound same first second e = absurd cc
one_text depth p q TooManyStates TooManyDerivations same first second e = absurd cc
one_text depth p q TooManyStates TooManyStates same first second e = refl

-- the searches for one problem have one answer
pub one_search : (depth : ℕ) (p q : Problem) (a b : Proved) → AreSame p q → IsSearch depth p a → IsSearch depth q b
    → (proved_status a ≡ proved_status b) × (proved_text depth a ≡ proved_text depth b)
one_search depth p q a b same first second =
    let outcome = first.0 ∙ ap (λ s. search_of s derivation_limit depth) (same_search p q same) ∙ sym second.0 in (
      by_outcome a ∙ ap outcome_status outcome ∙ sym (by_outcome b),
      one_text depth p q a b same first.1 second.1 outcome,
    )

-- ---- what is found

-- the goal of a problem that has a proof holds
pub goal_holds : (p : Problem) (f : ProofFile) → IsProofFor p f → JudgementHolds p.defs.list p.program p.goal
goal_holds p f h =
    let root : JudgementHolds f.defs.list f.program h.root.judgement = h.holds h.root h.is_root in
    subst (λ (book : DefinitionBook). JudgementHolds book.list p.program p.goal) h.definitions
    (subst (λ lines. JudgementHolds f.defs.list lines p.goal) h.program
    (subst (λ j. JudgementHolds f.defs.list f.program j) h.goal root))

-- a check accepts the text of a proof
pub proof_accepted : (p : Problem) (f : ProofFile) (text : List ℕ) → IsProofFor p f → text ≡ file_text f
    → length text ≤ input_limit → (line : List ℕ) × IsAnswer (Some Check) text status.Success line
proof_accepted p f text h e short = (
  nodes_text f.program f.nodes,
  inr (
    short,
    Ok f,
    subst (λ bytes. IsRead bytes (Ok f)) (sym e) (text_is_read f),
    (Accepted, (h.correct, h.states, h.holds), refl, refl),
  ),
)
