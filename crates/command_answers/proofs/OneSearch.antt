-- The question whether a first-order problem has a proof has one answer, and what the answers say.
use Rattle.std.proofs.Common.{◌≡◌, ◌≤◌, ◌∙◌, ℕ, List, length, refl, sym, ap, subst, Some, Result, Ok, Err}
use Rattle.cyc_lex.specs.declared.fault.ReadFault.{ReadFault}
use Rattle.cyc_runs.specs.declared.endings.Status.{Status}
use Rattle.cyc_runs.specs.declared.endings.Status.TheVariants as status
use Rattle.cyc_runs.specs.Runs.{input_limit}
use Rattle.cyc_runs.proofs.WaysToEnd.{fault_fails, fault_is_no_refusal}
use Rattle.derivations.specs.declared.search.TheConstants.{DERIVATION_LIMIT}
use Rattle.derivations.specs.System.{Outcome, IsFound, IsNotFound, HasTooManyDerivations, HasTooManyStates, search_of}
use Rattle.fo_formula.specs.declared.nodes.FoFile.{FoFile}
use Rattle.fo_formula.specs.declared.nodes.FoReason.{FoReason}
use Rattle.fo_formula.specs.Validity.{SequentHolds}
use Rattle.derivations.specs.Tableau.{replay}
use Rattle.fo_search.specs.Calculus.{calculus_of}
use Rattle.fo_search.specs.Files.{proof_nodes}
use Rattle.logics.specs.declared.verdict.Verdict.TheVariants.{Accepted}
use Rattle.fo_file.specs.declared.values.problem.FoProblem.{FoProblem}
use Rattle.fo_file.specs.Reading.{text_of_file, IsRead, IsReadProblem, IsWritable}
use Rattle.fo_file.proofs.Readings.{text-is-read}
use Rattle.fo_search.specs.declared.prover.FoProved.{FoProved}
use Rattle.fo_search.specs.declared.prover.FoProved.TheVariants.{Found, NotFound, TooManyDerivations, TooManyStates}
use Rattle.fo_search.specs.Outcomes.{search_for, reasons_of, outcome_of, IsProofFor, IsProved}
use Rattle.check_answers.specs.Alike.{AreAlike}
use Rattle.check_answers.proofs.OneCheck.{one_some}
use Rattle.check_answers.proofs.OneFault.{one_fault_answer}
use Rattle.command_answers.proofs.Readings.{one_question_reading}
use Rattle.command_answers.specs.FirstOrderAnswers.{IsFirstOrderChecked, accepted_text, link_count}
use Rattle.command_answers.specs.Searches.{proved_status, proved_text, HasText, IsSearch, IsSearchSaid, IsSearchAnswer}
use Rattle.command_answers.specs.Searches.{IsFirstOrderSearched}

-- how a search with this outcome ends
abbrev outcome_status : Outcome FoReason → Status
outcome_status (IsFound d) = status.Success
outcome_status IsNotFound = status.NotFound
outcome_status HasTooManyDerivations = status.Limit
outcome_status HasTooManyStates = status.Limit

by_outcome : (a : FoProved) → proved_status a ≡ outcome_status (outcome_of a)
by_outcome (Found f) = refl
by_outcome NotFound = refl
by_outcome TooManyDerivations = refl
by_outcome TooManyStates = refl

-- ---- a search has one answer

found_reasons : (d e : List FoReason) → IsFound d ≡ IsFound e → d ≡ e
found_reasons d e same = cc

-- the reasons of a proof make its nodes, so the proof that is found is one
same_file : (p : FoProblem) (f g : FoFile) → IsProofFor p f → IsProofFor p g → reasons_of f ≡ reasons_of g → f ≡ g
same_file p f g first second reasons =
    let made = subst (λ rs. replay (calculus_of p.theory) p.goal rs ≡ Some first.tableau) reasons first.made in
    let tableau = one_some first.tableau second.tableau (replay (calculus_of p.theory) p.goal (reasons_of g))
    made second.made in
    let nodes = first.nodes ∙ (ap proof_nodes tableau ∙ sym second.nodes) in
    let theory = first.theory ∙ sym second.theory in λ i. record { theory = theory i; nodes = nodes i }

one_text : (depth : ℕ) (p : FoProblem) (a b : FoProved) → IsProved p a → IsProved p b → outcome_of a ≡ outcome_of b
    → proved_text depth a ≡ proved_text depth b
one_text depth p (Found f) (Found g) first second e = ap text_of_file
    (same_file p f g first second (found_reasons _ _ e))
one_text depth p (Found f) NotFound first second e = absurd cc
one_text depth p (Found f) TooManyDerivations first second e = absurd cc
one_text depth p (Found f) TooManyStates first second e = absurd cc
one_text depth p NotFound (Found g) first second e = absurd cc
one_text depth p NotFound NotFound first second e = refl
one_text depth p NotFound TooManyDerivations first second e = absurd cc
one_text depth p NotFound TooManyStates first second e = absurd cc
one_text depth p TooManyDerivations (Found g) first second e = absurd cc
one_text depth p TooManyDerivations NotFound first second e = absurd cc
one_text depth p TooManyDerivations TooManyDerivations first second e = refl
one_text depth p TooManyDerivations TooManyStates first second e = absurd cc
one_text depth p TooManyStates (Found g) first second e = absurd cc
one_text depth p TooManyStates NotFound first second e = absurd cc
one_text depth p TooManyStates TooManyDerivations first second e = absurd cc
one_text depth p TooManyStates TooManyStates first second e = refl

one_said : (depth : ℕ) (p q : FoProblem) (s t : Status) (xs ys : List ℕ) → p ≡ q → IsSearchSaid depth p s xs
    → IsSearchSaid depth q t ys → (s ≡ t) × (xs ≡ ys)
one_said depth p q s t xs ys same first second =
    let search = subst (λ r. IsSearch depth r first.0) same first.1 in
    let outcome = search.outcome ∙ sym second.1.outcome in (
      first.2 ∙ (by_outcome first.0 ∙ (ap outcome_status outcome ∙ (sym (by_outcome second.0) ∙ sym second.2))),
      first.3 ∙ (one_text depth q first.0 second.0 search.proof second.1.proof outcome ∙ sym second.3),
    )

one_search_answer : (depth : ℕ) (r q : Result FoProblem ReadFault) (s t : Status) (xs ys : List ℕ)
    → AreAlike (λ f g. f ≡ g) r q → IsSearchAnswer depth r s xs → IsSearchAnswer depth q t ys → (s ≡ t) × (xs ≡ ys)
one_search_answer depth (Ok p) (Ok q) s t xs ys same first second = one_said depth p q s t xs ys same first second
one_search_answer depth (Err a) (Err b) s t xs ys same first second = one_fault_answer a b s t xs ys same first second
one_search_answer depth (Ok p) (Err b) s t xs ys same first second = absurd same
one_search_answer depth (Err a) (Ok q) s t xs ys same first second = absurd same

-- an input has one answer
pub one_search : (depth : ℕ) (input : List ℕ) (s t : Status) (xs ys : List ℕ) → IsFirstOrderSearched depth input s xs
    → IsFirstOrderSearched depth input t ys → (s ≡ t) × (xs ≡ ys)
one_search depth input s t xs ys first second =
    one_search_answer depth first.1 second.1 s t xs ys (one_question_reading input first.1 second.1 first.2 second.2)
    first.3 second.3

-- and is within the limit
pub search_short : (depth : ℕ) (input : List ℕ) (s : Status) (xs : List ℕ) → IsFirstOrderSearched depth input s xs
    → length input ≤ input_limit
search_short depth input s xs is = is.0

-- ---- what is found

-- the goal of a problem that has a proof holds
goal_holds : (p : FoProblem) (f : FoFile) → IsProofFor p f → SequentHolds p.theory p.goal
goal_holds p f h =
    subst (λ t. SequentHolds t p.goal) h.theory (subst (λ s. SequentHolds f.theory s) h.goal (h.holds h.root h.is_root))

success_found : (p : FoProblem) (a : FoProved) → IsProved p a → status.Success ≡ proved_status a
    → SequentHolds p.theory p.goal
success_found p (Found f) is e = goal_holds p f is
success_found p NotFound is e = absurd cc
success_found p TooManyDerivations is e = absurd cc
success_found p TooManyStates is e = absurd cc

read_proves : (depth : ℕ) (input : List ℕ) (r : Result FoProblem ReadFault) (xs : List ℕ) → IsReadProblem input r
    → IsSearchAnswer depth r status.Success xs → (p : FoProblem) × IsReadProblem input (Ok p)
    × SequentHolds p.theory p.goal
read_proves depth input (Ok p) xs is answer = (p, is, success_found p answer.0 answer.1.proof answer.2)
read_proves depth input (Err fault) xs is answer = absurd (fault_fails fault answer.0)

-- success says that the goal of the problem that was read holds in every valuation, under the least meaning
pub success_proves : (depth : ℕ) (input xs : List ℕ) → IsFirstOrderSearched depth input status.Success xs
    → (p : FoProblem) × IsReadProblem input (Ok p) × SequentHolds p.theory p.goal
success_proves depth input xs is = read_proves depth input is.1 xs is.2 is.3

search_refuses_not : (a : FoProved) → status.Refused ≡ proved_status a → ⊥
search_refuses_not (Found f) e = cc
search_refuses_not NotFound e = cc
search_refuses_not TooManyDerivations e = cc
search_refuses_not TooManyStates e = cc

read_refuses_not : (depth : ℕ) (r : Result FoProblem ReadFault) (xs : List ℕ) → IsSearchAnswer depth r status.Refused xs
    → ⊥
read_refuses_not depth (Ok p) xs answer = search_refuses_not answer.0 answer.2
read_refuses_not depth (Err fault) xs answer = fault_is_no_refusal fault answer.0

-- a search refuses nothing
pub searched_refuses_not : (depth : ℕ) (input xs : List ℕ) → IsFirstOrderSearched depth input status.Refused xs → ⊥
searched_refuses_not depth input xs is = read_refuses_not depth is.1 xs is.3

-- ---- a check accepts what is found

proof_checked : (p : FoProblem) (f : FoFile) (text : List ℕ) → IsProofFor p f → IsWritable f → text ≡ text_of_file f
    → length text ≤ input_limit → (line : List ℕ) × IsFirstOrderChecked text status.Success line
proof_checked p f text h writable e short = (
  accepted_text (length f.nodes) (link_count f.nodes),
  (
    short,
    Ok f,
    subst (λ bytes. IsRead bytes (Ok f)) (sym e) (text-is-read f writable),
    (Accepted, (h.correct, h.states, h.holds), refl, refl),
  ),
)

success_checked : (depth : ℕ) (p : FoProblem) (a : FoProved) (text : List ℕ) → IsProved p a → HasText a
    → status.Success ≡ proved_status a → text ≡ proved_text depth a → length text ≤ input_limit
    → (line : List ℕ) × IsFirstOrderChecked text status.Success line
success_checked depth p (Found f) text is has e said short = proof_checked p f text is has said short
success_checked depth p NotFound text is has e said short = absurd cc
success_checked depth p TooManyDerivations text is has e said short = absurd cc
success_checked depth p TooManyStates text is has e said short = absurd cc

read_checked : (depth : ℕ) (r : Result FoProblem ReadFault) (text : List ℕ) → IsSearchAnswer depth r status.Success text
    → length text ≤ input_limit → (line : List ℕ) × IsFirstOrderChecked text status.Success line
read_checked depth (Ok p)
    text answer short = success_checked depth p answer.0 text answer.1.proof answer.1.text answer.2 answer.3 short
read_checked depth (Err fault) text answer short = absurd (fault_fails fault answer.0)

pub found_is_checked : (depth : ℕ) (input text : List ℕ) → IsFirstOrderSearched depth input status.Success text
    → length text ≤ input_limit → (line : List ℕ) × IsFirstOrderChecked text status.Success line
found_is_checked depth input text is short = read_checked depth is.1 text is.3 short

-- ---- a search that finds ends with success

said_finds : (depth : ℕ) (p q : FoProblem) (d : List FoReason) (s : Status) (text : List ℕ) → p ≡ q
    → search_of (search_for q) DERIVATION_LIMIT depth ≡ IsFound d → IsSearchSaid depth p s text → s ≡ status.Success
said_finds depth p q d s text same found said =
    said.2 ∙ (by_outcome said.0 ∙ ap outcome_status (said.1.outcome
    ∙ (ap (λ r. search_of (search_for r) DERIVATION_LIMIT depth) same ∙ found)))

read_finds : (depth : ℕ) (r : Result FoProblem ReadFault) (q : FoProblem) (d : List FoReason) (s : Status)
    (text : List ℕ) → AreAlike (λ f g. f ≡ g) r (Ok q) → search_of (search_for q) DERIVATION_LIMIT depth ≡ IsFound d
    → IsSearchAnswer depth r s text → s ≡ status.Success
read_finds depth (Ok p) q d s text same found answer = said_finds depth p q d s text same found answer
read_finds depth (Err fault) q d s text same found answer = absurd same

pub search_finds : (depth : ℕ) (input : List ℕ) (q : FoProblem) (d : List FoReason) (s : Status) (text : List ℕ)
    → IsReadProblem input (Ok q) → search_of (search_for q) DERIVATION_LIMIT depth ≡ IsFound d
    → IsFirstOrderSearched depth input s text → s ≡ status.Success
search_finds depth input q d s text is found searched =
    read_finds depth searched.1 q d s text (one_question_reading input searched.1 (Ok q) searched.2 is) found searched.3
