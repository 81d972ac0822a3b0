-- What is so of an answer, and what success says.
use Rattle.std.proofs.Common.{◌≡◌, ◌+◌, ◌-◌, ◌<◌, ℕ, suc, Bool, true, refl, sym, ap, ◌∙◌, subst, arith, List, [], ◌∷◌}
use Rattle.std.proofs.Common.{zero, false, ◌++◌, length, Some, inl, inr}
use Rattle.std.proofs.lemmas.List.{append-nil}
use Rattle.std.specs.Prelude.{Result, Ok, Err, IfOk, slice_get, map}
use Rattle.cyc_lex.specs.declared.fault.ReadFault.{ReadFault}
use Rattle.cyc_lex.specs.declared.fault.ReadFault.TheVariants as faults
use Rattle.cyc_lex.specs.Placed.{Placed}
use Rattle.cyc_lex.specs.Word.{Word, word_of}
use Rattle.cyc_grammar.specs.declared.cursor.Refusal.{Refusal}
use Rattle.cyc_grammar.specs.declared.cursor.Refusal.TheVariants.{Dead, OutOfMemory}
use Rattle.cyc_grammar.specs.Classes.{number}
use Rattle.cyc_grammar.specs.Giving.{Fails, with_front}
use Rattle.cyc_grammar.specs.Syntax.{Reading, Syntax, read_class, read_many, begins, is_one}
use Rattle.cyc_grammar.proofs.Loop.{regroup}
use Rattle.cyc_runs.specs.declared.answers.Answer.{Answer}
use Rattle.cyc_runs.specs.declared.endings.Status.{Status}
use Rattle.cyc_runs.specs.declared.endings.Status.TheVariants as status
use Rattle.cyc_runs.proofs.WaysToEnd.{fault_fails}
use Rattle.derivations.specs.declared.search.TheConstants.{DERIVATION_LIMIT}
use Rattle.derivations.specs.System.{Outcome, search_of, IsFound, IsNotFound, HasTooManyDerivations, HasTooManyStates}
use Rattle.derivations.specs.declared.found.searching.Proved.{Proved}
use Rattle.derivations.specs.Outcomes.{outcome_of}
use Rattle.logics.specs.declared.node.ProofNode.{ProofNode}
use Rattle.logics.specs.declared.verdict.Verdict.{Verdict}
use Rattle.logics.specs.declared.verdict.Verdict.TheVariants.{Accepted, RuleRefused, PathRefused, TooManyStates}
use Rattle.logics.specs.Verdicts.{IsVerdict}
use Rattle.rule_logics.specs.declared.reasons.Reason.{Reason}
use Rattle.rule_logics.specs.declared.reasons.NodeFault.{NodeFault}
use Rattle.rule_logics.specs.Rules.{RuleValue}
use Rattle.rule_logics.specs.Logic.{logic_by}
use Rattle.rule_logics.specs.Searches.{search_by}
use Rattle.rule_logics.specs.Text.{TextValue}
use Rattle.rule_logics.specs.Grammar.{read_more, read_problem, read_proof}
use Rattle.rule_logics.specs.Reading.{IsFaultOf, Reads, ReadsFrom, whole}
use Rattle.rule_logics.specs.Answers.{IsProofAnswer, HasNone, HasMany, HasVerdict, verdict_status, IsReadAnswer}
use Rattle.rule_logics.specs.Answers.{IsChecked, IsAccepted, IsSaid, IsFoundAnswer, IsGoalAnswer, IsProvedWithin}
use Rattle.rule_logics.specs.Answers.{SpellsProof}
use Rattle.rule_logics.specs.Answers.{IsProofOf}

-- of two facts a third
pub both_ok : {X E : Type 0} (r : Result X E) (P Q R : X → Type 0) → ((x : X) → P x → Q x → R x) → IfOk r P → IfOk r Q
    → IfOk r R
both_ok (Ok x) P Q R f p q = f x p q
both_ok (Err e) P Q R f p q = tt

-- of three facts a fourth
pub three_ok : {X E : Type 0} (r : Result X E) (P Q R S : X → Type 0) → ((x : X) → P x → Q x → R x → S x) → IfOk r P
    → IfOk r Q → IfOk r R → IfOk r S
three_ok (Ok x) P Q R S f p q r = f x p q r
three_ok (Err e) P Q R S f p q r = tt

-- ---- reading

pub told : {X A : Type 0} (view : X → A) (read : List Word → Reading A) (ts : List Placed) (refusal : Refusal)
    (fault : ReadFault) → Fails refusal (whole (read (map word_of ts))) → IsFaultOf ts refusal fault
    → ReadsFrom view read ts (Err fault)
told view read ts OutOfMemory fault f is = subst (λ (g : ReadFault). ReadsFrom view read ts (Err g)) (sym is) tt
told view read ts (Dead left) (faults.Syntax token line column) f is = (left, f, is)
told view read ts (Dead left) (faults.Lex fault) f is = absurd is
told view read ts (Dead left) (faults.IllFormed fault token line column) f is = absurd is
told view read ts (Dead left) (faults.Limit what token line column) f is = absurd is
told view read ts (Dead left) faults.OutOfMemory f is = absurd is

-- a fault says nothing of a value
pub fault_read : {X Y A : Type 0} (view : X → A) (other : Y → A) (read : List Word → Reading A) (bytes : List ℕ)
    (fault : ReadFault) → Reads view read bytes (Err fault) → Reads other read bytes (Err fault)
fault_read view other read bytes (faults.Syntax token line column) h = h
fault_read view other read bytes (faults.Lex fault) h = h
fault_read view other read bytes (faults.IllFormed fault token line column) h = h
fault_read view other read bytes (faults.Limit what token line column) h = h
fault_read view other read bytes faults.OutOfMemory h = h

-- no item begins here
pub no_more : {A : Type 0} (test : Word → Bool) (a : Syntax A) (front : List A) (n : ℕ) (ts : List Word)
    (total : Reading (List A)) → begins test ts ≡ false → with_front front (read_many test a n ts) ≡ total
    → total ≡ Ok (front, ts)
no_more test a front zero ts total none so_far = sym so_far ∙ rw none (ap (λ v. Ok (v, ts)) (append-nil front))
no_more test a front (suc n) ts total none so_far = sym so_far ∙ rw none (ap (λ v. Ok (v, ts)) (append-nil front))

-- one number more
pub number_more : (front : List ℕ) (n i m : ℕ) (ts rest : List Word) (total : Reading (List ℕ)) → i < n
    → begins (is_one number) ts ≡ true → read_class number ts ≡ Ok (m, rest) →
    with_front front (read_more (n - i) ts) ≡ total
    → with_front (front ++ m ∷ []) (read_more (n - (i + 1)) rest) ≡ total
number_more front n i m ts rest total lt begin read so_far =
    let k : n - i ≡ suc (n - (i + 1)) = omega arith in
    let one : with_front front (read_more (n - i) ts)
    ≡ with_front (front ++ m ∷ []) (read_more (n - (i + 1)) rest) = rw (k, begin, read)
    (regroup front m (read_more (n - (i + 1)) rest)) in
    sym one ∙ so_far

-- ---- the search

-- what is said of how a search ends
pub said : {J R F : Type 0} (c : RuleValue J R F) (x : TextValue J R F) (Holds : (ℕ → ℕ) → J → Type 0) (depth : ℕ)
    (goal : J) (p q : Proved J (Reason R)) → p ≡ q
    → outcome_of p ≡ search_of (search_by c goal) DERIVATION_LIMIT depth → (ending : Status) (text : List ℕ)
    → IsSaid c x Holds depth goal (outcome_of q) ending text → IsFoundAnswer c x Holds depth goal ending text
said {R = R} c x Holds depth goal p q same ends ending text h = record {
  said = subst (λ (o : Outcome (Reason R)). IsSaid c x Holds depth goal o ending text)
      (ap outcome_of (sym same) ∙ ends) h;
}

pub all_said : {J R F E : Type 0} (c : RuleValue J R F) (x : TextValue J R F) (Holds : (ℕ → ℕ) → J → Type 0)
    (depth : ℕ) (goal : J) (p q : Proved J (Reason R)) → p ≡ q
    → outcome_of p ≡ search_of (search_by c goal) DERIVATION_LIMIT depth → (r : Result Answer E)
    → IfOk r (λ a. IsSaid c x Holds depth goal (outcome_of q) a.status a.text.items)
    → IfOk r (λ a. IsFoundAnswer c x Holds depth goal a.status a.text.items)
all_said c x Holds depth goal p q same ends (Ok a) h =
    said c x Holds depth goal p q same ends a.status a.text.items h
all_said c x Holds depth goal p q same ends (Err e) h = tt

-- ---- success

module _ {J R F : Type 0} (c : RuleValue J R F) (x : TextValue J R F) (Holds : (ℕ → ℕ) → J → Type 0)
    (Means : J → Type 0) (is_true : (j : J) → ((σ : ℕ → ℕ) → Holds σ j) → Means j) where
  abbrev Nodes : Type 0
  Nodes = List (ProofNode J (Reason R))

  accepted : (v : Verdict (NodeFault F)) → status.Success ≡ verdict_status v → v ≡ Accepted
  accepted Accepted e = refl
  accepted (RuleRefused n fault) e = absurd (cc)
  accepted (PathRefused lasso) e = absurd (cc)
  accepted TooManyStates e = absurd (cc)

  root_true : (nodes : Nodes) → 0 < length nodes → IsVerdict (logic_by c) Holds nodes Accepted
      → (root : ProofNode J (Reason R)) × (slice_get nodes 0 ≡ Some root) × Means root.judgement
  root_true [] some v = absurd (omega (arith, some))
  root_true (n ∷ ns) some v = (n, refl, is_true n.judgement (λ σ. v.2 n refl σ))

  by_answer : (input : List ℕ) (nodes : Nodes) (text : List ℕ)
      → Reads (λ (ns : Nodes). ns) (read_proof x) input (Ok nodes) → IsProofAnswer c x Holds nodes status.Success text
      → SpellsProof c x Holds Means input
  by_answer input nodes text read (HasNone none e t) = absurd (cc)
  by_answer input nodes text read (HasMany many e t) = absurd (cc)
  by_answer input nodes text read (HasVerdict some v verdict e t) =
      (nodes, read, root_true nodes some (subst (IsVerdict (logic_by c) Holds nodes) (accepted v e) verdict))

  by_read : (input : List ℕ) (r : Result Nodes ReadFault) (text : List ℕ)
      → Reads (λ (ns : Nodes). ns) (read_proof x) input r → IsReadAnswer c x Holds r status.Success text
      → SpellsProof c x Holds Means input
  by_read input (Ok nodes) text read answer = by_answer input nodes text read answer
  by_read input (Err fault) text read answer = absurd (fault_fails fault answer.0)

  -- what success of `check` says
  pub checked : (input text : List ℕ) → IsChecked c x Holds input status.Success text
      → SpellsProof c x Holds Means input
  checked input text is = by_read input is.0 text is.1 is.2

  accepted_of : (depth : ℕ) (goal : J) (o : Outcome (Reason R)) (text : List ℕ)
      → IsSaid c x Holds depth goal o status.Success text → IsAccepted c x Holds goal text
  accepted_of depth goal (IsFound derivation) text (inl given) = given.1
  accepted_of depth goal (IsFound derivation) text (inr limit) = absurd (let e = limit.0 in cc)
  accepted_of depth goal IsNotFound text said = absurd (let e = said.0 in cc)
  accepted_of depth goal HasTooManyDerivations text said = absurd (let e = said.0 in cc)
  accepted_of depth goal HasTooManyStates text said = absurd (let e = said.0 in cc)

  by_goal : (depth : ℕ) (input : List ℕ) (r : Result J ReadFault) (text : List ℕ)
      → Reads (λ (s : J). s) (read_problem x) input r → IsGoalAnswer c x Holds depth r status.Success text
      → IsProofOf c x Holds Means text input
  by_goal depth input (Ok goal) text read answer =
      let a = accepted_of depth goal (search_of (search_by c goal) DERIVATION_LIMIT depth) text answer.said in
      let root = a.proof.root in (
        goal,
        read,
        subst Means a.proof.proves (is_true root.judgement (λ σ. a.proof.accepted.2 root a.proof.is_root σ)),
        a,
      )
  by_goal depth input (Err fault) text read answer = absurd (fault_fails fault answer.0)

  -- what success of `prove` says
  pub proved : (depth : ℕ) (input text : List ℕ) → IsProvedWithin c x Holds depth input status.Success text
      → IsProofOf c x Holds Means text input
  proved depth input text is = by_goal depth input is.0 text is.1 is.2
