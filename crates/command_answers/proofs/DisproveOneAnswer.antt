-- The question whether a goal has a counter-model has one answer.
use Rattle.std.proofs.Common.{◌≡◌, ◌≤◌, ◌<◌, ◌∙◌, ℕ, List, length, refl, sym, ap, subst, inl, inr, Result, Ok, Err}
use Rattle.std.proofs.Common.{arith}
use Rattle.heap_formula.specs.declared.judgements.Judgement.{Judgement}
use Rattle.heap_formula.specs.declared.judgements.Judgement.TheVariants.{Entail, Term as Runs}
use Rattle.heap_formula.specs.Definitions.{Definition}
use Rattle.heap_formula.specs.Symbolic.{SymbolicHeap}
use Rattle.heap_formula.specs.Fresh.{judgement_bound}
use Rattle.model_check.proofs.OnlyLocals.{universal_constructive}
use Rattle.counter_model.specs.FirstCounter.{IsFirstCounter}
use Rattle.heap_formula.specs.Cells.{Cells}
use Rattle.counter_model.proofs.OnePlace.{no_place, one_place}
use Rattle.formula_reader.specs.declared.problem.Problem.{Problem}
use Rattle.formula_reader.specs.Reading as problems
use Rattle.cyc_lex.specs.declared.fault.ReadFault.{ReadFault}
use Rattle.cyc_lex.specs.declared.fault.ReadFault.TheVariants as faults
use Rattle.formula_reader.proofs.Within.{problem_keeps}
use Rattle.model_file.specs.declared.file.Model.{Model}
use Rattle.model_file.specs.Reading as models
use Rattle.model_file.proofs.Readings.{text_is_read}
use Rattle.model_file.specs.declared.version.ModelVersion.{ModelVersion}
use Rattle.model_file.specs.Versions.{version_for}
use Rattle.model_file.specs.Written.{text_of_model}
use Rattle.command_answers.specs.ModelAnswers.{IsModelled, holds_text, place_text}
use Rattle.cyc_runs.specs.declared.endings.Status.{Status}
use Rattle.cyc_runs.specs.declared.endings.Status.TheVariants.{Success, Refused, IllFormed, Limit, NotFound}
use Rattle.cyc_runs.specs.Faults.{fault_status}
use Rattle.cyc_runs.specs.Runs.{input_limit}
use Rattle.cyc_runs.proofs.WaysToEnd.{fault_fails, fault_is_no_refusal}
use Rattle.check_answers.specs.Alike.{AreAlike}
use Rattle.check_answers.proofs.OneFault.{one_fault_answer}
use Rattle.command_answers.proofs.Readings.{one_problem_reading}
use Rattle.command_answers.specs.DisproveAnswers.{IsSearched, HasNone, IsWideAnswer, IsPlaceAnswer, IsNoneAnswer}
use Rattle.command_answers.specs.DisproveAnswers.{IsModelFile, IsEntailmentAnswer, IsGoalAnswer, IsReadAnswer}
use Rattle.command_answers.specs.DisproveAnswers.{IsDisproved, IsRefuted, HasNoCounter, OnEntailment}
use Rattle.command_answers.proofs.Answered.{goal_universal}
use Rattle.command_answers.proofs.OneCounter.{one_counter}
use Rattle.counter_model.proofs.ModelTrees.{file_version, file_limits, file_fits, file_flawless}
use Rattle.command_answers.proofs.ModelTrees.{plain_state}

-- ---- one status and one text

module _ (version : ModelVersion) (n : ℕ) (ds : List Definition) (a : SymbolicHeap) (bs : List SymbolicHeap) where
  wide_searched : (s t : Status) (xs ys : List ℕ) → IsWideAnswer a bs s xs → IsSearched ds a bs → ⊥
  wide_searched s t xs ys wide searched =
      let l : 8 < judgement_bound (Entail a bs) = wide.0 in
      let k : judgement_bound (Entail a bs) ≤ 8 = searched.few in
      omega arith

  wide_placed : (s t : Status) (xs ys : List ℕ) → IsWideAnswer a bs s xs → IsPlaceAnswer ds a bs t ys → ⊥
  wide_placed s t xs ys wide placed =
      let l : 8 < judgement_bound (Entail a bs) = wide.0 in
      let k : judgement_bound (Entail a bs) ≤ 8 = placed.1 in
      omega arith

  placed_searched : (s : Status) (xs : List ℕ) → IsPlaceAnswer ds a bs s xs → IsSearched ds a bs → ⊥
  placed_searched s xs placed searched = no_place ds bs placed.0 searched.constructive.0 searched.constructive.1
      placed.2

  none_first : (s t : Status) (xs ys : List ℕ) → IsNoneAnswer n ds a bs s xs → IsModelFile version n ds a bs t ys → ⊥
  none_first s t xs ys none first = none.1 first.0 first.1 first.3.size first.3.counter

  one_place_answer : (s t : Status) (xs ys : List ℕ) → IsPlaceAnswer ds a bs s xs → IsPlaceAnswer ds a bs t ys
      → (s ≡ t) × (xs ≡ ys)
  one_place_answer s t xs ys p q = (p.3 ∙ sym q.3, p.4 ∙ ap place_text (one_place ds bs p.0 q.0 p.2 q.2) ∙ sym q.4)

  one_file : (s t : Status) (xs ys : List ℕ) → IsModelFile version n ds a bs s xs → IsModelFile version n ds a bs t ys
      → (s ≡ t) × (xs ≡ ys)
  one_file s t xs ys p q =
      let same = one_counter ds a bs n p.0 q.0 p.1 q.1 p.3 q.3 in
      (p.4 ∙ sym q.4, p.5 ∙ (λ i. text_of_model version ds (same.0 i) (same.1 i) a) ∙ sym q.5)

  one_entailment_answer : (s t : Status) (xs ys : List ℕ) → IsEntailmentAnswer version n ds a bs s xs
      → IsEntailmentAnswer version n ds a bs t ys → (s ≡ t) × (xs ≡ ys)
  one_entailment_answer s t xs ys (inl p) (inl q) = (p.1 ∙ sym q.1, p.2 ∙ sym q.2)
  one_entailment_answer s t xs ys (inl p) (inr (inl q)) = absurd (wide_placed s t xs ys p q)
  one_entailment_answer s t xs ys (inl p) (inr (inr (inl q))) = absurd (wide_searched s t xs ys p q.0)
  one_entailment_answer s t xs ys (inl p) (inr (inr (inr q))) = absurd (wide_searched s t xs ys p q.2)
  one_entailment_answer s t xs ys (inr (inl p)) (inl q) = absurd (wide_placed t s ys xs q p)
  one_entailment_answer s t xs ys (inr (inl p)) (inr (inl q)) = one_place_answer s t xs ys p q
  one_entailment_answer s t xs ys (inr (inl p)) (inr (inr (inl q))) = absurd (placed_searched s xs p q.0)
  one_entailment_answer s t xs ys (inr (inl p)) (inr (inr (inr q))) = absurd (placed_searched s xs p q.2)
  one_entailment_answer s t xs ys (inr (inr (inl p))) (inl q) = absurd (wide_searched t s ys xs q p.0)
  one_entailment_answer s t xs ys (inr (inr (inl p))) (inr (inl q)) = absurd (placed_searched t ys q p.0)
  one_entailment_answer s t xs ys (inr (inr (inl p))) (inr (inr (inl q))) = (p.2 ∙ sym q.2, p.3 ∙ sym q.3)
  one_entailment_answer s t xs ys (inr (inr (inl p))) (inr (inr (inr q))) = absurd (none_first s t xs ys p q)
  one_entailment_answer s t xs ys (inr (inr (inr p))) (inl q) = absurd (wide_searched t s ys xs q p.2)
  one_entailment_answer s t xs ys (inr (inr (inr p))) (inr (inl q)) = absurd (placed_searched t ys q p.2)
  one_entailment_answer s t xs ys (inr (inr (inr p))) (inr (inr (inl q))) = absurd (none_first t s ys xs q p)
  one_entailment_answer s t xs ys (inr (inr (inr p))) (inr (inr (inr q))) = one_file s t xs ys p q

one_goal_answer : (version : ModelVersion) (n : ℕ) (ds : List Definition) (g : Judgement) (s t : Status)
    (xs ys : List ℕ) → IsGoalAnswer version n ds g s xs → IsGoalAnswer version n ds g t ys → (s ≡ t) × (xs ≡ ys)
one_goal_answer version n ds (Entail a bs) s t xs ys p q = one_entailment_answer version n ds a bs s t xs ys p q
one_goal_answer version n ds (Runs i a) s t xs ys p q = (p.0 ∙ sym q.0, p.1 ∙ sym q.1)

same_answer : (n : ℕ) (p q : Problem) → problems.AreSame p q → (s : Status) (xs : List ℕ)
    → IsGoalAnswer (version_for p.version) n p.defs.list p.goal s xs
    → IsGoalAnswer (version_for q.version) n q.defs.list q.goal s xs
same_answer n p q same s xs is =
    subst (λ (g : Judgement). IsGoalAnswer (version_for q.version) n q.defs.list g s xs) same.goal
    (subst (λ (ds : List Definition). IsGoalAnswer (version_for q.version) n ds p.goal s xs) same.definitions
    (subst (λ (v : ModelVersion). IsGoalAnswer v n p.defs.list p.goal s xs) (ap version_for same.version) is))

one_read_answer : (n : ℕ) (r q : Result Problem ReadFault) (s t : Status) (xs ys : List ℕ)
    → AreAlike problems.AreSame r q → IsReadAnswer n r s xs → IsReadAnswer n q t ys → (s ≡ t) × (xs ≡ ys)
one_read_answer n (Ok p) (Ok q) s t xs ys same first second =
    one_goal_answer (version_for q.version) n q.defs.list q.goal s t xs ys (same_answer n p q same s xs first) second
one_read_answer n (Err a) (Err b) s t xs ys same first second = one_fault_answer a b s t xs ys same first second
one_read_answer n (Ok p) (Err b) s t xs ys same first second = absurd same
one_read_answer n (Err a) (Ok q) s t xs ys same first second = absurd same

-- an input has one answer
pub one_answer : (n : ℕ) (input : List ℕ) (s t : Status) (xs ys : List ℕ) → IsDisproved n input s xs
    → IsDisproved n input t ys → (s ≡ t) × (xs ≡ ys)
one_answer n input s t xs ys first second =
    one_read_answer n first.1 second.1 s t xs ys (one_problem_reading input first.1 second.1 first.2 second.2)
    first.3 second.3

-- and is within the limit
pub disproved_short : (n : ℕ) (input : List ℕ) (s : Status) (xs : List ℕ) → IsDisproved n input s xs
    → length input ≤ input_limit
disproved_short n input s xs is = is.0

-- ---- what the answers say

fault_finds : (fault : ReadFault) → NotFound ≡ fault_status fault → ⊥
fault_finds (faults.Lex fault) e = cc
fault_finds (faults.Syntax token line column) e = cc
fault_finds (faults.IllFormed fault token line column) e = cc
fault_finds (faults.Limit what token line column) e = cc
fault_finds faults.OutOfMemory e = cc

-- success gives the file of a first counter-model
success_file : (version : ModelVersion) (n : ℕ) (ds : List Definition) (a : SymbolicHeap) (bs : List SymbolicHeap)
    (xs : List ℕ)
    → IsEntailmentAnswer version n ds a bs Success xs → IsModelFile version n ds a bs Success xs
success_file version n ds a bs xs (inl p) = absurd (let e : Success ≡ Limit = p.1 in cc)
success_file version n ds a bs xs (inr (inl p)) = absurd (let e : Success ≡ IllFormed = p.3 in cc)
success_file version n ds a bs xs (inr (inr (inl p))) = absurd (let e : Success ≡ NotFound = p.2 in cc)
success_file version n ds a bs xs (inr (inr (inr p))) = p

none_is_none : (version : ModelVersion) (n : ℕ) (ds : List Definition) (a : SymbolicHeap) (bs : List SymbolicHeap)
    (xs : List ℕ)
    → IsEntailmentAnswer version n ds a bs NotFound xs → HasNone n ds a bs
none_is_none version n ds a bs xs (inl p) = absurd (let e : NotFound ≡ Limit = p.1 in cc)
none_is_none version n ds a bs xs (inr (inl p)) = absurd (let e : NotFound ≡ IllFormed = p.3 in cc)
none_is_none version n ds a bs xs (inr (inr (inl p))) = p.1
none_is_none version n ds a bs xs (inr (inr (inr p))) = absurd (let e : NotFound ≡ Success = p.4 in cc)

no_refusal : (version : ModelVersion) (n : ℕ) (ds : List Definition) (g : Judgement) (xs : List ℕ)
    → IsGoalAnswer version n ds g Refused xs → ⊥
no_refusal version n ds (Entail a bs) xs (inl p) = let e : Refused ≡ Limit = p.1 in cc
no_refusal version n ds (Entail a bs) xs (inr (inl p)) = let e : Refused ≡ IllFormed = p.3 in cc
no_refusal version n ds (Entail a bs) xs (inr (inr (inl p))) = let e : Refused ≡ NotFound = p.2 in cc
no_refusal version n ds (Entail a bs) xs (inr (inr (inr p))) = let e : Refused ≡ Success = p.4 in cc
no_refusal version n ds (Runs i a) xs p = let e : Refused ≡ IllFormed = p.0 in cc

goal_refuted : (version : ModelVersion) (n : ℕ) (ds : List Definition) (g : Judgement) (xs : List ℕ)
    → IsGoalAnswer version n ds g Success xs
    → (a : SymbolicHeap) × (bs : List SymbolicHeap) × (g ≡ Entail a bs) × IsModelFile version n ds a bs Success xs
goal_refuted version n ds (Entail a bs) xs p = (a, bs, refl, success_file version n ds a bs xs p)
goal_refuted version n ds (Runs i a) xs p = absurd (let e : Success ≡ IllFormed = p.0 in cc)

goal_none : (version : ModelVersion) (n : ℕ) (ds : List Definition) (g : Judgement) (xs : List ℕ)
    → IsGoalAnswer version n ds g NotFound xs
    → OnEntailment g (HasNone n ds)
goal_none version n ds (Entail a bs) xs p = none_is_none version n ds a bs xs p
goal_none version n ds (Runs i a) xs p = absurd (let e : NotFound ≡ IllFormed = p.0 in cc)

read_refuted : (n : ℕ) (input : List ℕ) (r : Result Problem ReadFault) (xs : List ℕ) → problems.IsRead input r
    → IsReadAnswer n r Success xs → (p : Problem) × problems.IsRead input (Ok p)
    × ((a : SymbolicHeap) × (bs : List SymbolicHeap) × (p.goal ≡ Entail a bs)
    × IsModelFile (version_for p.version) n p.defs.list a bs Success xs)
read_refuted n input (Ok p) xs is answer = (p, is, goal_refuted (version_for p.version) n p.defs.list p.goal xs answer)
read_refuted n input (Err fault) xs is answer = absurd (fault_fails fault answer.0)

-- success says that the goal of the problem that was read is refuted
pub success_refutes : (n : ℕ) (input : List ℕ) (xs : List ℕ) → IsDisproved n input Success xs
    → (p : Problem) × problems.IsRead input (Ok p) × IsRefuted n p
success_refutes n input xs is =
    let r = read_refuted n input is.1 xs is.2 is.3 in
    let f = r.2.3 in (
      r.0,
      r.1,
      subst (λ (g : Judgement). OnEntailment g (λ a bs. (s : List ℕ) × (h : Cells)
          × IsFirstCounter r.0.defs.list a bs n s h)) (sym r.2.2) (f.0, f.1, f.3),
    )

read_none : (n : ℕ) (input : List ℕ) (r : Result Problem ReadFault) (xs : List ℕ) → problems.IsRead input r
    → IsReadAnswer n r NotFound xs → (p : Problem) × problems.IsRead input (Ok p) × HasNoCounter n p
read_none n input (Ok p) xs is answer = (p, is, goal_none (version_for p.version) n p.defs.list p.goal xs answer)
read_none n input (Err fault) xs is answer = absurd (fault_finds fault answer.0)

-- not found, that it has no counter-model of the size
pub none_found : (n : ℕ) (input : List ℕ) (xs : List ℕ) → IsDisproved n input NotFound xs
    → (p : Problem) × problems.IsRead input (Ok p) × HasNoCounter n p
none_found n input xs is = read_none n input is.1 xs is.2 is.3

read_refuses_not : (n : ℕ) (r : Result Problem ReadFault) (xs : List ℕ) → IsReadAnswer n r Refused xs → ⊥
read_refuses_not n (Ok p) xs answer = no_refusal (version_for p.version) n p.defs.list p.goal xs answer
read_refuses_not n (Err fault) xs answer = fault_is_no_refusal fault answer.0

-- there is no refusal
pub disprove_refuses_not : (n : ℕ) (input : List ℕ) (xs : List ℕ) → IsDisproved n input Refused xs → ⊥
disprove_refuses_not n input xs is = read_refuses_not n is.1 xs is.3

-- ---- what is written is a model that holds

pub model_holds : (n : ℕ) (input : List ℕ) (xs : List ℕ) → IsDisproved n input Success xs → length xs ≤ input_limit
    → IsModelled xs Success holds_text
model_holds n input xs is short =
    let r = read_refuted n input is.1 xs is.2 is.3 in
    let p = r.0 in
    let a = r.2.0 in
    let bs = r.2.1 in
    let f = r.2.3 in
    let z = f.3.size in
    let searched = f.2 in
    let m : Model = record {
      version = file_version p;
      defs = record { most = file_limits p; list = p.defs.list };
      stack = f.0;
      heap = f.1;
      ask = a;
      limit = refl;
      fits = file_fits p a bs f.0 f.1 r.2.2 (plain_state n p a bs f.0 f.1 is.4 r.2.2 searched.few z)
          (file_version p) p.defs.list a refl refl refl;
      flawless = file_flawless p a bs f.0 f.1 r.2.2 (plain_state n p a bs f.0 f.1 is.4 r.2.2 searched.few z)
          (file_version p) p.defs.list a refl refl refl;
    } in
    let universal = goal_universal p.defs.most (length p.program) p.defs.list p.goal a bs r.2.2 (problem_keeps p).goal
    in (
      short,
      Ok m,
      subst (λ (bytes : List ℕ). models.IsRead bytes (Ok m)) (sym f.5) (text_is_read m),
      inr (
        (searched.constructive.0, (universal_constructive a universal, tt)),
        inl (f.3.counter.antecedent, refl, refl),
      ),
    )
