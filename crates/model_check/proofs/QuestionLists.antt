-- The rules of all questions.
use Rattle.std.specs.Prelude.{slice_get}
use Rattle.std.proofs.lemmas.Bool.{cases_lt}
use Rattle.std.proofs.Common.{◌≡◌, ℕ, zero, suc, ◌+◌, ◌<◌, ◌≤◌, List, [], ◌∷◌, ◌++◌, length, Some, None, refl, sym}
use Rattle.std.proofs.Common.{subst, inl, inr, arith}
use Rattle.heap_formula.specs.Definitions.{Definition}
use Rattle.heap_formula.specs.Words.{Each}
use Rattle.heap_formula.specs.Values.{Stack}
use Rattle.heap_formula.specs.Cells.{Cells}
use Rattle.heap_formula.specs.Meaning.{cases_of}
use Rattle.heap_formula.proofs.StageLaws.{OneOf-map}
use Rattle.model_check.specs.declared.ground.GroundRule.{GroundRule}
use Rattle.model_check.specs.Questions.{Question}
use Rattle.model_check.specs.Constructive.{Fits}
use Rattle.model_check.specs.Grounding.{IsQuestion, PiecesFit, HasRule, IsRule, IsAnswered, Extends, IsCaseRule}
use Rattle.model_check.specs.Grounding.{GroundedCases, IsGrounded}
use Rattle.model_check.proofs.Asking.{extends_trans, pieces_kept}
use Rattle.model_check.proofs.CaseLists.{has_kept}
use Rattle.model_check.proofs.Rounds.{one_question}
use Rattle.heap_formula.proofs.AllMembers.{each_imply, each_append}

-- a number below the length is a question's
pub question_of : (qs : List Question) (q : ℕ) → q < length qs → (x : Question) × IsQuestion qs q x.predicate x.values
question_of [] q h = absurd (omega arith)
question_of (x ∷ qs) zero h = (x, refl)
question_of (x ∷ qs) (suc q) h = question_of qs q (omega arith)

pub question_within : (qs : List Question) (q p : ℕ) (vs : List ℕ) → IsQuestion qs q p vs → q < length qs
question_within [] q p vs i = absurd (let x : Question = record { predicate = p; values = vs } in
    let z : None ≡ Some x = i in cc)
question_within (x ∷ qs) zero p vs i = omega arith
question_within (x ∷ qs) (suc q) p vs i = let r = question_within qs q p vs i in omega arith

module _ (ds : List Definition) (h : Cells) (ns : List ℕ) where
  pub rule_kept : (qs qs' : List Question) → Extends qs qs' → (r : GroundRule) → IsRule ds h ns qs r
      → IsRule ds h ns qs' r
  rule_kept qs qs' x r k = record {
    predicate = k.predicate;
    values = k.values;
    question = x.kept r.head k.predicate k.values k.question;
    of_case = OneOf-map (λ b. (e : Stack) × Fits h k.values e b × PiecesFit ns qs k.values e b.spatial r.pieces)
        (λ b. (e : Stack) × Fits h k.values e b × PiecesFit ns qs' k.values e b.spatial r.pieces)
        (λ b o. (o.0, o.1, pieces_kept ns qs qs' x k.values o.0 b.spatial r.pieces o.2)) (cases_of ds k.predicate)
        k.of_case;
  }

  pub new_rule : (qs : List Question) (head p : ℕ) (vs : List ℕ) → IsQuestion qs head p vs → (r : GroundRule)
      → IsCaseRule h ns qs head vs (cases_of ds p) r → IsRule ds h ns qs r
  new_rule qs head p vs i r k = record {
    predicate = p;
    values = vs;
    question = subst (λ j. IsQuestion qs j p vs) (sym k.0) i;
    of_case = k.1;
  }

  answered_kept : (qs qs' : List Question) (rules rules' added : List GroundRule) (q p : ℕ) (vs : List ℕ)
      → Extends qs qs' → rules' ≡ rules ++ added → IsAnswered ds h ns qs rules q p vs
      → IsAnswered ds h ns qs' rules' q p vs
  answered_kept qs qs' rules rules' added q p vs x w a = record {
    has = each_imply (λ b. (e : Stack) → Fits h vs e b → HasRule ns qs rules q vs e b.spatial)
        (λ b. (e : Stack) → Fits h vs e b → HasRule ns qs' rules' q vs e b.spatial)
        (λ b k. subst (λ rs. (e : Stack) → Fits h vs e b → HasRule ns qs' rs q vs e b.spatial) (sym w)
        (has_kept h ns q vs qs qs' rules added x b k)) (cases_of ds p) a.has;
  }

  answered_same : (qs : List Question) (rules : List GroundRule) (q p u : ℕ) (vs us : List ℕ) → p ≡ u → vs ≡ us
      → IsAnswered ds h ns qs rules q p vs → IsAnswered ds h ns qs rules q u us
  answered_same qs rules q p u vs us e f a = subst (λ x. IsAnswered ds h ns qs rules q u x) f
      (subst (λ x. IsAnswered ds h ns qs rules q x vs) e a)

  pub next_question : (qs qs' : List Question) (rules rules' : List GroundRule) (head p : ℕ) (vs : List ℕ)
      → IsGrounded ds h ns qs rules head → IsQuestion qs head p vs
      → GroundedCases h ns qs qs' rules rules' head vs (cases_of ds p) → IsGrounded ds h ns qs' rules' (head + 1)
  next_question qs qs' rules rules' head p vs g i k = record {
    sound = subst (Each (IsRule ds h ns qs')) (sym k.more)
        (each_append (IsRule ds h ns qs') rules k.added (each_imply (IsRule ds h ns qs) (IsRule ds h ns qs')
        (rule_kept qs qs' k.extends) rules g.sound) (each_imply (IsCaseRule h ns qs' head vs (cases_of ds p))
        (IsRule ds h ns qs') (new_rule qs' head p vs (k.extends.kept head p vs i)) k.added k.are));
    complete = all;
  }
    where
      all : (q u : ℕ) (us : List ℕ) → q < head + 1 → IsQuestion qs' q u us → IsAnswered ds h ns qs' rules' q u us
      all q u us l j = elim (cases_lt q head) [
        | inl lt ↦
            let n : head < length qs = question_within qs head p vs i in
            let m : q < length qs = omega arith in
            let x = question_of qs q m in
            let same = one_question qs' q x.0.predicate u x.0.values us (k.extends.kept q x.0.predicate x.0.values x.1)
            j in
            answered_same qs' rules' q x.0.predicate u x.0.values us same.0 same.1
            (answered_kept qs qs' rules rules' k.added q x.0.predicate x.0.values k.extends k.more
            (g.complete q x.0.predicate x.0.values lt x.1))
        | inr ge ↦
            let e : head ≡ q = omega arith in
            let j' : IsQuestion qs' head u us = subst (λ y. IsQuestion qs' y u us) (sym e) j in
            let same = one_question qs' head p u vs us (k.extends.kept head p vs i) j' in
            subst (λ y. IsAnswered ds h ns qs' rules' y u us) e
            (answered_same qs' rules' head p u vs us same.0 same.1 (record { has = k.has }))
      ]

-- one more question, as the code has it
pub loop_question : (ds : List Definition) (h : Cells) (ns : List ℕ) (qs0 qs qs' : List Question)
    (rules rules' : List GroundRule) (head : ℕ) (x : Question) → slice_get qs head ≡ Some x → Extends qs0 qs
    → IsGrounded ds h ns qs rules head → GroundedCases h ns qs qs' rules rules' head x.values (cases_of ds x.predicate)
    → Extends qs0 qs' × IsGrounded ds h ns qs' rules' (head + 1) × (head + 1 ≤ length qs')
loop_question ds h ns qs0 qs qs' rules rules' head x s x0 g k =
    let i : IsQuestion qs head x.predicate x.values = s in
    let j = k.extends.kept head x.predicate x.values i in
    let l : head < length qs' = question_within qs' head x.predicate x.values j in (
      extends_trans qs0 qs qs' x0 k.extends,
      next_question ds h ns qs qs' rules rules' head x.predicate x.values g i k,
      omega arith,
    )
