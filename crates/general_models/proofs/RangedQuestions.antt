-- The rules of several cases, and of all questions, where locals range over some values.
use Rattle.std.specs.Prelude.{slice_get}
use Rattle.std.proofs.lemmas.Bool.{cases_lt}
use Rattle.std.proofs.lemmas.List.{take_more}
use Rattle.std.proofs.Common.{◌≡◌, ℕ, ◌+◌, ◌<◌, ◌≤◌, List, [], ◌∷◌, ◌++◌, length, append_assoc, take, get_or, Some, sym}
use Rattle.std.proofs.Common.{ap, ◌∙◌, subst, inl, inr, arith}
use Rattle.heap_formula.specs.declared.atoms.Spatial.{Spatial}
use Rattle.heap_formula.specs.Definitions.{Definition}
use Rattle.heap_formula.specs.Symbolic.{SymbolicHeap}
use Rattle.heap_formula.specs.Words.{Each, OneOf}
use Rattle.heap_formula.specs.Values.{Stack}
use Rattle.heap_formula.specs.Cells.{Cells}
use Rattle.heap_formula.specs.Meaning.{cases_of}
use Rattle.heap_formula.proofs.StageLaws.{OneOf-map}
use Rattle.heap_formula.proofs.AllMembers.{each_imply, each_last, each_append}
use Rattle.heap_formula.proofs.SomeMember.{one_front, one_last}
use Rattle.model_check.specs.declared.ground.GroundRule.{GroundRule}
use Rattle.model_check.specs.Questions.{Question}
use Rattle.model_check.specs.Constructive.{Fits}
use Rattle.model_check.specs.Grounding.{IsQuestion, PiecesFit, HasRule, IsRule, Extends, IsCaseRule}
use Rattle.model_check.proofs.Asking.{extends_all, extends_trans, pieces_kept}
use Rattle.model_check.proofs.CaseLists.{case_rule_kept}
use Rattle.model_check.proofs.QuestionLists.{question_of, question_within, rule_kept, new_rule}
use Rattle.model_check.proofs.Rounds.{one_question}
use Rattle.general_models.specs.RangedGrounding.{IsAnsweredOver, GroundedOver, IsGroundedOver}
use Rattle.general_models.proofs.RangedCases.{append_nil}

module _ (range : List ℕ) (h : Cells) (ns : List ℕ) (head : ℕ) (vs : List ℕ) where
  -- a rule that is there stays there
  rule_stays : (qs qs' : List Question) (rules more : List GroundRule) → Extends qs qs'
      → (e : Stack) (xs : List Spatial) → HasRule ns qs rules head vs e xs → HasRule ns qs' (rules ++ more) head vs e xs
  rule_stays qs qs' rules more x e xs k =
      one_front (λ r. (r.head ≡ head) × PiecesFit ns qs' vs e xs r.pieces) rules more
      (OneOf-map (λ r. (r.head ≡ head) × PiecesFit ns qs vs e xs r.pieces)
      (λ r. (r.head ≡ head) × PiecesFit ns qs' vs e xs r.pieces)
      (λ r o. (o.0, pieces_kept ns qs qs' x vs e xs r.pieces o.1)) rules k)

  pub answered_stays : (qs qs' : List Question) (rules rules' more : List GroundRule) → Extends qs qs'
      → rules' ≡ rules ++ more → (b : SymbolicHeap) → IsAnsweredOver range h ns qs rules head vs b
      → IsAnsweredOver range h ns qs' rules' head vs b
  answered_stays qs qs' rules rules' more x w b k e within f =
      subst (λ rs. HasRule ns qs' rs head vs e b.spatial) (sym w)
      (rule_stays qs qs' rules more x e b.spatial (k e within f))

  pub no_cases : (qs : List Question) (rules : List GroundRule) → GroundedOver range h ns qs qs rules rules head vs []
  no_cases qs rules = record { extends = extends_all qs; added = []; more = sym (append_nil rules); are = tt; has = tt }

  last_rule : (qs : List Question) (bs : List SymbolicHeap) (b : SymbolicHeap) (r : GroundRule)
      → IsCaseRule h ns qs head vs (b ∷ []) r → IsCaseRule h ns qs head vs (bs ++ b ∷ []) r
  last_rule qs bs b r k = (k.0, last k.1)
    where
      last : OneOf (λ b. (e : Stack) × Fits h vs e b × PiecesFit ns qs vs e b.spatial r.pieces) (b ∷ [])
          → OneOf (λ b. (e : Stack) × Fits h vs e b × PiecesFit ns qs vs e b.spatial r.pieces) (bs ++ b ∷ [])
      last (inl p) = one_last (λ b. (e : Stack) × Fits h vs e b × PiecesFit ns qs vs e b.spatial r.pieces) bs b p
      last (inr p) = absurd p

  next_case : (q0 q1 q2 : List Question) (r0 r1 r2 : List GroundRule) (bs : List SymbolicHeap) (b : SymbolicHeap)
      → GroundedOver range h ns q0 q1 r0 r1 head vs bs → GroundedOver range h ns q1 q2 r1 r2 head vs (b ∷ [])
      → GroundedOver range h ns q0 q2 r0 r2 head vs (bs ++ b ∷ [])
  next_case q0 q1 q2 r0 r1 r2 bs b g k = record {
    extends = extends_trans q0 q1 q2 g.extends k.extends;
    added = g.added ++ k.added;
    more = k.more ∙ ap (λ rs. rs ++ k.added) g.more ∙ append_assoc r0 g.added k.added;
    are = each_append (IsCaseRule h ns q2 head vs (bs ++ b ∷ [])) g.added k.added
        (each_imply (IsCaseRule h ns q1 head vs bs) (IsCaseRule h ns q2 head vs (bs ++ b ∷ []))
        (case_rule_kept h ns head vs q1 q2 bs b k.extends) g.added g.are)
        (each_imply (IsCaseRule h ns q2 head vs (b ∷ [])) (IsCaseRule h ns q2 head vs (bs ++ b ∷ []))
        (last_rule q2 bs b) k.added k.are);
    has = each_last (IsAnsweredOver range h ns q2 r2 head vs) bs b
        (each_imply (IsAnsweredOver range h ns q1 r1 head vs) (IsAnsweredOver range h ns q2 r2 head vs)
        (answered_stays q1 q2 r1 r2 k.added k.extends k.more) bs g.has) k.has.0;
  }

  pub next_case_at : (q0 q1 q2 : List Question) (r0 r1 r2 : List GroundRule) (bs : List SymbolicHeap) (i : ℕ)
      (b : SymbolicHeap) → i < length bs → b ≡ get_or bs i b → GroundedOver range h ns q0 q1 r0 r1 head vs (take i bs)
      → GroundedOver range h ns q1 q2 r1 r2 head vs (b ∷ [])
      → GroundedOver range h ns q0 q2 r0 r2 head vs (take (i + 1) bs)
  next_case_at q0 q1 q2 r0 r1 r2 bs i b l is g k =
      subst (GroundedOver range h ns q0 q2 r0 r2 head vs)
      (sym (take_more bs i b l ∙ ap (λ x. take i bs ++ x ∷ []) (sym is)))
      (next_case q0 q1 q2 r0 r1 r2 (take i bs) b g k)

module _ (range : List ℕ) (ds : List Definition) (h : Cells) (ns : List ℕ) where
  same_answers : (qs : List Question) (rules : List GroundRule) (q p u : ℕ) (vs us : List ℕ) → p ≡ u → vs ≡ us
      → Each (IsAnsweredOver range h ns qs rules q vs) (cases_of ds p)
      → Each (IsAnsweredOver range h ns qs rules q us) (cases_of ds u)
  same_answers qs rules q p u vs us e f a =
      subst (λ x. Each (IsAnsweredOver range h ns qs rules q x) (cases_of ds u)) f
      (subst (λ x. Each (IsAnsweredOver range h ns qs rules q vs) (cases_of ds x)) e a)

  next_question : (qs qs' : List Question) (rules rules' : List GroundRule) (head p : ℕ) (vs : List ℕ)
      → IsGroundedOver range ds h ns qs rules head → IsQuestion qs head p vs
      → GroundedOver range h ns qs qs' rules rules' head vs (cases_of ds p)
      → IsGroundedOver range ds h ns qs' rules' (head + 1)
  next_question qs qs' rules rules' head p vs g i k = record {
    sound = subst (Each (IsRule ds h ns qs')) (sym k.more)
        (each_append (IsRule ds h ns qs') rules k.added (each_imply (IsRule ds h ns qs) (IsRule ds h ns qs')
        (rule_kept ds h ns qs qs' k.extends) rules g.sound) (each_imply (IsCaseRule h ns qs' head vs (cases_of ds p))
        (IsRule ds h ns qs') (new_rule ds h ns qs' head p vs (k.extends.kept head p vs i)) k.added k.are));
    complete = all;
  }
    where
      all : (q u : ℕ) (us : List ℕ) → q < head + 1 → IsQuestion qs' q u us
          → Each (IsAnsweredOver range h ns qs' rules' q us) (cases_of ds u)
      all q u us l j = elim (cases_lt q head) [
        | inl lt ↦
            let n : head < length qs = question_within qs head p vs i in
            let m : q < length qs = omega arith in
            let x = question_of qs q m in
            let same = one_question qs' q x.0.predicate u x.0.values us (k.extends.kept q x.0.predicate x.0.values x.1)
            j in
            same_answers qs' rules' q x.0.predicate u x.0.values us same.0 same.1
            (each_imply (IsAnsweredOver range h ns qs rules q x.0.values)
            (IsAnsweredOver range h ns qs' rules' q x.0.values)
            (answered_stays range h ns q x.0.values qs qs' rules rules' k.added k.extends k.more)
            (cases_of ds x.0.predicate) (g.complete q x.0.predicate x.0.values lt x.1))
        | inr ge ↦
            let e : head ≡ q = omega arith in
            let j' : IsQuestion qs' head u us = subst (λ y. IsQuestion qs' y u us) (sym e) j in
            let same = one_question qs' head p u vs us (k.extends.kept head p vs i) j' in
            subst (λ y. Each (IsAnsweredOver range h ns qs' rules' y us) (cases_of ds u)) e
            (same_answers qs' rules' head p u vs us same.0 same.1 k.has)
      ]

  -- one more question, as the code has it
  pub loop_question : (qs0 qs qs' : List Question) (rules rules' : List GroundRule) (head : ℕ) (x : Question)
      → slice_get qs head ≡ Some x → Extends qs0 qs → IsGroundedOver range ds h ns qs rules head
      → GroundedOver range h ns qs qs' rules rules' head x.values (cases_of ds x.predicate)
      → Extends qs0 qs' × IsGroundedOver range ds h ns qs' rules' (head + 1) × (head + 1 ≤ length qs')
  loop_question qs0 qs qs' rules rules' head x s x0 g k =
      let i : IsQuestion qs head x.predicate x.values = s in
      let j = k.extends.kept head x.predicate x.values i in
      let l : head < length qs' = question_within qs' head x.predicate x.values j in (
        extends_trans qs0 qs qs' x0 k.extends,
        next_question qs qs' rules rules' head x.predicate x.values g i k,
        omega arith,
      )
