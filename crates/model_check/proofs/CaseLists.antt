-- The rules of several cases.
use Rattle.std.proofs.Common.{◌≡◌, ℕ, zero, suc, ◌+◌, ◌<◌, List, [], ◌∷◌, ◌++◌, length, take, get_or, append_assoc}
use Rattle.std.proofs.Common.{refl, sym, ap, ◌∙◌, subst, inl, inr, ◌⊎◌}
use Rattle.std.proofs.lemmas.List.{take_more}
use Rattle.heap_formula.specs.Definitions.{Definition}
use Rattle.heap_formula.specs.Symbolic.{SymbolicHeap}
use Rattle.heap_formula.specs.Words.{Each}
use Rattle.heap_formula.specs.Values.{Stack}
use Rattle.heap_formula.specs.Cells.{Cells}
use Rattle.heap_formula.specs.Meaning.{cases_of}
use Rattle.heap_formula.proofs.StageLaws.{OneOf-map}
use Rattle.model_check.specs.declared.ground.GroundRule.{GroundRule}
use Rattle.model_check.specs.Questions.{Question}
use Rattle.model_check.specs.Constructive.{IsConstructive, AreConstructive, Fits}
use Rattle.model_check.specs.Grounding.{PiecesFit, HasRule, Extends, GroundedCase, IsCaseRule, GroundedCases}
use Rattle.model_check.proofs.Asking.{extends_trans, pieces_kept}
use Rattle.heap_formula.proofs.AllMembers.{each_imply, each_last, each_append}
use Rattle.heap_formula.proofs.SomeMember.{one_front, one_last}

module _ (h : Cells) (ns : List ℕ) (head : ℕ) (vs : List ℕ) where
  -- a case rule of some cases is one of more cases, with more questions
  pub case_rule_kept : (qs qs' : List Question) (bs : List SymbolicHeap) (b : SymbolicHeap) → Extends qs qs'
      → (r : GroundRule) → IsCaseRule h ns qs head vs bs r → IsCaseRule h ns qs' head vs (bs ++ b ∷ []) r
  case_rule_kept qs qs' bs b x r k = (
    k.0,
    one_front (λ b. (e : Stack) × Fits h vs e b × PiecesFit ns qs' vs e b.spatial r.pieces) bs (b ∷ [])
        (OneOf-map (λ b. (e : Stack) × Fits h vs e b × PiecesFit ns qs vs e b.spatial r.pieces)
        (λ b. (e : Stack) × Fits h vs e b × PiecesFit ns qs' vs e b.spatial r.pieces)
        (λ b o. (o.0, o.1, pieces_kept ns qs qs' x vs o.0 b.spatial r.pieces o.2)) bs k.1),
  )

  -- a rule that is there stays there
  pub has_kept : (qs qs' : List Question) (rules more : List GroundRule) → Extends qs qs' → (b : SymbolicHeap)
      → ((e : Stack) → Fits h vs e b → HasRule ns qs rules head vs e b.spatial) → (e : Stack) → Fits h vs e b
      → HasRule ns qs' (rules ++ more) head vs e b.spatial
  has_kept qs qs' rules more x b k e f =
      one_front (λ r. (r.head ≡ head) × PiecesFit ns qs' vs e b.spatial r.pieces) rules more
      (OneOf-map (λ r. (r.head ≡ head) × PiecesFit ns qs vs e b.spatial r.pieces)
      (λ r. (r.head ≡ head) × PiecesFit ns qs' vs e b.spatial r.pieces)
      (λ r o. (o.0, pieces_kept ns qs qs' x vs e b.spatial r.pieces o.1)) rules (k e f))

  one_more : (q0 q1 q2 : List Question) (r0 r1 r2 more : List GroundRule) (bs : List SymbolicHeap) (b : SymbolicHeap)
      → GroundedCases h ns q0 q1 r0 r1 head vs bs → Extends q1 q2 → r2 ≡ r1 ++ more
      → Each (IsCaseRule h ns q2 head vs (bs ++ b ∷ [])) more
      → ((e : Stack) → Fits h vs e b → HasRule ns q2 r2 head vs e b.spatial)
      → GroundedCases h ns q0 q2 r0 r2 head vs (bs ++ b ∷ [])
  one_more q0 q1 q2 r0 r1 r2 more bs b g x w are k = record {
    extends = extends_trans q0 q1 q2 g.extends x;
    added = g.added ++ more;
    more = w ∙ ap (λ rs. rs ++ more) g.more ∙ append_assoc r0 g.added more;
    are = each_append (IsCaseRule h ns q2 head vs (bs ++ b ∷ [])) g.added more
        (each_imply (IsCaseRule h ns q1 head vs bs) (IsCaseRule h ns q2 head vs (bs ++ b ∷ []))
        (case_rule_kept q1 q2 bs b x) g.added g.are) are;
    has = each_last (λ b. (e : Stack) → Fits h vs e b → HasRule ns q2 r2 head vs e b.spatial) bs b
        (each_imply (λ b. (e : Stack) → Fits h vs e b → HasRule ns q1 r1 head vs e b.spatial)
        (λ b. (e : Stack) → Fits h vs e b → HasRule ns q2 r2 head vs e b.spatial)
        (λ b k. subst (λ rs. (e : Stack) → Fits h vs e b → HasRule ns q2 rs head vs e b.spatial) (sym w)
        (has_kept q1 q2 r1 more x b k)) bs g.has) k;
  }

  -- one more case
  pub next_case : (q0 q1 q2 : List Question) (r0 r1 r2 : List GroundRule) (bs : List SymbolicHeap) (b : SymbolicHeap)
      → GroundedCases h ns q0 q1 r0 r1 head vs bs → GroundedCase h ns q1 q2 r1 r2 head vs b
      → GroundedCases h ns q0 q2 r0 r2 head vs (bs ++ b ∷ [])
  next_case q0 q1 q2 r0 r1 r2 bs b g k = by_more k.more
    where
      end : (xs : List GroundRule) → xs ++ [] ≡ xs
      end [] = refl
      end (x ∷ xs) = ap (λ ys. x ∷ ys) (end xs)

      by_more : (r2 ≡ r1) ⊎ ((r : GroundRule) × (r2 ≡ r1 ++ r ∷ []) × (r.head ≡ head)
          × ((e : Stack) × Fits h vs e b × PiecesFit ns q2 vs e b.spatial r.pieces))
          → GroundedCases h ns q0 q2 r0 r2 head vs (bs ++ b ∷ [])
      by_more (inl w) = one_more q0 q1 q2 r0 r1 r2 [] bs b g k.extends (w ∙ sym (end r1)) tt k.has
      by_more (inr o) =
          one_more q0 q1 q2 r0 r1 r2 (o.0 ∷ []) bs b g k.extends o.1 (
            (o.2, one_last (λ b. (e : Stack) × Fits h vs e b × PiecesFit ns q2 vs e b.spatial o.0.pieces) bs b o.3),
            tt,
          ) k.has

  pub next_case_at : (q0 q1 q2 : List Question) (r0 r1 r2 : List GroundRule) (bs : List SymbolicHeap) (i : ℕ)
      (b : SymbolicHeap) → i < length bs → b ≡ get_or bs i b → GroundedCases h ns q0 q1 r0 r1 head vs (take i bs)
      → GroundedCase h ns q1 q2 r1 r2 head vs b → GroundedCases h ns q0 q2 r0 r2 head vs (take (i + 1) bs)
  next_case_at q0 q1 q2 r0 r1 r2 bs i b l is g k =
      subst (GroundedCases h ns q0 q2 r0 r2 head vs) (sym (take_more bs i b l ∙ ap (λ x. take i bs ++ x ∷ []) (sym is)))
      (next_case q0 q1 q2 r0 r1 r2 (take i bs) b g k)

-- the cases of each predicate are constructive
pub constructive_cases : (ds : List Definition) (p : ℕ) → AreConstructive ds → Each IsConstructive (cases_of ds p)
constructive_cases [] p a = tt
constructive_cases (d ∷ ds) zero a = a.0
constructive_cases (d ∷ ds) (suc p) a = constructive_cases ds p a.1
