-- Which rules the cases of definitions are, where locals range over some values.
use Rattle.std.specs.Prelude.{◌≡◌, ◌<◌, ◌≤◌, ℕ, zero, suc, List, [], ◌∷◌, ◌++◌, map, slice_index}
use Rattle.heap_formula.specs.declared.terms.Term.TheVariants.{Univ, Exist}
use Rattle.heap_formula.specs.declared.atoms.Pure.{Pure}
use Rattle.heap_formula.specs.declared.atoms.Pure.TheVariants.{Eq}
use Rattle.heap_formula.specs.Symbolic.{SymbolicHeap}
use Rattle.heap_formula.specs.Definitions.{Definition}
use Rattle.heap_formula.specs.Words.{Each, OneOf}
use Rattle.heap_formula.specs.Values.{Stack}
use Rattle.heap_formula.specs.Cells.{Cells, IsHeap}
use Rattle.heap_formula.specs.Meaning.{cases_of}
use Rattle.cyc_basics.specs.Words.{tabulated}
use Rattle.model_check.specs.declared.ground.GroundRule.{GroundRule}
use Rattle.model_check.specs.Questions.{Question}
use Rattle.model_check.specs.Constructive.{Fits}
use Rattle.model_check.specs.MaskParts.{Covers}
use Rattle.model_check.specs.Grounding.{IsQuestion, PiecesFit, IsRule, HasRule, Extends, IsCaseRule}
use Rattle.model_check.specs.Ground.{IsSolved}
use Rattle.model_check.specs.Tables.{Row, HasMask}
use Rattle.heap_formula.specs.Fresh.{heap_exists}
use Rattle.general_models.specs.Ranges.{IsWithin, IsRangeFor, HaveFewVariables}

-- some rule is this case at each choice of locals of the range that fits
abbrev pub IsAnsweredOver : List ℕ → Cells → List ℕ → List Question → List GroundRule → ℕ → List ℕ → SymbolicHeap
    → Type 0
IsAnsweredOver range h ns qs rules q vs b = (e : Stack) → IsWithin range e → Fits h vs e b
    → HasRule ns qs rules q vs e b.spatial

-- the rules are cases of the questions, and all of them for locals of the range
pub record GroundsOver (range : List ℕ) (ds : List Definition) (h : Cells) (ns : List ℕ) (qs : List Question)
    (rules : List GroundRule) : Type 0 where
  pub covers : Covers ns h
  pub heap : IsHeap h
  pub sound : Each (IsRule ds h ns qs) rules
  pub complete : (q p : ℕ) (vs : List ℕ) → IsQuestion qs q p vs
      → Each (IsAnsweredOver range h ns qs rules q vs) (cases_of ds p)

-- after these cases at given values: what was added is rules of theirs, and all for locals of the range
pub record GroundedOver (range : List ℕ) (h : Cells) (ns : List ℕ) (qs qs' : List Question)
    (rules rules' : List GroundRule) (head : ℕ) (vs : List ℕ) (bs : List SymbolicHeap) : Type 0 where
  pub extends : Extends qs qs'
  pub added : List GroundRule
  pub more : rules' ≡ rules ++ added
  pub are : Each (IsCaseRule h ns qs' head vs bs) added
  pub has : Each (IsAnsweredOver range h ns qs' rules' head vs) bs

-- the rule is this case at one of these lists of values
abbrev pub IsStackRule : Cells → List ℕ → List Question → ℕ → SymbolicHeap → List Stack → GroundRule → Type 0
IsStackRule h ns qs head b stacks r =
    (r.head ≡ head) × OneOf (λ vs. (e : Stack) × Fits h vs e b × PiecesFit ns qs vs e b.spatial r.pieces) stacks

-- after one case at each of these lists of values
pub record GroundedStacks (h : Cells) (ns : List ℕ) (qs qs' : List Question) (rules rules' : List GroundRule) (head : ℕ)
    (b : SymbolicHeap) (stacks : List Stack) : Type 0 where
  pub extends : Extends qs qs'
  pub added : List GroundRule
  pub more : rules' ≡ rules ++ added
  pub are : Each (IsStackRule h ns qs' head b stacks) added
  pub has : Each (λ vs. (e : Stack) → Fits h vs e b → HasRule ns qs' rules' head vs e b.spatial) stacks

-- the same for the questions below a number, as far as all questions go
pub record IsGroundedOver (range : List ℕ) (ds : List Definition) (h : Cells) (ns : List ℕ) (qs : List Question)
    (rules : List GroundRule) (done : ℕ) : Type 0 where
  pub sound : Each (IsRule ds h ns qs) rules
  pub complete : (q p : ℕ) (vs : List ℕ) → q < done → IsQuestion qs q p vs
      → Each (IsAnsweredOver range h ns qs rules q vs) (cases_of ds p)

-- ---- a case whose open locals are parameters

-- local ns[i] is parameter first + i
abbrev pub choice_atoms : ℕ → List ℕ → List Pure
choice_atoms first [] = []
choice_atoms first (n ∷ ns) = Eq (Exist n) (Univ first) ∷ choice_atoms (suc first) ns

-- the case with equations that make these locals parameters
abbrev pub opened : SymbolicHeap → ℕ → List ℕ → SymbolicHeap
opened b first ns = record { pure = b.pure ++ choice_atoms first ns; spatial = b.spatial }

-- the first values of a stack, 0 past its end
abbrev pub front : ℕ → Stack → Stack
front n s = tabulated (slice_index s) n

-- each of these stacks with each value of the range at its end
abbrev pub with_each : List ℕ → List Stack → List Stack
with_each range [] = []
with_each range (s ∷ ss) = map (λ v. s ++ v ∷ []) range ++ with_each range ss

-- the stack with each list of so many values of the range at its end
abbrev pub with_values : List ℕ → Stack → ℕ → List Stack
with_values range s zero = s ∷ []
with_values range s (suc n) = with_each range (with_values range s n)

-- ---- the asked formula

-- the range serves for these definitions and this formula: it has a fresh value for each variable of a case, and for
-- each existential of the formula
pub record Suffices (range : List ℕ) (ds : List Definition) (s : Stack) (h : Cells) (a : SymbolicHeap) : Type 0 where
  pub fresh : ℕ
  pub is_range : IsRangeFor s h fresh range
  pub cases : HaveFewVariables fresh ds
  pub formula : heap_exists a ≤ fresh

-- the table is solved for rules that the questions have
pub record SolvesOver (range : List ℕ) (ds : List Definition) (h : Cells) (ns : List ℕ) (qs qs' : List Question)
    (table : List Row) : Type 0 where
  pub rules : List GroundRule
  pub extends : Extends qs qs'
  pub grounds : GroundsOver range ds h ns qs' rules
  pub solved : IsSolved rules (HasMask table)
