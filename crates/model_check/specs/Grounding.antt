-- Which rules the cases of definitions are, in a given heap.
use Rattle.std.specs.Prelude.{◌≡◌, ◌<◌, ℕ, List, [], ◌∷◌, ◌++◌, ◌⊎◌, Some, slice_get, ◌≤◌, length, Option, MatchOption}
use Rattle.heap_formula.specs.Symbolic.{SymbolicHeap}
use Rattle.heap_formula.specs.declared.atoms.Spatial.{Spatial}
use Rattle.heap_formula.specs.declared.atoms.Spatial.TheVariants.{Cell, Pred}
use Rattle.heap_formula.specs.Definitions.{Definition}
use Rattle.heap_formula.specs.Words.{Each, OneOf}
use Rattle.heap_formula.specs.Values.{Stack, value, values}
use Rattle.heap_formula.specs.Cells.{Cells, IsHeap}
use Rattle.heap_formula.specs.Meaning.{cases_of}
use Rattle.model_check.specs.declared.ground.Piece.{Piece}
use Rattle.model_check.specs.declared.ground.Piece.TheVariants.{Here, Of}
use Rattle.model_check.specs.declared.ground.GroundRule.{GroundRule}
use Rattle.model_check.specs.Questions.{Question}
use Rattle.model_check.specs.Constructive.{Fits}
use Rattle.cyc_basics.specs.Words.{IsMember}
use Rattle.model_check.specs.MaskParts.{place, Covers}

-- the question has this number
abbrev pub IsQuestion : List Question → ℕ → ℕ → List ℕ → Type 0
IsQuestion qs q p vs = slice_get qs q ≡ Some (record { predicate = p; values = vs })

-- the question of this number, none where there are no more than so many
abbrev pub IsQuestionAt : List Question → ℕ → Option Question → Type 0
IsQuestionAt qs q found = MatchOption found (length qs ≤ q) (λ x. slice_get qs q ≡ Some x)

abbrev pub IsPiece : List Question → ℕ → List ℕ → Piece → Type 0
IsPiece qs p vs (Here m) = ⊥
IsPiece qs p vs (Of q) = IsQuestion qs q p vs

-- the piece of an atom: the bit of the cell's address, or the question that the atom asks
abbrev pub PieceFits : List ℕ → List Question → Stack → Stack → Spatial → Piece → Type 0
PieceFits ns qs s e (Cell t ts) x = x ≡ Here (place ns (value s e t))
PieceFits ns qs s e (Pred p ts) x = IsPiece qs p (values s e ts) x

abbrev pub PiecesFit : List ℕ → List Question → Stack → Stack → List Spatial → List Piece → Type 0
PiecesFit ns qs s e [] [] = Unit {0}
PiecesFit ns qs s e [] (y ∷ ys) = ⊥
PiecesFit ns qs s e (x ∷ xs) [] = ⊥
PiecesFit ns qs s e (x ∷ xs) (y ∷ ys) = PieceFits ns qs s e x y × PiecesFit ns qs s e xs ys

-- the rule is a case of its question's predicate, for some values of the locals that fit
pub record IsRule (ds : List Definition) (h : Cells) (ns : List ℕ) (qs : List Question) (r : GroundRule) : Type 0 where
  pub predicate : ℕ
  pub values : List ℕ
  pub question : IsQuestion qs r.head predicate values
  pub of_case : OneOf (λ b. (e : Stack) × Fits h values e b × PiecesFit ns qs values e b.spatial r.pieces)
      (cases_of ds predicate)

-- some rule is this case at these values of the locals
abbrev pub HasRule : List ℕ → List Question → List GroundRule → ℕ → List ℕ → Stack → List Spatial → Type 0
HasRule ns qs rules q vs e xs = OneOf (λ r. (r.head ≡ q) × PiecesFit ns qs vs e xs r.pieces) rules

-- each case of the question's predicate, at each choice of locals that fits, is a rule
pub record IsAnswered (ds : List Definition) (h : Cells) (ns : List ℕ) (qs : List Question) (rules : List GroundRule)
    (q p : ℕ) (vs : List ℕ) : Type 0 where
  pub has : Each (λ b. (e : Stack) → Fits h vs e b → HasRule ns qs rules q vs e b.spatial) (cases_of ds p)

-- the rules are the cases of the questions, and all of them
pub record Grounds (ds : List Definition) (h : Cells) (ns : List ℕ) (qs : List Question) (rules : List GroundRule)
    : Type 0 where
  pub covers : Covers ns h
  pub heap : IsHeap h
  pub sound : Each (IsRule ds h ns qs) rules
  pub complete : (q p : ℕ) (vs : List ℕ) → IsQuestion qs q p vs → IsAnswered ds h ns qs rules q p vs

-- each question keeps its number
pub record Extends (old new : List Question) : Type 0 where
  pub kept : (q p : ℕ) (vs : List ℕ) → IsQuestion old q p vs → IsQuestion new q p vs

-- the question has this number now, and the others keep theirs
pub record Asked (old new : List Question) (q p : ℕ) (vs : List ℕ) : Type 0 where
  pub extends : Extends old new
  pub question : IsQuestion new q p vs

pub record AskedPiece (ns : List ℕ) (old new : List Question) (s e : Stack) (x : Spatial) (y : Piece) : Type 0 where
  pub extends : Extends old new
  pub piece : PieceFits ns new s e x y

pub record AskedPieces (ns : List ℕ) (old new : List Question) (s e : Stack) (xs : List Spatial) (ys : List Piece)
    : Type 0 where
  pub extends : Extends old new
  pub pieces : PiecesFit ns new s e xs ys

-- a cell atom's address is in the list
abbrev pub IsListed : List ℕ → Stack → Stack → Spatial → Type 0
IsListed ns s e (Cell t ts) = IsMember (value s e t) ns
IsListed ns s e (Pred p ts) = Unit {0}

-- after a case at given values: each choice of locals that fits has its rule, and what was added is such a rule
pub record GroundedCase (h : Cells) (ns : List ℕ) (qs qs' : List Question) (rules rules' : List GroundRule) (head : ℕ)
    (vs : List ℕ) (b : SymbolicHeap) : Type 0 where
  pub extends : Extends qs qs'
  pub more : (rules' ≡ rules) ⊎ ((r : GroundRule) × (rules' ≡ rules ++ r ∷ []) × (r.head ≡ head)
      × ((e : Stack) × Fits h vs e b × PiecesFit ns qs' vs e b.spatial r.pieces))
  pub has : (e : Stack) → Fits h vs e b → HasRule ns qs' rules' head vs e b.spatial

-- the rule is one of these cases at these values
abbrev pub IsCaseRule : Cells → List ℕ → List Question → ℕ → List ℕ → List SymbolicHeap → GroundRule → Type 0
IsCaseRule h ns qs head vs bs r = (r.head ≡ head) × OneOf (λ b. (e : Stack) × Fits h vs e b
    × PiecesFit ns qs vs e b.spatial r.pieces) bs

-- the same for several cases
pub record GroundedCases (h : Cells) (ns : List ℕ) (qs qs' : List Question) (rules rules' : List GroundRule) (head : ℕ)
    (vs : List ℕ) (bs : List SymbolicHeap) : Type 0 where
  pub extends : Extends qs qs'
  pub added : List GroundRule
  pub more : rules' ≡ rules ++ added
  pub are : Each (IsCaseRule h ns qs' head vs bs) added
  pub has : Each (λ b. (e : Stack) → Fits h vs e b → HasRule ns qs' rules' head vs e b.spatial) bs

-- the rules are cases of the questions, and all of those of the first questions
pub record IsGrounded (ds : List Definition) (h : Cells) (ns : List ℕ) (qs : List Question) (rules : List GroundRule)
    (done : ℕ) : Type 0 where
  pub sound : Each (IsRule ds h ns qs) rules
  pub complete : (q p : ℕ) (vs : List ℕ) → q < done → IsQuestion qs q p vs → IsAnswered ds h ns qs rules q p vs
