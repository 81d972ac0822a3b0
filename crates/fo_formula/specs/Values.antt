-- The values of terms: closed terms.
use Rattle.std.specs.Prelude.{◌≡◌, ℕ, List, [], ◌∷◌, map, Some, slice_get, slice_index_or}
use Rattle.heap_formula.specs.Words.{Each}
use Rattle.fo_formula.specs.declared.terms.Sign.{Sign}
use Rattle.fo_formula.specs.declared.terms.Sign.TheVariants.{Universal, Local, Constructor}
use Rattle.fo_formula.specs.declared.theory.Constructor.{Constructor as ConstructorValue}
use Rattle.fo_formula.specs.Words.{Word, IsTerm, replaced, first_constant}

-- the constructor has this number and takes so many arguments
abbrev pub IsConstructor : List ConstructorValue → ℕ → ℕ → Type 0
IsConstructor cs c k = slice_get (map (λ (x : ConstructorValue). x.arguments) cs) c ≡ Some k

-- a sign of a closed term: a constructor
abbrev pub IsClosedSign : List ConstructorValue → Sign → Type 0
IsClosedSign cs (Universal n) = ⊥
IsClosedSign cs (Local n) = ⊥
IsClosedSign cs (Constructor c k) = IsConstructor cs c k

-- a closed term
abbrev pub IsClosedTerm : List ConstructorValue → Word → Type 0
IsClosedTerm cs w = IsTerm w × Each (IsClosedSign cs) w

-- a valuation: a list of closed terms; a variable past its end is the first constructor
abbrev pub IsValuation : List ConstructorValue → List Word → Type 0
IsValuation cs v = Each (IsClosedTerm cs) v

-- the entry of a valuation for a number
abbrev pub entry : List Word → ℕ → Word
entry v n = slice_index_or v n first_constant

-- the value of a sign, under a valuation of the variables and one of the locals
abbrev pub sign_value : List Word → List Word → Sign → Word
sign_value v e (Universal n) = entry v n
sign_value v e (Local n) = entry e n
sign_value v e (Constructor c k) = Constructor c k ∷ []

-- the value of a term: the values of its signs, one after another
abbrev pub value : List Word → List Word → Word → Word
value v e w = replaced (sign_value v e) w
