-- Prefix notation and brackets: where the brackets of a prefix word close, and how many arguments stand in brackets.
use Rattle.std.specs.Prelude.{ℕ, zero, suc, List, [], ◌∷◌, ◌++◌}
use Rattle.fo_syntax.specs.Trees.{Sign, Variable, Local, Apply}

-- a variable, a name with its opening bracket, or a closing bracket
pub data Mark : Type 0 where
  Leaf : Sign → Mark
  Opening : List ℕ → Mark
  Closing : Mark

abbrev pub mark_of : Sign → Mark
mark_of (Variable n) = Leaf (Variable n)
mark_of (Local n) = Leaf (Local n)
mark_of (Apply name n) = Opening name

-- Open brackets are told by how many arguments each still waits for, the innermost first.

abbrev pub opened : Sign → List ℕ → List ℕ
opened (Variable n) waits = waits
opened (Local n) waits = waits
opened (Apply name n) waits = n ∷ waits

-- the brackets that close where a sign comes or the word ends
abbrev pub closings : List ℕ → List Mark
closings [] = []
closings (zero ∷ waits) = Closing ∷ closings waits
closings (suc n ∷ waits) = []

-- what the open brackets wait for after the next argument
abbrev pub behind_next : List ℕ → List ℕ
behind_next [] = []
behind_next (zero ∷ waits) = behind_next waits
behind_next (suc n ∷ waits) = n ∷ waits

abbrev pub brackets : List ℕ → List Sign → List Mark
brackets waits [] = closings waits
brackets waits (s ∷ ss) = closings waits ++ mark_of s ∷ brackets (opened s (behind_next waits)) ss

-- ---- counting from the right: the signs, and how many arguments stand in each bracket that closes unopened

abbrev pub one_more : List ℕ → List ℕ
one_more [] = []
one_more (n ∷ ns) = suc n ∷ ns

abbrev pub innermost : List ℕ → ℕ
innermost [] = 0
innermost (n ∷ ns) = n

abbrev pub outer : List ℕ → List ℕ
outer [] = []
outer (n ∷ ns) = ns

abbrev pub count : Mark → List Sign × List ℕ → List Sign × List ℕ
count (Leaf s) c = (s ∷ c.0, one_more c.1)
count (Opening name) c = (Apply name (innermost c.1) ∷ c.0, one_more (outer c.1))
count Closing c = (c.0, 0 ∷ c.1)

abbrev pub counted : List Mark → List Sign × List ℕ
counted [] = ([], [])
counted (m ∷ ms) = count m (counted ms)
