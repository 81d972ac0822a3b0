-- Where the signs of a term stand among its tokens.
use Rattle.std.specs.Prelude.{ℕ, ◌+◌, List, [], ◌∷◌, ◌++◌}
use Rattle.fo_syntax.specs.declared.terms.bracket.Awaited.{Awaited}
use Rattle.fo_syntax.specs.declared.terms.bracket.Awaited.TheVariants.{First, Next, Nothing}
use Rattle.fo_syntax.specs.Trees.{Sign, Variable, Local, Apply}
use Rattle.fo_syntax.specs.Brackets.{Mark, Leaf, Opening, Closing, brackets}
use Rattle.fo_syntax.specs.Grammar.{behind_mark}

-- the comma that stands before a mark, but for the first argument and a closing bracket
abbrev pub commas : Awaited → Mark → ℕ
commas a Closing = 0
commas (First n) (Leaf s) = 0
commas (First n) (Opening name) = 0
commas (Next n) (Leaf s) = 1
commas (Next n) (Opening name) = 1
commas Nothing (Leaf s) = 1
commas Nothing (Opening name) = 1

-- "$" or "?" and the number, the name and "(", or ")"
abbrev pub tokens_of_mark : Mark → ℕ
tokens_of_mark (Leaf s) = 2
tokens_of_mark (Opening name) = 2
tokens_of_mark Closing = 1

-- the token after the marks, the first of which begins at token k
abbrev pub marks_end : ℕ → Awaited → List Mark → ℕ
marks_end k a [] = k
marks_end k a (m ∷ ms) = marks_end (k + commas a m + tokens_of_mark m) (behind_mark a m) ms

-- the first token of a sign; a closing bracket is none
abbrev pub sign_at : ℕ → Awaited → Mark → List ℕ
sign_at k a Closing = []
sign_at k a (Leaf s) = (k + commas a (Leaf s)) ∷ []
sign_at k a (Opening name) = (k + commas a (Opening name)) ∷ []

abbrev pub marks_at : ℕ → Awaited → List Mark → List ℕ
marks_at k a [] = []
marks_at k a (m ∷ ms) = sign_at k a m ++ marks_at (k + commas a m + tokens_of_mark m) (behind_mark a m) ms

-- the first token of each sign, and last the token after the term; a term begins at token 0
abbrev pub places_of : List Sign → List ℕ
places_of [] = 0 ∷ []
places_of (Variable n ∷ ss) = 0 ∷ 2 ∷ []
places_of (Local n ∷ ss) = 0 ∷ 2 ∷ []
places_of (Apply name n ∷ ss) = 0 ∷ marks_at 2 (First 0) (brackets (n ∷ []) ss)
    ++ marks_end 2 (First 0) (brackets (n ∷ []) ss) ∷ []

-- the number of a term's tokens
abbrev pub tokens_in : List Sign → ℕ
tokens_in [] = 0
tokens_in (Variable n ∷ ss) = 2
tokens_in (Local n ∷ ss) = 2
tokens_in (Apply name n ∷ ss) = marks_end 2 (First 0) (brackets (n ∷ []) ss)
