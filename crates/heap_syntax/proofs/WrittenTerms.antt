-- A term of an antecedent is written as any term.
use Rattle.std.proofs.Common.{◌≡◌, Bool, true, false, refl}
use Rattle.heap_syntax.specs.declared.definitions.tree.TermTree.{TermTree}
use Rattle.heap_syntax.specs.declared.definitions.tree.TermTree.TheVariants.{Nil, Univ, Exist}
use Rattle.heap_syntax.specs.DefinitionGrammar.{term, uterm, terms}

pub uterm-words : (t : TermTree) → uterm.fits t → uterm.words t ≡ term.words t
unfolding uterm term
uterm-words Nil f = refl
uterm-words (Univ n) f = refl
uterm-words (Exist n) f = absurd f.0

pub terms-words : (universal : Bool) (t : TermTree) → (terms universal).fits t
    → (terms universal).words t ≡ term.words t
unfolding terms
terms-words true t f = uterm-words t f
terms-words false t f = refl
