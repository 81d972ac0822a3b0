-- The words of an atom are those of its terms.
use Rattle.std.proofs.Common.{◌≡◌, Bool, List, [], ◌∷◌, ◌++◌, refl, inl, inr, ◌⊎◌}
use Rattle.cyc_grammar.specs.Syntax.{seq, words_alt, fits_alt, after}
use Rattle.heap_syntax.specs.Words.{equal}
use Rattle.fo_syntax.specs.Steps.{option}
use Rattle.fo_syntax.specs.Trees.{Sign, Equation, Predicate}
use Rattle.fo_syntax.specs.Grammar.{leaf, application, from_term, IsTerm, term, equated, atom}
use Rattle.std.proofs.lemmas.List.{append-nil}
use Rattle.fo_syntax.proofs.TermLaws.{application-is, applied-term}

pub record Sided (b : Bool) (t u : List Sign) : Type 0 where
  pub left : (term b).fits t
  pub right : (term b).fits u
  pub words : (atom b).words (Equation t u) ≡ (term b).words t ++ (equal.word tt ∷ (term b).words u)

pub sides : (b : Bool) (t u : List Sign) → (atom b).fits (Equation t u) → Sided b t u
unfolding term atom
sides b t u f = let p = sided (from_term t) f.1 in record { left = (f.0, p.0); right = p.1.0; words = p.1.1 }
  where
    sided : (x : List Sign ⊎ Sign) → fits_alt (seq (application b) (option equal (term b)))
        (seq (leaf b) (after equal (term b))) (equated u x)
        → fits_alt (application b) (leaf b) x × ((term b).fits u
        × (words_alt (seq (application b) (option equal (term b))) (seq (leaf b) (after equal (term b)))
        (equated u x) ≡ words_alt (application b) (leaf b) x ++ (equal.word tt ∷ (term b).words u)))
    sided (inl y) f = (f.0, (f.1, refl))
    sided (inr s) f = (f.0, (f.1, refl))

pub record Alone (b : Bool) (t : List Sign) : Type 0 where
  pub fits : (term b).fits t
  pub words : (atom b).words (Predicate t) ≡ (term b).words t

pub alone : (b : Bool) (t : List Sign) → (atom b).fits (Predicate t) → Alone b t
unfolding term atom
alone b t f = let p = by_parts t f.1.0 (applied-term t (application-is b t f.1.0)) in record { fits = p.0; words = p.1 }
  where
    by_parts : (t : List Sign) → (application b).fits t → (from_term t ≡ inl t) × IsTerm t
        → (term b).fits t × ((application b).words t ++ [] ≡ (term b).words t)
    by_parts t f p = ((p.1, rw p.0 f), rw p.0 (append-nil ((application b).words t)))
