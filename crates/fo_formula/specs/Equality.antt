-- What `==` computes of terms and atoms.
use Rattle.std.specs.Prelude.{Bool}
use Rattle.std.specs.Cmp.{IsPartialEquivalence}
use Rattle.std.specs.Cmp.Lexicographic.{pointwise, lists_per}
use Rattle.fo_formula.specs.contracts.terms.SignPartialEq.TheImpl.{eq-value as sign_eq}
use Rattle.fo_formula.specs.contracts.terms.SignPartialEq.TheImpl.Laws.{laws-law as sign_laws}
use Rattle.fo_formula.specs.Words.{Word}

abbrev pub word_eq : Word → Word → Bool
word_eq a b = pointwise sign_eq.it a b

pub word_eq-laws : IsPartialEquivalence word_eq
word_eq-laws = lists_per sign_laws
