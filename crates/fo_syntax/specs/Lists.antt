-- One item or more, with a word between neighbours, where a text may go on after an item.
use Rattle.std.specs.Prelude.{◌<◌, List, [], ◌∷◌, ◌++◌, length, Ok}
use Rattle.cyc_lex.specs.Word.{Word}
use Rattle.cyc_grammar.specs.Syntax.{Reading, ◌>>=◌, Syntax, Class, is_one, after, read_many, words_many, more_many}
use Rattle.cyc_grammar.specs.Syntax.{fits_many}

abbrev pub words_list : {A : Type 0} → Class (Unit {0}) → Syntax A → List A → List Word
words_list c a [] = []
words_list c a (x ∷ xs) = a.words x ++ words_many (after c a) xs

abbrev pub read_list : {A : Type 0} → Class (Unit {0}) → Syntax A → List Word → Reading (List A)
read_list c a ts = a.read ts >>= λ x. read_many (is_one c) (after c a) (length ts) x.1 >>= λ y. Ok (x.0 ∷ y.0, y.1)

abbrev pub list_of : {A : Type 0} → Class (Unit {0}) → Syntax A → Syntax (List A)
list_of c a = record {
  words = words_list c a;
  read = read_list c a;
  more = more_many (is_one c) (after c a);
  fits = λ xs. (0 < length xs) × fits_many (after c a) xs;
}
