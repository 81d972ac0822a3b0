-- The shared words are words that the lexer gives.
use Rattle.std.proofs.Common.{◌≡◌, true, [], ◌∷◌, Some, refl}
use Rattle.std.specs.Prelude.{codes}
use Rattle.cyc_lex.specs.Word.{is_number_text, is_symbol_text, is_lexeme}
use Rattle.cyc_lex.proofs.Letters.{letters-name}
use Rattle.cyc_grammar.specs.Classes.{find_text}
use Rattle.cyc_grammar.proofs.Laws.{ClassLaw}
use Rattle.cyc_grammar.proofs.ClassLaws.{numeral_of-law}
use Rattle.heap_syntax.specs.Words.{nil, true_word, emp, pred_word, or_word, last_word, cyclist_word, node_word}
use Rattle.heap_syntax.specs.Words.{from_word, given_word, by_word, to_word, goal_word}
use Rattle.heap_syntax.specs.declared.version.Version.{Version}
use Rattle.heap_syntax.specs.declared.version.Version.TheVariants.{One, Two, Three}
use Rattle.heap_syntax.specs.Versions.{version_text, versions, version, first_text, first_version}

pub nil-word : is_lexeme (nil.word tt) ≡ true
nil-word = letters-name (codes "nil") refl

pub true-word : is_lexeme (true_word.word tt) ≡ true
true-word = letters-name (codes "true") refl

pub emp-word : is_lexeme (emp.word tt) ≡ true
emp-word = letters-name (codes "emp") refl

pub pred-word : is_lexeme (pred_word.word tt) ≡ true
pred-word = letters-name (codes "pred") refl

pub or-word : is_lexeme (or_word.word tt) ≡ true
or-word = letters-name (codes "or") refl

pub last-word : is_lexeme (last_word.word tt) ≡ true
last-word = letters-name (codes "end") refl

pub cyclist-word : is_lexeme (cyclist_word.word tt) ≡ true
cyclist-word = letters-name (codes "cyclist") refl

pub node-word : is_lexeme (node_word.word tt) ≡ true
node-word = letters-name (codes "node") refl

pub from-word : is_lexeme (from_word.word tt) ≡ true
from-word = letters-name (codes "from") refl

pub given-word : is_lexeme (given_word.word tt) ≡ true
given-word = letters-name (codes "given") refl

pub by-word : is_lexeme (by_word.word tt) ≡ true
by-word = letters-name (codes "by") refl

pub to-word : is_lexeme (to_word.word tt) ≡ true
to-word = letters-name (codes "to") refl

pub goal-word : is_lexeme (goal_word.word tt) ≡ true
goal-word = letters-name (codes "goal") refl

-- the number of each version is a number that the lexer gives, and is read as that version
pub version-word : (v : Version) → version.fits v → is_lexeme (version.word v) ≡ true
unfolding is_number_text
version-word One f = refl
version-word Two f = refl
version-word Three f = refl

pub version-law : ClassLaw version
version-law = numeral_of-law version_text versions One found
  where
    found : (v : Version) → find_text version_text versions (version_text v) ≡ Some v
    found One = refl
    found Two = refl
    found Three = refl

pub first_version-word : is_lexeme (first_version.word tt) ≡ true
unfolding is_number_text
first_version-word = refl

pub first_version-law : ClassLaw first_version
first_version-law = numeral_of-law first_text (tt ∷ []) tt (λ u. refl)

-- symbols are told from the list of all of them
pub record AllSymbols : Type 0 where
  pub dollar_word : is_symbol_text (codes "$") ≡ true
  pub query_word : is_symbol_text (codes "?") ≡ true
  pub prime_word : is_symbol_text (codes "'") ≡ true
  pub dot_word : is_symbol_text (codes ".") ≡ true
  pub equal_word : is_symbol_text (codes "=") ≡ true
  pub unequal_word : is_symbol_text (codes "!=") ≡ true
  pub comma_word : is_symbol_text (codes ",") ≡ true
  pub colon_word : is_symbol_text (codes ":") ≡ true
  pub semicolon_word : is_symbol_text (codes ";") ≡ true
  pub star_word : is_symbol_text (codes "*") ≡ true
  pub bar_word : is_symbol_text (codes "|") ≡ true
  pub arrow_word : is_symbol_text (codes "->") ≡ true
  pub assign_word : is_symbol_text (codes ":=") ≡ true
  pub turnstile_word : is_symbol_text (codes "|-") ≡ true
  pub opening_word : is_symbol_text (codes "(") ≡ true
  pub closing_word : is_symbol_text (codes ")") ≡ true
  pub opening_brace_word : is_symbol_text (codes "{") ≡ true
  pub closing_brace_word : is_symbol_text (codes "}") ≡ true
  pub opening_bracket_word : is_symbol_text (codes "[") ≡ true
  pub closing_bracket_word : is_symbol_text (codes "]") ≡ true

pub syms : AllSymbols
unfolding is_symbol_text
syms = record {
  dollar_word = refl;
  query_word = refl;
  prime_word = refl;
  dot_word = refl;
  equal_word = refl;
  unequal_word = refl;
  comma_word = refl;
  colon_word = refl;
  semicolon_word = refl;
  star_word = refl;
  bar_word = refl;
  arrow_word = refl;
  assign_word = refl;
  turnstile_word = refl;
  opening_word = refl;
  closing_word = refl;
  opening_brace_word = refl;
  closing_brace_word = refl;
  opening_bracket_word = refl;
  closing_bracket_word = refl;
}
