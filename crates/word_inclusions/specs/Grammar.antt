-- The texts of inclusions and proofs: what a list of words is read as. A reading tells a value and the words that are
-- left, or how many words are left from the first dead one on.
use Rattle.std.specs.Prelude.{ℕ, zero, suc, Bool, ◌&&◌, ◌||◌, nat_le, if◌then◌else◌, List, [], ◌∷◌, length, codes, Ok}
use Rattle.std.specs.Prelude.{Err}
use Rattle.cyc_lex.specs.Word.{Word}
use Rattle.cyc_grammar.specs.Syntax.{Reading, ◌>>=◌, read_class, is_one, begins}
use Rattle.cyc_grammar.specs.Classes.{symbol, keyword, name, number}
use Rattle.rule_logics.specs.Text.{TextValue}
use Rattle.word_inclusions.specs.declared.logic.WordRule.{WordRule}
use Rattle.word_inclusions.specs.declared.logic.WordRule.TheVariants.{Step}
use Rattle.word_inclusions.specs.declared.logic.WordFault.{WordFault}
use Rattle.word_inclusions.specs.Expressions.{Expression, Zero, One, Letter, Sum, Product, Star, Sides, sides}
use Rattle.word_inclusions.specs.declared.texts.expressions.Level.{Level}
use Rattle.word_inclusions.specs.declared.texts.expressions.Level.TheVariants as level
use Rattle.word_inclusions.specs.declared.texts.expressions.TheConstants.{MOST_DEPTH}

-- ---- expressions: `|` binds least, then one after the other, then `*`

-- the word that ends an expression, so no letter
abbrev pub reserved : List (List ℕ)
reserved = codes "by" ∷ []

abbrev pub constant : ℕ → List Word → ℕ → Reading Expression
constant zero rest dead = Ok (Zero, rest)
constant (suc zero) rest dead = Ok (One, rest)
constant (suc (suc n)) rest dead = Err dead

-- a letter from a to z
abbrev pub letter : List ℕ → List Word → ℕ → Reading Expression
letter (c ∷ []) rest dead = if nat_le 97 c && nat_le c 122 then Ok (Letter c, rest) else Err dead
letter _ rest dead = Err dead

abbrev pub read_leaf : List Word → Reading Expression
read_leaf ts =
    if begins (is_one number) ts then (read_class number ts >>= λ x. constant x.0 x.1 (length ts))
    else (read_class (name reserved) ts >>= λ x. letter x.0 x.1 (length ts))

abbrev pub read_bracket : (List Word → Reading Expression) → List Word → Reading Expression
read_bracket inner ts = read_class (symbol (codes "(")) ts >>= λ x. inner x.1 >>= λ e. read_class (symbol (codes ")"))
    e.1 >>= λ y. Ok (e.0, y.1)

-- whether a factor may begin here
abbrev pub is_factor : List Word → Bool
is_factor ts = begins (is_one (symbol (codes "("))) ts || (begins (is_one number) ts || begins (is_one (name reserved))
    ts)

-- an expression of this level, at most so deep
abbrev pub read_expression : ℕ → Level → List Word → Reading Expression
read_expression zero l ts = Err (length ts)
read_expression (suc n) level.Sum ts =
    read_expression n level.Product ts >>= λ e. (
    if begins (is_one (symbol (codes "|"))) e.1 then
    (read_class (symbol (codes "|")) e.1 >>= λ x. read_expression n level.Sum x.1 >>= λ f. Ok (Sum e.0 f.0, f.1))
    else Ok e)
read_expression (suc n) level.Product ts =
    read_expression n level.Factor ts >>= λ e. (if is_factor e.1 then
    (read_expression n level.Product e.1 >>= λ f. Ok (Product e.0 f.0, f.1)) else Ok e)
read_expression (suc n) level.Factor ts =
    (if begins (is_one (symbol (codes "("))) ts then read_bracket (read_expression n level.Sum) ts else read_leaf ts)
    >>= λ e. (
    if begins (is_one (symbol (codes "*"))) e.1 then (read_class (symbol (codes "*")) e.1 >>= λ x. Ok (Star e.0, x.1))
    else Ok e)

-- an expression, which is not too deep; opaque, since a proof would compute it to its depth
unfoldable pub read_any : List Word → Reading Expression
read_any ts = read_expression MOST_DEPTH level.Sum ts

-- ---- inclusions

abbrev pub read_inclusion : List Word → Reading Sides
read_inclusion ts =
    read_any ts >>= λ e. read_class (symbol (codes "|-")) e.1 >>= λ x. read_any x.1 >>= λ f. Ok (sides e.0 f.0, f.1)

abbrev pub read_rule : List Word → Reading WordRule
read_rule ts = read_class (keyword (codes "Step")) ts >>= λ x. Ok (Step, x.1)

-- the texts; a step leaves at most two premises
abbrev pub word_text : TextValue Sides WordRule WordFault
word_text = record {
  title = codes "words";
  kind = codes "inclusion";
  judgement = read_inclusion;
  rule = read_rule;
  more = 1;
  fault = λ f. codes "NoEmptyWord";
}
