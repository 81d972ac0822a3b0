-- The words that formats share, and those that are no names.
use Rattle.std.specs.Prelude.{ℕ, List, [], ◌∷◌, codes}
use Rattle.cyc_grammar.specs.Syntax.{Class}
use Rattle.cyc_grammar.specs.Classes.{symbol, keyword, name}
use Rattle.heap_syntax.specs.declared.mark.Mark.{Mark}
use Rattle.heap_syntax.specs.declared.mark.Mark.TheVariants.{Symbol, Keyword}

abbrev pub nil : Class (Unit {0})
nil = keyword (codes "nil")

abbrev pub true_word : Class (Unit {0})
true_word = keyword (codes "true")

abbrev pub emp : Class (Unit {0})
emp = keyword (codes "emp")

abbrev pub pred_word : Class (Unit {0})
pred_word = keyword (codes "pred")

abbrev pub or_word : Class (Unit {0})
or_word = keyword (codes "or")

abbrev pub last_word : Class (Unit {0})
last_word = keyword (codes "end")

abbrev pub cyclist_word : Class (Unit {0})
cyclist_word = keyword (codes "cyclist")

abbrev pub node_word : Class (Unit {0})
node_word = keyword (codes "node")

abbrev pub from_word : Class (Unit {0})
from_word = keyword (codes "from")

abbrev pub given_word : Class (Unit {0})
given_word = keyword (codes "given")

abbrev pub by_word : Class (Unit {0})
by_word = keyword (codes "by")

abbrev pub to_word : Class (Unit {0})
to_word = keyword (codes "to")

abbrev pub goal_word : Class (Unit {0})
goal_word = keyword (codes "goal")

abbrev pub equal : Class (Unit {0})
equal = symbol (codes "=")

abbrev pub unequal : Class (Unit {0})
unequal = symbol (codes "!=")

abbrev pub comma : Class (Unit {0})
comma = symbol (codes ",")

abbrev pub colon : Class (Unit {0})
colon = symbol (codes ":")

abbrev pub semicolon : Class (Unit {0})
semicolon = symbol (codes ";")

abbrev pub star : Class (Unit {0})
star = symbol (codes "*")

abbrev pub bar : Class (Unit {0})
bar = symbol (codes "|")

abbrev pub arrow : Class (Unit {0})
arrow = symbol (codes "->")

abbrev pub assign : Class (Unit {0})
assign = symbol (codes ":=")

abbrev pub turnstile : Class (Unit {0})
turnstile = symbol (codes "|-")

abbrev pub opening : Class (Unit {0})
opening = symbol (codes "(")

abbrev pub closing : Class (Unit {0})
closing = symbol (codes ")")

abbrev pub opening_brace : Class (Unit {0})
opening_brace = symbol (codes "{")

abbrev pub closing_brace : Class (Unit {0})
closing_brace = symbol (codes "}")

abbrev pub opening_bracket : Class (Unit {0})
opening_bracket = symbol (codes "[")

abbrev pub closing_bracket : Class (Unit {0})
closing_bracket = symbol (codes "]")

abbrev pub dollar : Class (Unit {0})
dollar = symbol (codes "$")

abbrev pub query : Class (Unit {0})
query = symbol (codes "?")

abbrev pub prime : Class (Unit {0})
prime = symbol (codes "'")

-- the words that are no names
abbrev pub reserved : List (List ℕ)
reserved = codes "true" ∷ codes "emp" ∷ codes "nil" ∷ codes "pred" ∷ codes "line" ∷ codes "node" ∷ codes "by"
    ∷ codes "to" ∷ codes "end" ∷ codes "from" ∷ codes "given" ∷ codes "or" ∷ codes "goal" ∷ codes "if" ∷ codes "goto"
    ∷ codes "new" ∷ codes "free" ∷ codes "stop" ∷ []

abbrev pub free_name : Class (List ℕ)
free_name = name reserved

-- the one word that a mark is
abbrev pub marked : Mark → Class (Unit {0})
marked (Symbol s) = symbol s.now
marked (Keyword s) = keyword s.now
