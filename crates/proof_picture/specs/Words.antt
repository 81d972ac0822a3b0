-- The words of a node with names in place of numbers.
use Rattle.std.specs.Prelude.{ℕ, ◌+◌, ◌*◌, ◌-◌, Bool, true, false, ◌&&◌, nat_lt, List, [], ◌∷◌, ◌++◌, map, codes}
use Rattle.std.specs.Prelude.{Option, Some, None, slice_get, if◌then◌else◌}
use Rattle.std.specs.Str.{bytes_eq}
use Rattle.cyc_lex.specs.declared.token.Kind.TheVariants.{Name as NameKind, Symbol}
use Rattle.cyc_lex.specs.Word.{Word, is_symbol}
use Rattle.problem_syntax.specs.Names.{Name}
use Rattle.problem_syntax.specs.NameViews.{name_of}
use Rattle.proof_picture.specs.Kept.{flag}
use Rattle.proof_picture.specs.declared.names.words.Scope.{Scope}
use Rattle.proof_picture.specs.declared.names.words.Site.{Site}
use Rattle.proof_picture.specs.declared.names.words.Site.TheVariants.{Elsewhere, Key, Value}

-- ---- names by numbers

-- the names of a goal, and which of them a node and the companion of its link show
pub record NameScope : Type 0 where
  pub names : List Name
  pub own : List Bool
  pub keys : List Bool

abbrev pub scope_of : Scope → NameScope
scope_of s = record { names = map name_of s.names.now; own = s.own.now; keys = s.keys.now }

-- the flags for a variable at a site: before `:=` in the braces of a link stand the companion's
abbrev pub at_site : Site → NameScope → List Bool
at_site Elsewhere s = s.own
at_site Key s = s.keys
at_site Value s = s.own

-- the name of variable n where these are shown
abbrev pub name_by : List Name → List Bool → ℕ → Option Name
name_by names shown n = if flag shown n then slice_get names n else None

-- one more digit of a number; from 100,000 on a number is no variable's, and its digits do not matter
abbrev pub with_digit : ℕ → ℕ → ℕ
with_digit number digit = if nat_lt number 100000 then 10 * number + (digit - 48) else number

abbrev pub number_from : ℕ → List ℕ → ℕ
number_from number [] = number
number_from number (d ∷ ds) = number_from (with_digit number d) ds

-- the number that the digits write
abbrev pub number_of : List ℕ → ℕ
number_of text = number_from 0 text

-- ---- words

abbrev pub is_dollar : Word → Bool
is_dollar w = is_symbol w.kind && bytes_eq w.text (codes "$")

abbrev pub symbol_word : List ℕ → Word
symbol_word text = record { kind = Symbol; text = text }

abbrev pub prime_words : Bool → List Word
prime_words true = symbol_word (codes "'") ∷ []
prime_words false = []

-- the words of the variable with this number: those of its name, or `$` and the number
abbrev pub variable_words : Word → Option Name → List Word
variable_words number None = symbol_word (codes "$") ∷ number ∷ []
variable_words number (Some n) = record { kind = NameKind; text = n.text } ∷ prime_words n.primed

abbrev pub behind_key : List ℕ → Site
behind_key text = if bytes_eq text (codes ":=") then Value else Key

abbrev pub behind_value : List ℕ → Site
behind_value text = if bytes_eq text (codes ",") then Key else Value

abbrev pub in_braces : Site → List ℕ → Site
in_braces Elsewhere text = Elsewhere
in_braces Key text = behind_key text
in_braces Value text = behind_value text

-- where the word after this one stands
abbrev pub site_behind : Site → List ℕ → Site
site_behind site text =
    if bytes_eq text (codes "{") then Key else (if bytes_eq text (codes "}") then Elsewhere else in_braces site text)

-- ---- all words of a node

-- the words so far, where the next one stands, and whether the last word began a variable
pub record Renamed : Type 0 where
  pub words : List Word
  pub site : Site
  pub begun : Bool

abbrev pub blank_renaming : Renamed
blank_renaming = record { words = []; site = Elsewhere; begun = false }

-- the number of the variable that has begun
abbrev pub with_variable : NameScope → Renamed → Word → Renamed
with_variable s r w = record {
  words = r.words ++ variable_words w (name_by s.names (at_site r.site s) (number_of w.text));
  site = r.site;
  begun = false;
}

-- any other word
abbrev pub with_word : Renamed → Word → Renamed
with_word r w =
    if is_dollar w then record { words = r.words; site = r.site; begun = true }
    else record { words = r.words ++ w ∷ []; site = site_behind r.site w.text; begun = false }

-- one more word
abbrev pub renamed : NameScope → Renamed → Word → Renamed
renamed s r w = if r.begun then with_variable s r w else with_word r w

abbrev pub renamed_all : NameScope → Renamed → List Word → Renamed
renamed_all s r [] = r
renamed_all s r (w ∷ ws) = renamed_all s (renamed s r w) ws

-- the words with the names of variables in place of their numbers
abbrev pub named_words : NameScope → List Word → List Word
named_words s ws = (renamed_all s blank_renaming ws).words
