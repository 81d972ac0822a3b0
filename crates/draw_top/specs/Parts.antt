-- Where a problem begins behind a proof.
use Rattle.std.specs.Prelude.{ℕ, suc, ◌+◌, Bool, false, ◌&&◌, not, nat_eq, nat_lt, nat_le, List, [], ◌∷◌, codes, drop}
use Rattle.std.specs.Prelude.{take, Option, Some, None, option_map, Result, Ok, Err, if◌then◌else◌}
use Rattle.std.specs.Str.{bytes_eq}
use Rattle.std.specs.Borrow.{Bor}
use Rattle.cyc_lex.specs.declared.place.Bad.{Bad}
use Rattle.cyc_lex.specs.declared.place.Place.{Place}
use Rattle.cyc_lex.specs.Lexing.{tokens_of}
use Rattle.cyc_lex.specs.Placed.{Placed}
use Rattle.cyc_lex.specs.Word.{is_name}
use Rattle.draw_top.specs.declared.inputs.parts.Here.{Here}
use Rattle.draw_top.specs.declared.inputs.parts.Start.{Start}

-- ---- by tokens

abbrev pub is_named : Placed → List ℕ → Bool
is_named t text = is_name t.kind && bytes_eq t.text text

-- a problem begins with these tokens
abbrev pub begins_problem : List Placed → Bool
begins_problem [] = false
begins_problem (t ∷ []) = false
begins_problem (t ∷ u ∷ ts) = is_named t (codes "cyclist") && is_named u (codes "problem")

-- where the problem begins, if its first token is the second one here: with the line after that of the token before it,
-- or where its first token stands, if both are on one line
abbrev pub start_behind : Placed → Placed → Start
start_behind before first =
    if nat_lt before.line first.line then record { line = before.line + 1; column = 1 } else record
    { line = first.line; column = first.column }

-- where the first problem begins in these tokens, which stand behind another one
abbrev pub start_from : Placed → List Placed → Option Start
start_from before [] = None
start_from before (t ∷ ts) = if begins_problem (t ∷ ts) then Some (start_behind before t) else start_from t ts

-- where the first problem begins behind another token
abbrev pub problem_start : List Placed → Option Start
problem_start [] = None
problem_start (t ∷ ts) = start_from t ts

-- ---- by bytes

-- the byte goes on a character
abbrev pub is_tail : ℕ → Bool
is_tail b = nat_le 128 b && nat_lt b 192

-- the byte, which stands here, begins the character at this place
abbrev pub is_at : Start → Here → ℕ → Bool
is_at start here b = not (is_tail b) && (nat_eq here.line start.line && nat_eq here.column start.column)

abbrev pub behind_character : Here → ℕ → Here
behind_character here b =
    if nat_eq b 10 then record { line = here.line + 1; column = 1 } else record
    { line = here.line; column = here.column + 1 }

-- the place after a byte that stands here
abbrev pub behind : Here → ℕ → Here
behind here b = if is_tail b then here else behind_character here b

-- the number of the bytes before a place; all of them, if there is no such place
abbrev pub offset_from : Here → Start → List ℕ → ℕ
offset_from here start [] = 0
offset_from here start (b ∷ bs) = if is_at start here b then 0 else suc (offset_from (behind here b) start bs)

abbrev pub offset_of : Start → List ℕ → ℕ
offset_of start bytes = offset_from (record { line = 1; column = 1 }) start bytes

abbrev pub cut_at : Start → List ℕ → List ℕ × List ℕ
cut_at start bytes = let offset = offset_of start bytes in (take offset bytes, drop offset bytes)

-- ---- the two parts of a text

abbrev pub parts_seen : Bor (List ℕ) × Bor (List ℕ) → List ℕ × List ℕ
parts_seen p = (p.0.now, p.1.now)

abbrev pub parts_by : Result (List Placed) (Bad × Place) → List ℕ → Option (List ℕ × List ℕ)
parts_by (Ok ts) bytes = option_map (λ start. cut_at start bytes) (problem_start ts)
parts_by (Err e) bytes = None

-- a proof and the problem behind it, where the text has both; one without tokens has not
abbrev pub parts_in : List ℕ → Option (List ℕ × List ℕ)
parts_in bytes = parts_by (tokens_of bytes) bytes
