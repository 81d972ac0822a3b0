-- Whether a text asks for a frame, and the text of the problem that it speaks of.
use Rattle.std.specs.Prelude.{ℕ, ◌+◌, Bool, true, false, not, ◌&&◌, ◌||◌, ◌==◌, ◌-◌, nat_lt, List, [], ◌∷◌, ◌++◌, codes}
use Rattle.std.specs.Prelude.{length, take, drop, slice_get, Option, Some, None, Result, Ok, Err, if◌then◌else◌}
use Rattle.std.specs.Str.{bytes_eq}
use Rattle.std.specs.List.{list_any}
use Rattle.cyc_lex.specs.declared.place.Place.{Place}
use Rattle.cyc_lex.specs.declared.place.Bad.{Bad}
use Rattle.cyc_lex.specs.Lexing.{tokens_of}
use Rattle.cyc_lex.specs.Placed.{Placed}

-- ---- tokens

-- the token, if there is one, has this text
abbrev pub is_text : Option Placed → List ℕ → Bool
is_text (Some token) text = bytes_eq token.text text
is_text None text = false

-- there is a token at this place, counted from 0, and it has this text
abbrev pub is_at : List Placed → ℕ → List ℕ → Bool
is_at tokens place text = is_text (slice_get tokens place) text

-- some token has this text
abbrev pub has_token : List Placed → List ℕ → Bool
has_token tokens text = list_any (λ token. bytes_eq token.text text) tokens

-- a problem of version 3, as far as the first three tokens tell
abbrev pub begins_so : List Placed → Bool
begins_so tokens = is_at tokens 1 (codes "problem") && is_at tokens 2 (codes "3")

-- of so many tokens, the end token among them, the last are a question mark and the end of a problem; before it stands
-- `:`, or `*` that does not follow `:`
abbrev pub ends_so : List Placed → ℕ → Bool
ends_so tokens n =
    is_at tokens (n - 5) (codes "?") && (is_at tokens (n - 4) (codes ";") && (is_at tokens (n - 3) (codes "end")
    && (is_at tokens (n - 2) (codes ";") && (is_at tokens (n - 6) (codes ":")
    || (is_at tokens (n - 6) (codes "*") && not (is_at tokens (n - 7) (codes ":")))))))

-- the goal is an entailment of one disjunct
abbrev pub has_goal : List Placed → Bool
has_goal tokens = has_token tokens (codes "|-")
    && (not (has_token tokens (codes "or")) && not (has_token tokens (codes "from")))

abbrev pub asks_frame : List Placed → Bool
asks_frame tokens = begins_so tokens && (ends_so tokens (length tokens) && has_goal tokens)

abbrev pub do_ask : Result (List Placed) (Bad × Place) → Bool
do_ask (Ok tokens) = asks_frame tokens
do_ask (Err bad) = false

-- the input is read as a question for a frame
unfoldable pub is_frame_text : List ℕ → Bool
is_frame_text bytes = do_ask (tokens_of bytes)

-- ---- the problem that a question speaks of

-- whether a comment goes on behind this byte, or begins there
abbrev pub comment_after : Bool → ℕ → Bool
comment_after true b = not (b == 10)
comment_after false b = b == 35

-- the place of the last byte of this kind, up to the byte at a place
abbrev pub last_after : ℕ → Bool → ℕ → Option ℕ → ℕ → Option ℕ
last_after kind comment place last b = if not comment && (b == kind) then Some place else last

-- the place of the last byte of this kind that stands in no comment, where the bytes begin at a place, and the last one
-- before them is known
unfoldable pub last_place : ℕ → Bool → ℕ → Option ℕ → List ℕ → Option ℕ
last_place kind comment place last [] = last
last_place kind comment place last (b ∷ bs) = last_place kind (comment_after comment b) (place + 1)
    (last_after kind comment place last b) bs

abbrev pub with_bytes : Option ℕ → List ℕ → List ℕ → List ℕ
with_bytes None others bytes = bytes
with_bytes (Some place) others bytes = take place bytes ++ (others ++ drop (place + 1) bytes)

-- the bytes with others in the place of the last one of this kind
abbrev pub with_last : ℕ → List ℕ → List ℕ → List ℕ
with_last kind others bytes = with_bytes (last_place kind false 0 None bytes) others bytes

abbrev pub is_before : Option ℕ → Option ℕ → Bool
is_before (Some first) (Some second) = nat_lt first second
is_before (Some first) None = false
is_before None second = false

-- the last `*` stands behind the last `:`
abbrev pub is_joined : List ℕ → Bool
is_joined bytes = is_before (last_place 58 false 0 None bytes) (last_place 42 false 0 None bytes)

-- spaces in the place of `*` and `?`, so that every place stays; or the empty heap in the place of `?`
unfoldable pub plain_text : List ℕ → List ℕ
plain_text bytes = if is_joined bytes then with_last 63 (codes " ") (with_last 42 (codes " ") bytes)
    else with_last 63 (codes "emp") bytes
