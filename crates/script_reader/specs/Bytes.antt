-- What each byte may do in a token.
use Rattle.std.specs.Prelude.{ℕ, Bool, ◌||◌, ◌==◌, [], ◌∷◌}
use Rattle.std.specs.Char.{is_ascii_alphanumeric}
use Rattle.std.specs.List.{list_any}

-- space, tab, carriage return and line feed separate tokens
abbrev pub is_space : ℕ → Bool
is_space b = (b == 32) || ((b == 9) || ((b == 13) || (b == 10)))

-- the marks that symbols have beside letters and digits: ~ ! @ $ % ^ & * _ - + = < > . ? /
abbrev pub is_mark : ℕ → Bool
is_mark b = list_any (λ m. b == m) (126 ∷ 33 ∷ 64 ∷ 36 ∷ 37 ∷ 94 ∷ 38 ∷ 42 ∷ 95 ∷ 45 ∷ 43 ∷ 61 ∷ 60 ∷ 62 ∷ 46 ∷ 63 ∷ 47
    ∷ [])

-- what may stand in a symbol
unfoldable pub is_word_byte : ℕ → Bool
is_word_byte b = is_ascii_alphanumeric b || is_mark b
