-- Comment lines.
use Rattle.std.specs.Prelude.{◌≡◌, ℕ, Bool, true, ◌&&◌, not, ◌==◌, List, ◌++◌, codes}
use Rattle.std.specs.Str.{all_scalars, encode_utf8_all}
use Rattle.std.specs.List.{list_all, flat_map}

-- the characters are whole ones, and none of them is a line feed
abbrev pub is_one_line : List ℕ → Bool
is_one_line cs = all_scalars cs && list_all (λ c. not (c == 10)) cs

-- the characters of a comment line, where these stand between its '#' and its line feed
abbrev pub comment_line : List ℕ → List ℕ
comment_line cs = codes "#" ++ (cs ++ codes "\n")

-- the bytes are the UTF-8 of comment lines
pub record AreNotes (bytes : List ℕ) : Type 0 where
  -- what stands between the '#' and the line feed of each
  pub lines : List (List ℕ)
  pub each : list_all is_one_line lines ≡ true
  pub spelled : bytes ≡ encode_utf8_all (flat_map comment_line lines)
