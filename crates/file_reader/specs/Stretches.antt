-- Tokens of a text that stand next to one another.
use Rattle.std.specs.Prelude.{◌+◌, ◌<◌, ◌≤◌, ◌^◌, List, length, take}
use Rattle.cyc_lex.specs.Lexing.{HasRoom}
use Rattle.cyc_lex.specs.Cutting.{cut_text}
use Rattle.cyc_lex.specs.Placed.{Placed}
use Rattle.file_reader.specs.declared.stretch.Stretch.{Stretch}

abbrev pub tokens_of : Stretch → List Placed
tokens_of s = take s.count (cut_text s.place s.comment s.text.now)

-- the text has so many tokens, and each has a number
pub record IsStretch (s : Stretch) : Type 0 where
  pub room : HasRoom s.place (length s.text.now)
  pub within : s.count ≤ length (cut_text s.place s.comment s.text.now)
  pub few : s.before + s.count < 2 ^ 32
