-- Bytes, parted into characters and what comes after them.
use Rattle.std.specs.Prelude.{◌≡◌, ℕ, List, ◌++◌}
use Rattle.std.specs.Str.{chars, IsUtf8}
use Rattle.std.specs.Str.Lossy.{utf8_valid_len}
use Rattle.std.specs.Prelude.{length}
use Rattle.piecewise_lex.specs.declared.valid.Valid.{Valid}
use Rattle.piecewise_lex.specs.Feeding.{valid_chars, after_valid, is_cut}

pub record IsValid (bytes : List ℕ) (v : Valid) : Type 0 where
  pub whole : v.text.now ++ v.tail.now ≡ bytes
  pub utf8 : IsUtf8 v.text.now
  pub text : chars v.text.now ≡ valid_chars bytes
  pub size : length v.text.now ≡ utf8_valid_len bytes
  pub tail : v.tail.now ≡ after_valid bytes
  pub cut : v.cut ≡ is_cut bytes
