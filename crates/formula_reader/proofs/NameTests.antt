-- The tests of names are those of the grammar.
use Rattle.std.proofs.Common.{◌≡◌, ℕ, ◌≤◌, ◌∙◌, Bool, false, not, ◌&&◌, List, length, sym, ap, le-leb}
use Rattle.std.specs.Str.{bytes_eq, chars, IsUtf8}
use Rattle.std.specs.List.{list_any}
use Rattle.std.proofs.lemmas.Str.{is_utf8-from_IsUtf8}
use Rattle.cyc_lex.specs.Word.{is_identifier, is_name_text}
use Rattle.cyc_grammar.specs.Classes.{is_free_name}

pub short_identifier : (s : List ℕ) (b : Bool) → IsUtf8 s → length s ≤ 64 → b ≡ is_identifier (chars s)
    → b ≡ is_name_text s
unfolding is_name_text
short_identifier s b utf8 few e = rw (is_utf8-from_IsUtf8 s utf8, le-leb (length s) 64 few) e

pub no_name : (s : List ℕ) (words : List (List ℕ)) (b : Bool) → b ≡ is_name_text s → b ≡ false
    → b ≡ is_free_name words s
unfolding is_free_name
no_name s words b e f = f ∙ sym (ap (λ (n : Bool). n && not (list_any (bytes_eq s) words)) (sym e ∙ f))
