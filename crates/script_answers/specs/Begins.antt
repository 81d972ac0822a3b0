-- Whether a text begins as a script.
use Rattle.std.specs.Prelude.{ℕ, Bool, true, false, not, ◌==◌, List, [], ◌∷◌, if◌then◌else◌}
use Rattle.script_reader.specs.Bytes.{is_space}

-- the first of the bytes that stands in no gap is `(`; a comment goes on, or none does
unfoldable pub begins_script : Bool → List ℕ → Bool
begins_script comment [] = false
begins_script true (b ∷ bs) = begins_script (not (b == 10)) bs
begins_script false (b ∷ bs) = if b == 59 then begins_script true bs else
    (if is_space b then begins_script false bs else b == 40)

-- the input is read as a script: its first token is `(`, where comments begin with `;`
abbrev pub is_script_text : List ℕ → Bool
is_script_text bytes = begins_script false bytes
