-- The text of a token, where its bytes lie.
use Rattle.std.specs.Prelude.{ℕ, ◌≤◌, List, take}
use Rattle.cyc_basics.specs.declared.limits.TheConstants.{LONGEST_NAME}
use Rattle.piecewise_lex.specs.declared.text.Form.{Form}
use Rattle.piecewise_lex.specs.declared.text.Form.TheVariants as forms

-- the bytes that are written there
abbrev pub written : Form → List ℕ
written (forms.Short bytes len) = take len bytes
written (forms.Long bytes len) = take len bytes.value

-- there is room for them
abbrev pub IsWritten : Form → Type 0
IsWritten (forms.Short bytes len) = len ≤ 22
IsWritten (forms.Long bytes len) = len ≤ LONGEST_NAME
