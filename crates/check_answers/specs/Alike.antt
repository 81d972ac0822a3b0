-- What two readings of one text have in common, and what two checks of one text may say.
use Rattle.std.specs.Prelude.{◌≡◌, ◌⊎◌, ℕ, List, Result, Ok, Err}
use Rattle.cyc_lex.specs.declared.fault.ReadFault.{ReadFault}
use Rattle.trace_pairs.specs.Walk.{Walk}
use Rattle.cyc_runs.specs.Texts.{path_refused_text}

-- two readings give the same value, or one fault
abbrev pub AreAlike : {V : Type 0} → (V → V → Type 0) → Result V ReadFault → Result V ReadFault → Type 0
AreAlike same (Ok v) (Ok w) = same v w
AreAlike same (Err a) (Err b) = a ≡ b
AreAlike same (Ok v) (Err b) = ⊥
AreAlike same (Err a) (Ok w) = ⊥

-- the line names a path that is refused
abbrev pub NamesPath : List ℕ → Type 0
NamesPath line = (lasso : Walk) × (line ≡ path_refused_text lasso)

-- two checks say the same, or each names a path that is refused
abbrev pub AreOneCheck : List ℕ → List ℕ → Type 0
AreOneCheck line other = (line ≡ other) ⊎ (NamesPath line × NamesPath other)
