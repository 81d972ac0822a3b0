-- A flaw as a reader tells it.
use Rattle.std.specs.Prelude.{◌≡◌, ℕ, List}
use Rattle.cyc_lex.specs.declared.fault.ReadFault.{ReadFault}
use Rattle.cyc_lex.specs.declared.fault.ReadFault.TheVariants as faults
use Rattle.cyc_lex.specs.Placed.{Placed}
use Rattle.cyc_grammar.specs.Faults.{StandsAt}
use Rattle.heap_reader.specs.declared.flaw.Item.{Item}
use Rattle.heap_reader.specs.declared.flaw.Item.TheVariants.{Ill, Over}
use Rattle.heap_reader.specs.declared.flaw.Flaw.{Flaw}

-- the fault of what is ill-formed or passes a limit, at a token with this number, line and column
abbrev pub item_fault : Item → ℕ → ℕ → ℕ → ReadFault
item_fault (Ill fault) token line column = faults.IllFormed fault token line column
item_fault (Over what) token line column = faults.Limit what token line column

-- the fault tells the flaw and where its token stands
abbrev pub IsFlawTold : List Placed → Flaw → ReadFault → Type 0
IsFlawTold ts flaw (faults.IllFormed fault token line column) = (flaw ≡ record { item = Ill fault; token = token })
    × StandsAt ts token line column
IsFlawTold ts flaw (faults.Limit what token line column) = (flaw ≡ record { item = Over what; token = token })
    × StandsAt ts token line column
IsFlawTold ts flaw (faults.Syntax token line column) = ⊥
IsFlawTold ts flaw (faults.Lex fault) = ⊥
IsFlawTold ts flaw faults.OutOfMemory = ⊥
