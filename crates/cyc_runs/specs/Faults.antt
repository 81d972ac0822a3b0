-- The answer to a fault of the input.
use Rattle.std.specs.Prelude.{◌≢◌, ◌≡◌, ℕ, List, []}
use Rattle.cyc_runs.specs.Texts.{lexical_text, syntax_text, ill_formed_text, limit_text}
use Rattle.cyc_lex.specs.declared.fault.ReadFault.{ReadFault}
use Rattle.cyc_lex.specs.declared.fault.ReadFault.TheVariants as faults
use Rattle.cyc_runs.specs.declared.endings.Status.{Status}
use Rattle.cyc_runs.specs.declared.endings.Status.TheVariants as status

-- how a run ends whose input has this fault
abbrev pub fault_status : ReadFault → Status
fault_status (faults.Lex fault) = status.Unreadable
fault_status (faults.Syntax token line column) = status.Unreadable
fault_status (faults.IllFormed fault token line column) = status.IllFormed
fault_status (faults.Limit what token line column) = status.Limit
fault_status faults.OutOfMemory = status.OutOfMemory

-- the line for a fault of the input
abbrev pub fault_text : ReadFault → List ℕ
fault_text (faults.Lex fault) = lexical_text fault
fault_text (faults.Syntax token line column) = syntax_text token line column
fault_text (faults.IllFormed fault token line column) = ill_formed_text fault token line column
fault_text (faults.Limit what token line column) = limit_text what token line column
fault_text faults.OutOfMemory = []

-- an input with this fault is answered so; out of memory is no fault of the input
abbrev pub IsFaultAnswer : ReadFault → Status → List ℕ → Type 0
IsFaultAnswer fault ending text = (ending ≡ fault_status fault) × (text ≡ fault_text fault)
    × (fault ≢ faults.OutOfMemory)
