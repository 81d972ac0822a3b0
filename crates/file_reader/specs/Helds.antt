-- What a reader holds, as contracts see it.
use Rattle.std.specs.Prelude.{◌≡◌, ℕ, ◌+◌, ◌≤◌, false, List, [], ◌++◌, length, Option, Some, None, Result, Ok, Err}
use Rattle.cyc_lex.specs.declared.place.Place.{Place}
use Rattle.cyc_lex.specs.declared.place.Stop.{Stop}
use Rattle.cyc_lex.specs.declared.place.Stop.TheVariants as stops
use Rattle.cyc_lex.specs.declared.fault.ReadFault.{ReadFault}
use Rattle.cyc_lex.specs.declared.fault.ReadFault.TheVariants as faults
use Rattle.cyc_lex.specs.Answer.{fault_of}
use Rattle.cyc_lex.specs.Lexing.{Stops, start}
use Rattle.piecewise_lex.specs.Taking.{reading, tokens_in}
use Rattle.file_reader.specs.declared.held.Running.{Running}
use Rattle.file_reader.specs.declared.held.Held.{Held}
use Rattle.file_reader.specs.declared.held.Held.TheVariants as kinds
use Rattle.file_reader.specs.declared.known.KnownFront.{KnownFront}
use Rattle.file_reader.specs.declared.known.Found.{Found}
use Rattle.file_reader.specs.declared.nodes.Ran.{Ran}
use Rattle.file_reader.specs.Stages.{Head, Nodes, Dead, Unlexed, Lost, Parts}
use Rattle.file_reader.specs.Pieces.{KeepsLaw, parts, bytes_fed}
use Rattle.file_reader.specs.Knowns.{begun_in, IsSteady}

-- the place after so many bytes, where no line or column matters
abbrev pub behind_bytes : ℕ → Place
behind_bytes n = record { offset = n; line = 1; column = 1 }

-- all bytes of a text before its first node wait; from there on, and after a fault, only those from a place on
abbrev pub parts_of : Held → Parts
parts_of (kinds.Opening o) = parts (Head []) start false o.all.items
parts_of (kinds.Running r) = parts (Nodes (begun_in r.known r.found)) r.place r.comment r.waiting.items
parts_of (kinds.Faulty f) = parts (Dead f.fault) f.place f.comment f.waiting.items
parts_of (kinds.Unlexed fault n) = parts (Unlexed fault) (behind_bytes n) false []
parts_of (kinds.Lost n) = parts Lost (behind_bytes n) false []

-- line and column are small
abbrev pub IsSmall : Place → Type 0
IsSmall p = (p.line ≤ p.offset + 1) × (p.column ≤ p.offset + 1)

-- each token so far took a byte, and what is held was told where it has no flaw
pub record IsRunning (r : Running) : Type 0 where
  pub few : r.found.tokens ≤ r.place.offset
  pub small : IsSmall r.place
  pub steady : IsSteady r.known r.found

abbrev pub IsHeld : Held → Type 0
IsHeld (kinds.Opening o) = Unit {0}
IsHeld (kinds.Running r) = IsRunning r
IsHeld (kinds.Faulty f) = IsSmall f.place
IsHeld (kinds.Unlexed fault n) = Unit {0}
IsHeld (kinds.Lost n) = Unit {0}

-- a piece was fed, and this is held
pub record IsKept (old : Parts) (piece : List ℕ) (new : Held) : Type 0 where
  pub held : IsHeld new
  pub law : KeepsLaw old piece (parts_of new)
  pub count : bytes_fed (parts_of new) ≡ bytes_fed old + length piece

-- so many bytes were fed of a text that has this bad place
abbrev pub IsStopped : Stop → ℕ → Held → Type 0
IsStopped stops.OutOfMemory fed h = ⊥
IsStopped (stops.At bad p) fed h = h ≡ kinds.Unlexed (fault_of bad p) fed

-- the bad place, as a reader tells it
abbrev pub IsToldStop : Stop → ReadFault → Type 0
IsToldStop stops.OutOfMemory f = f ≡ faults.OutOfMemory
IsToldStop (stops.At bad p) f = f ≡ faults.Lex (fault_of bad p)

-- what is held after statements were read, where these bytes wait
abbrev pub IsAfter : KnownFront → Found → Ran → List ℕ → Held → Type 0
IsAfter k f r bytes (kinds.Opening o) = ⊥
IsAfter k f r bytes (kinds.Running x) = (r.dead ≡ None) × (x.known ≡ k) × (x.found ≡ f) × (x.place ≡ r.place)
    × (x.comment ≡ r.comment) × (x.waiting.items ≡ bytes)
IsAfter k f r bytes (kinds.Faulty x) = (r.dead ≡ Some x.fault) × (x.place ≡ r.place) × (x.comment ≡ r.comment)
    × (x.waiting.items ≡ bytes)
IsAfter k f r bytes (kinds.Unlexed fault n) = ⊥
IsAfter k f r bytes (kinds.Lost n) = ⊥

-- the first node came, or a fault; or neither did
abbrev pub IsOpenedTo : List ℕ → Option Held → Type 0
IsOpenedTo bytes None = Unit {0}
IsOpenedTo bytes (Some h) = IsKept (parts (Head []) start false bytes) [] h

-- or the first bad place of the tokens that do not wait
abbrev pub Opens : List ℕ → List ℕ → Result (Option Held) Stop → Type 0
Opens text tail (Ok o) = IsOpenedTo (text ++ tail) o
Opens text tail (Err e) = Stops e (tokens_in (reading start false text))
