-- The last statements of a text, and its end.
use Rattle.std.specs.Prelude.{◌≡◌, ℕ, ◌-◌, ◌+◌, ◌≤◌, Bool, true, List, [], drop, map, Result, Ok, Err}
use Rattle.cyc_lex.specs.declared.fault.ReadFault.{ReadFault}
use Rattle.cyc_lex.specs.declared.place.Place.{Place}
use Rattle.cyc_lex.specs.Placed.{Placed}
use Rattle.cyc_lex.specs.Word.{Word, word_of}
use Rattle.cyc_grammar.specs.Classes.{are_tokens}
use Rattle.cyc_grammar.specs.declared.cursor.Refusal.{Refusal}
use Rattle.cyc_grammar.specs.declared.cursor.Refusal.TheVariants as refusals
use Rattle.piecewise_lex.specs.Feeding.{tokens_from}
use Rattle.file_reader.specs.declared.known.KnownFront.{KnownFront}
use Rattle.file_reader.specs.declared.known.Found.{Found}
use Rattle.file_reader.specs.declared.stretch.Stretch.{Stretch}
use Rattle.file_reader.specs.Outcomes.{Outcome, Faulty, settled, syntax_fault}
use Rattle.file_reader.specs.Stages.{Stage, Nodes, said_with, ahead, behind}
use Rattle.file_reader.specs.Pieces.{Tells, IsOpen}
use Rattle.file_reader.specs.Knowns.{begun_in, IsSteady}
use Rattle.file_reader.specs.Stretches.{IsStretch, tokens_of}

-- the tokens from the one with this number on
abbrev pub left_from : Stretch → ℕ → List Placed
left_from s n = drop (n - s.before) (tokens_of s)

-- these are the words of the tokens from the one with this number on
pub record StandsIn (s : Stretch) (n : ℕ) (ws : List Word) : Type 0 where
  pub later : s.before ≤ n
  pub within : n ≤ s.before + s.count
  pub words : ws ≡ map word_of (left_from s n)

-- what a text comes to of which this is held, and tokens are left
abbrev pub comes_to : KnownFront → Found → Stretch → Outcome
comes_to k f s = ahead (Nodes (begun_in k f)) (left_from s f.tokens)

-- the first dead token has so many to the end
abbrev pub DiesAt : Stretch → Outcome → Refusal → Type 0
DiesAt s o (refusals.Dead left) = (left ≤ s.count) × (o ≡ Faulty (syntax_fault s.before (tokens_of s) left))
DiesAt s o refusals.OutOfMemory = Unit {0}

-- nodes were read, so far
pub record AreRead (k : KnownFront) (s : Stretch) (old new : Found) (rest : List Word) : Type 0 where
  pub same : comes_to k old s ≡ comes_to k new s
  pub stands : StandsIn s new.tokens rest
  pub steady : IsSteady k new

-- all that are left, and the last statement
abbrev pub Lasts : KnownFront → Stretch → Found → Found → List Word → Result (Unit {0}) Refusal → Type 0
Lasts k s old new rest (Ok u) = AreRead k s old new rest × (new.ended ≡ true)
Lasts k s old new rest (Err e) = DiesAt s (comes_to k old s) e

-- and the end
abbrev pub Ends : KnownFront → Stretch → Found → Found → Result (Unit {0}) Refusal → Type 0
Ends k s old new (Ok u) = (comes_to k old s ≡ settled new.flaw (said_with (begun_in k new) [])) × IsSteady k new
Ends k s old new (Err e) = DiesAt s (comes_to k old s) e

-- all tokens of bytes, the end token last
pub record IsLastStretch (p : Place) (comment : Bool) (bytes : List ℕ) (n : ℕ) (s : Stretch) : Type 0 where
  pub stretch : IsStretch s
  pub tokens : tokens_from p comment bytes ≡ Ok (tokens_of s)
  pub words : are_tokens (map word_of (tokens_of s)) ≡ true
  pub before : s.before ≡ n

-- or their first bad place, which goes before all else
abbrev pub LastStretches : Place → Bool → List ℕ → ℕ → Result Stretch ReadFault → Type 0
LastStretches p comment bytes before (Ok s) = IsLastStretch p comment bytes before s
LastStretches p comment bytes before (Err fault) = (stage : Stage) → IsOpen stage
    → Tells (behind stage (tokens_from p comment bytes)) (Err fault)
