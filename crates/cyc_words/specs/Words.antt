-- What the words of a command line ask for.
use Rattle.std.specs.Prelude.{◌≡◌, ℕ, ◌≤◌, Bool, true, false, ◌&&◌, if◌then◌else◌, List, [], ◌∷◌, Option, Some, None}
use Rattle.std.specs.Prelude.{is_some, option_map, option_and_then, codes}
use Rattle.std.specs.Str.{bytes_eq}
use Rattle.std.specs.Str.Parse.{digits_value, without_leading_plus}
use Rattle.clap.specs.Words.{Kinds, Row, Text, fault_of, one_of, subcommand_of}
use Rattle.clap.specs.ValueTests.{is_unsigned_in}
use Rattle.cyc_words.specs.Command.{cyclist_app}
use Rattle.cyc_words.specs.declared.tasks.Task.{Task}
use Rattle.cyc_words.specs.declared.tasks.Task.TheVariants.{Check, Prove, Ring, Upgrade, Sat, Model, Disprove}
use Rattle.cyc_words.specs.declared.tasks.Task.TheVariants.{FirstOrderProve, FirstOrderCheck}

-- the number that a text stands for, where it is in the range
abbrev pub number_in : ℕ → ℕ → Text → Option ℕ
number_in low high text = if is_unsigned_in low high text then Some (digits_value 10 (without_leading_plus text))
    else None

-- the number of an argument, where it is in the range
abbrev pub argument_in : ℕ → ℕ → Text → List Row → Option ℕ
argument_in low high id rows = option_and_then (number_in low high) (one_of id rows)

-- a subcommand, by its name and the values of its arguments
abbrev pub subcommand_meaning : Text → List Row → Option Task
subcommand_meaning name rows =
    if bytes_eq name (codes "check") then Some Check
    else (if bytes_eq name (codes "prove") then option_map (λ n. Prove n) (argument_in 1 40 (codes "depth") rows)
    else (if bytes_eq name (codes "ring") then option_map (λ n. Ring n) (argument_in 1 2000 (codes "K") rows)
    else (if bytes_eq name (codes "upgrade") then Some Upgrade
    else (if bytes_eq name (codes "sat") then Some Sat
    else (if bytes_eq name (codes "model") then Some Model
    else (if bytes_eq name (codes "disprove") then option_map (λ n. Disprove n) (argument_in 1 4 (codes "cells") rows)
    else (if bytes_eq name (codes "fo") then option_map (λ n. FirstOrderProve n) (argument_in 1 40 (codes "depth") rows)
    else (if bytes_eq name (codes "fo-check") then Some FirstOrderCheck
    else None))))))))

-- the subcommand that was found, if one was
abbrev pub found_meaning : Option (Text × List Row) → Option Task
found_meaning found = option_and_then (λ sub. subcommand_meaning sub.0 sub.1) found

-- the subcommand that was found has a meaning
abbrev pub HasMeaning : Option (Text × List Row) → Type 0
HasMeaning None = Unit {0}
HasMeaning (Some sub) = is_some (subcommand_meaning sub.0 sub.1) ≡ true

-- the subcommand counts only where clap has no fault to find
abbrev pub taken_meaning : Kinds → Option (Text × List Row) → Option Task
taken_meaning [] found = found_meaning found
taken_meaning (kind ∷ kinds) found = None

-- a line, the program's name first
abbrev pub meaning_of_line : List Text → Option Task
meaning_of_line line = taken_meaning (fault_of cyclist_app line) (subcommand_of cyclist_app line)

-- the words after the program's name
abbrev pub meaning_of : List Text → Option Task
meaning_of words = meaning_of_line (codes "cyclist" ∷ words)

-- ---- which words have a meaning

abbrev pub is_faultless : Kinds → Bool
is_faultless [] = true
is_faultless (kind ∷ kinds) = false

-- clap takes the line, and a subcommand is there
abbrev pub is_line_taken : List Text → Bool
is_line_taken line = is_faultless (fault_of cyclist_app line) && is_some (subcommand_of cyclist_app line)

-- the same of the words after the program's name
abbrev pub is_taken : List Text → Bool
is_taken words = is_line_taken (codes "cyclist" ∷ words)

-- ---- tasks

-- the numbers of a task are in their ranges
abbrev pub IsInRange : Option Task → Type 0
IsInRange (Some Check) = Unit {0}
IsInRange (Some (Prove depth)) = (1 ≤ depth) × (depth ≤ 40)
IsInRange (Some (Ring size)) = (1 ≤ size) × (size ≤ 2000)
IsInRange (Some Upgrade) = Unit {0}
IsInRange (Some Sat) = Unit {0}
IsInRange (Some Model) = Unit {0}
IsInRange (Some (Disprove cells)) = (1 ≤ cells) × (cells ≤ 4)
IsInRange (Some (FirstOrderProve depth)) = (1 ≤ depth) × (depth ≤ 40)
IsInRange (Some FirstOrderCheck) = Unit {0}
IsInRange None = Unit {0}

-- the task needs the input
abbrev pub reads_input : Option Task → Bool
reads_input (Some Check) = true
reads_input (Some (Prove depth)) = true
reads_input (Some (Ring size)) = false
reads_input (Some Upgrade) = true
reads_input (Some Sat) = true
reads_input (Some Model) = true
reads_input (Some (Disprove cells)) = true
reads_input (Some (FirstOrderProve depth)) = true
reads_input (Some FirstOrderCheck) = true
reads_input None = false

-- the line that says which words have a meaning
abbrev pub usage_text : List ℕ
usage_text = codes
    "usage: cyclist check | prove [--depth N] | ring K | upgrade | sat | model | disprove [--cells N] | fo [--depth N] | fo-check\n"
