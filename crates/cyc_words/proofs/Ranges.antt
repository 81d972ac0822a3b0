-- The numbers of tasks are in their ranges.
use Rattle.std.proofs.Common.{◌≤◌, ℕ, Bool, true, false, cond, List, [], ◌∷◌, Option, Some, None}
use Rattle.std.specs.Prelude.{IfSome, codes, option_map}
use Rattle.std.specs.Str.{bytes_eq}
use Rattle.clap.specs.Words.{Kinds, Row, Text, fault_of, subcommand_of}
use Rattle.cyc_words.specs.Command.{cyclist_app}
use Rattle.cyc_words.specs.Words.{IsInRange, argument_in, meaning_of_line, subcommand_meaning, taken_meaning}
use Rattle.cyc_words.specs.declared.tasks.Task.TheVariants.{Check, Prove, Ring, Upgrade, Sat, Model, Disprove}
use Rattle.cyc_words.specs.declared.tasks.Task.TheVariants.{FirstOrderProve, FirstOrderCheck}
use Rattle.cyc_words.proofs.Numbers.{argument_in-range}

prove_range : (number : Option ℕ) → IfSome number (λ n. (1 ≤ n) × (n ≤ 40))
    → IsInRange (option_map (λ n. Prove n) number)
prove_range None within = tt
prove_range (Some n) within = within

ring_range : (number : Option ℕ) → IfSome number (λ n. (1 ≤ n) × (n ≤ 2000))
    → IsInRange (option_map (λ n. Ring n) number)
ring_range None within = tt
ring_range (Some n) within = within

disprove_range : (number : Option ℕ) → IfSome number (λ n. (1 ≤ n) × (n ≤ 4))
    → IsInRange (option_map (λ n. Disprove n) number)
disprove_range None within = tt
disprove_range (Some n) within = within

fo_range : (number : Option ℕ) → IfSome number (λ n. (1 ≤ n) × (n ≤ 40))
    → IsInRange (option_map (λ n. FirstOrderProve n) number)
fo_range None within = tt
fo_range (Some n) within = within

subcommand_range : (name : Text) (rows : List Row) → IsInRange (subcommand_meaning name rows)
subcommand_range name rows = go (bytes_eq name (codes "check")) (bytes_eq name (codes "prove"))
    (bytes_eq name (codes "ring")) (bytes_eq name (codes "upgrade")) (bytes_eq name (codes "sat"))
    (bytes_eq name (codes "model")) (bytes_eq name (codes "disprove")) (bytes_eq name (codes "fo"))
    (bytes_eq name (codes "fo-check"))
  where
    depth : Option ℕ
    depth = argument_in 1 40 (codes "depth") rows

    size : Option ℕ
    size = argument_in 1 2000 (codes "K") rows

    cells : Option ℕ
    cells = argument_in 1 4 (codes "cells") rows

    go : (check prove ring upgrade sat model disprove fo fo_check : Bool) →
        IsInRange (cond check (Some Check) (cond prove (option_map (λ n. Prove n) depth)
        (cond ring (option_map (λ n. Ring n) size) (cond upgrade (Some Upgrade)
        (cond sat (Some Sat) (cond model (Some Model) (cond disprove (option_map (λ n. Disprove n) cells)
        (cond fo (option_map (λ n. FirstOrderProve n) depth) (cond fo_check (Some FirstOrderCheck) None)))))))))
    go true prove ring upgrade sat model disprove fo fo_check = tt
    go false true ring upgrade sat model disprove fo fo_check = prove_range depth
        (argument_in-range 1 40 (codes "depth") rows)
    go false false true upgrade sat model disprove fo fo_check = ring_range size
        (argument_in-range 1 2000 (codes "K") rows)
    go false false false true sat model disprove fo fo_check = tt
    go false false false false true model disprove fo fo_check = tt
    go false false false false false true disprove fo fo_check = tt
    go false false false false false false true fo fo_check = disprove_range cells
        (argument_in-range 1 4 (codes "cells") rows)
    go false false false false false false false true fo_check = fo_range depth
        (argument_in-range 1 40 (codes "depth") rows)
    go false false false false false false false false true = tt
    go false false false false false false false false false = tt

pub meaning_range : (line : List Text) → IsInRange (meaning_of_line line)
meaning_range line = go (fault_of cyclist_app line) (subcommand_of cyclist_app line)
  where
    go : (kinds : Kinds) (found : Option (Text × List Row)) → IsInRange (taken_meaning kinds found)
    go [] None = tt
    go [] (Some sub) = subcommand_range sub.0 sub.1
    go (kind ∷ kinds) found = tt
