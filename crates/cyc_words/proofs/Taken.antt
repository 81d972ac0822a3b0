-- A line that clap takes has a meaning where it names a subcommand.
use Rattle.std.proofs.Common.{◌≡◌, ℕ, Bool, true, false, cond, List, [], ◌∷◌, Option, Some, None, refl, arith}
use Rattle.std.specs.Prelude.{◌&&◌, ◌||◌, drop, is_some, option_map, codes}
use Rattle.std.specs.Option.{option_map_or}
use Rattle.std.specs.Str.{bytes_eq}
use Rattle.clap.specs.Faults.{entered_fault, fault_of, level_fault, walk_fault}
use Rattle.clap.specs.Kinds.{Kinds}
use Rattle.clap.specs.Simple.{App, Shape, built, built_leaf, entered, filled, help_shape, inherited, marked_built}
use Rattle.clap.specs.Simple.{names_of, subcommand_of, with_index, with_leaf_noted}
use Rattle.clap.specs.Walk.{Row, Rule, Text, nothing_held, rows_after, walk, walk_from}
use Rattle.cyc_words.specs.Command.{cells_rule, check_app, cyclist_app, depth_rule, disprove_app, fo_app, fo_check_app}
use Rattle.cyc_words.specs.Command.{model_app, prove_app, ring_app, sat_app, size_rule, upgrade_app}
use Rattle.cyc_words.specs.Words.{HasMeaning, argument_in, is_faultless, is_line_taken, meaning_of_line, taken_meaning}
use Rattle.cyc_words.proofs.Faults.{first_part, second_part}
use Rattle.cyc_words.proofs.Rows.{TakesOne}
use Rattle.cyc_words.proofs.Walks.{pair}
use Rattle.cyc_words.proofs.Levels.{finished_default, finished_required, level_sound}
use Rattle.cyc_words.proofs.Numbers.{number_there}
use Rattle.cyc_words.proofs.Stops.{StopsWell, walk_keeps}

-- the command, its two arguments and its subcommands, as clap builds them
abbrev whole : App
whole = built cyclist_app

abbrev depth_full : Rule
depth_full = with_index 1 (filled depth_rule)

abbrev size_full : Rule
size_full = with_index 1 (filled size_rule)

abbrev cells_full : Rule
cells_full = with_index 1 (filled cells_rule)

abbrev leaf : App → Shape
leaf a = built_leaf (inherited (with_leaf_noted (marked_built cyclist_app.top)) a.top)

one_depth : TakesOne depth_full
one_depth = record { action = refl; range = refl }

one_size : TakesOne size_full
one_size = record { action = refl; range = refl }

one_cells : TakesOne cells_full
one_cells = record { action = refl; range = refl }

-- after a subcommand with an argument there is a number in the argument's range
prove_number : (words : List Text) → level_fault (leaf prove_app) [] nothing_held words false [] ≡ []
    → (n : ℕ) × (argument_in 1 40 (codes "depth") (rows_after (leaf prove_app).rules [] words) ≡ Some n)
prove_number words e =
    number_there depth_full 1 40 (rows_after (pair depth_full) [] words) refl (omega arith) (omega arith)
    (level_sound (leaf prove_app) depth_full words one_depth (record { most = omega arith }) e)
    (finished_default depth_full (codes "16") words refl)

ring_number : (words : List Text) → level_fault (leaf ring_app) [] nothing_held words false [] ≡ []
    → (n : ℕ) × (argument_in 1 2000 (codes "K") (rows_after (leaf ring_app).rules [] words) ≡ Some n)
ring_number words e =
    number_there size_full 1 2000 (rows_after (pair size_full) [] words) refl (omega arith) (omega arith)
    (level_sound (leaf ring_app) size_full words one_size (record { most = omega arith }) e)
    (finished_required (leaf ring_app) size_full words refl e)

disprove_number : (words : List Text) → level_fault (leaf disprove_app) [] nothing_held words false [] ≡ []
    → (n : ℕ) × (argument_in 1 4 (codes "cells") (rows_after (leaf disprove_app).rules [] words) ≡ Some n)
disprove_number words e =
    number_there cells_full 1 4 (rows_after (pair cells_full) [] words) refl (omega arith) (omega arith)
    (level_sound (leaf disprove_app) cells_full words one_cells (record { most = omega arith }) e)
    (finished_default cells_full (codes "2") words refl)

fo_number : (words : List Text) → level_fault (leaf fo_app) [] nothing_held words false [] ≡ []
    → (n : ℕ) × (argument_in 1 40 (codes "depth") (rows_after (leaf fo_app).rules [] words) ≡ Some n)
fo_number words e =
    number_there depth_full 1 40 (rows_after (pair depth_full) [] words) refl (omega arith) (omega arith)
    (level_sound (leaf fo_app) depth_full words one_depth (record { most = omega arith }) e)
    (finished_default depth_full (codes "16") words refl)

-- a subcommand that was taken has a meaning
entered_means : (stop : Option (Text × List Text)) → StopsWell stop → entered_fault whole stop ≡ []
    → HasMeaning (entered whole stop)
entered_means None well e = tt
entered_means (Some q) well e = go (bytes_eq (codes "check") q.0 || false) (bytes_eq (codes "prove") q.0 || false)
    (bytes_eq (codes "ring") q.0 || false) (bytes_eq (codes "upgrade") q.0 || false)
    (bytes_eq (codes "sat") q.0 || false) (bytes_eq (codes "model") q.0 || false)
    (bytes_eq (codes "disprove") q.0 || false) (bytes_eq (codes "fo") q.0 || false)
    (bytes_eq (codes "fo-check") q.0 || false) (bytes_eq (codes "help") q.0 || false) help_out e
  where
    help_out : bytes_eq (codes "help") q.0 || false ≡ false
    help_out = rw well refl

    found : Bool → Bool → Bool → Bool → Bool → Bool → Bool → Bool → Bool → Bool → Option Shape
    found a b c d e m r p o h =
        cond a (Some (leaf check_app)) (cond b (Some (leaf prove_app))
        (cond c (Some (leaf ring_app)) (cond d (Some (leaf upgrade_app))
        (cond e (Some (leaf sat_app)) (cond m (Some (leaf model_app))
        (cond r (Some (leaf disprove_app)) (cond p (Some (leaf fo_app))
        (cond o (Some (leaf fo_check_app)) (cond h (Some (built_leaf help_shape)) None)))))))))

    go : (a b c d e m r p o h : Bool) → h ≡ false → option_map_or (λ s. level_fault s [] nothing_held q.1 false [])
        (found a b c d e m r p o h) [] ≡ [] →
        HasMeaning (option_map (λ s. (s.name, rows_after s.rules [] q.1)) (found a b c d e m r p o h))
    go true b c d e m r p o h none f = refl
    go false true c d e m r p o h none f = rw (prove_number q.1 f).1 refl
    go false false true d e m r p o h none f = rw (ring_number q.1 f).1 refl
    go false false false true e m r p o h none f = refl
    go false false false false true m r p o h none f = refl
    go false false false false false true r p o h none f = refl
    go false false false false false false true p o h none f = rw (disprove_number q.1 f).1 refl
    go false false false false false false false true o h none f = rw (fo_number q.1 f).1 refl
    go false false false false false false false false true h none f = refl
    go false false false false false false false false false true none f = cc
    go false false false false false false false false false false none f = tt

-- so a line without a fault has a meaning, unless no subcommand is there
pub taken_means : (words : List Text) → fault_of cyclist_app words ≡ [] → HasMeaning (subcommand_of cyclist_app words)
taken_means words e =
    let ws = drop 1 words in
    let stop = (walk whole.top.rules (names_of whole) nothing_held ws).stopped in
    let w = walk_fault whole.top (names_of whole) (walk_from nothing_held) ws in
    entered_means stop (walk_keeps whole.top (names_of whole) ws (walk_from nothing_held) (first_part w _ e) tt)
    (first_part (entered_fault whole stop) _ (second_part w _ e))

-- and a line has a meaning exactly where clap takes it and a subcommand is there
pub meaning_is_taken : (line : List Text) → is_some (meaning_of_line line) ≡ is_line_taken line
meaning_is_taken line = go (fault_of cyclist_app line) (subcommand_of cyclist_app line) (taken_means line)
  where
    go : (kinds : Kinds) (found : Option (Text × List Row)) → (kinds ≡ [] → HasMeaning found)
        → is_some (taken_meaning kinds found) ≡ (is_faultless kinds && is_some found)
    go [] None means = refl
    go [] (Some sub) means = means refl
    go (kind ∷ kinds) found means = refl
