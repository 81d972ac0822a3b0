-- A walk without a fault never stops at the subcommand that clap adds for help.
use Rattle.std.proofs.Common.{◌≡◌, ◌∙◌, ℕ, Bool, true, false, cond, List, [], ◌∷◌, Option, Some, None, refl, sym}
use Rattle.std.specs.Prelude.{fold, is_some, codes}
use Rattle.std.specs.Str.{bytes_eq}
use Rattle.std.proofs.lemmas.Slice.Eq.{bytes_eq-Decides}
use Rattle.clap.specs.Faults.{walk_fault, word_fault, step_fault, turn_fault, other_fault}
use Rattle.clap.specs.Kinds.{or_else}
use Rattle.clap.specs.Lexer.{long_of, short_of}
use Rattle.clap.specs.Simple.{Shape}
use Rattle.clap.specs.Walk.{Held, Names, Outcome, Rule, Step, Text, Waiting, Walk, arg_by_index, arg_by_long, long_met}
use Rattle.clap.specs.Walk.{done, waits, plain, refused, idle, option, positional, next, trailing, subcommand, value}
use Rattle.clap.specs.Walk.{plain_word, after_flag, long_or_other, short_or_plain, bundle, subcommand_met, word_met}
use Rattle.clap.specs.Walk.{to_positional, after_step, walked, walked_from, subcommand_or_other}
use Rattle.cyc_words.proofs.Faults.{first_part, second_part, some_fault}

not_help : (s : Text) → bytes_eq s (codes "help") ≡ false → bytes_eq (codes "help") s ≡ false
not_help s h = go (bytes_eq (codes "help") s) refl
  where
    go : (b : Bool) → bytes_eq (codes "help") s ≡ b → bytes_eq (codes "help") s ≡ false
    go true e =
        let same : codes "help" ≡ s = (bytes_eq-Decides (codes "help") s).0 e in
        let back : bytes_eq s (codes "help") ≡ true = (bytes_eq-Decides s (codes "help")).1 (sym same) in
        let bad : true ≡ false = sym back ∙ h in
        cc
    go false e = e

-- the walk stopped at no subcommand, or at another than help
abbrev pub StopsWell : Option (Text × List Text) → Type 0
StopsWell None = Unit {0}
StopsWell (Some q) = bytes_eq (codes "help") q.0 ≡ false

-- the step goes on, or stops at another subcommand than help
abbrev KeepsOn : Step → Type 0
KeepsOn (subcommand name) = bytes_eq (codes "help") name ≡ false
KeepsOn _ = Unit {0}

plain_keeps : (c : List Rule) (waiting : Waiting) (word : Text) (h : Held) → KeepsOn (plain_word c waiting word h).1
plain_keeps c idle word h = tt
plain_keeps c positional word h = tt
plain_keeps c (option id) word h = tt

after_keeps : (c : List Rule) (waiting : Waiting) (word : Text) (h : Held) (o : Outcome)
    → KeepsOn (after_flag c waiting word h o).1
after_keeps c waiting word h done = tt
after_keeps c waiting word h (waits id) = tt
after_keeps c waiting word h plain = plain_keeps c waiting word h
after_keeps c waiting word h refused = plain_keeps c waiting word h

other_keeps : (c : List Rule) (waiting : Waiting) (word : Text) (l : Option (Text × Option Text)) (h : Held)
    → KeepsOn (long_or_other c waiting word l h).1
other_keeps c waiting word (Some q) h = after_keeps c waiting word (long_met c (arg_by_long c q.0) q.1 h).0
    (long_met c (arg_by_long c q.0) q.1 h).1
other_keeps c waiting word None h = go (short_of word)
  where
    go : (o : Option Text) → KeepsOn (short_or_plain c waiting word o h).1
    go None = plain_keeps c waiting word h
    go (Some flags) = after_keeps c waiting word (bundle c flags h).0 (bundle c flags h).1

-- a command to which clap adds `help`
abbrev pub with_help : Shape → Shape
with_help s = record s { disable_help_subcommand = false }

met_keeps : (s : Shape) (names : Names) (is_last : Bool) (waiting : Waiting) (position : ℕ) (word : Text) (h : Held)
    → word_fault (with_help s) names is_last waiting word h ≡ []
    → KeepsOn (word_met s.rules names is_last waiting position word h).1
met_keeps s names true waiting position word h e = tt
met_keeps s names false waiting position word h e = go (subcommand_met names waiting word) e
  where
    dashes : (b : Bool) → KeepsOn (cond b (h, trailing position)
        (long_or_other s.rules waiting word (long_of word) h)).1
    dashes true = tt
    dashes false = other_keeps s.rules waiting word (long_of word) h

    go : (o : Option Text) → other_fault (with_help s) o word h ≡ []
        → KeepsOn (subcommand_or_other s.rules o waiting position word h).1
    go None f = dashes (bytes_eq word (45 ∷ 45 ∷ []))
    go (Some name) f = not_help name (named (bytes_eq name (codes "help")) refl)
      where
        named : (b : Bool) → bytes_eq name (codes "help") ≡ b → bytes_eq name (codes "help") ≡ false
        named true is = some_fault _ _ (rw is at f)
        named false is = is

step_keeps : (c : List Rule) (word : Text) (w : Walk) (h : Held) (step : Step) → StopsWell w.stopped → KeepsOn step
    → StopsWell (after_step c word w h step).stopped
step_keeps c word w h (next waiting) well k = well
step_keeps c word w h (trailing position) well k = well
step_keeps c word w h (subcommand name) well k = k
step_keeps c word w h value well k = go (arg_by_index c w.position)
  where
    go : (o : Option Rule) → StopsWell (to_positional c o word w h).stopped
    go None = well
    go (Some b) = tt

turn_keeps : (s : Shape) (names : Names) (w : Walk) (word : Text) → turn_fault (with_help s) names w word ≡ []
    → StopsWell w.stopped → StopsWell (walked s.rules names w word).stopped
unfolding walked
turn_keeps s names w word e well = go w.stopped e well
  where
    met : Held × Step
    met = word_met s.rules names w.is_trailing w.waiting w.position word w.held

    go : (o : Option (Text × List Text)) → cond (is_some o) []
        (or_else (word_fault (with_help s) names w.is_trailing w.waiting word w.held)
        (step_fault (with_help s) w.position met.0 met.1)) ≡ []
        → StopsWell o → StopsWell (walked_from s.rules names o w word).stopped
    go (Some q) f k = k
    go None f k = step_keeps s.rules word w met.0 met.1 well
        (met_keeps s names w.is_trailing w.waiting w.position word w.held
        (first_part (word_fault (with_help s) names w.is_trailing w.waiting word w.held) _ f))

pub walk_keeps : (s : Shape) (names : Names) (words : List Text) (w : Walk)
    → walk_fault (with_help s) names w words ≡ [] → StopsWell w.stopped
    → StopsWell (fold (walked s.rules names) w words).stopped
unfolding walk_fault
walk_keeps s names [] w e well = well
walk_keeps s names (word ∷ words) w e well =
    walk_keeps s names words (walked s.rules names w word) (second_part (turn_fault (with_help s) names w word) _ e)
    (turn_keeps s names w word (first_part (turn_fault (with_help s) names w word) _ e) well)
