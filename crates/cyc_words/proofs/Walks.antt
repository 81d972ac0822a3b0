-- Walks over the words after a subcommand with one such argument and help: without a fault the rows stay sound.
use Rattle.std.proofs.Common.{◌≡◌, ℕ, zero, suc, Bool, true, false, cond, List, [], ◌∷◌, length, Option, Some, None}
use Rattle.std.proofs.Common.{refl}
use Rattle.std.specs.Prelude.{◌&&◌, not, fold, drop, slice_get, encode_utf8, is_some, find, ◌==◌}
use Rattle.std.specs.Option.{option_map_or}
use Rattle.std.specs.Str.{bytes_eq, chars}
use Rattle.clap.specs.Faults.{use_fault, settle_fault, react_fault, flags_fault, walk_fault, option_fault, long_fault}
use Rattle.clap.specs.Faults.{short_fault, bundle_step_fault, flag_word_fault, bundle_fault, word_fault}
use Rattle.clap.specs.Faults.{positional_fault, step_fault, stray_fault, turn_fault}
use Rattle.clap.specs.Kinds.{or_else}
use Rattle.clap.specs.Lexer.{long_of, short_of}
use Rattle.clap.specs.Simple.{Shape}
use Rattle.clap.specs.Walk.{Held, Outcome, Row, Rule, Step, Text, Waiting, Walk, arg_by_id, arg_by_long, attached_value}
use Rattle.clap.specs.Walk.{settled, reacted, takes_values, bundle_met, bundle_step, settled_rows, used_by_id}
use Rattle.clap.specs.Walk.{option_met, long_met, short_met, has_short, done, waits, plain, refused, idle, option}
use Rattle.clap.specs.Walk.{positional, next, trailing, subcommand, value, plain_word, option_word, after_flag}
use Rattle.clap.specs.Walk.{long_or_other, short_or_plain, bundle, has_long, subcommand_met, word_met, positional_held}
use Rattle.clap.specs.Walk.{is_pending, takes_several, to_positional, after_step, walked, walked_from}
use Rattle.cyc_words.proofs.Faults.{first_part, second_part, some_fault}
use Rattle.cyc_words.proofs.Rows.{TakesOne, IsSound, help_full, help_never, used_sound}

-- the argument and help
abbrev pub pair : Rule → List Rule
pair a = a ∷ help_full ∷ []

-- what holds of both, and where none is found, holds of what is found
each : (a : Rule) (p : Rule → Bool) (P : Option Rule → Type 0) → P None → P (Some a) → P (Some help_full)
    → P (find p (pair a))
each a p P none first second = elim (p a) as (λ b. P (cond b (Some a) (cond (p help_full) (Some help_full) None))) [
  | true ↦ first
  | false ↦ elim (p help_full) as (λ b. P (cond b (Some help_full) None)) [ true ↦ second | false ↦ none ]
]

settled_sound : (a : Rule) (p : Option (Text × List Text)) (rows : List Row) → TakesOne a
    → option_map_or (λ q. option_map_or (λ b. use_fault false b q.1 rows) (arg_by_id (pair a) q.0) []) p [] ≡ []
    → IsSound a rows → IsSound a (settled_rows (pair a) p rows)
settled_sound a None rows one h sound = sound
settled_sound a (Some q) rows one h sound =
    each a (λ b. bytes_eq b.id q.0) (λ o. option_map_or (λ b. use_fault false b q.1 rows) o [] ≡ []
    → IsSound a (used_by_id o q.1 rows))
    (λ e. sound) (λ e. used_sound a q.1 rows one e sound) (λ e. absurd (help_never false q.1 rows e)) h

pub settle_sound : (a : Rule) (h : Held) → TakesOne a → settle_fault (pair a) false h ≡ [] → IsSound a h.rows
    → IsSound a (settled (pair a) h).rows
settle_sound a h one e sound = settled_sound a h.pending h.rows one e sound

react_sound : (a : Rule) (values : List Text) (h : Held) → TakesOne a → react_fault (pair a) false a values h ≡ []
    → IsSound a h.rows → IsSound a (reacted (pair a) a values h).rows
react_sound a values h one e sound =
    used_sound a values (settled (pair a) h).rows one
    (second_part (settle_fault (pair a) false h) (use_fault false a values (settled (pair a) h).rows) e)
    (settle_sound a h one (first_part (settle_fault (pair a) false h)
    (use_fault false a values (settled (pair a) h).rows) e) sound)

no_help : (a : Rule) (values : List Text) (h : Held) → react_fault (pair a) false help_full values h ≡ [] → ⊥
no_help a values h e = help_never false values (settled (pair a) h).rows
    (second_part (settle_fault (pair a) false h) (use_fault false help_full values (settled (pair a) h).rows) e)

option_sound : (a : Rule) (v : Option Text) (h : Held) → TakesOne a → option_fault (pair a) false a v h ≡ []
    → IsSound a h.rows → IsSound a (option_met (pair a) a v h).0.rows
option_sound a (Some v) h one e sound = react_sound a (v ∷ []) h one e sound
option_sound a None h one e sound = settle_sound a h one e sound

takes : (a : Rule) → TakesOne a → takes_values a ≡ true
takes a one = rw one.range refl

long_sound : (a : Rule) (p : Rule → Bool) (v : Option Text) (h : Held) → TakesOne a
    → long_fault (pair a) false (find p (pair a)) v h ≡ [] → IsSound a h.rows
    → IsSound a (long_met (pair a) (find p (pair a)) v h).0.rows
long_sound a p v h one e sound =
    each a p (λ o. long_fault (pair a) false o v h ≡ [] → IsSound a (long_met (pair a) o v h).0.rows)
    (λ f. some_fault _ _ f) first (second v) e
  where
    first : long_fault (pair a) false (Some a) v h ≡ [] → IsSound a (long_met (pair a) (Some a) v h).0.rows
    first f = rw (takes a one) (option_sound a v h one (rw (takes a one) at f) sound)

    second : (x : Option Text) → long_fault (pair a) false (Some help_full) x h ≡ []
        → IsSound a (long_met (pair a) (Some help_full) x h).0.rows
    second (Some x) f = some_fault _ _ f
    second None f = absurd (no_help a [] h f)

bundle_sound : (a : Rule) (k : ℕ) (flags : Text) (skip : ℕ) (so_far : Outcome) (h : Held) → TakesOne a
    → flags_fault (pair a) false k flags skip h ≡ [] → IsSound a h.rows
    → IsSound a (bundle_met (pair a) k flags skip so_far h).0.rows
unfolding flags_fault bundle_met
bundle_sound a zero flags skip so_far h one e sound = sound
bundle_sound a (suc k) flags skip so_far h one e sound = go (slice_get (chars flags) 0) skip e
    (λ f s o g. bundle_sound a k f s o g one)
  where
    go : (o : Option ℕ) (sk : ℕ) → bundle_step_fault (pair a) false o flags sk h (flags_fault (pair a) false k) ≡ []
        → ((f : Text) (s : ℕ) (x : Outcome) (g : Held) → flags_fault (pair a) false k f s g ≡ [] → IsSound a g.rows
        → IsSound a (bundle_met (pair a) k f s x g).0.rows)
        → IsSound a (bundle_step (pair a) o flags sk so_far h (bundle_met (pair a) k)).0.rows
    go None sk f ih = sound
    go (Some x) (suc sk) f ih = ih _ sk so_far h f sound
    go (Some x) zero f ih =
        let rest : Text = drop (length (encode_utf8 x)) flags in
        each a (λ b. not (is_some b.index) && has_short b x)
        (λ o. short_fault (pair a) false o rest h (flags_fault (pair a) false k rest 0) ≡ []
        → IsSound a (short_met (pair a) o rest h (bundle_met (pair a) k rest 0 done)).0.rows)
        (λ g. some_fault _ _ g)
        (λ g. rw (takes a one) (option_sound a (attached_value rest) h one (rw (takes a one) at g) sound))
        (λ g. absurd (no_help a [] h (first_part _ _ g))) f

-- ---- a word, and all the words

plain_sound : (a : Rule) (waiting : Waiting) (word : Text) (h : Held) → IsSound a h.rows
    → IsSound a (plain_word (pair a) waiting word h).0.rows
plain_sound a idle word h sound = sound
plain_sound a positional word h sound = sound
plain_sound a (option id) word h sound =
    each a (λ b. bytes_eq b.id id) (λ o. IsSound a (option_word o id word h).0.rows) sound sound sound

after_sound : (a : Rule) (waiting : Waiting) (word : Text) (h : Held) (o : Outcome) → IsSound a h.rows
    → IsSound a (after_flag (pair a) waiting word h o).0.rows
after_sound a waiting word h done sound = sound
after_sound a waiting word h (waits id) sound = sound
after_sound a waiting word h plain sound = plain_sound a waiting word h sound
after_sound a waiting word h refused sound = plain_sound a waiting word h sound

other_sound : (a : Rule) (waiting : Waiting) (word : Text) (l : Option (Text × Option Text)) (h : Held) → TakesOne a
    → flag_word_fault (pair a) false l word h ≡ [] → IsSound a h.rows
    → IsSound a (long_or_other (pair a) waiting word l h).0.rows
other_sound a waiting word (Some q) h one e sound =
    after_sound a waiting word (long_met (pair a) (arg_by_long (pair a) q.0) q.1 h).0
    (long_met (pair a) (arg_by_long (pair a) q.0) q.1 h).1
    (long_sound a (λ b. not (is_some b.index) && has_long b q.0) q.1 h one e sound)
other_sound a waiting word None h one e sound = go (short_of word) e
  where
    go : (o : Option Text) → option_map_or (λ flags. bundle_fault (pair a) false flags h) o [] ≡ []
        → IsSound a (short_or_plain (pair a) waiting word o h).0.rows
    go None f = plain_sound a waiting word h sound
    go (Some flags) f =
        after_sound a waiting word (bundle (pair a) flags h).0 (bundle (pair a) flags h).1
        (bundle_sound a (length flags) flags h.skip plain (record h { skip = 0 }) one f sound)

-- a command with these two arguments
abbrev pub with_pair : Shape → Rule → Shape
with_pair s a = record s { rules = pair a; args_override_self = false; subcommand_negates_reqs = false }

no_name : (waiting : Waiting) (word : Text) → subcommand_met [] waiting word ≡ None
no_name idle word = refl
no_name (option id) word = refl
no_name positional word = refl

met_sound : (s : Shape) (a : Rule) (trailing_now : Bool) (waiting : Waiting) (position : ℕ) (word : Text) (h : Held)
    → TakesOne a → word_fault (with_pair s a) [] trailing_now waiting word h ≡ [] → IsSound a h.rows
    → IsSound a (word_met (pair a) [] trailing_now waiting position word h).0.rows
met_sound s a true waiting position word h one e sound = sound
met_sound s a false waiting position word h one e sound = rw no_name
    (go (bytes_eq word (45 ∷ 45 ∷ [])) (rw no_name at e))
  where
    go : (b : Bool) → cond b [] (flag_word_fault (pair a) false (long_of word) word h) ≡ []
        → IsSound a (cond b (h, trailing position) (long_or_other (pair a) waiting word (long_of word) h)).0.rows
    go true f = sound
    go false f = other_sound a waiting word (long_of word) h one f sound

positional_sound : (a b : Rule) (word : Text) (h : Held) → TakesOne a → positional_fault (pair a) false b h ≡ []
    → IsSound a h.rows → IsSound a (positional_held (pair a) b word h).rows
positional_sound a b word h one e sound = go (is_pending b h.pending && takes_several b) e
  where
    go : (t : Bool) → cond t [] (settle_fault (pair a) false h) ≡ [] → IsSound a (cond t h (settled (pair a) h)).rows
    go true f = sound
    go false f = settle_sound a h one f sound

step_sound : (s : Shape) (a : Rule) (word : Text) (w : Walk) (h : Held) (step : Step) → TakesOne a
    → step_fault (with_pair s a) w.position h step ≡ [] → IsSound a h.rows
    → IsSound a (after_step (pair a) word w h step).held.rows
step_sound s a word w h (next waiting) one e sound = sound
step_sound s a word w h (trailing position) one e sound = sound
step_sound s a word w h (subcommand name) one e sound = sound
step_sound s a word w h value one e sound =
    each a (λ b. option_map_or (λ k. k == w.position) b.index false)
    (λ o. option_map_or (λ b. positional_fault (pair a) false b h) o (stray_fault (with_pair s a)) ≡ []
    → IsSound a (to_positional (pair a) o word w h).held.rows)
    (λ f. sound) (λ f. positional_sound a a word h one f sound) (λ f. positional_sound a help_full word h one f sound) e

turn_sound : (s : Shape) (a : Rule) (w : Walk) (word : Text) → TakesOne a → turn_fault (with_pair s a) [] w word ≡ []
    → IsSound a w.held.rows → IsSound a (walked (pair a) [] w word).held.rows
unfolding walked
turn_sound s a w word one e sound = go w.stopped e
  where
    met : Held × Step
    met = word_met (pair a) [] w.is_trailing w.waiting w.position word w.held

    go : (o : Option (Text × List Text)) → cond (is_some o) []
        (or_else (word_fault (with_pair s a) [] w.is_trailing w.waiting word w.held)
        (step_fault (with_pair s a) w.position met.0 met.1)) ≡ []
        → IsSound a (walked_from (pair a) [] o w word).held.rows
    go (Some q) f = sound
    go None f =
        step_sound s a word w met.0 met.1 one (second_part (word_fault (with_pair s a) []
        w.is_trailing w.waiting word w.held) _ f)
        (met_sound s a w.is_trailing w.waiting w.position word w.held one
        (first_part (word_fault (with_pair s a) [] w.is_trailing w.waiting word w.held) _ f) sound)

pub walk_sound : (s : Shape) (a : Rule) (words : List Text) (w : Walk) → TakesOne a
    → walk_fault (with_pair s a) [] w words ≡ [] → IsSound a w.held.rows
    → IsSound a (fold (walked (pair a) []) w words).held.rows
unfolding walk_fault
walk_sound s a [] w one e sound = sound
walk_sound s a (word ∷ words) w one e sound =
    walk_sound s a words (walked (pair a) [] w word) one (second_part (turn_fault (with_pair s a) [] w word) _ e)
    (turn_sound s a w word one (first_part (turn_fault (with_pair s a) [] w word) _ e) sound)
