-- What is found after a subcommand with one such argument, where there is no fault: its row, with a value that passed.
use Rattle.std.proofs.Common.{◌≡◌, Bool, true, false, cond, List, [], ◌∷◌, ◌++◌, length, Some, refl, sym, subst, arith}
use Rattle.std.specs.Prelude.{◌&&◌, ◌||◌, not, ◌≤◌}
use Rattle.std.specs.List.{list_any}
use Rattle.std.specs.Str.{bytes_eq}
use Rattle.std.proofs.lemmas.List.Elements.{All-push, All-nil}
use Rattle.std.proofs.lemmas.Slice.Eq.{bytes_eq-Decides}
use Rattle.clap.specs.Facts.{explicit_source}
use Rattle.clap.specs.Faults.{values_fault, settle_fault, walk_fault, default_fault, defaults_fault}
use Rattle.clap.specs.Faults.{given_default_fault, level_fault, check_fault}
use Rattle.clap.specs.Kinds.{request_kinds, check_kinds}
use Rattle.clap.specs.Simple.{Shape}
use Rattle.clap.specs.Takes.{is_given}
use Rattle.clap.specs.Walk.{Row, Rule, Text, action_of, reading_by, has_row, with_values, more_values, settled}
use Rattle.clap.specs.Walk.{default_rows, rows_after, is_empty, walk, walk_from, finished, with_default, nothing_held}
use Rattle.clap.specs.declared.parser.ValueSource.TheVariants.{DefaultValue}
use Rattle.cyc_words.proofs.Faults.{first_part, second_part, some_fault}
use Rattle.cyc_words.proofs.Rows.{TakesOne, IsSound, IsSoundRow, help_full, append_row, passed, made}
use Rattle.cyc_words.proofs.Walks.{pair, settle_sound, with_pair, walk_sound}

-- ---- defaults

-- at most one default
pub record DefaultsToOne (a : Rule) : Type 0 where
  pub most : length a.defaults ≤ 1

default_is : (a : Rule) (v : Text) (rows : List Row) → has_row a.id rows ≡ false
    → with_values a.id (reading_by a) DefaultValue (v ∷ []) rows ≡ rows
    ++ record (made a v) { source = Some DefaultValue } ∷ []
default_is a v rows none = append_row a.id (more_values DefaultValue (v ∷ [])) _ rows none

default_sound : (a : Rule) (rows : List Row) → TakesOne a → DefaultsToOne a → default_fault rows a ≡ [] → IsSound a rows
    → IsSound a (with_default rows a)
default_sound a rows one most e sound = go (has_row a.id rows) refl a.defaults most.most e
  where
    go : (b : Bool) → has_row a.id rows ≡ b → (ds : List Text) → length ds ≤ 1
        → cond (b || is_empty ds) [] (given_default_fault a ds) ≡ []
        → IsSound a (cond b rows (default_rows a.id (reading_by a) ds rows))
    go true is ds m f = sound
    go false is [] m f = sound
    go false is (v ∷ w ∷ ds) m f = absurd (omega arith)
    go false is (v ∷ []) m f =
        let pass = passed a v (second_part (request_kinds (action_of a)) (values_fault a (v ∷ [])) f) in
        rw (default_is a v rows is) (All-push (IsSoundRow a) rows (record (made a v) { source = Some DefaultValue })
        sound (λ same. record { text = v; values = refl; passes = pass; reading = refl }))

help_default : (a : Rule) (rows : List Row) → IsSound a rows → IsSound a (with_default rows help_full)
help_default a rows sound = elim (has_row help_full.id rows) as (λ b. IsSound a (cond b rows rows))
    [ true ↦ sound | false ↦ sound ]

-- what clap found for the argument, where the words after the subcommand have no fault
pub level_sound : (s : Shape) (a : Rule) (words : List Text) → TakesOne a → DefaultsToOne a
    → level_fault (with_pair s a) [] nothing_held words false [] ≡ [] → IsSound a (rows_after (pair a) [] words)
unfolding defaults_fault
level_sound s a words one most e =
    let end = (walk (pair a) [] nothing_held words).held in
    let w = walk_fault (with_pair s a) [] (walk_from nothing_held) words in
    let rest = second_part w _ e in
    let walk_ok = walk_sound s a words (walk_from nothing_held) one (first_part w _ e) (All-nil (IsSoundRow a)) in
    let settle_ok = settle_sound a end one (first_part (settle_fault (pair a) false end) _ rest) walk_ok in
    let defaults_ok = first_part (defaults_fault (settled (pair a) end).rows (pair a)) _
    (second_part (settle_fault (pair a) false end) _ rest) in
    help_default a _ (default_sound a (settled (pair a) end).rows one most
    (first_part (default_fault (settled (pair a) end).rows a) _ defaults_ok) settle_ok)

-- ---- the argument has a row

row_last : (id : Text) (rows : List Row) (r : Row) → bytes_eq r.id id ≡ true → has_row id (rows ++ r ∷ []) ≡ true
row_last id [] r same = rw same refl
row_last id (x ∷ xs) r same = elim (bytes_eq x.id id) as (λ b. b || has_row id (xs ++ r ∷ []) ≡ true)
    [ true ↦ refl | false ↦ row_last id xs r same ]

same_id : (id : Text) → bytes_eq id id ≡ true
same_id id = (bytes_eq-Decides id id).1 refl

-- a default gives it one
pub default_there : (a : Rule) (v : Text) (rows : List Row) → a.defaults ≡ v ∷ []
    → has_row a.id (with_default rows a) ≡ true
default_there a v rows one = go (has_row a.id rows) refl
  where
    go : (b : Bool) → has_row a.id rows ≡ b → has_row a.id (cond b rows
        (default_rows a.id (reading_by a) a.defaults rows)) ≡ true
    go true is = is
    go false is = rw (one, default_is a v rows is)
        (row_last a.id rows (record (made a v) { source = Some DefaultValue }) (same_id a.id))

help_same : (rows : List Row) → with_default rows help_full ≡ rows
help_same rows = elim (has_row help_full.id rows) as (λ b. cond b rows rows ≡ rows) [ true ↦ refl | false ↦ refl ]

pub finished_default : (a : Rule) (v : Text) (words : List Text) → a.defaults ≡ v ∷ []
    → has_row a.id (rows_after (pair a) [] words) ≡ true
finished_default a v words one =
    let end = (walk (pair a) [] nothing_held words).held in
    subst (λ (rs : List Row). has_row a.id rs ≡ true) (sym (help_same (with_default (settled (pair a) end).rows a)))
    (default_there a v (settled (pair a) end).rows one)

-- and where it is required, it has one
given_row : (id : Text) (rows : List Row) → is_given id rows ≡ true → has_row id rows ≡ true
given_row id [] h = cc
given_row id (r ∷ rs) h = go (bytes_eq r.id id) refl (given_row id rs)
  where
    go : (b : Bool) → bytes_eq r.id id ≡ b → (is_given id rs ≡ true → has_row id rs ≡ true) → has_row id (r ∷ rs) ≡ true
    go true e ih = rw e refl
    go false e ih = let rest : is_given id rs ≡ true = rw e at h in rw e (ih rest)

pub finished_required : (s : Shape) (a : Rule) (words : List Text) → a.required ≡ true
    → level_fault (with_pair s a) [] nothing_held words false [] ≡ []
    → has_row a.id (rows_after (pair a) [] words) ≡ true
finished_required s a words required e =
    let end = (walk (pair a) [] nothing_held words).held in
    let rest = second_part (walk_fault (with_pair s a) [] (walk_from nothing_held) words) _ e in
    let more = second_part (settle_fault (pair a) false end) _ rest in
    let checked : check_fault (with_pair s a) (finished (pair a) end) false
    ≡ [] = second_part (defaults_fault (settled (pair a) end).rows (pair a)) _ more in
    given_row a.id (finished (pair a) end) (there (finished (pair a) end) checked)
  where
    there : (rows : List Row) → check_fault (with_pair s a) rows false ≡ [] → is_given a.id rows ≡ true
    there rows f = go (is_given a.id rows) refl
      where
        wanted : (x y : Bool) → check_kinds x y true ≡ [] → ⊥
        wanted true y g = some_fault _ _ g
        wanted false true g = some_fault _ _ g
        wanted false false g = some_fault _ _ g

        go : (b : Bool) → is_given a.id rows ≡ b → is_given a.id rows ≡ true
        go true is = is
        go false is =
            let x = s.arg_required_else_help && not (list_any (λ (r : Row). explicit_source r.source) rows) in
            let g : check_kinds x s.subcommand_required
            ((a.required && not (is_given a.id rows)) ||
            (help_full.required && not (is_given help_full.id rows) || false)) ≡ [] = f in
            let bad : check_kinds x s.subcommand_required true ≡ [] = rw (required, is) at g in
            absurd (wanted x s.subcommand_required bad)
