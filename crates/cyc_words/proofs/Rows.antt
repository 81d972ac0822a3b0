-- Rows of an argument that takes one value, once: where a use of it has no fault, the value passed its parser.
use Rattle.std.proofs.Common.{◌≡◌, ◌∙◌, ℕ, zero, suc, Bool, true, false, List, [], ◌∷◌, ◌++◌, length, Some, None, refl}
use Rattle.std.proofs.Common.{sym, ap, subst, arith, append-nil}
use Rattle.std.specs.Prelude.{◌==◌}
use Rattle.std.specs.List.{All}
use Rattle.std.specs.Str.{bytes_eq}
use Rattle.std.proofs.lemmas.Bool.{ne_eqb}
use Rattle.std.proofs.lemmas.List.Elements.{All-push}
use Rattle.clap.specs.Facts.{unwrap_or_range}
use Rattle.clap.specs.Faults.{use_fault, set_fault, action_fault, values_fault, repeat_fault}
use Rattle.clap.specs.Kinds.{range_kinds}
use Rattle.clap.specs.Simple.{filled, help_rule}
use Rattle.clap.specs.Takes.{value_passes}
use Rattle.clap.specs.Walk.{Row, Rule, Text, action_of, reading_by, at_row, has_row, more_values, without, used}
use Rattle.clap.specs.declared.builder.action.ArgAction.TheVariants.{Set}
use Rattle.clap.specs.declared.parser.ValueSource.TheVariants.{CommandLine}
use Rattle.cyc_words.proofs.Faults.{first_part, second_part, some_fault}

-- an argument that takes one value, once
pub record TakesOne (a : Rule) : Type 0 where
  pub action : a.action ≡ Some Set
  pub range : a.range ≡ Some (record { start_inclusive = 1; end_inclusive = 1 })

-- the row has one value, which passed the argument's parser
pub record HasPassed (a : Rule) (r : Row) : Type 0 where
  pub text : Text
  pub values : r.values ≡ text ∷ []
  pub passes : value_passes a text ≡ true
  pub reading : r.reading ≡ reading_by a

-- each row of the argument is such a row
abbrev pub IsSoundRow : Rule → Row → Type 0
IsSoundRow a r = bytes_eq r.id a.id ≡ true → HasPassed a r

abbrev pub IsSound : Rule → List Row → Type 0
IsSound a = All (IsSoundRow a)

-- the argument for help that clap adds
abbrev pub help_full : Rule
help_full = filled help_rule

-- where no value is wanted, there is none
none_wanted : (n : ℕ) → range_kinds 0 0 n ≡ [] → n ≡ 0
none_wanted zero h = refl
none_wanted (suc n) h =
    let test : (0 == suc n) ≡ false = ne_eqb 0 (suc n) (λ e. omega arith) in
    some_fault _ _ (rw test at h)

-- help is never used without a fault
pub help_never : (again : Bool) (values : List Text) (rows : List Row) → use_fault again help_full values rows ≡ [] → ⊥
help_never again [] rows h = some_fault _ _ h
help_never again (v ∷ vs) rows h =
    let n : range_kinds 0 0 (length (v ∷ vs)) ≡ [] = first_part _ _ h in
    omega (arith, none_wanted (length (v ∷ vs)) n)

-- where one value is wanted, there is one
one_wanted : (n : ℕ) → range_kinds 1 1 n ≡ [] → n ≡ 1
one_wanted zero h = some_fault _ _ h
one_wanted (suc zero) h = refl
one_wanted (suc (suc n)) h =
    let test : (1 == suc (suc n)) ≡ false = ne_eqb 1 (suc (suc n)) (λ e. omega arith) in
    let zero_test : (suc (suc n) == 0) ≡ false = ne_eqb (suc (suc n)) 0 (λ e. omega arith) in
    some_fault _ _ (rw (zero_test, test) at h)

use_range : (again : Bool) (a : Rule) (values : List Text) (rows : List Row) → TakesOne a
    → use_fault again a values rows ≡ [] → range_kinds 1 1 (length values) ≡ []
use_range again a values rows one h =
    let r : range_kinds (unwrap_or_range a.range).start_inclusive (unwrap_or_range a.range).end_inclusive
    (length values) ≡ [] = first_part _ _ h in
    rw one.range at r

one_value : (again : Bool) (a : Rule) (values : List Text) (rows : List Row) → TakesOne a
    → use_fault again a values rows ≡ [] → (v : Text) × (values ≡ v ∷ [])
one_value again a [] rows one h = absurd (omega (arith, one_wanted 0 (use_range again a [] rows one h)))
one_value again a (v ∷ []) rows one h = (v, refl)
one_value again a (v ∷ w ∷ vs) rows one h = absurd
    (omega (arith, one_wanted (length (v ∷ w ∷ vs)) (use_range again a (v ∷ w ∷ vs) rows one h)))

-- where no row has the id, what is missing goes last
pub append_row : (id : Text) (change : Row → List Row) (missing rows : List Row) → has_row id rows ≡ false
    → at_row id change missing rows ≡ rows ++ missing
append_row id change missing [] h = refl
append_row id change missing (r ∷ rs) h = go (bytes_eq r.id id) refl (append_row id change missing rs)
  where
    go : (b : Bool) → bytes_eq r.id id ≡ b → (has_row id rs ≡ false → at_row id change missing rs ≡ rs ++ missing)
        → at_row id change missing (r ∷ rs) ≡ (r ∷ rs) ++ missing
    go true e ih = let bad : true ≡ false = rw e at h in cc
    go false e ih = let rest : has_row id rs ≡ false = rw e at h in rw e (ap (λ (x : List Row). r ∷ x) (ih rest))

-- a second use is a fault
not_twice : (id : Text) (rows : List Row) → repeat_fault false id rows ≡ [] → has_row id rows ≡ false
not_twice id rows h = go (has_row id rows) refl
  where
    go : (b : Bool) → has_row id rows ≡ b → has_row id rows ≡ false
    go true e = some_fault _ _ (rw e at h)
    go false e = e

pub passed : (a : Rule) (v : Text) → values_fault a (v ∷ []) ≡ [] → value_passes a v ≡ true
passed a v h = go (value_passes a v) refl
  where
    go : (b : Bool) → value_passes a v ≡ b → value_passes a v ≡ true
    go true e = e
    go false e = some_fault _ _ (rw e at h)

-- what a use without a fault says of the row that it makes
use_says : (a : Rule) (v : Text) (rows : List Row) → TakesOne a → use_fault false a (v ∷ []) rows ≡ []
    → (has_row a.id rows ≡ false) × (value_passes a v ≡ true)
use_says a v rows one h =
    let any : action_fault (action_of a) false a (v ∷ []) rows
    ≡ [] = second_part (range_kinds (unwrap_or_range a.range).start_inclusive
    (unwrap_or_range a.range).end_inclusive (length (v ∷ []))) (action_fault (action_of a) false a (v ∷ []) rows) h
    in
    let set : set_fault false a (v ∷ []) rows ≡ [] = rw one.action at any in (
      not_twice a.id rows (first_part (repeat_fault false a.id rows) (values_fault a (v ∷ [])) set),
      passed a v (second_part (repeat_fault false a.id rows) (values_fault a (v ∷ [])) set),
    )

-- the row that a use makes
abbrev pub made : Rule → Text → Row
made a v = record { id = a.id; values = v ∷ []; count = None; source = Some CommandLine; reading = reading_by a }

used_is : (a : Rule) (v : Text) (rows : List Row) → TakesOne a → has_row a.id rows ≡ false
    → used a (v ∷ []) rows ≡ rows ++ made a v ∷ []
used_is a v rows one none =
    let gone : without a.id rows ≡ rows = append_row a.id (λ _. []) [] rows none ∙ append-nil rows in
    rw (one.action, gone) (append_row a.id (more_values CommandLine (v ∷ [])) (made a v ∷ []) rows none)

pub used_sound : (a : Rule) (values : List Text) (rows : List Row) → TakesOne a → use_fault false a values rows ≡ []
    → IsSound a rows → IsSound a (used a values rows)
used_sound a values rows one h sound =
    let it = one_value false a values rows one h in
    let says = use_says a it.0 rows one (subst (λ (vs : List Text). use_fault false a vs rows ≡ []) it.1 h) in
    let is : used a values rows ≡ rows ++ made a it.0
    ∷ [] = subst (λ (vs : List Text). used a vs rows ≡ rows ++ made a it.0 ∷ []) (sym it.1)
    (used_is a it.0 rows one says.0) in
    subst (λ (rs : List Row). IsSound a rs) (sym is)
    (All-push (IsSoundRow a) rows (made a it.0) sound (λ same.
    record { text = it.0; values = refl; passes = says.1; reading = refl }))
