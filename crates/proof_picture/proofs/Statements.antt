-- Statements as tokens and in words, and a line by its number.
use Rattle.std.proofs.Common.{◌≡◌, ℕ, zero, suc, ◌-◌, Bool, true, false, cond, List, [], ◌∷◌, length, get_or, map, Some}
use Rattle.std.proofs.Common.{None, refl, sym, ap, ◌∙◌, arith}
use Rattle.std.specs.Prelude.{nat_lt, slice_get, option_map, Result, Ok, Err, IfOk}
use Rattle.std.specs.Borrow.{Bor}
use Rattle.std.specs.List.{onto_first, slice_split}
use Rattle.std.proofs.lemmas.Bool.{ltb-true, ltb-false}
use Rattle.std.proofs.lemmas.List.{length-map}
use Rattle.std.proofs.lemmas.Option.{slice_get-map, slice_get_past, slice_get_read}
use Rattle.cyc_lex.specs.declared.token.Token.{Token}
use Rattle.cyc_lex.specs.Word.{Word, word}
use Rattle.heap_formula.specs.Programs.{counted_from_one}
use Rattle.proof_picture.specs.Naming.{seen, words_of}
use Rattle.proof_picture.specs.Titles.{ends_statement, statements_in}

-- ---- splitting

onto_first-map : {X Y : Type 0} (f : X → Y) (x : X) (xss : List (List X))
    → map (map f) (onto_first x xss) ≡ onto_first (f x) (map (map f) xss)
onto_first-map f x [] = refl
onto_first-map f x (xs ∷ xss) = refl

split-step : {X Y : Type 0} (f : X → Y) (x : X) (b : Bool) (xss : List (List X)) (yss : List (List Y))
    → map (map f) xss ≡ yss → map (map f) (cond b ([] ∷ xss) (onto_first x xss))
    ≡ cond b ([] ∷ yss) (onto_first (f x) yss)
split-step f x true xss yss h = ap (λ zss. [] ∷ zss) h
split-step f x false xss yss h = onto_first-map f x xss ∙ ap (onto_first (f x)) h

split-map : {X Y : Type 0} (f : X → Y) (p : Y → Bool) (xs : List X)
    → map (map f) (slice_split (λ x. p (f x)) xs) ≡ slice_split p (map f xs)
split-map f p [] = refl
split-map f p (x ∷ xs) = split-step f x (p (f x)) (slice_split (λ y. p (f y)) xs) (slice_split p (map f xs))
    (split-map f p xs)

words-seen : (parts : List (Bor (List Token))) → map words_of parts ≡ map (map word) (map seen parts)
words-seen [] = refl
words-seen (p ∷ parts) = ap (λ ws. words_of p ∷ ws) (words-seen parts)

pub statements_are : (parts : List (Bor (List Token))) (ts : List Token)
    → map seen parts ≡ slice_split (λ t. ends_statement (word t)) ts → map words_of parts ≡ statements_in (map word ts)
statements_are parts ts is = words-seen parts ∙ ap (map (map word)) is ∙ split-map word ends_statement ts

-- ---- lines

counted : {X : Type 0} (xs : List X) (n : ℕ) → (n ≡ 0 → ⊥) → slice_get xs (n - 1) ≡ counted_from_one xs n
counted xs zero some = absurd (some refl)
counted xs (suc n) some = let e : suc n - 1 ≡ n = omega arith in ap (slice_get xs) e

pub line_found : {X Y : Type 0} (view : X → Y) (xs : List X) (n : ℕ) (x : X) → (n ≡ 0 → ⊥)
    → true ≡ nat_lt (n - 1) (length xs) → x ≡ get_or xs (n - 1) x → Some (view x) ≡ counted_from_one (map view xs) n
line_found view xs n x some within is =
    ap (option_map view) (sym (slice_get_read xs (length xs) (n - 1) x refl (ltb-true (n - 1) (length xs) (sym within))
    is))
    ∙ sym (slice_get-map view xs (n - 1))
    ∙ counted (map view xs) n some

pub line_missing : {X Y : Type 0} (view : X → Y) (xs : List X) (n : ℕ) → (n ≡ 0 → ⊥)
    → false ≡ nat_lt (n - 1) (length xs) → None ≡ counted_from_one (map view xs) n
line_missing view xs n some past =
    let size = length-map xs view in
    let beyond = ltb-false (n - 1) (length xs) (sym past) in
    sym (slice_get_past (map view xs) (n - 1) (omega arith)) ∙ counted (map view xs) n some
