-- A script that is looked for byte by byte.
use Rattle.std.proofs.Common.{◌≡◌, ◌∙◌, ◌<◌, ◌≤◌, ◌+◌, ◌==◌, ap, sym, refl, not, ℕ, Bool, true, false, List, [], ◌∷◌}
use Rattle.std.proofs.Common.{length, drop, get_or, add-one}
use Rattle.std.proofs.Math.Seq.{drop-cons}
use Rattle.std.proofs.Math.ListN.{drop_of_length-le}
use Rattle.std.proofs.lemmas.Bool.{ne_eqb}
use Rattle.script_reader.specs.Bytes.{is_space}
use Rattle.script_answers.specs.Begins.{begins_script, is_script_text}

-- what is left of the input says whether it is a script
abbrev pub Looked : List ℕ → ℕ → Bool → Type 0
Looked input i comment = begins_script comment (drop i input) ≡ is_script_text input

in-comment : (b : ℕ) (bs : List ℕ) → begins_script true (b ∷ bs) ≡ begins_script (not (b == 10)) bs
unfolding begins_script
in-comment b bs = refl

starts : (b : ℕ) (bs : List ℕ) → (b == 59) ≡ true → begins_script false (b ∷ bs) ≡ begins_script true bs
unfolding begins_script
starts b bs is = rw is refl

gap : (b : ℕ) (bs : List ℕ) → (b == 59) ≡ false → is_space b ≡ true
    → begins_script false (b ∷ bs) ≡ begins_script false bs
unfolding begins_script
gap b bs other is = rw (other, is) refl

here : (b : ℕ) (bs : List ℕ) → (b == 59) ≡ false → is_space b ≡ false → begins_script false (b ∷ bs) ≡ (b == 40)
unfolding begins_script
here b bs other is = rw (other, is) refl

none : (comment : Bool) → begins_script comment [] ≡ false
unfolding begins_script
none true = refl
none false = refl

rest-is : (input : List ℕ) (i : ℕ) → i < length input → drop i input ≡ get_or input i 0 ∷ drop (i + 1) input
rest-is input i h = drop-cons input i 0 h ∙ ap (λ k. get_or input i 0 ∷ drop k input) (sym (add-one i))

module _ (input : List ℕ) (i : ℕ) (within : i < length input) where
  pub looked_comment : (c after : Bool) → c ≡ true → after ≡ not (get_or input i 0 == 10) → Looked input i c
      → Looked input (i + 1) after
  looked_comment c after is e looked =
      ap (λ q. begins_script q (drop (i + 1) input)) e ∙ sym (in-comment (get_or input i 0) (drop (i + 1) input))
      ∙ sym (ap (begins_script true) (rest-is input i within)) ∙ ap (λ q. begins_script q (drop i input)) (sym is)
      ∙ looked

  pub looked_start : (c after : Bool) → c ≡ false → after ≡ true → get_or input i 0 ≡ 59 → Looked input i c
      → Looked input (i + 1) after
  looked_start c after is e b looked =
      ap (λ q. begins_script q (drop (i + 1) input)) e
      ∙ sym (starts (get_or input i 0) (drop (i + 1) input) (ap (λ n. n == 59) b))
      ∙ sym (ap (begins_script false) (rest-is input i within)) ∙ ap (λ q. begins_script q (drop i input)) (sym is)
      ∙ looked

  pub looked_gap : (c : Bool) → c ≡ false → (get_or input i 0 ≡ 59 → ⊥) → is_space (get_or input i 0) ≡ true
      → Looked input i c → Looked input (i + 1) c
  looked_gap c is other b looked =
      ap (λ q. begins_script q (drop (i + 1) input)) is
      ∙ sym (gap (get_or input i 0) (drop (i + 1) input) (ne_eqb _ 59 other) b)
      ∙ sym (ap (begins_script false) (rest-is input i within)) ∙ ap (λ q. begins_script q (drop i input)) (sym is)
      ∙ looked

  pub looked_here : (c : Bool) → c ≡ false → (get_or input i 0 ≡ 59 → ⊥) → is_space (get_or input i 0) ≡ false
      → Looked input i c → (get_or input i 0 == 40) ≡ is_script_text input
  looked_here c is other b looked =
      sym (here (get_or input i 0) (drop (i + 1) input) (ne_eqb _ 59 other) b)
      ∙ sym (ap (begins_script false) (rest-is input i within)) ∙ ap (λ q. begins_script q (drop i input)) (sym is)
      ∙ looked

pub looked_all : (input : List ℕ) (i : ℕ) (c : Bool) → length input ≤ i → Looked input i c
    → false ≡ is_script_text input
looked_all input i c h looked = sym (none c) ∙ sym (ap (begins_script c) (drop_of_length-le input h)) ∙ looked
