-- Looking up a word in a list of words, one after the other.
use Rattle.std.proofs.Common.{◌≡◌, ◌∙◌, ◌<◌, ◌+◌, ℕ, suc, true, false, List, map, drop, get_or, length}
use Rattle.std.proofs.Common.{Some, bytes_eq, if◌then◌else◌, ◌||◌, ap, sym, add-one}
use Rattle.std.proofs.Math.Seq.{drop-cons}
use Rattle.script_reader.specs.Words.{is_among, named}

module _ {W V : Type 0} (f : W → List ℕ × V) (text : List ℕ) (words : List W) (i : ℕ) (word : W)
    (within : i < length words) (is : word ≡ get_or words i word) where
  here : named text (map f (drop i words))
      ≡ (if bytes_eq (f word).0 text then Some (f word).1 else named text (map f (drop (i + 1) words)))
  here =
      ap (λ l. named text (map f l)) (drop-cons words i word within)
      ∙ ap (λ (w : W). if bytes_eq (f w).0 text then Some (f w).1 else named text (map f (drop (suc i) words))) (sym is)
      ∙ ap (λ k. if bytes_eq (f word).0 text then Some (f word).1 else named text (map f (drop k words)))
      (sym (add-one i))

  -- another word is passed over
  pub named_later : bytes_eq (f word).0 text ≡ false
      → named text (map f (drop (i + 1) words)) ≡ named text (map f (drop i words))
  named_later other =
      sym (here ∙ ap (λ b. if b then Some (f word).1 else named text (map f (drop (i + 1) words))) other)

  -- the word is found
  pub named_here : bytes_eq (f word).0 text ≡ true → named text (map f (drop i words)) ≡ Some (f word).1
  named_here same = here ∙ ap (λ b. if b then Some (f word).1 else named text (map f (drop (i + 1) words))) same

module _ {W : Type 0} (f : W → List ℕ) (text : List ℕ) (words : List W) (i : ℕ) (word : W)
    (within : i < length words) (is : word ≡ get_or words i word) where
  among_here : is_among text (map f (drop i words))
      ≡ (bytes_eq (f word) text || is_among text (map f (drop (i + 1) words)))
  among_here =
      ap (λ l. is_among text (map f l)) (drop-cons words i word within)
      ∙ ap (λ (w : W). bytes_eq (f w) text || is_among text (map f (drop (suc i) words))) (sym is)
      ∙ ap (λ k. bytes_eq (f word) text || is_among text (map f (drop k words))) (sym (add-one i))

  -- another word is passed over
  pub among_later : bytes_eq (f word) text ≡ false
      → is_among text (map f (drop (i + 1) words)) ≡ is_among text (map f (drop i words))
  among_later other = sym (among_here ∙ ap (λ b. b || is_among text (map f (drop (i + 1) words))) other)

  -- the word is found
  pub among_found : bytes_eq (f word) text ≡ true → is_among text (map f (drop i words)) ≡ true
  among_found same = among_here ∙ ap (λ b. b || is_among text (map f (drop (i + 1) words))) same
