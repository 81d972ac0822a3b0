-- What is left of the first tokens of a text.
use Rattle.std.proofs.Common.{◌≡◌, ℕ, zero, suc, ◌≤◌, true, List, [], ◌∷◌, length, take, refl, sym, ap, ◌∙◌, ◌⊎◌, inl}
use Rattle.std.proofs.Common.{inr, arith}
use Rattle.std.specs.Prelude.{map}
use Rattle.std.specs.Str.{chars}
use Rattle.std.proofs.lemmas.List.{length-map}
use Rattle.cyc_lex.specs.declared.place.Place.{Place}
use Rattle.cyc_lex.specs.declared.cuts.Cut.{Cut}
use Rattle.cyc_lex.specs.Placed.{Placed}
use Rattle.cyc_lex.specs.Word.{Word, word, word_of}
use Rattle.cyc_lex.specs.Cutting.{cut_tokens, IsCut}
use Rattle.cyc_grammar.specs.Classes.{are_tokens}
use Rattle.cyc_grammar.specs.Texts.{words_behind, words_left, AreLeft}

-- the first n of these are the same, whether others are taken for the end or not
record AreFirst (n : ℕ) (ws vs : List Word) : Type 0 where
  same : take n vs ≡ take n ws
  within : n ≤ length vs

first-behind : (n : ℕ) (w : Word) (others more : List Placed) → (others ≡ more) ⊎ (others ≡ [])
    → n ≤ length (w ∷ map word_of others) → AreFirst n (w ∷ map word_of others) (w ∷ map word_of more)
first-behind n w others more (inl e) h = let same : w ∷ map word_of others ≡ w
    ∷ map word_of more = ap (λ (ts : List Placed). w ∷ map word_of ts) e in
    record { same = ap (take n) (sym same); within = omega (arith, h, ap length same) }
first-behind zero w others more (inr e) h = record { same = refl; within = omega arith }
first-behind (suc zero) w others more (inr e) h = record { same = refl; within = omega arith }
first-behind (suc (suc n)) w others more (inr e) h = absurd
    (omega (arith, h, ap (λ (ts : List Placed). length (map word_of ts)) e))

-- a token that was cut off is the next one
module _ (p : Place) (text : List ℕ) (c : Cut) (h : IsCut p text c) (n : ℕ)
    (within : n ≤ length (cut_tokens p 0 (chars text))) where
  cut-words : map word_of (cut_tokens p 0 (chars text)) ≡ word c.token ∷ map word_of h.others
  cut-words = ap (map word_of) h.tokens

  first-cut : AreFirst n (word c.token ∷ map word_of h.others) (words_behind c.token c.place c.rest.now)
  first-cut = first-behind n (word c.token) h.others (cut_tokens c.place 0 (chars c.rest.now)) h.behind
      (omega (arith, within, ap length cut-words, length-map (cut_tokens p 0 (chars text)) word_of))

  pub next-words : words_left n c.token c.place c.rest.now ≡ take n (map word_of (cut_tokens p 0 (chars text)))
  next-words = first-cut.same ∙ ap (take n) (sym cut-words)

  pub next-left : are_tokens (take n (map word_of (cut_tokens p 0 (chars text)))) ≡ true
      → AreLeft n c.token c.place c.rest.now
  next-left all = record { within = first-cut.within; tokens = ap are_tokens next-words ∙ all; room = h.room }
