-- What follows a letter by the derivative does so in a word of the expression.
use Rattle.std.proofs.Common.{◌≡◌, ℕ, suc, Bool, true, false, cond, nat_eq, [], ◌∷◌, ◌++◌, ◌⊎◌, refl, sym, ap, ◌∙◌}
use Rattle.std.proofs.Common.{subst, inl, inr, eqb-true, append_assoc}
use Rattle.std.proofs.lemmas.Bool.{or_cases, and_parts}
use Rattle.std.proofs.lemmas.List.{append-nil}
use Rattle.word_inclusions.specs.Expressions.{Expression, Zero, One, Letter, Sum, Product, Star, nullable, followed_by}
use Rattle.word_inclusions.specs.Expressions.{is_among, with, partials, derivative}
use Rattle.word_inclusions.specs.Language.{Word, IsJoined, IsWord}

-- a nullable expression has the empty word
pub empty_word : (e : Expression) → nullable e ≡ true → IsWord e []
empty_word Zero h = absurd (let x : false ≡ true = h in cc)
empty_word One h = refl
empty_word (Letter a) h = absurd (let x : false ≡ true = h in cc)
empty_word (Sum e f) h =
    elim (or_cases (nullable e) (nullable f) h) [ inl x ↦ inl (empty_word e x) | inr x ↦ inr (empty_word f x) ]
empty_word (Product e f) h =
    let both = and_parts (nullable e) (nullable f) h in
    record { front = []; back = []; is = refl; first = empty_word e both.0; second = empty_word f both.1 }
empty_word (Star e) h = (0, refl)

-- a word, and nothing behind it
pub alone : (L : Word → Type 0) (M : Word → Type 0) (w : Word) → L w → M [] → IsJoined L M w
alone L M w h n = record { front = w; back = []; is = sym (append-nil w); first = h; second = n }

followed : (e k : Expression) (w : Word) → IsWord (followed_by e k) w → IsJoined (IsWord e) (IsWord k) w
followed e One w h = alone (IsWord e) (IsWord One) w h refl
followed e k w h = h

with_by : (t : Bool) (x others : Expression) (w : Word) → IsWord (cond t others (Sum x others)) w
    → IsWord x w ⊎ IsWord others w
with_by true x others w h = inr h
with_by false x others w h = h

-- the letter, and then this, is a word of e
abbrev Behind : ℕ → Expression → Word → Type 0
Behind a e u = IsWord e (a ∷ u)

-- a word of the partial derivatives comes from e, or from the others
abbrev IsPartial : ℕ → Expression → Expression → Expression → Word → Type 0
IsPartial a e k others w = IsJoined (Behind a e) (IsWord k) w ⊎ IsWord others w

letter_by : (t : Bool) (a b : ℕ) (k others : Expression) (w : Word) → (t ≡ true → a ≡ b)
    → IsWord (cond t (with k others) others) w → IsPartial a (Letter b) k others w
letter_by false a b k others w is h = inr h
letter_by true a b k others w is h =
    elim (with_by (is_among k others) k others w h) [
      | inl x ↦ inl (record { front = []; back = w; is = refl; first = ap (λ (c : ℕ). c ∷ []) (is refl); second = x })
      | inr x ↦ inr x
    ]

nullable_by : (t : Bool) (a : ℕ) (e f k others : Expression) (w : Word) → (t ≡ true → IsWord e [])
    → (IsWord (partials a f k others) w → IsPartial a f k others w)
    → IsWord (cond t (partials a f k others) others) w → IsPartial a (Product e f) k others w
nullable_by false a e f k others w is each h = inr h
nullable_by true a e f k others w is each h =
    elim (each h) [
      | inl j ↦ inl (record {
        front = j.front;
        back = j.back;
        is = j.is;
        first = record { front = []; back = a ∷ j.front; is = refl; first = is refl; second = j.first };
        second = j.second;
      })
      | inr x ↦ inr x
    ]

-- e is behind the letter, then f, then k
regrouped : (E F K : Word → Type 0) (w u v : Word) → w ≡ u ++ v → E u → (j : IsJoined F K v)
    → IsJoined (IsJoined E F) K w
regrouped E F K w u v is h j = record {
  front = u ++ j.front;
  back = j.back;
  is = is ∙ (ap (λ (x : Word). u ++ x) j.is ∙ sym (append_assoc u j.front j.back));
  first = record { front = u; back = j.front; is = refl; first = h; second = j.first };
  second = j.second;
}

pub partial_word : (a : ℕ) (e k others : Expression) (w : Word) → IsWord (partials a e k others) w
    → IsPartial a e k others w
partial_word a Zero k others w h = inr h
partial_word a One k others w h = inr h
partial_word a (Letter b) k others w h = letter_by (nat_eq a b) a b k others w (λ t. eqb-true a b t) h
partial_word a (Sum e f) k others w h =
    elim (partial_word a e k (partials a f k others) w h) [
      | inl j ↦ inl (record { front = j.front; back = j.back; is = j.is; first = inl j.first; second = j.second })
      | inr r ↦ elim (partial_word a f k others w r) [
        | inl j ↦ inl (record { front = j.front; back = j.back; is = j.is; first = inr j.first; second = j.second })
        | inr x ↦ inr x
      ]
    ]
partial_word a (Product e f) k others w h =
    elim (partial_word a e (followed_by f k) (cond (nullable e) (partials a f k others) others) w h) [
      | inl j ↦ (
          let g = regrouped (Behind a e) (IsWord f) (IsWord k) w j.front j.back j.is j.first
          (followed f k j.back j.second) in
          inl (record {
            front = g.front;
            back = g.back;
            is = g.is;
            first = record {
              front = a ∷ g.first.front;
              back = g.first.back;
              is = ap (λ (x : Word). a ∷ x) g.first.is;
              first = g.first.first;
              second = g.first.second;
            };
            second = g.second;
          }))
      | inr r ↦ nullable_by (nullable e) a e f k others w (empty_word e) (partial_word a f k others w) r
    ]
partial_word a (Star e) k others w h =
    elim (partial_word a e (followed_by (Star e) k) others w h) [
      | inl j ↦ (
          let g = regrouped (Behind a e) (IsWord (Star e)) (IsWord k) w j.front j.back j.is j.first
          (followed (Star e) k j.back j.second) in
          inl (record {
            front = g.front;
            back = g.back;
            is = g.is;
            first = (
              suc g.first.second.0,
              record {
                front = a ∷ g.first.front;
                back = g.first.back;
                is = ap (λ (x : Word). a ∷ x) g.first.is;
                first = g.first.first;
                second = g.first.second.1;
              },
            );
            second = g.second;
          }))
      | inr x ↦ inr x
    ]

-- the letter before a word of the derivative
pub derivative_word : (a : ℕ) (e : Expression) (w : Word) → IsWord (derivative a e) w → IsWord e (a ∷ w)
derivative_word a e w h =
    elim (partial_word a e One Zero w h) [
      | inl j ↦ subst (Behind a e) (sym (j.is ∙ (ap (λ (x : Word). j.front ++ x) j.second ∙ append-nil j.front)))
          j.first
      | inr x ↦ absurd x
    ]
