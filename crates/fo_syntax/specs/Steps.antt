-- Items one after the other, where each tells what may come next.
use Rattle.std.specs.Prelude.{◌≡◌, ℕ, zero, suc, Bool, true, false, cond, List, [], ◌∷◌, ◌++◌, length, Ok, Err, ◌⊎◌}
use Rattle.std.proofs.Common.{inl, inr}
use Rattle.cyc_lex.specs.Word.{Word}
use Rattle.cyc_grammar.specs.Syntax.{Reading, ◌>>=◌, Syntax, Class, never, begins, is_one, after}

-- at a state: whether an item is wanted, which it may be, and the state after it
pub record Steps (S A : Type 0) : Type 1 where
  pub wants : S → Bool
  pub item : S → Syntax A
  pub next : S → A → S

abbrev pub read_steps : {S A : Type 0} → Steps S A → ℕ → S → List Word → Reading (List A)
read_steps p zero s ts = cond (p.wants s) (Err (length ts)) (Ok ([], ts))
read_steps p (suc n) s ts = cond (p.wants s) ((p.item s).read ts >>= λ x. read_steps p n (p.next s x.0) x.1 >>= λ y.
    Ok (x.0 ∷ y.0, y.1)) (Ok ([], ts))

abbrev pub words_steps : {S A : Type 0} → Steps S A → S → List A → List Word
words_steps p s [] = []
words_steps p s (x ∷ xs) = (p.item s).words x ++ words_steps p (p.next s x) xs

abbrev pub fits_steps : {S A : Type 0} → Steps S A → S → List A → Type 0
fits_steps p s [] = p.wants s ≡ false
fits_steps p s (x ∷ xs) = (p.wants s ≡ true) × ((p.item s).fits x × fits_steps p (p.next s x) xs)

-- the items from a state on until none is wanted
abbrev pub steps : {S A : Type 0} → Steps S A → S → Syntax (List A)
steps p s = record {
  words = words_steps p s;
  read = λ ts. read_steps p (length ts) s ts;
  more = λ t. never;
  fits = fits_steps p s;
}

-- ---- a word and then a, or neither

abbrev pub words_option : {A : Type 0} → Class (Unit {0}) → Syntax A → Unit {0} ⊎ A → List Word
words_option c a (inl u) = []
words_option c a (inr x) = c.word tt ∷ a.words x

abbrev pub read_option : {A : Type 0} → Class (Unit {0}) → Syntax A → List Word → Reading (Unit {0} ⊎ A)
read_option c a ts = cond (begins (is_one c) ts) ((after c a).read ts >>= λ x. Ok (inr x.0, x.1)) (Ok (inl tt, ts))

abbrev pub more_option : {A : Type 0} → Class (Unit {0}) → Syntax A → Unit {0} ⊎ A → Word → Bool
more_option c a (inl u) d = is_one c d
more_option c a (inr x) d = a.more x d

abbrev pub fits_option : {A : Type 0} → Syntax A → Unit {0} ⊎ A → Type 0
fits_option a (inl u) = Unit {0}
fits_option a (inr x) = a.fits x

abbrev pub option : {A : Type 0} → Class (Unit {0}) → Syntax A → Syntax (Unit {0} ⊎ A)
option c a = record { words = words_option c a; read = read_option c a; more = more_option c a; fits = fits_option a }
