-- Valuations that agree below a number, and valuations made from functions.
use Rattle.std.proofs.Common.{◌≡◌, ◌↔◌, ℕ, zero, suc, ◌+◌, ◌<◌, ◌≤◌, List, [], ◌∷◌, ◌++◌, map, refl, sym, ap, ◌∙◌}
use Rattle.std.proofs.Common.{subst, arith}
use Rattle.heap_formula.specs.Words.{Each}
use Rattle.fo_formula.specs.declared.terms.Sign.{Sign}
use Rattle.fo_formula.specs.declared.terms.Sign.TheVariants.{Universal, Local, Constructor}
use Rattle.fo_formula.specs.declared.atoms.FoAtom.{FoAtom}
use Rattle.fo_formula.specs.declared.atoms.FoAtom.TheVariants.{Equation, Predicate}
use Rattle.fo_formula.specs.declared.numbers.Kind.{Kind}
use Rattle.fo_formula.specs.declared.numbers.Kind.TheVariants.{Variables}
use Rattle.fo_formula.specs.Words.{Word}
use Rattle.fo_formula.specs.Values.{entry, sign_value, value}
use Rattle.fo_formula.specs.Meaning.{Family, AtomHolds}
use Rattle.fo_formula.specs.Bounds.{sign_bound, word_bound, words_bound, atom_bound, atoms_bound}
use Rattle.fo_formula.proofs.Replacing.{InAtom, replaced-same}
use Rattle.heap_formula.proofs.AllMembers.{each_imply}
use Rattle.cyc_basics.specs.Words.{tabulated}

-- ---- bounds of the signs

module _ (kind : Kind) (n : ℕ) where
  abbrev pub IsBelow : Sign → Type 0
  IsBelow s = sign_bound kind s ≤ n

  pub word_below : (w : Word) → word_bound kind w ≤ n → Each IsBelow w
  word_below [] h = tt
  word_below (s ∷ w) h = (omega arith, word_below w (omega arith))

  pub words_below : (ws : List Word) → words_bound kind ws ≤ n → Each (Each IsBelow) ws
  words_below [] h = tt
  words_below (w ∷ ws) h = (word_below w (omega arith), words_below ws (omega arith))

  pub atom_below : (x : FoAtom) → atom_bound kind x ≤ n → InAtom IsBelow x
  atom_below (Equation l r) h = (word_below l (omega arith), word_below r (omega arith))
  atom_below (Predicate p ts) h = words_below ts h

  pub atoms_below : (xs : List FoAtom) → atoms_bound kind xs ≤ n → Each (InAtom IsBelow) xs
  atoms_below [] h = tt
  atoms_below (x ∷ xs) h = (atom_below x (omega arith), atoms_below xs (omega arith))

-- a fact of each sign of an atom follows from another
pub in_atom_map : (P Q : Sign → Type 0) → ((s : Sign) → P s → Q s) → (x : FoAtom) → InAtom P x → InAtom Q x
in_atom_map P Q f (Equation l r) h = (each_imply P Q f l h.0, each_imply P Q f r h.1)
in_atom_map P Q f (Predicate p ts) h = each_imply (Each P) (Each Q) (each_imply P Q f) ts h

all_signs : (Q : Sign → Type 0) → ((s : Sign) → Q s) → (w : Word) → Each Q w
all_signs Q f [] = tt
all_signs Q f (s ∷ w) = (f s, all_signs Q f w)

all_words : (Q : Sign → Type 0) → ((s : Sign) → Q s) → (ws : List Word) → Each (Each Q) ws
all_words Q f [] = tt
all_words Q f (w ∷ ws) = (all_signs Q f w, all_words Q f ws)

-- a fact of all signs
pub in_any_atom : (Q : Sign → Type 0) → ((s : Sign) → Q s) → (x : FoAtom) → InAtom Q x
in_any_atom Q f (Equation l r) = (all_signs Q f l, all_signs Q f r)
in_any_atom Q f (Predicate p ts) = all_words Q f ts

-- ---- valuations that agree

abbrev pub Agrees : ℕ → List Word → List Word → Type 0
Agrees n v w = (k : ℕ) → k < n → entry w k ≡ entry v k

pub sign_agrees : (n : ℕ) (v w e : List Word) → Agrees n v w → (s : Sign) → IsBelow Variables n s
    → sign_value w e s ≡ sign_value v e s
sign_agrees n v w e g (Universal m) h = g m (omega arith)
sign_agrees n v w e g (Local m) h = refl
sign_agrees n v w e g (Constructor c k) h = refl

pub value_agrees : (n : ℕ) (v w e : List Word) → Agrees n v w → (u : Word) → Each (IsBelow Variables n) u
    → value w e u ≡ value v e u
value_agrees n v w e g u h =
    replaced-same (sign_value w e) (sign_value v e) u
    (each_imply (IsBelow Variables n) (λ s. sign_value w e s ≡ sign_value v e s) (sign_agrees n v w e g) u h)

values_agree : (n : ℕ) (v w e : List Word) → Agrees n v w → (us : List Word) → Each (Each (IsBelow Variables n)) us
    → map (value w e) us ≡ map (value v e) us
values_agree n v w e g [] h = refl
values_agree n v w e g (u ∷ us) h = λ i. value_agrees n v w e g u h.0 i ∷ values_agree n v w e g us h.1 i

-- an atom below n says the same under valuations that agree below n
pub atom_agrees : (n : ℕ) (v w : List Word) → Agrees n v w → (P : Family) (x : FoAtom) → InAtom (IsBelow Variables n) x
    → AtomHolds P v [] x ↔ AtomHolds P w [] x
atom_agrees n v w g P (Equation l r) h =
    let a = value_agrees n v w [] g l h.0 in
    let b = value_agrees n v w [] g r h.1 in
    (λ e. a ∙ e ∙ sym b, λ e. sym a ∙ e ∙ b)
atom_agrees n v w g P (Predicate p ts) h =
    let a = values_agree n v w [] g ts h in (λ o. subst (P p) (sym a) o, λ o. subst (P p) a o)

-- ---- valuations from functions

pub tabulated-at : (f : ℕ → Word) (n : ℕ) (e : List Word) (k : ℕ) → k < n → entry (tabulated f n ++ e) k ≡ f k
tabulated-at f zero e k h = absurd (omega arith)
tabulated-at f (suc n) e zero h = refl
tabulated-at f (suc n) e (suc k) h = tabulated-at (λ m. f (suc m)) n e k (omega arith)

pub tabulated-after : (f : ℕ → Word) (n : ℕ) (e : List Word) (j : ℕ) → entry (tabulated f n ++ e) (n + j) ≡ entry e j
tabulated-after f zero e j = let z : 0 + j ≡ j = omega arith in ap (entry e) z
tabulated-after f (suc n) e j =
    let z : suc n + j ≡ suc (n + j) = omega arith in
    ap (entry (tabulated f (suc n) ++ e)) z ∙ tabulated-after (λ m. f (suc m)) n e j

pub tabulated_each : (P : Word → Type 0) (f : ℕ → Word) → ((k : ℕ) → P (f k)) → (n : ℕ) → Each P (tabulated f n)
tabulated_each P f h zero = tt
tabulated_each P f h (suc n) = (h 0, tabulated_each P (λ k. f (suc k)) (λ k. h (suc k)) n)
