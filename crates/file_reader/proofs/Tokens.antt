-- Tokens among others, and the faults that stand at them.
use Rattle.std.proofs.Common.{◌≡◌, ℕ, zero, suc, ◌+◌, ◌-◌, ◌≤◌, ◌<◌, List, [], ◌∷◌, ◌++◌, length, take, drop, Some}
use Rattle.std.proofs.Common.{refl, ap, ◌∙◌, arith, length-append}
use Rattle.std.specs.Prelude.{slice_get}
use Rattle.cyc_lex.specs.declared.fault.ReadFault.TheVariants as faults
use Rattle.cyc_lex.specs.Placed.{Placed}
use Rattle.file_reader.specs.Outcomes.{at_token, syntax_fault}

pub slice-behind : (ts us : List Placed) (j : ℕ) → slice_get (ts ++ us) (length ts + j) ≡ slice_get us j
slice-behind [] us j = ap (slice_get us) (omega arith)
slice-behind (t ∷ ts) us j = ap (slice_get (t ∷ (ts ++ us))) same ∙ slice-behind ts us j
  where
    same : length (t ∷ ts) + j ≡ suc (length ts + j)
    same = omega arith

pub slice-front : (ts us : List Placed) (k : ℕ) → k < length ts → slice_get (ts ++ us) k ≡ slice_get ts k
slice-front [] us k h = absurd (omega (arith, h))
slice-front (t ∷ ts) us zero h = refl
slice-front (t ∷ ts) us (suc k) h = slice-front ts us k (omega (arith, h))

pub slice-drop : (before j : ℕ) (ts : List Placed) → slice_get (drop before ts) j ≡ slice_get ts (before + j)
slice-drop zero j ts = ap (slice_get ts) (omega arith)
slice-drop (suc b) j [] = refl
slice-drop (suc b) j (t ∷ ts) = slice-drop b j ts ∙ ap (slice_get (t ∷ ts)) (same b)
  where
    same : (n : ℕ) → suc (n + j) ≡ suc n + j
    same n = omega arith

pub slice-take : (n j : ℕ) (ts : List Placed) → j < n → slice_get (take n ts) j ≡ slice_get ts j
slice-take zero j ts h = absurd (omega (arith, h))
slice-take (suc n) j [] h = refl
slice-take (suc n) zero (t ∷ ts) h = refl
slice-take (suc n) (suc j) (t ∷ ts) h = slice-take n j ts (omega (arith, h))

-- a fault among the later tokens
pub syntax-later : (before left : ℕ) (ts us : List Placed) → left ≤ length us
    → syntax_fault before (ts ++ us) left ≡ syntax_fault (before + length ts) us left
syntax-later before left ts us h = λ i. at_token faults.Syntax (number i) (token i)
  where
    place : length (ts ++ us) - left ≡ length ts + (length us - left)
    place = omega (arith, h, length-append ts us)

    number : before + (length (ts ++ us) - left) ≡ (before + length ts) + (length us - left)
    number = omega (arith, place)

    token : slice_get (ts ++ us) (length (ts ++ us) - left) ≡ slice_get us (length us - left)
    token = ap (slice_get (ts ++ us)) place ∙ slice-behind ts us (length us - left)

-- and among the first
pub syntax-first : (before left : ℕ) (ts us : List Placed) → 0 < left → left ≤ length ts
    → syntax_fault before (ts ++ us) (left + length us) ≡ syntax_fault before ts left
syntax-first before left ts us some h = λ i. at_token faults.Syntax (before + place i) (token i)
  where
    place : length (ts ++ us) - (left + length us) ≡ length ts - left
    place = omega (arith, h, length-append ts us)

    token : slice_get (ts ++ us) (length (ts ++ us) - (left + length us)) ≡ slice_get ts (length ts - left)
    token = ap (slice_get (ts ++ us)) place ∙ slice-front ts us (length ts - left) (omega (arith, h, some))

pub slice-there : (ts : List Placed) (k : ℕ) → k < length ts → (t : Placed) × (slice_get ts k ≡ Some t)
slice-there [] k h = absurd (omega (arith, h))
slice-there (t ∷ ts) zero h = (t, refl)
slice-there (t ∷ ts) (suc k) h = slice-there ts k (omega (arith, h))
