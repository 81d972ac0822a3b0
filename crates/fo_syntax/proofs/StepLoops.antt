-- Reading items one after the other, as a loop does, where each tells what may come next.
use Rattle.std.proofs.Common.{◌≡◌, ℕ, zero, suc, ◌-◌, ◌+◌, ◌≤◌, ◌<◌, true, false, List, [], ◌∷◌, ◌++◌, length, Ok, Err}
use Rattle.std.proofs.Common.{refl, sym, ap, ◌∙◌, arith}
use Rattle.std.proofs.lemmas.List.{append-nil}
use Rattle.cyc_lex.specs.Word.{Word}
use Rattle.cyc_grammar.specs.declared.cursor.Refusal.{Refusal}
use Rattle.cyc_grammar.specs.declared.cursor.Refusal.TheVariants.{Dead, OutOfMemory}
use Rattle.cyc_grammar.specs.Syntax.{Reading}
use Rattle.cyc_grammar.specs.Giving.{Fails, with_front}
use Rattle.fo_syntax.specs.declared.terms.bracket.Awaited.{Awaited}
use Rattle.fo_syntax.specs.declared.terms.bracket.Awaited.TheVariants.{First, Next, Nothing}
use Rattle.fo_syntax.specs.Steps.{Steps, read_steps}
use Rattle.fo_syntax.specs.Depth.{depth}
use Rattle.fo_syntax.specs.Brackets.{Mark, Leaf, Opening, Closing}
use Rattle.fo_syntax.specs.Grammar.{is_awaited, behind_mark, closed_in}
use Rattle.cyc_grammar.proofs.Loop.{regroup}

pub goes_on : {S A : Type 0} (p : Steps S A) (front : List A) (n i : ℕ) (s : S) (ts : List Word) (x : A)
    (rest : List Word) (total : Reading (List A)) → i < n → p.wants s ≡ true → (p.item s).read ts ≡ Ok (x, rest)
    → with_front front (read_steps p (n - i) s ts) ≡ total
    → with_front (front ++ x ∷ []) (read_steps p (n - (i + 1)) (p.next s x) rest) ≡ total
goes_on p front n i s ts x rest total lt want read so_far =
    let k : n - i ≡ suc (n - (i + 1)) = omega arith in
    let one : with_front front (read_steps p (n - i) s ts)
    ≡ with_front (front ++ x ∷ []) (read_steps p (n - (i + 1)) (p.next s x) rest) = rw (k, want, read)
    (regroup front x (read_steps p (n - (i + 1)) (p.next s x) rest)) in
    sym one ∙ so_far

pub ends : {S A : Type 0} (p : Steps S A) (e : Refusal) (front : List A) (n i : ℕ) (s : S) (ts : List Word)
    (total : Reading (List A)) → i < n → p.wants s ≡ true → Fails e ((p.item s).read ts)
    → with_front front (read_steps p (n - i) s ts) ≡ total → Fails e total
ends p OutOfMemory front n i s ts total lt want h so_far = tt
ends p (Dead left) front n i s ts total lt want h so_far =
    let k : n - i ≡ suc (n - (i + 1)) = omega arith in
    let one : with_front front (read_steps p (n - i) s ts) ≡ Err left = rw (k, want, h) refl in
    sym so_far ∙ one

-- no item is wanted
pub stops : {S A : Type 0} (p : Steps S A) (front : List A) (n : ℕ) (s : S) (ts : List Word) (total : Reading (List A))
    → p.wants s ≡ false → with_front front (read_steps p n s ts) ≡ total → total ≡ Ok (front, ts)
stops {A = A} p front n s ts total none so_far = sym so_far ∙ by_count n
  where
    by_count : (k : ℕ) → with_front front (read_steps p k s ts) ≡ Ok (front, ts)
    by_count zero = rw none (ap (λ (xs : List A). Ok (xs, ts)) (append-nil front))
    by_count (suc k) = rw none (ap (λ (xs : List A). Ok (xs, ts)) (append-nil front))

-- an item is wanted, and no word is left for it
pub dies : {S A : Type 0} (p : Steps S A) (front : List A) (n : ℕ) (s : S) (ts : List Word) (total : Reading (List A))
    → n ≡ 0 → p.wants s ≡ true → with_front front (read_steps p n s ts) ≡ total → total ≡ Err (length ts)
dies p front n s ts total none want so_far = let one : with_front front (read_steps p n s ts)
    ≡ Err (length ts) = rw (none, want) refl in sym so_far ∙ one

pub wanted : (a : Awaited) → (a ≡ Nothing → ⊥) → is_awaited a ≡ true
wanted (First n) h = refl
wanted (Next n) h = refl
wanted Nothing h = absurd (h refl)

closed-depth : (n : ℕ) → depth (closed_in n) ≤ n
closed-depth zero = omega arith
closed-depth (suc n) = omega arith

pub deeper : (a : Awaited) (m : Mark) (i : ℕ) → depth a ≤ i → depth (behind_mark a m) ≤ i + 1
deeper (First n) (Leaf s) i h = omega (arith, h)
deeper (First n) (Opening name) i h = omega (arith, h)
deeper (First n) Closing i h = omega (arith, h, closed-depth n)
deeper (Next n) (Leaf s) i h = omega (arith, h)
deeper (Next n) (Opening name) i h = omega (arith, h)
deeper (Next n) Closing i h = omega (arith, h, closed-depth n)
deeper Nothing m i h = omega arith
