-- Where a ninth argument comes next, behind a sign.
use Rattle.std.proofs.Common.{◌≡◌, ℕ, zero, suc, ◌+◌, ◌-◌, ◌*◌, ◌<◌, ◌≤◌, Bool, true, false, List, [], ◌∷◌, ◌++◌, drop}
use Rattle.std.proofs.Common.{Option, Some, None, refl, ap, ◌∙◌, arith}
use Rattle.std.specs.Prelude.{nat_le, cond, option_map, IfSome}
use Rattle.std.specs.List.{range_with_len}
use Rattle.std.proofs.lemmas.Bool.{leb-true, leb-false, le-leb, lt-leb}
use Rattle.cyc_lex.specs.declared.fault.What.TheVariants.{Arguments}
use Rattle.heap_reader.specs.Flaws.{over_if}
use Rattle.fo_file.specs.Arguments.{numbers, argument_flaw, until_ninth}

-- ---- a list of numbers with one more at its front

here : (n : ℕ) (ns : List ℕ) → 8 ≤ n → until_ninth (n ∷ ns) ≡ Some 0
here n ns h = ap (λ b. cond b (Some 0) (option_map suc (until_ninth ns))) (le-leb 8 n h)

later : (n : ℕ) (ns : List ℕ) → n < 8 → until_ninth (n ∷ ns) ≡ option_map suc (until_ninth ns)
later n ns h = ap (λ b. cond b (Some 0) (option_map suc (until_ninth ns))) (lt-leb 8 n h)

-- ---- arguments at the front

-- the first eight leave a ninth argument where it is
first-none : (a n : ℕ) (ns : List ℕ) → a + n ≤ 8 → until_ninth ns ≡ None → until_ninth (range_with_len a n ++ ns) ≡ None
first-none a zero ns h e = e
first-none a (suc n) ns h e =
    later a (range_with_len (a + 1) n ++ ns) (omega arith)
    ∙ ap (option_map suc) (first-none (a + 1) n ns (omega arith) e)

first-some : (a n t : ℕ) (ns : List ℕ) → a + n ≤ 8 → until_ninth ns ≡ Some t
    → until_ninth (range_with_len a n ++ ns) ≡ Some (n + t)
first-some a zero t ns h e = let same : t ≡ 0 + t = omega arith in e ∙ ap Some same
first-some a (suc n) t ns h e =
    let same : suc (n + t) ≡ suc n + t = omega arith in
    later a (range_with_len (a + 1) n ++ ns) (omega arith)
    ∙ ap (option_map suc) (first-some (a + 1) n t ns (omega arith) e) ∙ ap Some same

-- more than eight have one of their own
first-many : (a n : ℕ) (ns : List ℕ) → a ≤ 8 → 8 < a + n → until_ninth (range_with_len a n ++ ns) ≡ Some (8 - a)
first-many a zero ns h k = absurd (omega arith)
first-many a (suc n) ns h k = go (nat_le 8 a) refl (λ low. first-many (a + 1) n ns (omega arith) (omega arith))
  where
    go : (b : Bool) → nat_le 8 a ≡ b → (a < 8 → until_ninth (range_with_len (a + 1) n ++ ns) ≡ Some (8 - (a + 1)))
        → until_ninth (range_with_len a (suc n) ++ ns) ≡ Some (8 - a)
    go true e others =
        let last = leb-true 8 a e in
        let same : 0 ≡ 8 - a = omega arith in
        here a (range_with_len (a + 1) n ++ ns) last ∙ ap Some same
    go false e others =
        let before = leb-false 8 a e in
        let same : suc (8 - (a + 1)) ≡ 8 - a = omega arith in
        later a (range_with_len (a + 1) n ++ ns) before ∙ ap (option_map suc) (others before) ∙ ap Some same

-- ---- behind the next term

mapped : (o : Option ℕ) (t : ℕ) → option_map suc o ≡ Some t → o ≡ Some (t - 1)
mapped None t e = absurd cc
mapped (Some u) t e =
    let same : suc u ≡ t = cc in
    let less : u ≡ t - 1 = omega arith in
    ap Some less

unmapped : (o : Option ℕ) → option_map suc o ≡ None → o ≡ None
unmapped None e = refl
unmapped (Some u) e = absurd cc

next-some : (ns : List ℕ) (t : ℕ) → 0 < t → until_ninth ns ≡ Some t → until_ninth (drop 1 ns) ≡ Some (t - 1)
next-some [] t h e = absurd cc
next-some (n ∷ ns) t h e = go (nat_le 8 n) e
  where
    go : (b : Bool) → cond b (Some 0) (option_map suc (until_ninth ns)) ≡ Some t → until_ninth ns ≡ Some (t - 1)
    go true f = let zeroth : 0 ≡ t = cc in absurd (omega arith)
    go false f = mapped (until_ninth ns) t f

next-none : (ns : List ℕ) → until_ninth ns ≡ None → until_ninth (drop 1 ns) ≡ None
next-none [] e = refl
next-none (n ∷ ns) e = go (nat_le 8 n) e
  where
    go : (b : Bool) → cond b (Some 0) (option_map suc (until_ninth ns)) ≡ None → until_ninth ns ≡ None
    go true f = absurd cc
    go false f = unmapped (until_ninth ns) f

-- ---- where the next term is no ninth argument itself

ahead : (ns : List ℕ) (k t : ℕ) → until_ninth ns ≡ Some t → argument_flaw ns k ≡ None → 0 < t
ahead [] k t e free = absurd cc
ahead (n ∷ ns) k t e free = go (nat_le 8 n) e free
  where
    go : (b : Bool) → cond b (Some 0) (option_map suc (until_ninth ns)) ≡ Some t → over_if b Arguments k ≡ None → 0 < t
    go true f g = absurd cc
    go false f g = later-one (until_ninth ns) f
      where
        later-one : (o : Option ℕ) → option_map suc o ≡ Some t → 0 < t
        later-one None h = absurd cc
        later-one (Some u) h = let same : suc u ≡ t = cc in omega arith

-- after n terms, each with at most eight arguments
pub still-ahead : (ns : List ℕ) (o : Option ℕ) (k n : ℕ) → until_ninth ns ≡ o → argument_flaw ns k ≡ None → n ≤ 4096
    → IfSome o (λ t. t ≤ 8 * n)
    → IfSome o (λ t. (0 < t) × (t + 8 < 18446744073709551616))
still-ahead ns None k n e free few near = tt
still-ahead ns (Some t) k n e free few near = (ahead ns k t e free, omega arith)

-- ---- behind a sign with n arguments

pub behind-none : (n : ℕ) (ns : List ℕ) → n ≤ 8 → until_ninth ns ≡ None → until_ninth (numbers n ++ drop 1 ns) ≡ None
behind-none n ns h e = first-none 0 n (drop 1 ns) (omega arith) (next-none ns e)

pub behind-some : (n t : ℕ) (ns : List ℕ) → n ≤ 8 → 0 < t → until_ninth ns ≡ Some t
    → until_ninth (numbers n ++ drop 1 ns) ≡ Some (t + n - 1)
behind-some n t ns h k e =
    let same : n + (t - 1) ≡ t + n - 1 = omega arith in
    first-some 0 n (t - 1) (drop 1 ns) (omega arith) (next-some ns t k e) ∙ ap Some same

pub behind-many : (n : ℕ) (ns : List ℕ) → 8 < n → until_ninth (numbers n ++ drop 1 ns) ≡ Some 8
behind-many n ns h = first-many 0 n (drop 1 ns) (omega arith) (omega arith)
