-- The next position of a judgement, and the next pair.
use Rattle.std.proofs.Common.{◌≡◌, ℕ, suc, ◌+◌, ◌-◌, ◌<◌, ◌≤◌, Bool, false, List, [], ◌∷◌, ◌++◌, refl, sym, ap, ◌∙◌}
use Rattle.std.proofs.Common.{arith, append_assoc}
use Rattle.std.proofs.lemmas.List.{append-nil}
use Rattle.trace_pairs.specs.Graph.{Pair}
use Rattle.rule_logics.specs.Logic.{one_if, positions_from}
use Rattle.rule_logics.specs.Moved.{moved}

one_more : (test : ℕ → Bool) (n k : ℕ) → positions_from test (suc n) k ≡ one_if (test k) k
    ++ positions_from test n (suc k)
unfolding positions_from
one_more test n k = refl

pub next_position : (test : ℕ → Bool) (k : ℕ) (follows : Bool) (old new whole : List ℕ) → k < 32 → follows ≡ test k
    → new ≡ old ++ one_if follows k → old ++ positions_from test (32 - k) k ≡ whole
    → new ++ positions_from test (32 - (k + 1)) (k + 1) ≡ whole
next_position test k follows old new whole below is pushed so_far =
    let left : 32 - k ≡ suc (32 - (k + 1)) = omega (arith, below) in
    let next : suc k ≡ k + 1 = omega arith in
    let rest = positions_from test (32 - (k + 1)) (k + 1) in
    ap (λ (xs : List ℕ). xs ++ rest) (pushed ∙ ap (λ b. old ++ one_if b k) is)
    ∙ append_assoc old (one_if (test k) k) rest
    ∙ ap (λ (xs : List ℕ). old ++ xs) (sym (ap (λ n. positions_from test n k) left ∙ one_more test (32 - (k + 1)) k
    ∙ ap (λ m. one_if (test k) k ++ positions_from test (32 - (k + 1)) m) next))
    ∙ so_far

no_left : (test : ℕ → Bool) (k : ℕ) → positions_from test 0 k ≡ []
unfolding positions_from
no_left test k = refl

pub no_position : (test : ℕ → Bool) (k : ℕ) (had whole : List ℕ) → 32 ≤ k
    → had ++ positions_from test (32 - k) k ≡ whole → had ≡ whole
no_position test k had whole end so_far =
    let left : 32 - k ≡ 0 = omega (arith, end) in
    sym (append-nil had) ∙ ap (λ (xs : List ℕ). had ++ xs) (sym
    (ap (λ n. positions_from test n k) left ∙ no_left test k)) ∙ so_far

-- ---- pairs

one_pair_more : (n i old new : ℕ) → moved (suc n) i old new ≡ (old + i, new + i, false) ∷ moved n (suc i) old new
unfolding moved
one_pair_more n i old new = refl

pub next_pair : (old new i : ℕ) (had have whole : List Pair) → i < 32 → have ≡ had ++ (old + i, new + i, false) ∷ []
    → had ++ moved (32 - i) i old new ≡ whole → have ++ moved (32 - (i + 1)) (i + 1) old new ≡ whole
next_pair old new i had have whole below pushed so_far =
    let left : 32 - i ≡ suc (32 - (i + 1)) = omega (arith, below) in
    let next : suc i ≡ i + 1 = omega arith in
    let rest = moved (32 - (i + 1)) (i + 1) old new in
    let pair : Pair = (old + i, new + i, false) in
    ap (λ (xs : List Pair). xs ++ rest) pushed
    ∙ append_assoc had (pair ∷ []) rest
    ∙ ap (λ (xs : List Pair). had ++ xs) (sym (ap (λ n. moved n i old new) left ∙ one_pair_more (32 - (i + 1)) i old new
    ∙ ap (λ m. pair ∷ moved (32 - (i + 1)) m old new) next))
    ∙ so_far

no_pair_left : (i old new : ℕ) → moved 0 i old new ≡ []
unfolding moved
no_pair_left i old new = refl

pub no_pair : (old new i : ℕ) (had whole : List Pair) → 32 ≤ i → had ++ moved (32 - i) i old new ≡ whole → had ≡ whole
no_pair old new i had whole end so_far =
    let left : 32 - i ≡ 0 = omega (arith, end) in
    sym (append-nil had) ∙ ap (λ (xs : List Pair). had ++ xs)
    (sym (ap (λ n. moved n i old new) left ∙ no_pair_left i old new)) ∙ so_far
