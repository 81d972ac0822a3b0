-- One turn of a loop that offers something for each place or each member.
use Rattle.std.proofs.Common.{◌≡◌, ℕ, ◌+◌, ◌<◌, List, ◌++◌, append_assoc, add-one, drop, get_or, length, sym, ap, ◌∙◌}
use Rattle.std.proofs.lemmas.List.{at_drop_more}
use Rattle.search_moves.specs.Places.{each_from, each_of}

pub placed : {X Y : Type 0} (f : ℕ → X → List Y) (xs : List X) (i : ℕ) (d : X) (old new whole : List Y) → i < length xs
    → new ≡ old ++ f i (get_or xs i d) → old ++ each_from f i (drop i xs) ≡ whole
    → new ++ each_from f (i + 1) (drop (i + 1) xs) ≡ whole
placed f xs i d old new whole l e was =
    let x = get_or xs i d in
    let rest = drop (i + 1) xs in
    ap (λ ys. ys ++ each_from f (i + 1) rest) e ∙ append_assoc old (f i x) (each_from f (i + 1) rest)
    ∙ ap (λ n. old ++ (f i x ++ each_from f n rest)) (add-one i)
    ∙ ap (λ ys. old ++ ys) (sym (at_drop_more (each_from f i) xs i d l)) ∙ was

pub listed : {X Y : Type 0} (f : X → List Y) (xs : List X) (i : ℕ) (d : X) (old new whole : List Y) → i < length xs
    → new ≡ old ++ f (get_or xs i d) → old ++ each_of f (drop i xs) ≡ whole → new ++ each_of f (drop (i + 1) xs) ≡ whole
listed f xs i d old new whole l e was =
    let x = get_or xs i d in
    let rest = drop (i + 1) xs in
    ap (λ ys. ys ++ each_of f rest) e ∙ append_assoc old (f x) (each_of f rest)
    ∙ ap (λ ys. old ++ ys) (sym (at_drop_more (each_of f) xs i d l)) ∙ was
