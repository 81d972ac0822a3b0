-- Joins over lists that grow at their ends.
use Rattle.std.proofs.Common.{◌≡◌, List, [], ◌∷◌, ◌++◌, Ok, refl, sym, ap, ◌∙◌, append_assoc}
use Rattle.script_formulas.specs.declared.cases.joining.Way.{Way}
use Rattle.script_formulas.specs.Cases.{SymbolicCase, after, one_more, all_one_more}
use Rattle.script_formulas.specs.Joining.{join, join_with, join_lists}
use Rattle.script_formulas.proofs.Answers.{after_answer}
use Rattle.std.proofs.Common.{ℕ}

end_of : {X : Type 0} (xs : List X) → xs ++ [] ≡ xs
end_of [] = refl
end_of (x ∷ xs) = λ i. x ∷ end_of xs i

pub one_more_last : (cs ds : List SymbolicCase) (c d : SymbolicCase) → all_one_more cs ≡ Ok ds → one_more c ≡ Ok d
    → all_one_more (cs ++ c ∷ []) ≡ Ok (ds ++ d ∷ [])
one_more_last [] ds c d p q =
    let none : [] ≡ ds = cc in
    ap (λ r. after r (λ x. after (all_one_more []) (λ xs. Ok (x ∷ xs)))) q ∙ ap (λ l. Ok (l ++ d ∷ [])) none
one_more_last (b ∷ cs) ds c d p q =
    let u = after_answer (one_more b) _ ds p in
    let v = after_answer (all_one_more cs) _ ds u.2 in
    let is : u.0 ∷ v.0 ≡ ds = cc in
    ap (λ r. after r (λ x. after (all_one_more (cs ++ c ∷ [])) (λ xs. Ok (x ∷ xs)))) u.1
    ∙ ap (λ r. after r (λ xs. Ok (u.0 ∷ xs))) (one_more_last cs v.0 c d v.1 q)
    ∙ ap (λ l. Ok (l ++ d ∷ [])) is

pub join_with_last : (way : Way) (k : ℕ) (a : SymbolicCase) (cs ds : List SymbolicCase) (c d : SymbolicCase)
    → join_with way k a cs ≡ Ok ds → join way k a c ≡ Ok d → join_with way k a (cs ++ c ∷ []) ≡ Ok (ds ++ d ∷ [])
join_with_last way k a [] ds c d p q =
    let none : [] ≡ ds = cc in
    ap (λ r. after r (λ x. after (join_with way k a []) (λ xs. Ok (x ∷ xs)))) q ∙ ap (λ l. Ok (l ++ d ∷ [])) none
join_with_last way k a (b ∷ cs) ds c d p q =
    let u = after_answer (join way k a b) _ ds p in
    let v = after_answer (join_with way k a cs) _ ds u.2 in
    let is : u.0 ∷ v.0 ≡ ds = cc in
    ap (λ r. after r (λ x. after (join_with way k a (cs ++ c ∷ [])) (λ xs. Ok (x ∷ xs)))) u.1
    ∙ ap (λ r. after r (λ xs. Ok (u.0 ∷ xs))) (join_with_last way k a cs v.0 c d v.1 q)
    ∙ ap (λ l. Ok (l ++ d ∷ [])) is

pub join_lists_last : (way : Way) (k : ℕ) (bs ys ds es : List SymbolicCase) (a : SymbolicCase)
    → join_lists way k bs ys ≡ Ok ds → join_with way k a ys ≡ Ok es → join_lists way k (bs ++ a ∷ []) ys ≡ Ok (ds ++ es)
join_lists_last way k [] ys ds es a p q =
    let none : [] ≡ ds = cc in
    ap (λ r. after r (λ x. after (join_lists way k [] ys) (λ xs. Ok (x ++ xs)))) q ∙ ap Ok (end_of es)
    ∙ ap (λ l. Ok (l ++ es)) none
join_lists_last way k (b ∷ bs) ys ds es a p q =
    let u = after_answer (join_with way k b ys) _ ds p in
    let v = after_answer (join_lists way k bs ys) _ ds u.2 in
    let is : u.0 ++ v.0 ≡ ds = cc in
    ap (λ r. after r (λ x. after (join_lists way k (bs ++ a ∷ []) ys) (λ xs. Ok (x ++ xs)))) u.1
    ∙ ap (λ r. after r (λ xs. Ok (u.0 ++ xs))) (join_lists_last way k bs ys v.0 es a v.1 q)
    ∙ ap Ok (sym (append_assoc u.0 v.0 es))
    ∙ ap (λ l. Ok (l ++ es)) is
