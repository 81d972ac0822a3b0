-- Steps that are kept one by one.
use Rattle.std.proofs.Common.{◌≡◌, ℕ, Bool, true, false, cond, List, [], ◌∷◌, ◌++◌, refl, ap, sym, ◌∙◌}
use Rattle.std.specs.Prelude.{◌&&◌, ◌||◌, nat_eq}
use Rattle.std.specs.List.{list_any}
use Rattle.std.proofs.lemmas.List.Folds.{list_any-append}
use Rattle.std.proofs.Math.Bool.{or-false}
use Rattle.trace_pairs.specs.declared.lasso.Step.{Step}
use Rattle.proof_picture.specs.Red.{has_step}

any_more : (test : Step → Bool) (xs : List Step) (s : Step)
    → list_any test (xs ++ s ∷ []) ≡ (list_any test xs || test s)
any_more test xs s = list_any-append test xs (s ∷ []) ∙ ap (λ b. list_any test xs || b) (or-false (test s))

either : (t old a : Bool) → cond t true (old || a) ≡ (old || (a || t))
either true true a = refl
either true false true = refl
either true false false = refl
either false true a = refl
either false false true = refl
either false false false = refl

-- one more step is kept
pub one_more : (path front : List Step) (s : Step) (v i : ℕ) (now next old : Bool) → path ≡ front ++ s ∷ []
    → next ≡ cond (nat_eq s.node v && nat_eq s.edge i) true now → now ≡ (old || has_step front v i)
    → next ≡ (old || has_step path v i)
one_more path front s v i now next old more added so_far =
    let test : Step → Bool = λ s. nat_eq s.node v && nat_eq s.edge i in
    added
    ∙ ap (cond (test s) true) so_far
    ∙ either (test s) old (has_step front v i)
    ∙ ap (λ b. old || b) (sym (any_more test front s))
    ∙ ap (λ (p : List Step). old || has_step p v i) (sym more)
