-- The right choices that begin with some terms.
use Rattle.std.proofs.Common.{◌≡◌, ℕ, zero, suc, ◌-◌, ◌<◌, Bool, true, false, cond, List, [], ◌∷◌, ◌++◌, refl, sym, ap}
use Rattle.std.proofs.Common.{◌∙◌, arith}
use Rattle.std.specs.Prelude.{replicate}
use Rattle.std.specs.List.{filter, flat_map}
use Rattle.fo_formula.specs.Words.{Word}
use Rattle.back_links.specs.Listing.{selections}
use Rattle.back_links.proofs.Selecting.{each_selection, all_none, below_end, below_next}
use Rattle.fo_search.specs.declared.moves.wanted.Wanted.{Wanted}
use Rattle.fo_search.specs.Subterms.{lists_of}
use Rattle.fo_search.specs.Choosing.{may_do, does, if_right, done_after}
use Rattle.fo_search.proofs.Cutting.{choice_may}

pub none_done : (wanted : Wanted) (made : List Word) (k : ℕ) (values : List Word) → may_do wanted made ≡ false
    → done_after (does wanted) made k values ≡ []
none_done wanted made k values h =
    all_none (λ (ts : List Word). if_right (does wanted) (made ++ ts)) (selections (replicate k values))
    (each_selection (λ (ts : List Word). if_right (does wanted) (made ++ ts) ≡ []) (replicate k values)
    (λ ts s. wrong ts (does wanted (made ++ ts)) refl))
  where
    wrong : (ts : List Word) (b : Bool) → does wanted (made ++ ts) ≡ b → if_right (does wanted) (made ++ ts) ≡ []
    wrong ts true e = absurd (let may = choice_may wanted made ts e in cc)
    wrong ts false e = ap (λ b. cond b ((made ++ ts) ∷ []) []) e

pub made_whole : (test : List Word → Bool) (made : List Word) (values : List Word)
    → done_after test made 0 values ≡ if_right test made
made_whole test made values = below_end (if_right test) made

pub done_next : (test : List Word → Bool) (made : List Word) (k : ℕ) (values : List Word) → 0 < k
    → flat_map (λ v. done_after test (made ++ v ∷ []) (k - 1) values) values ≡ done_after test made k values
done_next test made zero values h = absurd (omega arith)
done_next test made (suc k) values h =
    (λ i. flat_map (λ v. done_after test (made ++ v ∷ []) (less i) values) values)
    ∙ sym (below_next (if_right test) made values (replicate k values))
  where
    less : suc k - 1 ≡ k
    less = omega arith

kept_one_by_one : {X : Type 0} (p : X → Bool) (xs : List X) → flat_map (λ x. filter p (x ∷ [])) xs ≡ filter p xs
kept_one_by_one p [] = refl
kept_one_by_one {X} p (x ∷ xs) = ap (λ (ys : List X). filter p (x ∷ []) ++ ys) (kept_one_by_one p xs) ∙ one (p x)
  where
    one : (b : Bool) → cond b (x ∷ []) [] ++ filter p xs ≡ cond b (x ∷ filter p xs) (filter p xs)
    one true = refl
    one false = refl

pub all_done : (test : List Word → Bool) (k : ℕ) (values : List Word)
    → done_after test [] k values ≡ filter test (lists_of k values)
all_done test k values = kept_one_by_one test (lists_of k values)
