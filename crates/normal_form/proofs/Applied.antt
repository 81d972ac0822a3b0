-- The premise of Rewrite, from a copy of the judgement with the term in the variable's place.
use Rattle.std.proofs.Common.{◌≡◌, ℕ, zero, suc, Bool, true, false, cond, List, [], ◌∷◌, map, refl, ap, ◌∙◌}
use Rattle.std.specs.Prelude.{nat_le, slice_set}
use Rattle.heap_formula.specs.declared.terms.Term.{Term}
use Rattle.heap_formula.specs.declared.atoms.Pure.{Pure}
use Rattle.heap_formula.specs.declared.judgements.Pair.{Pair}
use Rattle.heap_formula.specs.declared.judgements.Premise.{Premise}
use Rattle.heap_formula.specs.Symbolic.{SymbolicHeap}
use Rattle.heap_formula.specs.declared.judgements.Judgement.{Judgement}
use Rattle.heap_formula.specs.declared.judgements.Judgement.TheVariants.{Entail, Term as Runs}
use Rattle.heap_formula.specs.Judgements.{antecedent, with_antecedent}
use Rattle.heap_formula.specs.Positions.{without, same_pairs}
use Rattle.heap_formula.specs.Substitution.{Bindings, apply_pure, apply_heap, apply_judgement}
use Rattle.rule_table.specs.Table.{rewritten}

antecedent_applied : (ps : Bindings) (j : Judgement) → antecedent (apply_judgement ps j) ≡ apply_heap ps (antecedent j)
antecedent_applied ps (Entail a bs) = refl
antecedent_applied ps (Runs i a) = refl

map_without : {X : Type 0} (f : X → X) (k : ℕ) (xs : List X) → without k (map f xs) ≡ map f (without k xs)
map_without f k [] = refl
map_without f zero (x ∷ xs) = refl
map_without f (suc k) (x ∷ xs) = λ i. f x ∷ map_without f k xs i

settled_is : (drops : Bool) (f : Pure → Pure) (k : ℕ) (x : Pure) (xs : List Pure)
    → cond drops (without k (map f xs)) (slice_set (map f xs) k x)
    ≡ cond drops (map f (without k xs)) (slice_set (map f xs) k x)
settled_is true f k x xs = map_without f k xs
settled_is false f k x xs = refl

abbrev pub with_list : List Pure → SymbolicHeap → SymbolicHeap
with_list xs a = record { pure = xs; spatial = a.spatial }

-- without pure atom k, or with x in its place
abbrev pub settle : Bool → ℕ → Pure → SymbolicHeap → SymbolicHeap
settle drops k x a = with_list (cond drops (without k a.pure) (slice_set a.pure k x)) a

pub rewritten_is : (p k : ℕ) (j : Judgement) (x : Pure) (v : ℕ) (u : Term) (s : Bindings) (applied new : Judgement)
    (a heap : SymbolicHeap) (drops : Bool) (pairs : List Pair) → s ≡ (v, u) ∷ [] → applied ≡ apply_judgement s j
    → a ≡ antecedent applied → drops ≡ nat_le p v → heap ≡ settle drops k x a → new ≡ with_antecedent applied heap
    → pairs ≡ same_pairs (antecedent j).spatial → ◌≡◌ {A = Premise} (record { judgement = new; pairs = pairs })
    (rewritten p j k x v u)
rewritten_is p k j x v u s applied new a heap drops pairs s_is applied_is a_is drops_is heap_is new_is pairs_is =
    let whole = applied_is ∙ ap (λ (r : Bindings). apply_judgement r j) s_is in
    let left = a_is ∙ ap (λ (i : Judgement). antecedent i) whole ∙ antecedent_applied ((v, u) ∷ []) j in
    let place = ap (λ (d : Bool). settle d k x a) drops_is ∙ ap (λ (b : SymbolicHeap). settle (nat_le p v) k x b) left
    in
    let settled = ap (λ (xs : List Pure). with_list xs (apply_heap ((v, u) ∷ []) (antecedent j)))
    (settled_is (nat_le p v) (apply_pure ((v, u) ∷ [])) k x (antecedent j).pure) in
    let made = heap_is ∙ place ∙ settled in
    let there = new_is ∙ ap (λ (i : Judgement). with_antecedent i heap) whole
    ∙ ap (λ (b : SymbolicHeap). with_antecedent (apply_judgement ((v, u) ∷ []) j) b) made in
    λ i. record { judgement = there i; pairs = pairs_is i }
