-- Edges put in and taken out again.
use Rattle.std.proofs.Common.{◌≡◌, ℕ, zero, suc, ◌-◌, ◌≤◌, List, [], ◌∷◌, ◌++◌, Option, Some, None, slice_get}
use Rattle.std.proofs.Common.{slice_set, length, take, arith, refl, sym, ap, ◌∙◌}
use Rattle.trace_pairs.specs.Graph.{Node, Edge, Pair}
use Rattle.buchi_inclusion.specs.Leaf.{add_edge, with_leaf}
use Rattle.derivations.specs.Stack.{front}
use Rattle.derivations.proofs.Members.{front-after}
use Rattle.derivations.specs.Tableau.{linked}
use Rattle.derivations.specs.Leaves.{with_edge, without_edge, drop_edge, without_leaf}
use Rattle.derivations.proofs.Grown.{length-add}

-- what is written at a node that is there
pub set_added : (nodes : List Node) (p : ℕ) (e : Edge) (n n' : Node) → slice_get nodes p ≡ Some n → n' ≡ with_edge e n
    → slice_set nodes p n' ≡ add_edge p e nodes
set_added [] p e n n' h is = refl
set_added (m ∷ nodes) zero e n n' h is = let s : Some m ≡ Some n = h in let same : m ≡ n = cc in
    λ i. (is ∙ ap (with_edge e) (sym same)) i ∷ nodes
set_added (m ∷ nodes) (suc p) e n n' h is = ap (λ ns. m ∷ ns) (set_added nodes p e n n' h is)

pub set_dropped : (nodes : List Node) (p : ℕ) (n n' : Node) → slice_get nodes p ≡ Some n → n' ≡ without_edge n
    → slice_set nodes p n' ≡ drop_edge p nodes
set_dropped [] p n n' h is = refl
set_dropped (m ∷ nodes) zero n n' h is = let s : Some m ≡ Some n = h in let same : m ≡ n = cc in
    λ i. (is ∙ ap without_edge (sym same)) i ∷ nodes
set_dropped (m ∷ nodes) (suc p) n n' h is = ap (λ ns. m ∷ ns) (set_dropped nodes p n n' h is)

-- past the end nothing is written
pub none_added : (nodes : List Node) (p : ℕ) (e : Edge) → length nodes ≤ p → add_edge p e nodes ≡ nodes
none_added [] p e l = refl
none_added (m ∷ nodes) zero e l = absurd (omega (arith, l))
none_added (m ∷ nodes) (suc p) e l = ap (λ ns. m ∷ ns) (none_added nodes p e (omega (arith, l)))

pub none_dropped : (nodes : List Node) (p : ℕ) → length nodes ≤ p → drop_edge p nodes ≡ nodes
none_dropped [] p l = refl
none_dropped (m ∷ nodes) zero l = absurd (omega (arith, l))
none_dropped (m ∷ nodes) (suc p) l = ap (λ ns. m ∷ ns) (none_dropped nodes p (omega (arith, l)))

taken_none : {X : Type 0} (n : ℕ) → take {A = X} n [] ≡ []
taken_none zero = refl
taken_none (suc n) = refl

taken_front : {X : Type 0} (x : X) (xs : List X) → take (length xs) (x ∷ xs) ≡ front (x ∷ xs)
taken_front x [] = refl
taken_front {X} x (y ∷ ys) = ap (λ (zs : List X). x ∷ zs) (taken_front y ys)

-- what a pop leaves
pub popped_front : {X : Type 0} (xs : List X) (n : ℕ) → n ≡ length xs → take (n - 1) xs ≡ front xs
popped_front [] n e = taken_none (n - 1)
popped_front (x ∷ xs) n e =
    let z : n - 1 ≡ length xs = omega (arith, e) in
    ap (λ k. take k (x ∷ xs)) z ∙ taken_front x xs

-- an edge that is put in is taken out again
dropped_again : (nodes : List Node) (p : ℕ) (e : Edge) → drop_edge p (add_edge p e nodes) ≡ nodes
dropped_again [] p e = refl
dropped_again (n ∷ nodes) zero e = λ i. record { positions = n.positions; edges = front-after n.edges e i } ∷ nodes
dropped_again (n ∷ nodes) (suc p) e = ap (λ ns. n ∷ ns) (dropped_again nodes p e)

-- the last node may have an edge more
front_added : (nodes : List Node) (n : Node) (v : ℕ) (e : Edge) → v ≡ length nodes
    → front (add_edge v e (nodes ++ n ∷ [])) ≡ nodes
front_added [] n zero e l = refl
front_added [] n (suc v) e l = absurd (omega (arith, l))
front_added (m ∷ nodes) n zero e l = absurd (omega (arith, l))
front_added (m ∷ []) n (suc zero) e l = refl
front_added (m ∷ []) n (suc (suc v)) e l = absurd (omega (arith, l))
front_added (m ∷ k ∷ nodes) n (suc zero) e l = absurd (omega (arith, l))
front_added (m ∷ k ∷ nodes) n (suc (suc v)) e l = ap (λ ns. m ∷ ns)
    (front_added (k ∷ nodes) n (suc v) e (omega (arith, l)))

front_linked : (nodes : List Node) (n : Node) (v : ℕ) (back : Option Edge) → v ≡ length nodes
    → front (linked v (nodes ++ n ∷ []) back) ≡ nodes
front_linked nodes n v None l = front-after nodes n
front_linked nodes n v (Some e) l = front_added nodes n v e l

-- a leaf that is added is taken away again
pub leaf_removed : (g : List Node) (p : ℕ) (pairs : List Pair) (positions : List ℕ) (v : ℕ) (back : Option Edge)
    → v ≡ length g → without_leaf (linked v (with_leaf g p pairs positions) back) p ≡ g
leaf_removed g p pairs positions v back l =
    ap (drop_edge p) (front_linked (add_edge p (record { target = length g; pairs = pairs }) g)
    (record { positions = positions; edges = [] }) v back
    (l ∙ sym (length-add p (record { target = length g; pairs = pairs }) g)))
    ∙ dropped_again g p (record { target = length g; pairs = pairs })
