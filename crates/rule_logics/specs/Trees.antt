-- Trees, by which a syntax tells its values apart: a type that has trees, each of which gives its value back, has a
-- code and a test of equality.
use Rattle.std.proofs.Common.{◌≡◌, ℕ, suc, Bool, true, false, ◌&&◌, nat_eq, List, [], ◌∷◌, refl, ap, ◌∙◌}
use Rattle.std.proofs.Common.{eqb-true}
use Rattle.std.proofs.lemmas.Bool.{and_parts, eq-eqb}
use Rattle.std.specs.Coded.{Coded, code_by, coded_ℕ, coded_list}

pub data Tree : Type 0 where
  Leaf : ℕ → Tree
  Fork : ℕ → Tree → Tree → Tree

abbrev pub same_tree : Tree → Tree → Bool
same_tree (Leaf m) (Leaf n) = nat_eq m n
same_tree (Fork m s t) (Fork n u v) = nat_eq m n && (same_tree s u && same_tree t v)
same_tree _ _ = false

pub one_tree : (s t : Tree) → same_tree s t ≡ true → s ≡ t
one_tree (Leaf m) (Leaf n) h = ap Leaf (eqb-true m n h)
one_tree (Leaf m) (Fork n u v) h = absurd (let x : false ≡ true = h in cc)
one_tree (Fork m s t) (Leaf n) h = absurd (let x : false ≡ true = h in cc)
one_tree (Fork m s t) (Fork n u v) h =
    let a = and_parts (nat_eq m n) (same_tree s u && same_tree t v) h in
    let b = and_parts (same_tree s u) (same_tree t v) a.1 in
    λ i. Fork (eqb-true m n a.0 i) (one_tree s u b.0 i) (one_tree t v b.1 i)

pub tree_itself : (t : Tree) → same_tree t t ≡ true
tree_itself (Leaf n) = eq-eqb n n refl
tree_itself (Fork n s t) = rw (eq-eqb n n refl, tree_itself s, tree_itself t) refl

-- ---- the code: the numbers of a tree in postfix order

unfoldable pub numbers : Tree → List ℕ → List ℕ
numbers (Leaf n) others = n ∷ 0 ∷ others
numbers (Fork n s t) others = numbers s (numbers t (n ∷ 1 ∷ others))

abbrev made : ℕ → ℕ → List Tree → List Tree
made n (suc k) (t ∷ s ∷ ts) = Fork n s t ∷ ts
made n k ts = Leaf n ∷ ts

abbrev read : List ℕ → List Tree → List Tree
read (n ∷ k ∷ ns) ts = read ns (made n k ts)
read _ ts = ts

pub first_of : List Tree → Tree
first_of [] = Leaf 0
first_of (t ∷ ts) = t

read_again : (t : Tree) (ns : List ℕ) (ts : List Tree) → read (numbers t ns) ts ≡ read ns (t ∷ ts)
unfolding numbers
read_again (Leaf n) ns ts = refl
read_again (Fork n s t) ns ts = read_again s (numbers t (n ∷ 1 ∷ ns)) ts ∙ read_again t (n ∷ 1 ∷ ns) (s ∷ ts)

pub decoded : List ℕ → Tree
decoded ns = first_of (read ns [])

pub decodes : (t : Tree) → decoded (numbers t []) ≡ t
unfolding decoded first_of
decodes t = let p = read_again t [] [] in λ i. first_of (p i)

abbrev pub coded_tree : Coded Tree
coded_tree = code_by (List ℕ) (coded_list coded_ℕ) (λ t. numbers t []) decoded decodes
