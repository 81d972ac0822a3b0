-- The order in which the atoms of a symbolic heap are taken, as the tables of a join are ordered: always one of least
-- cost.
use Rattle.std.specs.Prelude.{ℕ, zero, suc, List, [], ◌∷◌, ◌++◌, map, length, Bool, false, not, ◌&&◌, ◌||◌, nat_eq}
use Rattle.std.specs.Prelude.{nat_lt, nat_le, if◌then◌else◌, count_by, slice_index_or}
use Rattle.std.specs.List.{list_any, remove}
use Rattle.heap_formula.specs.declared.terms.Term.{Term}
use Rattle.heap_formula.specs.declared.terms.Term.TheVariants.{Nil, Univ, Exist}
use Rattle.heap_formula.specs.declared.atoms.Spatial.{Spatial}
use Rattle.heap_formula.specs.declared.atoms.Spatial.TheVariants.{Pred}
use Rattle.pair_family.specs.Folding.{spoken}
use Rattle.pair_family.specs.Frames.{has_term}

-- the atom's base pair speaks of the term
abbrev pub speaks_of : Term → Spatial → Bool
speaks_of t x = has_term (spoken x) t

-- no atom before speaks of the term
abbrev pub is_new : List Spatial → Term → Bool
is_new taken t = not (list_any (speaks_of t) taken)

-- two of the atoms that are left speak of the term, so that one still does when the other is taken
abbrev pub is_shared : List Spatial → Term → Bool
is_shared left t = nat_le 2 (count_by (speaks_of t) left)

-- the term, not nil, is kept after an atom with it is taken: it is one of the k parameters, or shared
abbrev pub is_needed : ℕ → List Spatial → Term → Bool
is_needed k left Nil = false
is_needed k left (Univ n) = nat_lt n k || is_shared left (Univ n)
is_needed k left (Exist n) = is_shared left (Exist n)

-- what it costs to take an atom: how many terms are new and needed, and how many are needed
abbrev pub Cost : Type 0
Cost = ℕ × ℕ

abbrev pub cost_at : ℕ → List Spatial → List Spatial → List Term → Cost
cost_at k taken left ts = (count_by (λ t. is_needed k left t && is_new taken t) ts, count_by (is_needed k left) ts)

abbrev pub cost_of : ℕ → List Spatial → List Spatial → Spatial → Cost
cost_of k taken left x = cost_at k taken left (spoken x)

abbrev pub is_less : Cost → Cost → Bool
is_less c d = nat_lt c.0 d.0 || (nat_eq c.0 d.0 && nat_lt c.1 d.1)

-- the place of the first of the least costs: so far the least is that at `best`, and the list begins at place i
abbrev pub first_least : Cost → ℕ → ℕ → List Cost → ℕ
first_least least best i [] = best
first_least least best i (c ∷ cs) =
    if is_less c least then first_least c i (suc i) cs else first_least least best (suc i) cs

-- the place of the atom to be taken next
abbrev pub cheapest : ℕ → List Spatial → List Spatial → ℕ
cheapest k taken [] = 0
cheapest k taken (x ∷ left) = first_least (cost_of k taken (x ∷ left) x) 0 0
    (map (cost_of k taken (x ∷ left)) (x ∷ left))

abbrev pub atom_at : List Spatial → ℕ → Spatial
atom_at xs i = slice_index_or xs i (Pred 0 [])

-- n of the atoms that are left, in the order in which they are taken after these
abbrev pub order_after : ℕ → ℕ → List Spatial → List Spatial → List Spatial
order_after zero k taken left = []
order_after (suc n) k taken left =
    let i = cheapest k taken left in
    atom_at left i ∷ order_after n k (taken ++ atom_at left i ∷ []) (remove left i)

-- all atoms
abbrev pub join_order : ℕ → List Spatial → List Spatial
join_order k xs = order_after (length xs) k [] xs
