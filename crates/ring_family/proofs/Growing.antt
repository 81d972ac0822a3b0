-- Lists that grow at the end, against what is left of the whole.
use Rattle.std.proofs.Common.{◌≡◌, ℕ, suc, ◌+◌, ◌-◌, ◌<◌, List, [], ◌∷◌, ◌++◌, arith, ap, ◌∙◌, append_assoc}
use Rattle.std.proofs.lemmas.List.{map-append}
use Rattle.std.specs.Fmt.{decimal}
use Rattle.ring_family.specs.Ring.{after, list_of, definitions_from, ring_block, ring_bud, in_blocks, file_node}
use Rattle.ring_family.specs.Ring.{file_nodes}

-- two pushes, then two parts
pub pushed_parts : {X : Type 0} (xs ys zs us vs : List X) (a b c d e f g h : X) → ys ≡ xs ++ a ∷ [] → zs ≡ ys ++ b ∷ []
    → us ≡ zs ++ c ∷ d ∷ e ∷ [] → vs ≡ us ++ f ∷ g ∷ h ∷ [] → vs ≡ xs ++ a ∷ b ∷ c ∷ d ∷ e ∷ f ∷ g ∷ h ∷ []
pushed_parts xs ys zs us vs a b c d e f g h p q r s = s
    ∙ (ap (λ l. l ++ f ∷ g ∷ h ∷ []) (r ∙ ap (λ l. l ++ c ∷ d ∷ e ∷ []) (q ∙ ap (λ l. l ++ b ∷ []) p))
    ∙ simp append_assoc)

-- one more, or one more part, in front of what is left
pub grown : {X : Type 0} (xs ys more left whole : List X) → ys ≡ xs ++ more → xs ++ (more ++ left) ≡ whole
    → ys ++ left ≡ whole
grown xs ys more left whole p q = ap (λ l. l ++ left) p ∙ (append_assoc xs more left ∙ q)

pub definitions_left : (k i : ℕ) → i < k → definitions_from k i (k - i) ≡ (list_of (112 ∷ decimal i) (after k i) ∷ [])
    ++ definitions_from k (i + 1) (k - (i + 1))
definitions_left k i b =
    let more : k - i ≡ suc (k - (i + 1)) = omega arith in
    let next : suc i ≡ i + 1 = omega arith in
    ap (definitions_from k i) more ∙ ap (λ j. list_of (112 ∷ decimal i) (after k i)
    ∷ definitions_from k j (k - (i + 1))) next

pub definitions_end : (k i : ℕ) → i ≡ k → definitions_from k i (k - i) ≡ list_of (113 ∷ []) k ∷ []
definitions_end k i e = let none : k - i ≡ 0 = omega arith in ap (definitions_from k i) none

pub nodes_left : (k i : ℕ) → i < k → file_nodes (in_blocks (ring_block k) (ring_bud k) i (k - i))
    ≡ file_nodes (ring_block k i) ++ file_nodes (in_blocks (ring_block k) (ring_bud k) (i + 1) (k - (i + 1)))
nodes_left k i b =
    let more : k - i ≡ suc (k - (i + 1)) = omega arith in
    let next : suc i ≡ i + 1 = omega arith in
    ap (λ n. file_nodes (in_blocks (ring_block k) (ring_bud k) i n)) more ∙
    (ap (λ j. file_nodes (ring_block k i ++ in_blocks (ring_block k) (ring_bud k) j (k - (i + 1)))) next ∙
    map-append file_node (ring_block k i) (in_blocks (ring_block k) (ring_bud k) (i + 1) (k - (i + 1))))

pub nodes_end : (k i : ℕ) → i ≡ k → file_nodes (in_blocks (ring_block k) (ring_bud k) i (k - i))
    ≡ file_node (ring_bud k) ∷ []
nodes_end k i e = let none : k - i ≡ 0 = omega arith in
    ap (λ n. file_nodes (in_blocks (ring_block k) (ring_bud k) i n)) none
