-- What holds of each definition and of each node of the ring.
use Rattle.std.proofs.Common.{◌≡◌, ℕ, zero, suc, ◌+◌, ◌<◌, ◌≤◌, inl, inr, List, [], ◌∷◌, arith, Bool, true, Some, None}
use Rattle.std.proofs.Common.{take, map, refl, ap, ◌∙◌, subst}
use Rattle.std.specs.Prelude.{slice_get, if◌then◌else◌}
use Rattle.std.specs.Str.{bytes_eq}
use Rattle.std.specs.Fmt.{decimal}
use Rattle.std.proofs.lemmas.Bool.{cases_eq, eq-eqb, ne_eqb}
use Rattle.heap_formula.specs.Definitions.{Definition}
use Rattle.rule_book.specs.Graphs.{Node}
use Rattle.cyc_grammar.specs.Classes.{is_free_name}
use Rattle.cyc_grammar.proofs.ClassLaws.{bytes_same}
use Rattle.heap_syntax.specs.Words.{reserved}
use Rattle.heap_reader.specs.Trees.{Heading}
use Rattle.heap_reader.specs.Flaws.{arity_in}
use Rattle.proof_file.specs.Flaws.{headings}
use Rattle.proof_file.specs.Written.{name_of, definition_tree}
use Rattle.ring_family.specs.Ring.{after, definitions_from, ring_definitions, ring_block, ring_bud, ring_nodes}
use Rattle.ring_family.proofs.Blocks.{EachFrom, each_from, blocks_cases}
use Rattle.ring_family.proofs.Names.{p_free, q_free, names_apart}

-- ---- lists

pub from_members : {X : Type 0} (P : ℕ → X → Type 0) (n : ℕ) (xs : List X)
    → ((i v : ℕ) (x : X) → i ≡ n + v → slice_get xs v ≡ Some x → P i x) → EachFrom P n xs
from_members P n [] h = tt
from_members P n (x ∷ xs) h = (
  h n 0 x (omega arith) refl,
  from_members P (suc n) xs
      (λ i v y e is. h i (suc v) y (omega arith) is),
)

-- P holds of each node, if it holds of those of a block and of the bud
pub each_node : (P : Node → Type 0) (k : ℕ) → ((m : ℕ) → m < k → EachFrom (λ _ x. P x) 0 (ring_block k m))
    → P (ring_bud k) → (v : ℕ) (x : Node) → slice_get (ring_nodes k) v ≡ Some x → P x
each_node P k blocks bud v x h =
    elim (blocks_cases (ring_block k) (ring_bud k) (λ i. refl) 0 k v x h) [
      | inl b ↦ each_from (λ _ y. P y) 0 b.r b.r (ring_block k b.m) x (omega arith) b.is_x
          (blocks b.m (omega (arith, b.last)))
      | inr l ↦ subst P l.1 bud
    ]

-- ---- names and arities

pub name_from : (k i n p r : ℕ) → p < n → r ≡ i + p → name_of (definitions_from k i n) p ≡ 112 ∷ decimal r
name_from k i zero p r b e = absurd (omega arith)
name_from k i (suc n) zero r b e = let same : i ≡ r = omega arith in ap (λ x. 112 ∷ decimal x) same
name_from k i (suc n) (suc p) r b e = name_from k (suc i) n p r (omega arith) (omega arith)

pub last_name : (k i n p : ℕ) → p ≡ n → name_of (definitions_from k i n) p ≡ 113 ∷ []
last_name k i zero zero e = refl
last_name k i zero (suc p) e = absurd (omega arith)
last_name k i (suc n) zero e = absurd (omega arith)
last_name k i (suc n) (suc p) e = last_name k (suc i) n p (omega arith)

module _ (ds : List Definition) where
  abbrev pub heads : List Definition → List Heading
  heads xs = headings (map (definition_tree ds) xs)

  arity_p : (k i n p : ℕ) → i ≤ p → p < i + n → p ≤ 2000
      → arity_in (heads (definitions_from k i n)) (112 ∷ decimal p) ≡ Some 1
  arity_p k i zero p a b c = absurd (omega arith)
  arity_p k i (suc n) p a b c =
      elim (cases_eq i p) [
        | inl same ↦ (let t : bytes_eq (112 ∷ decimal i) (112 ∷ decimal p)
            ≡ true = subst (λ x. bytes_eq (112 ∷ decimal i) (112 ∷ decimal x) ≡ true) same
            (bytes_same (112 ∷ decimal i)) in
            ap (λ (x : Bool). if x then Some 1 else arity_in (heads (definitions_from k (suc i) n)) (112 ∷ decimal p))
            t)
        | inr other ↦
            ap (λ (x : Bool). if x then Some 1 else arity_in (heads (definitions_from k (suc i) n)) (112 ∷ decimal p))
            (names_apart i p (omega arith) c) ∙ arity_p k (suc i) n p (omega arith) (omega arith) c
      ]

  arity_q : (k i n : ℕ) → arity_in (heads (definitions_from k i n)) (113 ∷ []) ≡ Some 1
  arity_q k i zero = refl
  arity_q k i (suc n) = arity_q k (suc i) n

  pub new_p : (k i n m p : ℕ) → p ≡ i + m → p ≤ 2000 → m ≤ n
      → arity_in (take m (heads (definitions_from k i n))) (112 ∷ decimal p) ≡ None
  new_p k i n zero p e c b = refl
  new_p k i zero (suc m) p e c b = absurd (omega arith)
  new_p k i (suc n) (suc m) p e c b =
      ap (λ (x : Bool). if x then Some 1 else arity_in (take m (heads (definitions_from k (suc i) n)))
      (112 ∷ decimal p)) (names_apart i p (omega arith) c) ∙ new_p k (suc i) n m p (omega arith) c (omega arith)

  pub new_q : (k i n m : ℕ) → m ≤ n → arity_in (take m (heads (definitions_from k i n))) (113 ∷ []) ≡ None
  new_q k i n zero b = refl
  new_q k i zero (suc m) b = absurd (omega arith)
  new_q k i (suc n) (suc m) b = new_q k (suc i) n m (omega arith)

module _ (k : ℕ) (one : 1 ≤ k) (few : k ≤ 2000) where
  pub after_within : (i : ℕ) → i < k → after k i ≤ k
  after_within i b =
      elim (cases_eq (i + 1) k) [
        | inl same ↦ (let t : after k i ≡ 0 = ap (λ (x : Bool). if x then 0 else i + 1) (eq-eqb (i + 1) k same) in
            omega (arith, t))
        | inr other ↦ (let t : after k i ≡ i + 1 = ap (λ (x : Bool). if x then 0 else i + 1) (ne_eqb (i + 1) k other) in
            omega (arith, t))
      ]

  pub known : (p : ℕ) → p ≤ k → arity_in (heads (ring_definitions k) (ring_definitions k))
      (name_of (ring_definitions k) p) ≡ Some 1
  known p b =
      elim (cases_eq p k) [
        | inl same ↦ ap (arity_in (heads (ring_definitions k) (ring_definitions k))) (last_name k 0 k p same)
            ∙ arity_q (ring_definitions k) k 0 k
        | inr other ↦ ap (arity_in (heads (ring_definitions k) (ring_definitions k)))
            (name_from k 0 k p p (omega arith) (omega arith))
            ∙ arity_p (ring_definitions k) k 0 k p (omega arith) (omega arith) (omega arith)
      ]

  pub free : (p : ℕ) → p ≤ k → is_free_name reserved (name_of (ring_definitions k) p) ≡ true
  free p b =
      elim (cases_eq p k) [
        | inl same ↦ ap (is_free_name reserved) (last_name k 0 k p same) ∙ q_free
        | inr other ↦ ap (is_free_name reserved) (name_from k 0 k p p (omega arith) (omega arith))
            ∙ p_free p (omega arith)
      ]
