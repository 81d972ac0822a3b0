-- What labels say: each kept term's class is told by a label, equal for terms of one class.
use Rattle.std.specs.Prelude.{◌≡◌, ◌≢◌, ◌+◌, ◌↔◌, ◌⊎◌, ℕ, List, [], ◌∷◌, ◌++◌, map, filter, not, ◌&&◌, ◌||◌, Bool, true}
use Rattle.std.specs.Prelude.{false, nat_eq, slice_index, if◌then◌else◌, length, Option, MatchOption}
use Rattle.std.specs.Prelude.{◌<◌, get_or}
use Rattle.std.specs.List.{list_any}
use Rattle.cyc_basics.specs.Bits.{is_one}
use Rattle.heap_formula.specs.Words.{Each, OneOf}
use Rattle.pair_family.specs.BasePairs.{BasePair}
use Rattle.pair_family.specs.LargeCases.{sizes}
use Rattle.pair_family.specs.Tables.{IsDistinct}
use Rattle.pair_family.specs.Combination.{upto, pairs_below, each_two}

-- the pairs (0, j), (1, j), .. whose first is below n
abbrev pub row : ℕ → ℕ → List (ℕ × ℕ)
row j n = map (λ i. (i, j)) (upto n)

abbrev pub has_same : List ℕ → ℕ × ℕ → Bool
has_same labels q = nat_eq (slice_index labels q.0) (slice_index labels q.1)

abbrev pub is_between_labels : ℕ → ℕ → ℕ × ℕ → Bool
is_between_labels a b d = (nat_eq d.0 a && nat_eq d.1 b) || (nat_eq d.0 b && nat_eq d.1 a)

abbrev pub has_difference : List ℕ → List (ℕ × ℕ) → ℕ × ℕ → Bool
has_difference labels ds q = list_any (is_between_labels (slice_index labels q.0) (slice_index labels q.1)) ds

-- masks for the labels below 64: at each, those that differences join with it
pub record AreNear (ds : List (ℕ × ℕ)) (near : List ℕ) : Type 0 where
  pub long : length near ≡ 64
  pub right : (p q : ℕ) → p < 64 → q < 64 → is_one (get_or near p 0) q ≡ list_any (is_between_labels q p) ds

-- each label is below 64
pub record AreSmall (labels : List ℕ) : Type 0 where
  pub below : (i : ℕ) → i < length labels → slice_index labels i < 64

-- the labels that differences join with a label
abbrev pub neighbours : ℕ → List (ℕ × ℕ) → List ℕ
neighbours b [] = []
neighbours b (d ∷ ds) = (if nat_eq d.0 b then d.1 ∷ [] else [])
    ++ ((if nat_eq d.1 b then d.0 ∷ [] else []) ++ neighbours b ds)

abbrev pub is_first_label : List ℕ → ℕ → Bool
is_first_label labels i = not (list_any (λ j. nat_eq (slice_index labels j) (slice_index labels i)) (upto i))

abbrev pub is_cell_label : List ℕ → List ℕ → ℕ → Bool
is_cell_label labels cs i = is_first_label labels i && list_any (λ c. nat_eq c (slice_index labels i)) cs

-- the pairs of numbers whose labels a difference joins
abbrev pub different_pairs : List ℕ → List (ℕ × ℕ) → List (ℕ × ℕ)
different_pairs labels ds = filter (has_difference labels ds) (pairs_below (length labels))

-- what labels, differences and addresses say of the kept terms
abbrev pub said_by : List ℕ → List (ℕ × ℕ) → List ℕ → BasePair
said_by labels ds cs = record {
  same = filter (has_same labels) (pairs_below (length labels));
  differ = different_pairs labels ds;
  cells = filter (is_cell_label labels cs) (upto (length labels));
}

-- the label of the second side becomes that of the first
abbrev pub relabelled : ℕ → ℕ → ℕ → ℕ
relabelled old new l = if nat_eq l old then new else l

-- each equation of two kept terms joins their labels
abbrev pub joined_labels : List ℕ → List (ℕ × ℕ) → List ℕ
joined_labels labels [] = labels
joined_labels labels (q ∷ qs) = joined_labels (map (relabelled (slice_index labels q.1) (slice_index labels q.0))
    labels) qs

abbrev pub labels_at : List ℕ → List ℕ → List ℕ
labels_at labels is = map (slice_index labels) is

abbrev pub label_pairs : List ℕ → List (ℕ × ℕ) → List (ℕ × ℕ)
label_pairs labels qs = map (λ q. (slice_index labels q.0, slice_index labels q.1)) qs

-- cells differ from nil and from one another
abbrev pub cell_pairs : ℕ → List ℕ → List (ℕ × ℕ)
cell_pairs nil cs = map (λ c. (c, nil)) cs ++ each_two cs

abbrev pub all_pairs : List ℕ → List (ℕ × ℕ) → List ℕ → List (ℕ × ℕ)
all_pairs labels ds cs = label_pairs labels ds ++ cell_pairs (slice_index labels 0) (labels_at labels cs)

abbrev pub AreApartLabels : List (ℕ × ℕ) → Type 0
AreApartLabels ds = Each (λ q. q.0 ≢ q.1) ds

-- the base pair, where the labels of these pairs differ; none where those of one are one
abbrev pub IfApart : List (ℕ × ℕ) → BasePair → Option BasePair → Type 0
IfApart ds b found = MatchOption found (¬ AreApartLabels ds) (λ k. AreApartLabels ds × (k ≡ b))

-- what differences and cells say of some of the numbers
abbrev pub told_by : List ℕ → List (ℕ × ℕ) → List ℕ → List ℕ → BasePair
told_by labels ds cs kept = said_by (labels_at labels kept) (all_pairs labels ds cs) (labels_at labels cs)

-- a base pair's numbers, as the numbers of what stands there
abbrev pub pairs_at : List ℕ → List (ℕ × ℕ) → List (ℕ × ℕ)
pairs_at places qs = map (λ q. (slice_index places q.0, slice_index places q.1)) qs

abbrev pub numbers_at : List ℕ → List ℕ → List ℕ
numbers_at places is = map (slice_index places) is

-- labels of the numbers after a base pair of theirs, and one of the numbers at some places
abbrev pub combined_labels : List ℕ → BasePair → List ℕ → BasePair → List ℕ
combined_labels start b places c = joined_labels start (b.same ++ pairs_at places c.same)

abbrev pub combined_pairs : List ℕ → BasePair → List ℕ → BasePair → List (ℕ × ℕ)
combined_pairs start b places c = all_pairs (combined_labels start b places c) (b.differ ++ pairs_at places c.differ)
    (b.cells ++ numbers_at places c.cells)

abbrev pub combined : List ℕ → BasePair → List ℕ → BasePair → List ℕ → BasePair
combined start b places c kept = told_by (combined_labels start b places c) (b.differ ++ pairs_at places c.differ)
    (b.cells ++ numbers_at places c.cells) kept

-- d is what one more base pair gives
abbrev pub Gives : List ℕ → BasePair → List ℕ → List ℕ → BasePair → BasePair → Type 0
Gives start b places kept d c = AreApartLabels (combined_pairs start b places c) × (d ≡ combined start b places c kept)

-- d is what one of several more gives
abbrev pub GivesSome : List ℕ → BasePair → List ℕ → List ℕ → List BasePair → BasePair → Type 0
GivesSome start b places kept cs d = OneOf (Gives start b places kept d) cs

-- d is what one of several more gives after one of several
abbrev pub GivesFrom : List ℕ → List BasePair → List ℕ → List ℕ → List BasePair → BasePair → Type 0
GivesFrom start bs places kept cs d = OneOf (λ b. OneOf (Gives start b places kept d) cs) bs

-- d is a member after something gave more
abbrev pub Grows : List BasePair → List BasePair → (BasePair → Type 0) → Type 0
Grows old new G = (d : BasePair) → OneOf (λ e. e ≡ d) new ↔ (OneOf (λ e. e ≡ d) old ⊎ G d)

-- the new list begins with the old one
abbrev pub Extends : List BasePair → List BasePair → Type 0
Extends old new = (rest : List BasePair) × (new ≡ old ++ rest)

-- the list after a base pair was added, with whether it is new
abbrev pub IsAdded : List BasePair → List BasePair → BasePair → Bool → Type 0
IsAdded old new b true = (¬ OneOf (λ e. e ≡ b) old) × (new ≡ old ++ b ∷ [])
IsAdded old new b false = OneOf (λ e. e ≡ b) old × (new ≡ old)

-- each once, and of `most` in size so much is left
pub record HasRoom (most : ℕ) (bs : List BasePair) (left : ℕ) : Type 0 where
  pub distinct : IsDistinct bs
  pub room : left + sizes bs ≡ most
