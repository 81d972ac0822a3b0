-- Choices in order, and the first of their links.
use Rattle.std.proofs.Common.{◌≡◌, ℕ, zero, suc, ◌+◌, ◌-◌, ◌<◌, ◌≤◌, Bool, true, false, ◌||◌, ◌&&◌, cond, List, [], ◌∷◌}
use Rattle.std.proofs.Common.{◌++◌, map, length, get_or, take, drop, refl, sym, ap, ◌∙◌, subst, arith, append_assoc}
use Rattle.std.proofs.Common.{add-one, drop-cons, inl, inr}
use Rattle.std.proofs.lemmas.List.{append-nil, take_all, drop_all, length-append, length-drop, take-append-le}
use Rattle.std.proofs.lemmas.List.Concat.{flat_map-append}
use Rattle.std.proofs.lemmas.List.Folds.{flat_map-map}
use Rattle.std.proofs.lemmas.List.Elements.{filter-append}
use Rattle.std.proofs.lemmas.Bool.{cases_lt, and_from, or_left, or_right}
use Rattle.std.specs.List.{filter, flat_map, range_with_len, list_any, list_all}
use Rattle.heap_formula.specs.Words.{Each, OneOf}
use Rattle.back_links.specs.Listing.{selections}
use Rattle.back_links.specs.Branches.{below}
use Rattle.heap_formula.proofs.AllMembers.{each_append, each_mapped}

-- ---- the choices

pub below_end : {X Y : Type 0} (f : List X → List Y) (made : List X) → below f made [] ≡ f made
below_end f made = append-nil (f (made ++ [])) ∙ ap f (append-nil made)

flat_map_twice : {A B C : Type 0} (h : B → List C) (g : A → List B) (xs : List A)
    → flat_map h (flat_map g xs) ≡ flat_map (λ x. flat_map h (g x)) xs
flat_map_twice h g [] = refl
flat_map_twice {C = C} h g (x ∷ xs) = flat_map-append h (g x) (flat_map g xs)
    ∙ ap (λ (ys : List C). flat_map h (g x) ++ ys) (flat_map_twice h g xs)

pub below_next : {X Y : Type 0} (f : List X → List Y) (made : List X) (choices : List X) (rest : List (List X))
    → below f made (choices ∷ rest) ≡ flat_map (λ x. below f (made ++ x ∷ []) rest) choices
below_next {X} {Y} f made choices rest =
    flat_map_twice (λ (xs : List X). f (made ++ xs)) (λ (x : X). map (λ (xs : List X). x ∷ xs) (selections rest))
    choices
    ∙ (λ i. flat_map (λ (x : X). one x i) choices)
  where
    one : (x : X) → flat_map (λ (xs : List X). f (made ++ xs)) (map (λ (xs : List X). x ∷ xs) (selections rest))
        ≡ below f (made ++ x ∷ []) rest
    one x =
        flat_map-map (λ (xs : List X). f (made ++ xs)) (λ (xs : List X). x ∷ xs) (selections rest)
        ∙ (λ i. flat_map (λ (xs : List X). f (sym (append_assoc made (x ∷ []) xs) i)) (selections rest))

-- one member of each list
abbrev pub IsSelection : {X : Type 0} → List (List X) → List X → Type 0
IsSelection [] [] = Unit {0}
IsSelection [] (x ∷ xs) = ⊥
IsSelection (choices ∷ rest) [] = ⊥
IsSelection (choices ∷ rest) (x ∷ xs) = OneOf (λ y. y ≡ x) choices × IsSelection rest xs

each_flat_map : {X Y : Type 0} (P : Y → Type 0) (f : X → List Y) (xs : List X)
    → ((x : X) → OneOf (λ y. y ≡ x) xs → Each P (f x)) → Each P (flat_map f xs)
each_flat_map P f [] h = tt
each_flat_map P f (x ∷ xs) h = each_append P (f x) (flat_map f xs) (h x (inl refl))
    (each_flat_map P f xs (λ y o. h y (inr o)))

pub each_selection : {X : Type 0} (P : List X → Type 0) (ds : List (List X))
    → ((xs : List X) → IsSelection ds xs → P xs) → Each P (selections ds)
each_selection P [] h = (h [] tt, tt)
each_selection {X} P (choices ∷ rest) h =
    each_flat_map P (λ (x : X). map (λ (xs : List X). x ∷ xs) (selections rest)) choices
    (λ x o. each_mapped P (λ (xs : List X). x ∷ xs) (selections rest)
    (each_selection (λ (xs : List X). P (x ∷ xs)) rest (λ xs s. h (x ∷ xs) (o, s))))

-- ---- tests

pub every_true : {X : Type 0} (test : X → Bool) (xs : List X) → ((x : X) → OneOf (λ y. y ≡ x) xs → test x ≡ true)
    → list_all test xs ≡ true
every_true test [] h = refl
every_true test (x ∷ xs) h = and_from (test x) (list_all test xs) (h x (inl refl))
    (every_true test xs (λ y o. h y (inr o)))

pub any_true : {X : Type 0} (test : X → Bool) (x : X) (xs : List X) → OneOf (λ y. y ≡ x) xs → test x ≡ true
    → list_any test xs ≡ true
any_true test x [] o t = absurd o
any_true test x (y ∷ ys) (inl e) t = or_left (test y) (list_any test ys) (ap test e ∙ t)
any_true test x (y ∷ ys) (inr o) t = or_right (test y) (list_any test ys) (any_true test x ys o t)

pub stands_in_range : (a n m : ℕ) → a ≤ m → m < a + n → OneOf (λ k. k ≡ m) (range_with_len a n)
stands_in_range a zero m low high = absurd (omega arith)
stands_in_range a (suc n) m low high = elim (cases_lt a m) [
  | inl more ↦ inr (stands_in_range (a + 1) n m (omega arith) (omega arith))
  | inr le ↦ inl (omega arith)
]

pub any_in_range : (test : ℕ → Bool) (a n m : ℕ) → a ≤ m → m < a + n → test m ≡ true
    → list_any test (range_with_len a n) ≡ true
any_in_range test a n m low high t = any_true test m (range_with_len a n) (stands_in_range a n m low high) t

-- ---- filters

pub all_none : {X Y : Type 0} (f : X → List Y) (xs : List X) → Each (λ x. f x ≡ []) xs → flat_map f xs ≡ []
all_none f [] h = refl
all_none {Y = Y} f (x ∷ xs) h = (λ i. h.0 i ++ flat_map f xs) ∙ all_none f xs h.1

pub filter_none : {X : Type 0} (p : X → Bool) (xs : List X) → ((x : X) → p x ≡ false) → filter p xs ≡ []
filter_none p [] h = refl
filter_none {X} p (x ∷ xs) h = ap (λ b. cond b (x ∷ filter p xs) (filter p xs)) (h x) ∙ filter_none p xs h

pub filter_flat_map : {X Y : Type 0} (p : Y → Bool) (f : X → List Y) (xs : List X)
    → filter p (flat_map f xs) ≡ flat_map (λ x. filter p (f x)) xs
filter_flat_map p f [] = refl
filter_flat_map {Y = Y} p f (x ∷ xs) = filter-append p (f x) (flat_map f xs)
    ∙ ap (λ (ys : List Y). filter p (f x) ++ ys) (filter_flat_map p f xs)

pub filter_map_one : {X Y : Type 0} (p : Y → Bool) (f : X → Y) (xs : List X)
    → filter p (map f xs) ≡ flat_map (λ x. filter p (f x ∷ [])) xs
filter_map_one p f [] = refl
filter_map_one {Y = Y} p f (x ∷ xs) = one (p (f x)) (filter p (map f xs))
    ∙ ap (λ (ys : List Y). filter p (f x ∷ []) ++ ys) (filter_map_one p f xs)
  where
    one : (b : Bool) (ys : List Y) → cond b (f x ∷ ys) ys ≡ cond b (f x ∷ []) [] ++ ys
    one true ys = refl
    one false ys = refl

-- ---- the first of a list that grows by parts

take_again : {X : Type 0} (n : ℕ) (xs ys : List X) → take n (take n xs ++ ys) ≡ take n (xs ++ ys)
take_again zero xs ys = refl
take_again (suc n) [] ys = refl
take_again {X} (suc n) (x ∷ xs) ys = ap (λ (zs : List X). x ∷ zs) (take_again n xs ys)

pub few_taken : {X : Type 0} (n : ℕ) (xs : List X) → length (take n xs) ≤ n
few_taken zero xs = omega arith
few_taken (suc n) [] = omega arith
few_taken (suc n) (x ∷ xs) = let h = few_taken n xs in omega arith

pub taken_few : {X : Type 0} (n : ℕ) (next xs : List X) → next ≡ take n xs → length next ≤ n
taken_few {X} n next xs e = subst (λ (ys : List X). length ys ≤ n) (sym e) (few_taken n xs)

-- enough are found
pub enough : {X : Type 0} (n : ℕ) (found more : List X) → length found ≤ n → n ≤ length found
    → found ≡ take n (found ++ more)
enough zero [] more a b = refl
enough zero (x ∷ xs) more a b = absurd (omega arith)
enough (suc n) [] more a b = absurd (omega arith)
enough {X} (suc n) (x ∷ xs) more a b = ap (λ (zs : List X). x ∷ zs) (enough n xs more (omega arith) (omega arith))

-- no more is there
pub no_more : {X : Type 0} (n : ℕ) (found part : List X) → length found ≤ n → part ≡ [] → found ≡ take n (found ++ part)
no_more {X} n found part few none = sym (take_all n found few)
    ∙ ap (λ (zs : List X). take n zs) (sym (append-nil found)) ∙ ap (λ (zs : List X). take n (found ++ zs)) (sym none)

-- one part is done, and what is left
pub part_done : {X : Type 0} (n : ℕ) (next found part rest whole : List X) → next ≡ take n (found ++ part)
    → take n (found ++ (part ++ rest)) ≡ whole → take n (next ++ rest) ≡ whole
part_done {X} n next found part rest whole e h =
    ap (λ (zs : List X). take n (zs ++ rest)) e ∙ take_again n (found ++ part) rest
    ∙ ap (λ (zs : List X). take n zs) (append_assoc found part rest) ∙ h

pub part_cut : {X : Type 0} (n : ℕ) (found part rest whole : List X) → part ≡ []
    → take n (found ++ (part ++ rest)) ≡ whole → take n (found ++ rest) ≡ whole
part_cut {X} n found part rest whole none h = ap (λ (zs : List X). take n (found ++ (zs ++ rest))) (sym none) ∙ h

pub all_done : {X : Type 0} (n : ℕ) (found rest whole : List X) → length found ≤ n → rest ≡ []
    → take n (found ++ rest) ≡ whole → found ≡ whole
all_done {X} n found rest whole few none h = no_more n found rest few none ∙ h

-- ---- numbers in order

pub range_next : (m n : ℕ) → m < n → range_with_len m (n - m) ≡ m ∷ range_with_len (m + 1) (n - (m + 1))
range_next m n lt = let e : n - m ≡ suc (n - (m + 1)) = omega arith in ap (range_with_len m) e

pub range_end : (m n : ℕ) → n ≤ m → range_with_len m (n - m) ≡ []
range_end m n le = let e : n - m ≡ 0 = omega arith in ap (range_with_len m) e

pub any_next : (test : ℕ → Bool) (m n : ℕ) (whole : Bool) → m < n → test m ≡ false
    → list_any test (range_with_len m (n - m)) ≡ whole → list_any test (range_with_len (m + 1) (n - (m + 1))) ≡ whole
any_next test m n whole lt not_m h =
    ap (λ b. b || list_any test (range_with_len (m + 1) (n - (m + 1)))) (sym not_m)
    ∙ ap (list_any test) (sym (range_next m n lt)) ∙ h

pub all_next : (test : ℕ → Bool) (m n : ℕ) (whole : Bool) → m < n → test m ≡ true
    → list_all test (range_with_len m (n - m)) ≡ whole → list_all test (range_with_len (m + 1) (n - (m + 1))) ≡ whole
all_next test m n whole lt is_m h =
    ap (λ b. b && list_all test (range_with_len (m + 1) (n - (m + 1)))) (sym is_m)
    ∙ ap (list_all test) (sym (range_next m n lt)) ∙ h

-- a filter over numbers in order, the next being kept or not
pub kept_next : (test : ℕ → Bool) (m n : ℕ) (made whole : List ℕ) → m < n → test m ≡ true
    → made ++ filter test (range_with_len m (n - m)) ≡ whole
    → (made ++ m ∷ []) ++ filter test (range_with_len (m + 1) (n - (m + 1))) ≡ whole
kept_next test m n made whole lt is_m h =
    let rest = filter test (range_with_len (m + 1) (n - (m + 1))) in
    append_assoc made (m ∷ []) rest ∙ ap (λ b. made ++ cond b (m ∷ rest) rest) (sym is_m)
    ∙ ap (λ (ns : List ℕ). made ++ filter test ns) (sym (range_next m n lt)) ∙ h

pub left_next : (test : ℕ → Bool) (m n : ℕ) (made whole : List ℕ) → m < n → test m ≡ false
    → made ++ filter test (range_with_len m (n - m)) ≡ whole
    → made ++ filter test (range_with_len (m + 1) (n - (m + 1))) ≡ whole
left_next test m n made whole lt not_m h =
    let rest = filter test (range_with_len (m + 1) (n - (m + 1))) in
    ap (λ b. made ++ cond b (m ∷ rest) rest) (sym not_m)
    ∙ ap (λ (ns : List ℕ). made ++ filter test ns) (sym (range_next m n lt)) ∙ h

-- ---- a walk over choices, each of which adds what it gives, as far as links are wanted

list_next : {X Y : Type 0} (n : ℕ) (g : X → List Y) (next found : List Y) (x : X) (rest : List X) (whole : List Y)
    → next ≡ take n (found ++ g x) → take n (found ++ (g x ++ flat_map g rest)) ≡ whole
    → (take n (next ++ flat_map g rest) ≡ whole) × (length next ≤ n)
list_next n g next found x rest whole e h = (
  part_done n next found (g x) (flat_map g rest) whole e h,
  taken_few n next (found ++ g x) e,
)

list_cut : {X Y : Type 0} (n : ℕ) (g : X → List Y) (found : List Y) (x : X) (rest : List X) (whole : List Y) → g x ≡ []
    → length found ≤ n → take n (found ++ (g x ++ flat_map g rest)) ≡ whole
    → (take n (found ++ flat_map g rest) ≡ whole) × (length found ≤ n)
list_cut n g found x rest whole none few h = (part_cut n found (g x) (flat_map g rest) whole none h, few)

pub number_next : {Y : Type 0} (n : ℕ) (g : ℕ → List Y) (next found : List Y) (m count : ℕ) (whole : List Y) → m < count
    → next ≡ take n (found ++ g m) → take n (found ++ flat_map g (range_with_len m (count - m))) ≡ whole
    → (take n (next ++ flat_map g (range_with_len (m + 1) (count - (m + 1)))) ≡ whole) × (length next ≤ n)
number_next n g next found m count whole lt e h =
    list_next n g next found m (range_with_len (m + 1) (count - (m + 1))) whole e
    (ap (λ (ks : List ℕ). take n (found ++ flat_map g ks)) (sym (range_next m count lt)) ∙ h)

pub number_cut : {Y : Type 0} (n : ℕ) (g : ℕ → List Y) (found : List Y) (m count : ℕ) (whole : List Y) → m < count
    → g m ≡ [] → length found ≤ n → take n (found ++ flat_map g (range_with_len m (count - m))) ≡ whole
    → (take n (found ++ flat_map g (range_with_len (m + 1) (count - (m + 1)))) ≡ whole) × (length found ≤ n)
number_cut n g found m count whole lt none few h =
    list_cut n g found m (range_with_len (m + 1) (count - (m + 1))) whole none few
    (ap (λ (ks : List ℕ). take n (found ++ flat_map g ks)) (sym (range_next m count lt)) ∙ h)

pub numbers_done : {Y : Type 0} (n : ℕ) (g : ℕ → List Y) (found : List Y) (m count : ℕ) (whole : List Y) → count ≤ m
    → length found ≤ n → take n (found ++ flat_map g (range_with_len m (count - m))) ≡ whole → found ≡ whole
numbers_done n g found m count whole le few h = all_done n found (flat_map g (range_with_len m (count - m))) whole few
    (ap (flat_map g) (range_end m count le)) h

pub item_next : {X Y : Type 0} (n : ℕ) (g : X → List Y) (next found : List Y) (xs : List X) (i : ℕ) (d : X)
    (whole : List Y) → i < length xs → next ≡ take n (found ++ g (get_or xs i d))
    → take n (found ++ flat_map g (drop i xs)) ≡ whole → (take n (next ++ flat_map g (drop (i + 1) xs)) ≡ whole)
    × (length next ≤ n)
item_next {X} n g next found xs i d whole lt e h =
    rw add-one (list_next n g next found (get_or xs i d) (drop (suc i) xs) whole e
    (ap (λ (ys : List X). take n (found ++ flat_map g ys)) (sym (drop-cons xs i d lt)) ∙ h))

pub item_cut : {X Y : Type 0} (n : ℕ) (g : X → List Y) (found : List Y) (xs : List X) (i : ℕ) (d : X) (whole : List Y)
    → i < length xs → g (get_or xs i d) ≡ [] → length found ≤ n → take n (found ++ flat_map g (drop i xs)) ≡ whole
    → (take n (found ++ flat_map g (drop (i + 1) xs)) ≡ whole) × (length found ≤ n)
item_cut {X} n g found xs i d whole lt none few h =
    rw add-one (list_cut n g found (get_or xs i d) (drop (suc i) xs) whole none few
    (ap (λ (ys : List X). take n (found ++ flat_map g ys)) (sym (drop-cons xs i d lt)) ∙ h))

pub items_done : {X Y : Type 0} (n : ℕ) (g : X → List Y) (found : List Y) (xs : List X) (i : ℕ) (whole : List Y)
    → length xs ≤ i → length found ≤ n → take n (found ++ flat_map g (drop i xs)) ≡ whole → found ≡ whole
items_done n g found xs i whole le few h = all_done n found (flat_map g (drop i xs)) whole few
    (ap (flat_map g) (drop_all i xs le)) h

pub none_taken : {X : Type 0} (n : ℕ) (xs : List X) → xs ≡ [] → take n xs ≡ []
none_taken {X} n xs e = ap (take n) e ∙ none n
  where
    none : (n : ℕ) → take {A = X} n [] ≡ []
    none zero = refl
    none (suc n) = refl

pub tail_is : {X : Type 0} (xs : List X) → take (length xs - 1) (drop 1 xs) ≡ drop 1 xs
tail_is xs = take_all (length xs - 1) (drop 1 xs) (let l = length-drop 1 xs in omega (arith, l))

-- a list that grew by a member, without its last
pub last_off : {X : Type 0} (xs ys zs : List X) (x : X) (n : ℕ) → ys ≡ xs ++ x ∷ [] → n ≡ length ys
    → zs ≡ take (n - 1) ys → zs ≡ xs
last_off {X} xs ys zs x n grew count off =
    let one : n - 1 ≡ length xs = let l = ap (λ (ws : List X). length ws) grew in let m = length-append xs (x ∷ []) in
    omega arith in
    off ∙ (λ i. take (one i) (grew i)) ∙ take-append-le (length xs) xs (x ∷ []) (omega arith)
    ∙ take_all (length xs) xs (omega arith)
