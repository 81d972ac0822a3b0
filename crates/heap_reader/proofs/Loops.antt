-- One turn of a loop over a list.
use Rattle.std.specs.Prelude.{None}
use Rattle.std.proofs.Common.{◌≡◌, ℕ, suc, ◌+◌, ◌<◌, ◌≤◌, List, ◌∷◌, [], ◌++◌, length, get_or, take, drop, map, sym, ap}
use Rattle.std.proofs.Common.{subst, ◌∙◌, arith}
use Rattle.std.proofs.lemmas.List.{map_push, take_more, take_all, length-map}
use Rattle.heap_formula.specs.Words.{Each}
use Rattle.cyc_grammar.proofs.WrittenTexts.{left-item}
use Rattle.heap_reader.specs.Spans.{total}
use Rattle.heap_reader.specs.Flaws.{Found, or_later, listed_flaw}

taken : {X : Type 0} (xs : List X) (i : ℕ) (x : X) → i < length xs → x ≡ get_or xs i x
    → take (i + 1) xs ≡ take i xs ++ x ∷ []
taken xs i x l e = take_more xs i x l ∙ ap (λ y. take i xs ++ y ∷ []) (sym e)

-- what is made of each member so far
pub made : {X Y : Type 0} (f : X → Y) (xs : List X) (i : ℕ) (x : X) (old new : List Y) (y : Y) → i < length xs
    → x ≡ get_or xs i x → y ≡ f x → new ≡ old ++ y ∷ [] → old ≡ map f (take i xs) → new ≡ map f (take (i + 1) xs)
made f xs i x old new y l e of now was =
    now ∙ ap (λ ys. ys ++ y ∷ []) was ∙ ap (λ z. map f (take i xs) ++ z ∷ []) of
    ∙ sym (ap (map f) (taken xs i x l e) ∙ map_push f (take i xs) x)

-- the same where a member is seen as another value first
pub made_of : {X Y Z : Type 0} (g : X → Y) (f : Y → Z) (xs : List X) (i : ℕ) (x : X) (old new : List Z) (z : Z)
    → i < length xs → x ≡ get_or xs i x → z ≡ f (g x) → new ≡ old ++ z ∷ [] → old ≡ map f (map g (take i xs))
    → new ≡ map f (map g (take (i + 1) xs))
made_of g f xs i x old new z l e of now was =
    now ∙ ap (λ ys. ys ++ z ∷ []) was ∙ ap (λ w. map f (map g (take i xs)) ++ w ∷ []) of
    ∙ sym (ap (map f) (ap (map g) (taken xs i x l e) ∙ map_push g (take i xs) x) ∙ map_push f (map g (take i xs)) (g x))

pub left : {X : Type 0} (P : X → Type 0) (xs : List X) (i : ℕ) (x : X) → i < length xs → x ≡ get_or xs i x
    → Each P (drop i xs) → Each P (drop (i + 1) xs)
left P xs i x l e all = (subst (Each P) (left-item xs i x l e) all).1

pub left_of : {X Y : Type 0} (g : X → Y) (P : Y → Type 0) (xs : List X) (i : ℕ) (x : X) → i < length xs
    → x ≡ get_or xs i x → Each P (map g (drop i xs)) → Each P (map g (drop (i + 1) xs))
left_of g P xs i x l e all = (subst (Each P) (ap (map g) (left-item xs i x l e)) all).1

-- the member of this turn
pub here : {X : Type 0} (P : X → Type 0) (xs : List X) (i : ℕ) (x : X) → i < length xs → x ≡ get_or xs i x
    → Each P (drop i xs) → P x
here P xs i x l e all = (subst (Each P) (left-item xs i x l e) all).0

pub here_of : {X Y : Type 0} (g : X → Y) (P : Y → Type 0) (xs : List X) (i : ℕ) (x : X) → i < length xs
    → x ≡ get_or xs i x → Each P (map g (drop i xs)) → P (g x)
here_of g P xs i x l e all = (subst (Each P) (ap (map g) (left-item xs i x l e)) all).0

-- the loop has made something of each member
pub all_made : {X Y : Type 0} (f : X → Y) (xs : List X) (i : ℕ) (done : List Y) → length xs ≤ i
    → done ≡ map f (take i xs) → (done ≡ map f xs) × (length done ≡ length xs)
all_made f xs i done l was =
    let all = was ∙ ap (map f) (take_all i xs l) in
    (all, ap length all ∙ length-map xs f)

pub all_made_of : {X Y Z : Type 0} (g : X → Y) (f : Y → Z) (xs : List X) (i : ℕ) (done : List Z) → length xs ≤ i
    → done ≡ map f (map g (take i xs)) → (done ≡ map f (map g xs)) × (length done ≡ length xs)
all_made_of g f xs i done l was =
    let all = was ∙ ap (λ ys. map f (map g ys)) (take_all i xs l) in
    (all, ap length all ∙ length-map (map g xs) f ∙ length-map xs g)

-- a member without a flaw is passed over
over_one : {Y : Type 0} (flaw : ℕ → ℕ → Y → Found) (span : Y → ℕ) (n k next : ℕ) (y : Y) (here rest : List Y)
    (found : Found) (behind : ℕ) → here ≡ y ∷ rest → (flaw n k y ≡ None) × (next ≡ k + span y)
    → (listed_flaw flaw span n k here ≡ found) × (k + total span here ≡ behind)
    → (listed_flaw flaw span (n + 1) next rest ≡ found) × (next + total span rest ≡ behind)
over_one flaw span n k next y here rest found behind item none was =
    let one = subst (λ ys. listed_flaw flaw span n k ys ≡ found) item was.0 in
    let later : listed_flaw flaw span (suc n) (k + span y) rest
    ≡ found = subst (λ r. or_later r (listed_flaw flaw span (suc n) (k + span y) rest) ≡ found) none.0 one in
    let more : suc n ≡ n + 1 = omega arith in
    let all : k + (span y + total span rest) ≡ behind = subst (λ ys. k + total span ys ≡ behind) item was.1 in (
      subst (λ m. listed_flaw flaw span m next rest ≡ found) more
          (subst (λ m. listed_flaw flaw span (suc n) m rest ≡ found) (sym none.1) later),
      omega (arith, all, none.1),
    )

pub passed : {X : Type 0} (flaw : ℕ → ℕ → X → Found) (span : X → ℕ) (n k next : ℕ) (xs : List X) (x : X) (found : Found)
    (behind : ℕ) → n < length xs → x ≡ get_or xs n x → (flaw n k x ≡ None) × (next ≡ k + span x)
    → (listed_flaw flaw span n k (drop n xs) ≡ found) × (k + total span (drop n xs) ≡ behind)
    → (listed_flaw flaw span (n + 1) next (drop (n + 1) xs) ≡ found) × (next + total span (drop (n + 1) xs) ≡ behind)
passed flaw span n k next xs x found behind l e = over_one flaw span n k next x (drop n xs) (drop (n + 1) xs)
    found behind (left-item xs n x l e)

pub passed_of : {X Y : Type 0} (g : X → Y) (flaw : ℕ → ℕ → Y → Found) (span : Y → ℕ) (n k next : ℕ) (xs : List X)
    (x : X) (found : Found) (behind : ℕ) → n < length xs → x ≡ get_or xs n x
    → (flaw n k (g x) ≡ None) × (next ≡ k + span (g x)) → (listed_flaw flaw span n k (map g (drop n xs)) ≡ found)
    × (k + total span (map g (drop n xs)) ≡ behind) → (listed_flaw flaw span (n + 1) next (map g (drop (n + 1) xs))
    ≡ found) × (next + total span (map g (drop (n + 1) xs)) ≡ behind)
passed_of g flaw span n k next xs x found behind l e = over_one flaw span n k next (g x) (map g (drop n xs))
    (map g (drop (n + 1) xs)) found behind (ap (map g) (left-item xs n x l e))

-- the span of this turn's member is within what is left
within : {Y : Type 0} (span : Y → ℕ) (k most : ℕ) (y : Y) (here rest : List Y) (behind : ℕ) → here ≡ y ∷ rest
    → k + total span here ≡ behind → behind < most → k + span y < most
within span k most y here rest behind item was l =
    let all : k + (span y + total span rest) ≡ behind = subst (λ ys. k + total span ys ≡ behind) item was in
    omega (arith, all, l)

pub fits : {X : Type 0} (span : X → ℕ) (n k most : ℕ) (xs : List X) (x : X) (behind : ℕ) → n < length xs
    → x ≡ get_or xs n x → k + total span (drop n xs) ≡ behind → behind < most → k + span x < most
fits span n k most xs x behind l e = within span k most x (drop n xs) (drop (n + 1) xs) behind (left-item xs n x l e)

pub fits_of : {X Y : Type 0} (g : X → Y) (span : Y → ℕ) (n k most : ℕ) (xs : List X) (x : X) (behind : ℕ)
    → n < length xs → x ≡ get_or xs n x → k + total span (map g (drop n xs)) ≡ behind → behind < most
    → k + span (g x) < most
fits_of g span n k most xs x behind l e = within span k most (g x) (map g (drop n xs)) (map g (drop (n + 1) xs)) behind
    (ap (map g) (left-item xs n x l e))
