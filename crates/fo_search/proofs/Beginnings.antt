-- What a walk through the beginnings of choices has still to find.
use Rattle.std.proofs.Common.{◌≡◌, ℕ, zero, suc, ◌+◌, ◌-◌, ◌*◌, ◌<◌, ◌≤◌, Bool, false, cond, List, [], ◌∷◌, ◌++◌, Some}
use Rattle.std.proofs.Common.{length, drop, take, reverse, get_or, refl, sym, ap, ◌∙◌, subst, arith, append_assoc}
use Rattle.std.proofs.Common.{append-nil, length-append, add-one, drop-cons}
use Rattle.std.specs.Prelude.{slice_get, slice_set, Option, None}
use Rattle.std.specs.List.{filter, flat_map}
use Rattle.std.proofs.lemmas.List.{drop_all, reverse-append, length-reverse}
use Rattle.search_moves.specs.Places.{if_some}
use Rattle.fo_formula.specs.Words.{Word}
use Rattle.fo_search.specs.Choosing.{done_after}
use Rattle.fo_search.specs.Walks.{chosen_by, done_with, done_behind, done_here, nodes_below, nodes_behind}
use Rattle.fo_search.specs.Subterms.{lists_of}
use Rattle.fo_search.proofs.Choices.{done_next, all_done}

-- ---- the values chosen

abbrev pub chosen_in : List Word → List ℕ → List Word
chosen_in values places = flat_map (λ n. if_some (slice_get values n)) places

chosen_end : (values : List Word) (places : List ℕ) (n : ℕ)
    → chosen_by values (places ++ n ∷ []) ≡ if_some (slice_get values n) ++ chosen_by values places
chosen_end values [] n = sym (append-nil (if_some (slice_get values n)))
chosen_end values (p ∷ places) n =
    ap (λ (ws : List Word). ws ++ if_some (slice_get values p)) (chosen_end values places n)
    ∙ append_assoc (if_some (slice_get values n)) (chosen_by values places) (if_some (slice_get values p))

pub chosen_reversed : (values : List Word) (places : List ℕ)
    → chosen_in values places ≡ chosen_by values (reverse places)
chosen_reversed values [] = refl
chosen_reversed values (n ∷ places) =
    ap (λ (ws : List Word). if_some (slice_get values n) ++ ws) (chosen_reversed values places)
    ∙ (sym (chosen_end values (reverse places) n) ∙ ap (chosen_by values) (sym (reverse-append (n ∷ []) places)))

-- no value is at the place
none_at : (values : List Word) (n : ℕ) → length values ≤ n → slice_get values n ≡ None
none_at [] n h = refl
none_at (v ∷ vs) zero h = absurd (omega arith)
none_at (v ∷ vs) (suc n) h = none_at vs n (omega arith)

pub none_added : (made values : List Word) (place : ℕ) → length values ≤ place
    → made ≡ made ++ if_some (slice_get values place)
none_added made values place past = sym (append-nil made)
    ∙ ap (λ (o : Option Word). made ++ if_some o) (sym (none_at values place past))

-- the value at one more place is added
pub chosen_on : (values : List Word) (places : List ℕ) (i d place : ℕ) (made made' whole : List Word)
    → i < length places → place ≡ get_or places i d → made' ≡ made ++ if_some (slice_get values place) →
    made ++ chosen_in values (drop i places) ≡ whole → made' ++ chosen_in values (drop (i + 1) places) ≡ whole
chosen_on values places i d place made made' whole less at more so_far =
    let rest = chosen_in values (drop (suc i) places) in
    let cut : drop i places ≡ place ∷ drop (suc i) places = drop-cons places i d less
    ∙ ap (λ p. p ∷ drop (suc i) places) (sym at) in
    let before : made ++ (if_some (slice_get values place) ++ rest) ≡ whole = rw cut at so_far in
    rw (add-one, more, append_assoc made (if_some (slice_get values place)) rest) before

pub chosen_all : (values : List Word) (places : List ℕ) (i : ℕ) (made : List Word) → length places ≤ i
    → made ++ chosen_in values (drop i places) ≡ chosen_in values places → made ≡ chosen_by values (reverse places)
chosen_all values places i made past so_far =
    sym (append-nil made) ∙ (ap (λ (ps : List ℕ). made ++ chosen_in values ps) (sym (drop_all i places past))
    ∙ (so_far ∙ chosen_reversed values places))

-- ---- the next value

record Next (values : List Word) (n : ℕ) : Type 0 where
  value : Word
  at : slice_get values n ≡ Some value
  first : drop n values ≡ value ∷ drop (suc n) values

next_value : (values : List Word) (n : ℕ) → n < length values → Next values n
next_value [] n h = absurd (omega arith)
next_value (v ∷ vs) zero h = record { value = v; at = refl; first = refl }
next_value (v ∷ vs) (suc n) h = let r = next_value vs n (omega arith) in
    record { value = r.value; at = r.at; first = r.first }

none_after : (values : List Word) (n : ℕ) → length values ≤ n → drop n values ≡ []
none_after [] zero h = refl
none_after [] (suc n) h = refl
none_after (v ∷ vs) zero h = absurd (omega arith)
none_after (v ∷ vs) (suc n) h = none_after vs n (omega arith)

module _ (test : List Word → Bool) (values : List Word) (count : ℕ) where
  -- the choices that begin with the value at a place, and with those behind it
  next_place : (places : List ℕ) (n : ℕ) → n < length values →
      done_with test values count places (drop n values) ≡ done_here test values count (n ∷ places)
      ++ done_with test values count places (drop (suc n) values)
  next_place places n h =
      let v = next_value values n h in
      ap (done_with test values count places) v.first
      ∙ ap (λ (ts : List Word). done_after test (chosen_by values places ++ ts) (count - suc (length places)) values
      ++ done_with test values count places (drop (suc n) values)) (ap if_some (sym v.at))

  -- the first value is chosen
  pub deeper : (places : List ℕ) → length places < count → 0 < length values →
      done_here test values count (0 ∷ places) ++ done_behind test values count (0 ∷ places)
      ≡ done_here test values count places ++ done_behind test values count places
  deeper places few some =
      let less : count - suc (length places) ≡ count - length places - 1 = omega arith in
      let whole : done_with test values count places values ≡ done_here test values count places =
      ap (λ k. flat_map (λ v. done_after test (chosen_by values places ++ v ∷ []) k values) values) less
      ∙ done_next test (chosen_by values places) (count - length places) values (omega arith) in
      sym (append_assoc (done_here test values count (0 ∷ places)) (done_with test values count places (drop 1 values))
      (done_behind test values count places))
      ∙ ap (λ (cs : List (List Word)). cs ++ done_behind test values count places)
      (sym (next_place places 0 some) ∙ whole)

  -- the next value is chosen in the place of one
  pub onward : (places : List ℕ) (n : ℕ) → suc n < length values →
      done_here test values count (suc n ∷ places) ++ done_behind test values count (suc n ∷ places)
      ≡ done_behind test values count (n ∷ places)
  onward places n h =
      sym (append_assoc (done_here test values count (suc n ∷ places))
      (done_with test values count places (drop (suc (suc n)) values)) (done_behind test values count places))
      ∙ ap (λ (cs : List (List Word)). cs ++ done_behind test values count places) (sym (next_place places (suc n) h))

  -- the value was the last
  pub upward : (places : List ℕ) (n : ℕ) → length values ≤ suc n
      → done_behind test values count (n ∷ places) ≡ done_behind test values count places
  upward places n h = ap (λ (vs : List Word). done_with test values count places vs
      ++ done_behind test values count places) (none_after values (suc n) h)

-- ---- how many nodes are left

nodes_some : (n k : ℕ) → 0 < nodes_below n k
nodes_some n zero = omega arith
nodes_some n (suc k) = omega arith

module _ (n count : ℕ) where
  pub fewer_deeper : (places : List ℕ) → length places < count → 0 < n
      → nodes_below n (count - suc (length places)) + nodes_behind n count (0 ∷ places) < nodes_below n
      (count - length places) + nodes_behind n count places
  fewer_deeper places few some =
      let k = count - suc (length places) in
      let one : count - length places ≡ suc k = omega arith in
      let all : nodes_below n (count - length places) ≡ 1 + n * nodes_below n k = ap (nodes_below n) one in
      parts (nodes_below n k) (nodes_below n (count - length places)) (nodes_behind n count places) all
    where
      parts : (a b c : ℕ) → b ≡ 1 + n * a → a + ((n - 1) * a + c) < b + c
      parts a b c e = let p : n ≡ suc (n - 1) = omega arith in
          let q : n * a ≡ a + (n - 1) * a = ap (λ m. m * a) p
          ∙ (let m : suc (n - 1) * a ≡ a + (n - 1) * a = omega arith in m) in omega (arith, e, q)

  pub fewer_onward : (places : List ℕ) (p : ℕ) → suc p < n
      → nodes_below n (count - suc (length places)) + nodes_behind n count (suc p ∷ places)
      ≡ nodes_behind n count (p ∷ places)
  fewer_onward places p h = parts (nodes_below n (count - suc (length places))) (nodes_behind n count places)
    where
      parts : (a c : ℕ) → a + ((n - suc (suc p)) * a + c) ≡ (n - suc p) * a + c
      parts a c = let e : n - suc p ≡ suc (n - suc (suc p)) = omega arith in
          let q : (n - suc p) * a ≡ a + (n - suc (suc p)) * a = ap (λ m. m * a) e
          ∙ (let m : suc (n - suc (suc p)) * a ≡ a + (n - suc (suc p)) * a = omega arith in m) in omega (arith, q)

  pub fewer_upward : (places : List ℕ) (p : ℕ) → n ≤ suc p
      → nodes_behind n count (p ∷ places) ≡ nodes_behind n count places
  fewer_upward places p h = let e : n - suc p ≡ 0 = omega arith in
      ap (λ m. m * nodes_below n (count - suc (length places)) + nodes_behind n count places) e ∙ omega arith

  pub fewer_behind : (places : List ℕ) → nodes_behind n count places < nodes_below n (count - length places)
      + nodes_behind n count places
  fewer_behind places = let some = nodes_some n (count - length places) in omega (arith, some)

-- ---- the last place

-- the last of some places, and those below it; the last one first
pub record Last (places : List ℕ) (i place : ℕ) : Type 0 where
  pub below : List ℕ
  pub are : reverse places ≡ place ∷ below
  pub others : (v : ℕ) → reverse (slice_set places i v) ≡ v ∷ below
  pub rest : reverse (take i places) ≡ below

set_last : (xs : List ℕ) (p v : ℕ) → slice_set (xs ++ p ∷ []) (length xs) v ≡ xs ++ v ∷ []
set_last [] p v = refl
set_last (x ∷ xs) p v = ap (λ (ys : List ℕ). x ∷ ys) (set_last xs p v)

take_front : (xs : List ℕ) (p : ℕ) → take (length xs) (xs ++ p ∷ []) ≡ xs
take_front [] p = refl
take_front (x ∷ xs) p = ap (λ (ys : List ℕ). x ∷ ys) (take_front xs p)

get_last : (xs : List ℕ) (p d : ℕ) → get_or (xs ++ p ∷ []) (length xs) d ≡ p
get_last [] p d = refl
get_last (x ∷ xs) p d = get_last xs p d

record Split (xs : List ℕ) : Type 0 where
  front : List ℕ
  last : ℕ
  is : xs ≡ front ++ last ∷ []

split : (xs : List ℕ) → 0 < length xs → Split xs
split [] h = absurd (omega arith)
split (x ∷ []) h = record { front = []; last = x; is = refl }
split (x ∷ y ∷ ys) h = let r = split (y ∷ ys) (omega arith) in
    record { front = x ∷ r.front; last = r.last; is = ap (λ (zs : List ℕ). x ∷ zs) r.is }

last_of : (front : List ℕ) (p : ℕ) → Last (front ++ p ∷ []) (length front) p
last_of front p = record {
  below = reverse front;
  are = reverse-append front (p ∷ []);
  others = λ v. ap reverse (set_last front p v) ∙ reverse-append front (v ∷ []);
  rest = ap reverse (take_front front p);
}

pub last_place : (places : List ℕ) (i place d : ℕ) → length places ≡ suc i → place ≡ get_or places i d
    → Last places i place
last_place places i place d long is =
    let s = split places (omega (arith, long)) in
    let at : i ≡ length s.front = omega (arith, long, ap length s.is, length-append s.front (s.last ∷ [])) in
    let same : place ≡ s.last = is ∙ ((λ j. get_or (s.is j) (at j) d) ∙ get_last s.front s.last d) in
    subst (λ (xs : List ℕ). Last xs i place) (sym s.is)
    (subst (λ k. Last (s.front ++ s.last ∷ []) k place) (sym at)
    (subst (λ p. Last (s.front ++ s.last ∷ []) (length s.front) p) (sym same) (last_of s.front s.last)))

-- ---- the walk goes on

module _ (test : List Word → Bool) (values : List Word) where
  -- one more value is chosen
  pub left_deeper : (over : Bool) (count : ℕ) (items items' : List ℕ) → items' ≡ items ++ 0 ∷ [] → length items < count
      → 0 < length values →
      cond over [] (done_here test values count (reverse items') ++ done_behind test values count (reverse items'))
      ≡ cond over [] (done_here test values count (reverse items) ++ done_behind test values count (reverse items))
  left_deeper over count items items' e few some =
      ap (λ (cs : List (List Word)). cond over [] cs)
      (ap (λ (ps : List ℕ). done_here test values count ps ++ done_behind test values count ps)
      (ap reverse e ∙ reverse-append items (0 ∷ []))
      ∙ deeper test values count (reverse items) (let l = length-reverse items in omega (arith, l)) some)

  -- the next value is chosen
  pub left_onward : (over over' : Bool) (count count' : ℕ) (items' items start : List ℕ) (p : ℕ) (below : List ℕ)
      → over ≡ false → over' ≡ false → count ≡ count' →
      reverse items' ≡ suc p ∷ below → reverse items ≡ p ∷ below → suc p < length values →
      done_behind test values count' (reverse items) ≡ done_behind test values count' (reverse start) →
      cond over [] (done_here test values count (reverse items') ++ done_behind test values count (reverse items'))
      ≡ cond over' [] (done_behind test values count' (reverse start))
  left_onward over over' count count' items' items start p below o o' k new old less same =
      (λ i. cond (o i) [] (done_here test values (k i) (new i) ++ done_behind test values (k i) (new i)))
      ∙ (onward test values count' below p less
      ∙ (ap (done_behind test values count') (sym old)
      ∙ (same ∙ sym (ap (λ b. cond b [] (done_behind test values count' (reverse start))) o'))))

  -- no value is left there
  pub behind_upward : (count : ℕ) (items items' : List ℕ) (whole : List (List Word)) (p : ℕ) (below : List ℕ)
      → reverse items ≡ p ∷ below → reverse items' ≡ below → length values ≤ suc p →
      done_behind test values count (reverse items) ≡ whole → done_behind test values count (reverse items') ≡ whole
  behind_upward count items items' whole p below old new last same =
      ap (done_behind test values count) new ∙ (sym (upward test values count below p last)
      ∙ (ap (done_behind test values count) (sym old) ∙ same))

module _ (n : ℕ) where
  pub nodes_deeper : (over : Bool) (count : ℕ) (items items' : List ℕ) → over ≡ false → items' ≡ items ++ 0 ∷ []
      → length items < count → 0 < n →
      cond over 0 (nodes_below n (count - length items') + nodes_behind n count (reverse items')) < cond over 0
      (nodes_below n (count - length items) + nodes_behind n count (reverse items))
  nodes_deeper over count items items' o e few some =
      let new : reverse items' ≡ 0 ∷ reverse items = ap reverse e ∙ reverse-append items (0 ∷ []) in
      let long : length items' ≡ suc (length (reverse items)) = omega
      (arith, ap length e, length-append items (0 ∷ []), length-reverse items) in
      let h : nodes_below n (count - suc (length (reverse items))) + nodes_behind n count (0 ∷ reverse items)
      < nodes_below n (count - length (reverse items)) + nodes_behind n count (reverse items) = fewer_deeper n count
      (reverse items) (let l = length-reverse items in omega (arith, l)) some in
      subst (λ b. cond b 0 (nodes_below n (count - length items') + nodes_behind n count (reverse items')) < cond b 0
      (nodes_below n (count - length items) + nodes_behind n count (reverse items))) (sym o)
      (subst (λ a. a < nodes_below n (count - length items) + nodes_behind n count (reverse items))
      (sym (λ i. nodes_below n (count - long i) + nodes_behind n count (new i)))
      (subst (λ k. nodes_below n (count - suc (length (reverse items))) + nodes_behind n count (0 ∷ reverse items)
      < nodes_below n (count - k) + nodes_behind n count (reverse items)) (length-reverse items) h))

  pub nodes_onward : (over over' : Bool) (count count' : ℕ) (items' items start : List ℕ) (p : ℕ) (below : List ℕ)
      → over ≡ false → over' ≡ false → count ≡ count' →
      reverse items' ≡ suc p ∷ below → reverse items ≡ p ∷ below → suc p < n →
      nodes_behind n count' (reverse items) ≡ nodes_behind n count' (reverse start) →
      cond over 0 (nodes_below n (count - length items') + nodes_behind n count (reverse items')) < cond over' 0
      (nodes_below n (count' - length start) + nodes_behind n count' (reverse start))
  nodes_onward over over' count count' items' items start p below o o' k new old less same =
      let long : length items' ≡ suc (length below) = omega (arith, sym (length-reverse items'), ap length new) in
      let now : cond over 0 (nodes_below n (count - length items') + nodes_behind n count (reverse items'))
      ≡ nodes_behind n count' (reverse start) =
      (λ i. cond (o i) 0 (nodes_below n (k i - long i) + nodes_behind n (k i) (new i)))
      ∙ (fewer_onward n count' below p less ∙ (ap (nodes_behind n count') (sym old) ∙ same)) in
      let h : nodes_behind n count' (reverse start) < nodes_below n (count' - length (reverse start))
      + nodes_behind n count' (reverse start) = fewer_behind n count' (reverse start) in
      subst (λ a. a < cond over' 0 (nodes_below n (count' - length start) + nodes_behind n count' (reverse start)))
      (sym now)
      (subst (λ b. nodes_behind n count' (reverse start) < cond b 0
      (nodes_below n (count' - length start) + nodes_behind n count' (reverse start))) (sym o')
      (subst (λ m. nodes_behind n count' (reverse start) < nodes_below n (count' - m) + nodes_behind n count'
      (reverse start)) (length-reverse start) h))

  pub nodes_upward : (count : ℕ) (items items' : List ℕ) (whole p : ℕ) (below : List ℕ) → reverse items ≡ p ∷ below
      → reverse items' ≡ below → n ≤ suc p →
      nodes_behind n count (reverse items) ≡ whole → nodes_behind n count (reverse items') ≡ whole
  nodes_upward count items items' whole p below old new last same =
      ap (nodes_behind n count) new ∙ (sym (fewer_upward n count below p last)
      ∙ (ap (nodes_behind n count) (sym old) ∙ same))

-- a walk that begins has everything left
pub begins_all : (test : List Word → Bool) (values : List Word) (count : ℕ) (items : List ℕ) → items ≡ [] →
    done_here test values count (reverse items) ++ done_behind test values count (reverse items)
    ≡ filter test (lists_of count values)
begins_all test values count items e =
    ap (λ (ps : List ℕ). done_here test values count (reverse ps) ++ done_behind test values count (reverse ps)) e
    ∙ (append-nil (done_here test values count [])
    ∙ (ap (λ k. done_after test [] k values) (let z : count - 0 ≡ count = omega arith in z)
    ∙ all_done test count values))
