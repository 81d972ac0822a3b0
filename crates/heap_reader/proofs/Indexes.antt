-- An index is found in by each name, and grows by one head.
use Rattle.std.proofs.Common.{arith, ◌≡◌, ℕ, zero, suc, Bool, true, false, cond, ◌+◌, ◌<◌, ◌≤◌, List, [], ◌∷◌, ◌++◌}
use Rattle.std.proofs.Common.{take, length, map, Option, Some, None, is_some, nat_lt, slice_get, get_or, refl, sym, ap}
use Rattle.std.proofs.Common.{◌∙◌, subst, true≢false}
use Rattle.std.proofs.lemmas.Bool.{lt-ltb, le-ltb, ltb-true, ltb-false}
use Rattle.std.proofs.lemmas.List.{map_push, take_more, length-map, length-take-le}
use Rattle.std.proofs.lemmas.Cmp.{nat_list_eq_equiv}
use Rattle.std.proofs.lemmas.Slice.Eq.{bytes_eq-Decides}
use Rattle.std.specs.Borrow.{Bor}
use Rattle.std.specs.Option.{option_map}
use Rattle.std.specs.Str.{bytes_eq}
use Rattle.std.specs.Map.{lookup}
use Rattle.heap_reader.specs.declared.head.Head.{Head}
use Rattle.heap_reader.specs.Trees.{Heading, heading_of}
use Rattle.heap_reader.specs.Flaws.{arity_in}
use Rattle.heap_reader.specs.Values.{place_of}
use Rattle.heap_reader.specs.Indexes.{place_in, IsIndex}

or_else : Option ℕ → Option ℕ → Option ℕ
or_else (Some i) later = Some i
or_else None later = later

or_none : (r : Option ℕ) → or_else r None ≡ r
unfolding or_else
or_none (Some i) = refl
or_none None = refl

or_some : (r later : Option ℕ) → is_some r ≡ true → or_else r later ≡ r
unfolding or_else
or_some (Some i) later e = refl
or_some None later e = absurd (true≢false (sym e))

next : Option ℕ → Option ℕ
next r = option_map (λ i. suc i) r

next-else : (r : Option ℕ) (b : Bool) (n : ℕ) → next (or_else r (cond b (Some n) None))
    ≡ or_else (next r) (cond b (Some (suc n)) None)
unfolding or_else next
next-else (Some i) b n = refl
next-else None true n = refl
next-else None false n = refl

place_in-more : (hs : List Heading) (h : Heading) (name : List ℕ)
    → place_in (hs ++ h ∷ []) name ≡ or_else (place_in hs name) (cond (bytes_eq h.name name) (Some (length hs)) None)
unfolding or_else next
place_in-more [] h name = refl
place_in-more (g ∷ hs) h name = by (bytes_eq g.name name) (place_in-more hs h name)
  where
    by : (b : Bool) → place_in (hs ++ h ∷ []) name ≡ or_else (place_in hs name)
        (cond (bytes_eq h.name name) (Some (length hs)) None)
        → cond b (Some 0) (next (place_in (hs ++ h ∷ []) name))
        ≡ or_else (cond b (Some 0) (next (place_in hs name)))
        (cond (bytes_eq h.name name) (Some (suc (length hs))) None)
    by true rest = refl
    by false rest = ap next rest ∙ next-else (place_in hs name) (bytes_eq h.name name) (length hs)

lookup-more : (test : Bor (List ℕ) → Bool) (es : List (Bor (List ℕ) × ℕ)) (k : Bor (List ℕ)) (i : ℕ)
    → lookup test (es ++ (k, i) ∷ []) ≡ or_else (lookup test es) (cond (test k) (Some i) None)
unfolding or_else
lookup-more test [] k i = refl
lookup-more test (e ∷ es) k i = by (test e.0) (lookup-more test es k i)
  where
    by : (b : Bool) → lookup test (es ++ (k, i) ∷ []) ≡ or_else (lookup test es) (cond (test k) (Some i) None)
        → cond b (Some e.1) (lookup test (es ++ (k, i) ∷ []))
        ≡ or_else (cond b (Some e.1) (lookup test es)) (cond (test k) (Some i) None)
    by true rest = refl
    by false rest = rest

-- a name that is new leads to the new head
pub index_grows : (hs : List Heading) (h : Heading) (es : List (Bor (List ℕ) × ℕ)) (k : Bor (List ℕ)) → k.now ≡ h.name
    → IsIndex hs es → IsIndex (hs ++ h ∷ []) (es ++ (k, length hs) ∷ [])
index_grows hs h es k same index name =
    lookup-more (λ j. bytes_eq name j.now) es k (length hs)
    ∙ ap (λ r. or_else r (cond (bytes_eq name k.now) (Some (length hs)) None)) (index name)
    ∙ ap (λ b. or_else (place_in hs name) (cond b (Some (length hs)) None))
    (nat_list_eq_equiv.symm name k.now ∙ ap (λ t. bytes_eq t name) same)
    ∙ sym (place_in-more hs h name)

-- a name that is there leads on to where it led
pub index_stays : (hs : List Heading) (h : Heading) (es : List (Bor (List ℕ) × ℕ))
    → is_some (lookup (λ k. bytes_eq h.name k.now) es) ≡ true → IsIndex hs es → IsIndex (hs ++ h ∷ []) es
index_stays hs h es there index name = index name ∙ sym (place_in-more hs h name ∙ by (bytes_eq h.name name) refl)
  where
    by : (b : Bool) → bytes_eq h.name name ≡ b → or_else (place_in hs name) (cond b (Some (length hs)) None)
        ≡ place_in hs name
    by false e = or_none (place_in hs name)
    by true e =
        let same : h.name ≡ name = (bytes_eq-Decides h.name name).0 e in
        or_some (place_in hs name) (Some (length hs))
        (subst (λ t. is_some (place_in hs t) ≡ true) same (sym (ap is_some (index h.name)) ∙ there))

-- where an index leads, by what was found in it
pub led : (hs known : List Heading) (es : List (Bor (List ℕ) × ℕ)) (name : List ℕ) (r : Option ℕ) → IsIndex hs es
    → hs ≡ known → r ≡ lookup (λ k. bytes_eq name k.now) es → place_in known name ≡ r
led hs known es name r index same e = ap (λ l. place_in l name) (sym same) ∙ sym (index name) ∙ sym e

-- ---- what is found

some-same : (i j : ℕ) → Some i ≡ Some j → i ≡ j
some-same i j e = cc

-- the place that was found, of as many as there are
FoundAt : List Heading → List ℕ → ℕ → Type 0
FoundAt hs name i = (place_of hs name ≡ i) × (i < length hs)
    × ((h : Heading) → slice_get hs i ≡ Some h → arity_in hs name ≡ Some h.arity)

found_at : (hs : List Heading) (name : List ℕ) (i : ℕ) → place_in hs name ≡ Some i → FoundAt hs name i
unfolding FoundAt
found_at [] name i e = cc
found_at (g ∷ hs) name i e = by (bytes_eq g.name name) (place_in hs name) (found_at hs name) i e
  where
    by : (b : Bool) (r : Option ℕ) → ((j : ℕ) → r ≡ Some j → FoundAt hs name j) → (i : ℕ)
        → cond b (Some 0) (option_map (λ j. suc j) r) ≡ Some i
        → (cond b 0 (suc (place_of hs name)) ≡ i) × (i < suc (length hs))
        × ((h : Heading) → slice_get (g ∷ hs) i ≡ Some h → cond b (Some g.arity) (arity_in hs name) ≡ Some h.arity)
    by true r rest zero e = (refl, omega arith, λ h at. cc)
    by true r rest (suc i) e = cc
    by false None rest i e = cc
    by false (Some j) rest zero e = cc
    by false (Some j) rest (suc i) e =
        let same : j ≡ i = some-same j i cc in
        let there = rest i (ap (λ k. Some k) same) in
        (ap (λ k. suc k) there.0, omega (arith, there.1), λ h at. there.2 h at)

pub found_place : (hs : List Heading) (name : List ℕ) (i : ℕ) → place_in hs name ≡ Some i → place_of hs name ≡ i
unfolding FoundAt
found_place hs name i e = (found_at hs name i e).0

pub found_within : (hs : List Heading) (name : List ℕ) (i : ℕ) → place_in hs name ≡ Some i → i < length hs
unfolding FoundAt
found_within hs name i e = (found_at hs name i e).1

pub found_arity : (hs : List Heading) (name : List ℕ) (i : ℕ) (h : Heading) → place_in hs name ≡ Some i
    → slice_get hs i ≡ Some h → arity_in hs name ≡ Some h.arity
unfolding FoundAt
found_arity hs name i h e at = (found_at hs name i e).2 h at

-- no place was found
pub missing : (hs : List Heading) (name : List ℕ) → place_in hs name ≡ None
    → (place_of hs name ≡ length hs) × (arity_in hs name ≡ None)
missing [] name e = (refl, refl)
missing (h ∷ hs) name e = by (bytes_eq h.name name) (place_in hs name) (missing hs name) e
  where
    by : (b : Bool) (r : Option ℕ) → (r ≡ None → (place_of hs name ≡ length hs) × (arity_in hs name ≡ None))
        → cond b (Some 0) (option_map (λ i. suc i) r) ≡ None
        → (cond b 0 (suc (place_of hs name)) ≡ suc (length hs)) × (cond b (Some h.arity) (arity_in hs name) ≡ None)
    by true r rest e = cc
    by false (Some j) rest e = cc
    by false None rest e = (ap (λ n. suc n) (rest refl).0, (rest refl).1)

lt-suc : (a n : ℕ) → nat_lt (suc a) (suc n) ≡ nat_lt a n
lt-suc a n = by (nat_lt a n) refl
  where
    by : (b : Bool) → nat_lt a n ≡ b → nat_lt (suc a) (suc n) ≡ b
    by true e = lt-ltb (suc a) (suc n) (let l = ltb-true a n e in omega (arith, l))
    by false e = le-ltb (suc a) (suc n) (let l = ltb-false a n e in omega (arith, l))

-- a name stands among the first predicates where its first place is one of theirs
pub among_first : (hs : List Heading) (name : List ℕ) (n : ℕ) → n ≤ length hs
    → nat_lt (place_of hs name) n ≡ is_some (arity_in (take n hs) name)
among_first [] name zero le = refl
among_first (h ∷ hs) name zero le = le-ltb (place_of (h ∷ hs) name) 0 (omega arith)
among_first [] name (suc n) le = absurd (omega (arith, le))
among_first (h ∷ hs) name (suc n) le = by (bytes_eq h.name name) (among_first hs name n (omega (arith, le)))
  where
    by : (b : Bool) → nat_lt (place_of hs name) n ≡ is_some (arity_in (take n hs) name)
        → nat_lt (cond b 0 (suc (place_of hs name))) (suc n)
        ≡ is_some (cond b (Some h.arity) (arity_in (take n hs) name))
    by true rest = lt-ltb 0 (suc n) (omega arith)
    by false rest = lt-suc (place_of hs name) n ∙ rest

-- ---- one turn of the loop that makes an index

one_more : (heads : List Head) (i : ℕ) (d : Head) → i < length heads
    → map heading_of (take (i + 1) heads) ≡ map heading_of (take i heads) ++ heading_of (get_or heads i d) ∷ []
one_more heads i d l = ap (map heading_of) (take_more heads i d l)
    ∙ map_push heading_of (take i heads) (get_or heads i d)

size_before : (heads : List Head) (i : ℕ) → i < length heads → length (map heading_of (take i heads)) ≡ i
size_before heads i l = length-map (take i heads) heading_of ∙ length-take-le i heads (omega (arith, l))

-- the name is new, and is noted with its place
pub index_notes : (heads : List Head) (i : ℕ) (d : Head) (es new : List (Bor (List ℕ) × ℕ)) → i < length heads
    → IsIndex (map heading_of (take i heads)) es → new ≡ es ++ ((get_or heads i d).name, i) ∷ []
    → IsIndex (map heading_of (take (i + 1) heads)) new
index_notes heads i d es new l index is =
    subst (λ hs. IsIndex hs new) (sym (one_more heads i d l))
    (subst (IsIndex (map heading_of (take i heads) ++ heading_of (get_or heads i d) ∷ []))
    (ap (λ k. es ++ ((get_or heads i d).name, k) ∷ []) (size_before heads i l) ∙ sym is)
    (index_grows (map heading_of (take i heads)) (heading_of (get_or heads i d)) es (get_or heads i d).name refl index))

-- the name is known
pub index_keeps : (heads : List Head) (i : ℕ) (d : Head) (es : List (Bor (List ℕ) × ℕ)) → i < length heads
    → IsIndex (map heading_of (take i heads)) es → is_some (lookup (λ k. bytes_eq (get_or heads i d).name.now k.now) es)
    ≡ true → IsIndex (map heading_of (take (i + 1) heads)) es
index_keeps heads i d es l index there =
    subst (λ hs. IsIndex hs es) (sym (one_more heads i d l))
    (index_stays (map heading_of (take i heads)) (heading_of (get_or heads i d)) es there index)
