-- What is inserted after the first occurrences of some names are the first occurrences of all.
use Rattle.std.proofs.Common.{◌≡◌, ℕ, Bool, true, false, not, cond, ◌&&◌, ◌||◌, ◌+◌, ◌<◌, take, get_or, nat_lt, List}
use Rattle.std.proofs.Common.{[], ◌∷◌, ◌++◌, map, filter, length, Some, None, position, refl, sym, ap, ◌∙◌, subst}
use Rattle.std.proofs.Common.{true≢false, arith, if◌then◌else◌}
use Rattle.std.proofs.Math.Bool.{beq}
use Rattle.std.proofs.lemmas.Bool.{and_parts, and_from, ltb-false}
use Rattle.std.proofs.lemmas.List.{append-nil, map_push, take_more}
use Rattle.std.proofs.lemmas.List.Elements.{filter-append}
use Rattle.std.proofs.lemmas.List.Sums.{prefix_len-le-length}
use Rattle.std.proofs.lemmas.Slice.Eq.{bytes_eq-Decides}
use Rattle.std.specs.Cmp.{booleans_Decides}
use Rattle.std.specs.List.{list_any, position_or_len}
use Rattle.std.specs.Str.{bytes_eq}
use Rattle.indexmap.specs.IndexSet.{insert_key}
use Rattle.problem_syntax.specs.declared.numbering.names.NameUse.{NameUse}
use Rattle.problem_syntax.specs.Names.{Name, same, has, firsts, place_of}
use Rattle.problem_syntax.specs.Views.{name_of}
use Rattle.cyc_basics.proofs.Places.{position_at}

same-equal : (a b : Name) → same a b ≡ true → a ≡ b
same-equal a b h =
    let p = and_parts (bytes_eq a.text b.text) (beq a.primed b.primed) h in
    let t : a.text ≡ b.text = (bytes_eq-Decides a.text b.text).0 p.0 in
    let q : a.primed ≡ b.primed = (booleans_Decides a.primed b.primed).0 p.1 in
    λ i. record { text = t i; primed = q i }

same-self : (a : Name) → same a a ≡ true
same-self a =
    and_from (bytes_eq a.text a.text) (beq a.primed a.primed) ((bytes_eq-Decides a.text a.text).1 refl)
    ((booleans_Decides a.primed a.primed).1 refl)

-- a name that is not n, in this order, is not in the other either
same-swapped : (m n : Name) → same n m ≡ false → same m n ≡ false
same-swapped m n h = by (same m n) refl
  where
    by : (b : Bool) → same m n ≡ b → b ≡ false
    by false e = refl
    by true e = absurd (true≢false (sym (subst (λ k. same k m ≡ true) (same-equal m n e) (same-self m)) ∙ h))

others : Name → List Name → List Name
others m ns = filter (λ k. not (same m k)) ns

has-others-step : (m n k : Name) (ks : List Name) → same n m ≡ false → has (others m ks) n ≡ has ks n → (b : Bool)
    → same m k ≡ b → has (cond (not b) (k ∷ others m ks) (others m ks)) n ≡ (same n k || has ks n)
has-others-step m n k ks h rest false e = ap (λ x. same n k || x) rest
has-others-step m n k ks h rest true e =
    let k' : same n k ≡ false = subst (λ j. same n j ≡ false) (same-equal m k e) h in
    rest ∙ sym (ap (λ x. x || has ks n) k')

-- taking out another name loses no place of n
has-others : (m n : Name) → same n m ≡ false → (ks : List Name) → has (others m ks) n ≡ has ks n
unfolding others
has-others m n h [] = refl
has-others m n h (k ∷ ks) = has-others-step m n k ks h (has-others m n h ks) (same m k) refl

has-firsts-step : (m n : Name) (ms : List Name) → has (firsts ms) n ≡ has ms n → (b : Bool) → same n m ≡ b
    → (b || has (others m (firsts ms)) n) ≡ (b || has ms n)
has-firsts-step m n ms rest true e = refl
has-firsts-step m n ms rest false e = has-others m n e (firsts ms) ∙ rest

pub has-firsts : (ns : List Name) (n : Name) → has (firsts ns) n ≡ has ns n
unfolding others
has-firsts [] n = refl
has-firsts (m ∷ ms) n = has-firsts-step m n ms (has-firsts ms n) (same n m) refl

more : Bool → List Name → Name → List Name
more b ns n = cond b ns (ns ++ n ∷ [])

others-more : (m n : Name) (ns : List Name) (b c : Bool) → same n m ≡ b
    → m ∷ others m (more c ns n) ≡ more (b || c) (m ∷ others m ns) n
unfolding others more
others-more m n ns true true e = refl
others-more m n ns false true e = refl
others-more m n ns true false e =
    let s : same m n ≡ true = subst (λ k. same k n ≡ true) (same-equal n m e) (same-self n) in
    ap (λ l. m ∷ l) (filter-append (λ k. not (same m k)) ns (n ∷ [])
    ∙ (ap (λ b. others m ns ++ cond (not b) (n ∷ []) []) s ∙ append-nil (others m ns)))
others-more m n ns false false e =
    ap (λ l. m ∷ l) (filter-append (λ k. not (same m k)) ns (n ∷ [])
    ∙ ap (λ b. others m ns ++ cond (not b) (n ∷ []) []) (same-swapped m n e))

firsts-more : (ns : List Name) (n : Name) → firsts (ns ++ n ∷ []) ≡ more (has ns n) (firsts ns) n
unfolding others more
firsts-more [] n = refl
firsts-more (m ∷ ms) n =
    ap (λ l. m ∷ others m l) (firsts-more ms n) ∙ others-more m n (firsts ms) (same n m) (has ms n) refl

-- ---- the code's names

abbrev pub use_eq : NameUse → NameUse → Bool
use_eq a b = bytes_eq a.text.now b.text.now && beq a.primed b.primed

pub has_use : (n : NameUse) (ks : List NameUse) → list_any (use_eq n) ks ≡ has (map name_of ks) (name_of n)
has_use n [] = refl
has_use n (k ∷ ks) = ap (λ b. use_eq n k || b) (has_use n ks)

inserted : (ks : List NameUse) (n : NameUse) (b : Bool)
    → map name_of (if b then ks else ks ++ n ∷ []) ≡ more b (map name_of ks) (name_of n)
unfolding more
inserted ks n true = refl
inserted ks n false = map_push name_of ks n

-- inserting a name keeps the first occurrences
pub inserted-firsts : (ks : List NameUse) (n : NameUse) (ns : List Name) → map name_of ks ≡ firsts ns
    → map name_of (insert_key use_eq ks n) ≡ firsts (ns ++ name_of n ∷ [])
unfolding more
inserted-firsts ks n ns e =
    inserted ks n (list_any (use_eq n) ks) ∙ (ap (λ b. more b (map name_of ks) (name_of n))
    (has_use n ks ∙ (ap (λ l. has l (name_of n)) e ∙ has-firsts ns (name_of n)))
    ∙ (ap (λ l. more (has ns (name_of n)) l (name_of n)) e ∙ sym (firsts-more ns (name_of n))))

pub place_of_use : (n : NameUse) (ks : List NameUse)
    → position_or_len (use_eq n) ks ≡ place_of (map name_of ks) (name_of n)
place_of_use n [] = refl
place_of_use n (k ∷ ks) = ap (λ r. cond (not (use_eq n k)) (1 + r) 0) (place_of_use n ks)

position-none : {X : Type 0} (p : X → Bool) (xs : List X) → position p xs ≡ None → position_or_len p xs ≡ length xs
position-none p xs h = by (nat_lt (position_or_len p xs) (length xs)) refl h
  where
    by : (b : Bool) → nat_lt (position_or_len p xs) (length xs) ≡ b → cond b (Some (position_or_len p xs)) None ≡ None
        → position_or_len p xs ≡ length xs
    by true e k = cc
    by false e k =
        let most = prefix_len-le-length (λ x. not (p x)) xs in
        let least = ltb-false (position_or_len p xs) (length xs) e in
        omega arith

pub place_found : (n : NameUse) (ks : List NameUse) (i : ℕ) → position (use_eq n) ks ≡ Some i
    → i ≡ place_of (map name_of ks) (name_of n)
place_found n ks i h = sym (position_at (use_eq n) ks i h) ∙ place_of_use n ks

pub place_missing : (n : NameUse) (ks : List NameUse) → position (use_eq n) ks ≡ None
    → length ks ≡ place_of (map name_of ks) (name_of n)
place_missing n ks h = sym (position-none (use_eq n) ks h) ∙ place_of_use n ks

-- one turn of a loop that inserts names in order
pub inserted-more : (uses : List NameUse) (i : ℕ) (d : NameUse) (ks new : List NameUse) → i < length uses
    → map name_of ks ≡ firsts (map name_of (take i uses)) → new ≡ insert_key use_eq ks (get_or uses i d)
    → map name_of new ≡ firsts (map name_of (take (i + 1) uses))
inserted-more uses i d ks new lt before e =
    ap (map name_of) e ∙ (inserted-firsts ks (get_or uses i d) (map name_of (take i uses)) before
    ∙ ap firsts (sym (ap (map name_of) (take_more uses i d lt) ∙ map_push name_of (take i uses) (get_or uses i d))))
