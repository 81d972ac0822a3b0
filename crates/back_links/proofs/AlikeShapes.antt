-- A link without a fault relates lists of atoms of the same shapes.
use Rattle.std.proofs.Common.{◌≡◌, ℕ, zero, suc, ◌+◌, ◌≤◌, Bool, true, false, ◌&&◌, ◌||◌, cond, List, [], ◌∷◌, map}
use Rattle.std.proofs.Common.{length, Some, refl, sym, ap, ◌∙◌, arith}
use Rattle.std.specs.Prelude.{slice_get, nat_eq, count_by}
use Rattle.std.specs.List.{list_any, list_all}
use Rattle.std.proofs.lemmas.List.{length-map}
use Rattle.std.proofs.lemmas.List.Sums.{sum_by-cons}
use Rattle.std.proofs.lemmas.Bool.{le-leb, and_from as both_true}
use Rattle.std.proofs.lemmas.Bool.Decides.{Decides-eqb}
use Rattle.heap_formula.specs.declared.atoms.Pure.{Pure}
use Rattle.heap_formula.specs.declared.atoms.Spatial.{Spatial}
use Rattle.heap_formula.specs.declared.atoms.Spatial.TheVariants.{Cell, Pred}
use Rattle.heap_formula.specs.Symbolic.{SymbolicHeap}
use Rattle.heap_formula.specs.Positions.{chosen, chosen_step, without}
use Rattle.heap_formula.specs.Substitution.{Bindings, apply_term, apply_spatial, apply_heap}
use Rattle.rule_table.specs.RuleLink.{EachPair, IsMatch, minus, MapsInto, SameAtoms, DisjunctsCover}
use Rattle.rule_table.proofs.Links.{length_left}
use Rattle.rule_table.proofs.Multisets.{stands, counted_itself}
use Rattle.back_links.specs.Shapes.{same_shape, has_as_many, has_shapes, same_shapes, some_has_shapes}

count-cons : {X : Type 0} (p : X → Bool) (x : X) (xs : List X) → count_by p (x ∷ xs) ≡ cond (p x) 1 0 + count_by p xs
count-cons p x xs = sum_by-cons (λ y. cond (p y) 1 0) x xs

-- ---- what keeps an atom's shape

pairs_length : {X Y : Type 0} (R : X → Y → Type 0) (xs : List X) (ys : List Y) → EachPair R xs ys
    → length xs ≡ length ys
pairs_length R [] [] h = refl
pairs_length R [] (y ∷ ys) h = absurd h
pairs_length R (x ∷ xs) [] h = absurd h
pairs_length R (x ∷ xs) (y ∷ ys) h = ap suc (pairs_length R xs ys h.1)

match_shape : (pures : List Pure) (z x y : Spatial) → IsMatch pures x y → same_shape z x ≡ same_shape z y
match_shape pures (Cell r rs) (Cell t ts) (Cell u us) m = ap (λ n. nat_eq (length rs) n) (pairs_length _ ts us m.1)
match_shape pures (Pred o rs) (Cell t ts) (Cell u us) m = refl
match_shape pures (Cell r rs) (Pred p ts) (Pred q us) m = refl
match_shape pures (Pred o rs) (Pred p ts) (Pred q us) m = λ i.
    nat_eq o (m.0 i) && nat_eq (length rs) (pairs_length _ ts us m.1 i)
match_shape pures z (Cell t ts) (Pred q us) m = absurd m
match_shape pures z (Pred p ts) (Cell u us) m = absurd m

sent_shape : (s : Bindings) (z x : Spatial) → same_shape z (apply_spatial s x) ≡ same_shape z x
sent_shape s (Cell r rs) (Cell t ts) = ap (λ n. nat_eq (length rs) n) (length-map ts (apply_term s))
sent_shape s (Cell r rs) (Pred p ts) = refl
sent_shape s (Pred o rs) (Cell t ts) = refl
sent_shape s (Pred o rs) (Pred p ts) = ap (λ n. nat_eq o p && nat_eq (length rs) n) (length-map ts (apply_term s))

sent_count : (s : Bindings) (z : Spatial) (xs : List Spatial)
    → count_by (same_shape z) (map (apply_spatial s) xs) ≡ count_by (same_shape z) xs
sent_count s z [] = refl
sent_count s z (x ∷ xs) =
    count-cons (same_shape z) (apply_spatial s x) (map (apply_spatial s) xs)
    ∙ (λ i. cond (sent_shape s z x i) 1 0 + sent_count s z xs i) ∙ sym (count-cons (same_shape z) x xs)

-- ---- the atoms that a map takes

all_chosen : {X : Type 0} (xs : List X) → chosen (λ _. true) xs ≡ xs
all_chosen [] = refl
all_chosen {X} (x ∷ xs) = ap (λ (ys : List X). x ∷ ys) (all_chosen xs)

module _ (p : Spatial → Bool) where
  taken_here : (b : Bool) (x y : Spatial) (cs : List Spatial) → b ≡ true → x ≡ y
      → count_by p (chosen_step b x cs) ≡ cond (p y) 1 0 + count_by p cs
  taken_here true x y cs t same = count-cons p x cs ∙ ap (λ (z : Spatial). cond (p z) 1 0 + count_by p cs) same
  taken_here false x y cs t same = cc

  taken_there : (b : Bool) (x : Spatial) (n : ℕ) (cs ds : List Spatial) → count_by p cs ≡ n + count_by p ds
      → count_by p (chosen_step b x cs) ≡ n + count_by p (chosen_step b x ds)
  taken_there true x n cs ds h = let a = count-cons p x cs in let b = count-cons p x ds in omega arith
  taken_there false x n cs ds h = h

  pub count_minus : (xs : List Spatial) (free : ℕ → Bool) (m : ℕ) (y : Spatial) → slice_get xs m ≡ Some y
      → free m ≡ true → count_by p (chosen free xs) ≡ cond (p y) 1 0 + count_by p (chosen (minus m free) xs)
  count_minus [] free m y at t = cc
  count_minus (x ∷ xs) free zero y at t = taken_here (free 0) x y (chosen (λ k. free (suc k)) xs) t (cc)
  count_minus (x ∷ xs) free (suc m) y at t =
      taken_there (free 0) x (cond (p y) 1 0) (chosen (λ k. free (suc k)) xs) (chosen (minus m (λ k. free (suc k))) xs)
      (count_minus xs (λ k. free (suc k)) m y at t)

  count_without : (xs : List Spatial) (m : ℕ) (y : Spatial) → slice_get xs m ≡ Some y
      → count_by p xs ≡ cond (p y) 1 0 + count_by p (without m xs)
  count_without [] m y at = cc
  count_without (x ∷ xs) zero y at = let same : x ≡ y = cc in
      count-cons p x xs ∙ ap (λ (z : Spatial). cond (p z) 1 0 + count_by p xs) same
  count_without (x ∷ xs) (suc m) y at =
      let h = count_without xs m y at in
      let a = count-cons p x xs in
      let b = count-cons p x (without m xs) in
      omega arith

mapped_count : (pures : List Pure) (atoms : List Spatial) (z : Spatial) (free : ℕ → Bool) (ms : List ℕ)
    (xs : List Spatial) → MapsInto pures atoms free ms xs → count_by (same_shape z) xs ≤ count_by (same_shape z)
    (chosen free atoms)
mapped_count pures atoms z free [] [] m = omega arith
mapped_count pures atoms z free [] (x ∷ xs) m = absurd m
mapped_count pures atoms z free (k ∷ ms) [] m = absurd m
mapped_count pures atoms z free (k ∷ ms) (x ∷ xs) m =
    let rest = mapped_count pures atoms z (minus k free) ms xs m.4 in
    let here = count_minus (same_shape z) atoms free k m.0 m.1 m.2 in
    let same = ap (λ b. cond {A = ℕ} b 1 0) (match_shape pures z x m.0 m.3) in
    let a = count-cons (same_shape z) x xs in
    omega (arith, same)

-- ---- lists with the same atoms

same_count : (p : Spatial → Bool) (xs ys : List Spatial) → SameAtoms xs ys → count_by p xs ≡ count_by p ys
same_count p [] [] same = refl
same_count p [] (y ∷ ys) same = let c = counted_itself y ys in let q = same y in absurd (omega arith)
same_count p (x ∷ xs) ys same =
    let c = counted_itself x xs in
    let q = same x in
    let r = stands x ys (omega arith) in
    let rest : SameAtoms xs (without r.place ys) = λ z. let t = same z in let u = r.others z in omega arith in
    count-cons p x xs ∙ ap (λ n. cond (p x) 1 0 + n) (same_count p xs (without r.place ys) rest)
    ∙ sym (count_without p ys r.place x r.at)

pub count_all : (xs : List Spatial) → count_by (λ _. true) xs ≡ length xs
count_all [] = refl
count_all (x ∷ xs) = let h = count_all xs in let a = count-cons (λ (y : Spatial). true) x xs in omega arith

-- ---- the tests

shapes_hold : (atoms xs : List Spatial) → ((z : Spatial) → count_by (same_shape z) xs ≤ count_by (same_shape z) atoms)
    → has_shapes atoms xs ≡ true
unfolding has_as_many
shapes_hold atoms xs h = each xs
  where
    one : (z : Spatial) → has_as_many atoms xs z ≡ true
    one z = le-leb (count_by (same_shape z) xs) (count_by (same_shape z) atoms) (h z)

    each : (zs : List Spatial) → list_all (has_as_many atoms xs) zs ≡ true
    each [] = refl
    each (z ∷ zs) = both_true (has_as_many atoms xs z) (list_all (has_as_many atoms xs) zs) (one z) (each zs)

-- a map into the atoms, of atoms to which a substitution sends a list's
pub mapped_shapes : (pures : List Pure) (atoms : List Spatial) (ms : List ℕ) (s : Bindings) (xs : List Spatial)
    → MapsInto pures atoms (λ _. true) ms (map (apply_spatial s) xs) → has_shapes atoms xs ≡ true
mapped_shapes pures atoms ms s xs m =
    shapes_hold atoms xs (λ z. let c = mapped_count pures atoms z (λ _. true) ms (map (apply_spatial s) xs) m in
    let e = sent_count s z xs in let a = ap (λ (ys : List Spatial). count_by (same_shape z) ys) (all_chosen atoms)
    in omega arith)

-- the map takes all of them
pub mapped_whole : (pures : List Pure) (atoms : List Spatial) (ms : List ℕ) (s : Bindings) (xs : List Spatial)
    → length atoms ≤ length xs → MapsInto pures atoms (λ _. true) ms (map (apply_spatial s) xs)
    → same_shapes atoms xs ≡ true
mapped_whole pures atoms ms s xs le m =
    let left = length_left pures atoms (λ _. true) ms (map (apply_spatial s) xs) m in
    let a = ap (λ (ys : List Spatial). length ys) (all_chosen atoms) in
    let l = length-map xs (apply_spatial s) in
    both_true (nat_eq (length atoms) (length xs)) (has_shapes atoms xs)
    ((Decides-eqb (length atoms) (length xs)).1 (omega arith)) (mapped_shapes pures atoms ms s xs m)

same_atoms_shapes : (s : Bindings) (atoms xs : List Spatial) → SameAtoms atoms (map (apply_spatial s) xs)
    → same_shapes atoms xs ≡ true
same_atoms_shapes s atoms xs same =
    let n = same_count (λ _. true) atoms (map (apply_spatial s) xs) same in
    let a = count_all atoms in
    let b = count_all (map (apply_spatial s) xs) in
    let l = length-map xs (apply_spatial s) in
    both_true (nat_eq (length atoms) (length xs)) (has_shapes atoms xs)
    ((Decides-eqb (length atoms) (length xs)).1 (omega arith))
    (shapes_hold atoms xs (λ z. let c = same_count (same_shape z) atoms (map (apply_spatial s) xs) same in
    let e = sent_count s z xs in omega arith))

pub some_there : {X : Type 0} (p : X → Bool) (bs : List X) (k : ℕ) (b : X) → slice_get bs k ≡ Some b → p b ≡ true
    → list_any p bs ≡ true
some_there p [] k b at t = cc
some_there p (c ∷ bs) zero b at t = let same : c ≡ b = cc in here (p c) (ap p same ∙ t)
  where
    here : (v : Bool) → v ≡ true → v || list_any p bs ≡ true
    here true e = refl
    here false e = cc
some_there p (c ∷ bs) (suc k) b at t = there (p c) (some_there p bs k b at t)
  where
    there : (v : Bool) → list_any p bs ≡ true → v || list_any p bs ≡ true
    there true e = refl
    there false e = e

pub covered_shapes : (s : Bindings) (bs : List SymbolicHeap) (ks : List ℕ) (cs : List SymbolicHeap)
    → DisjunctsCover bs ks (map (apply_heap s) cs) → list_all (some_has_shapes bs) cs ≡ true
covered_shapes s bs ks [] d = refl
covered_shapes s bs [] (c ∷ cs) d = absurd d
covered_shapes s bs (k ∷ ks) (c ∷ cs) d =
    both_true (some_has_shapes bs c) (list_all (some_has_shapes bs) cs)
    (some_there (λ b. same_shapes b.spatial c.spatial) bs k d.0 d.1
    (same_atoms_shapes s d.0.spatial c.spatial d.2.spatial)) (covered_shapes s bs ks cs d.3)
