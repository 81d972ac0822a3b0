-- The term that a variable's value has to equal, since an atom with the variable has a place.
use Rattle.std.proofs.Common.{◌≡◌, ℕ, suc, ◌<◌, ◌≤◌, Bool, true, false, List, [], ◌∷◌, length, drop, get_or, ◌&&◌, ◌||◌}
use Rattle.std.proofs.Common.{◌+◌, refl, sym, ap, subst, ◌∙◌, arith, drop-cons, Option, Some, None}
use Rattle.std.specs.Prelude.{nat_eq, not, slice_get, if◌then◌else◌}
use Rattle.std.proofs.lemmas.Bool.{both_ways, and_right, not-true}
use Rattle.std.proofs.lemmas.Bool.Decides.{Decides-eqb}
use Rattle.std.proofs.lemmas.List.{drop_all}
use Rattle.heap_formula.specs.declared.terms.Term.{Term}
use Rattle.heap_formula.specs.declared.terms.Term.TheVariants.{Nil, Univ, Exist}
use Rattle.heap_formula.specs.declared.atoms.Pure.{Pure}
use Rattle.heap_formula.specs.declared.atoms.Spatial.{Spatial}
use Rattle.heap_formula.specs.declared.atoms.Spatial.TheVariants.{Cell, Pred}
use Rattle.heap_formula.specs.Substitution.{Bindings}
use Rattle.rule_table.specs.Tests.{same_term, equated}
use Rattle.back_links.specs.Listing.{is_one_of, stands_in_spatial}
use Rattle.back_links.specs.Prospects.{lookup, known, could_equal, could_equal_all, could_match, could_match_some}
use Rattle.back_links.specs.Prospects.{could_match_those, opposite_in, opposite, is_ruled_out}

-- ---- the loop over two lists of terms
pub second_short : (n : ℕ) (ts us : List Term) (i : ℕ) → length us ≤ i → i < length ts
    → opposite_in n (drop i ts) (drop i us) ≡ None
second_short n ts us i le lt = λ j. opposite_in n (drop-cons ts i Nil lt j) (drop_all i us le j)

pub first_short : (n : ℕ) (ts us : List Term) (i : ℕ) → length ts ≤ i → opposite_in n (drop i ts) (drop i us) ≡ None
first_short n ts us i le = ap (λ (xs : List Term). opposite_in n xs (drop i us)) (drop_all i ts le)

pub next_terms : (n : ℕ) (ts us : List Term) (i : ℕ) → i < length ts → i < length us
    → same_term (get_or ts i Nil) (Univ n) ≡ false → opposite_in n (drop (i + 1) ts) (drop (i + 1) us)
    ≡ opposite_in n (drop i ts) (drop i us)
next_terms n ts us i lt lu other =
    let next : suc i ≡ i + 1 = omega arith in
    subst (λ (k : ℕ). opposite_in n (drop k ts) (drop k us) ≡ opposite_in n (drop i ts) (drop i us)) next
    (sym ((λ j. opposite_in n (drop-cons ts i Nil lt j) (drop-cons us i Nil lu j))
    ∙ ap (λ (b : Bool). if b then Some (get_or us i Nil) else opposite_in n (drop (suc i) ts) (drop (suc i) us)) other))

-- ---- a term that stands opposite the variable is to be equal to its value
stands : (n : ℕ) (t u : Term) (ts us : List Term) (w : Term) → (b : Bool) → same_term t (Univ n) ≡ b
    → (if b then Some u else opposite_in n ts us) ≡ Some w → (opposite_in n ts us ≡ Some w → is_one_of n ts ≡ true)
    → (same_term t (Univ n) || is_one_of n ts) ≡ true
stands n t u ts us w true e h rest = ap (λ (b : Bool). b || is_one_of n ts) e
stands n t u ts us w false e h rest = ap (λ (b : Bool). b || is_one_of n ts) e ∙ rest h

stands_in_terms : (n : ℕ) (ts us : List Term) (w : Term) → opposite_in n ts us ≡ Some w → is_one_of n ts ≡ true
stands_in_terms n [] us w h = absurd (let e : None ≡ Some w = h in cc)
stands_in_terms n (t ∷ ts) [] w h = absurd (let e : None ≡ Some w = h in cc)
stands_in_terms n (t ∷ ts) (u ∷ us) w h = stands n t u ts us w (same_term t (Univ n)) refl h (stands_in_terms n ts us w)

stands_in_atom : (n : ℕ) (x y : Spatial) (w : Term) → opposite n x y ≡ Some w → stands_in_spatial n x ≡ true
stands_in_atom n (Cell t ts) (Cell u us) w h = stands n t u ts us w (same_term t (Univ n)) refl h
    (stands_in_terms n ts us w)
stands_in_atom n (Pred p ts) (Pred q us) w h = stands_in_terms n ts us w h
stands_in_atom n (Cell t ts) (Pred q us) w h = absurd (let e : None ≡ Some w = h in cc)
stands_in_atom n (Pred p ts) (Cell u us) w h = absurd (let e : None ≡ Some w = h in cc)

-- a term that is the variable is known to be its value
known_is : (s : Bindings) (n : ℕ) (t v : Term) → same_term t (Univ n) ≡ true → lookup s n ≡ Some v → known s t ≡ Some v
known_is s n Nil v e h = absurd (both_ways false refl e)
known_is s n (Exist m) v e h = absurd (both_ways false refl e)
known_is s n (Univ m) v e h = let same : m ≡ n = (Decides-eqb m n).0 e in ap (lookup s) same ∙ h

unequal_here : (pures : List Pure) (s : Bindings) (n : ℕ) (t v u w : Term) (ts us : List Term) (rest : Bool)
    → (b : Bool) → same_term t (Univ n) ≡ b → lookup s n ≡ Some v → equated pures v w ≡ false
    → (if b then Some u else opposite_in n ts us) ≡ Some w → (opposite_in n ts us ≡ Some w → rest ≡ false)
    → (could_equal pures (known s t) u && rest) ≡ false
unequal_here pures s n t v u w ts us rest true e l out h later =
    let same : u ≡ w = let x : Some u ≡ Some w = h in cc in
    ap (λ (b : Bool). b && rest) (ap (λ (k : Option Term). could_equal pures k u) (known_is s n t v e l)
    ∙ (ap (equated pures v) same ∙ out))
unequal_here pures s n t v u w ts us rest false e l out h later = and_right (could_equal pures (known s t) u) rest
    (later h)

unequal_terms : (pures : List Pure) (s : Bindings) (n : ℕ) (v w : Term) → lookup s n ≡ Some v
    → equated pures v w ≡ false → (ts us : List Term) → opposite_in n ts us ≡ Some w
    → could_equal_all pures s ts us ≡ false
unequal_terms pures s n v w l out [] us h = absurd (let e : None ≡ Some w = h in cc)
unequal_terms pures s n v w l out (t ∷ ts) [] h = absurd (let e : None ≡ Some w = h in cc)
unequal_terms pures s n v w l out (t ∷ ts) (u ∷ us) h =
    unequal_here pures s n t v u w ts us (could_equal_all pures s ts us) (same_term t (Univ n)) refl l out h
    (unequal_terms pures s n v w l out ts us)

unequal_atoms : (pures : List Pure) (s : Bindings) (n : ℕ) (v w : Term) → lookup s n ≡ Some v
    → equated pures v w ≡ false → (x y : Spatial) → opposite n x y ≡ Some w → could_match pures s x y ≡ false
unequal_atoms pures s n v w l out (Cell t ts) (Cell u us) h =
    unequal_here pures s n t v u w ts us (could_equal_all pures s ts us) (same_term t (Univ n)) refl l out h
    (unequal_terms pures s n v w l out ts us)
unequal_atoms pures s n v w l out (Pred p ts) (Pred q us) h = and_right (nat_eq p q) (could_equal_all pures s ts us)
    (unequal_terms pures s n v w l out ts us h)
unequal_atoms pures s n v w l out (Cell t ts) (Pred q us) h = absurd (let e : None ≡ Some w = h in cc)
unequal_atoms pures s n v w l out (Pred p ts) (Cell u us) h = absurd (let e : None ≡ Some w = h in cc)

-- what is ruled out is a value, and a term that it is not equal to
pub record RuledOut (pures : List Pure) (value term : Option Term) : Type 0 where
  pub v : Term
  pub w : Term
  pub is_v : value ≡ Some v
  pub is_w : term ≡ Some w
  pub out : equated pures v w ≡ false

ruled_out : (pures : List Pure) (value term : Option Term) → is_ruled_out pures value term ≡ true
    → RuledOut pures value term
ruled_out pures None u h = absurd (both_ways false refl h)
ruled_out pures (Some v) None h = absurd (both_ways false refl h)
ruled_out pures (Some v) (Some w) h = record {
  v = v;
  w = w;
  is_v = refl;
  is_w = refl;
  out = not-true (equated pures v w) h;
}

-- the first placed atom with the variable does not match then
pub forced : (n : ℕ) (pures : List Pure) (atoms : List Spatial) (s : Bindings) (ms : List ℕ) (xs : List Spatial) (i : ℕ)
    (x y : Spatial) → i < length ms → i < length xs → get_or xs i x ≡ x → slice_get atoms (get_or ms i 0) ≡ Some y →
    is_ruled_out pures (lookup s n) (opposite n x y) ≡ true
    → could_match_those n pures atoms s (drop i ms) (drop i xs) ≡ false
forced n pures atoms s ms xs i x y lm lx at there out =
    let r = ruled_out pures (lookup s n) (opposite n x y) out in
    (λ j. could_match_those n pures atoms s (drop-cons ms i 0 lm j) (drop-cons xs i x lx j))
    ∙ ((λ j. (not (stands_in_spatial n (at j)) || could_match_some pures s (at j) (there j))
    && could_match_those n pures atoms s (drop (suc i) ms) (drop (suc i) xs))
    ∙ ap (λ (b : Bool). b && could_match_those n pures atoms s (drop (suc i) ms) (drop (suc i) xs))
    ((λ j. not (stands_in_atom n x y r.w r.is_w j) || unequal_atoms pures s n r.v r.w r.is_v r.out x y r.is_w j)))
