-- Choices as they are listed.
use Rattle.std.proofs.Common.{◌≡◌, ℕ, zero, suc, ◌<◌, ◌≤◌, Bool, true, false, ◌||◌, cond, List, [], ◌∷◌, length, map}
use Rattle.std.proofs.Common.{take, refl, sym, ap, ◌∙◌, arith}
use Rattle.std.specs.List.{filter, list_any, zip}
use Rattle.std.proofs.lemmas.List.{take-map}
use Rattle.fo_formula.specs.declared.atoms.FoAtom.{FoAtom}
use Rattle.fo_formula.specs.declared.sequents.FoSequent.{FoSequent}
use Rattle.fo_formula.specs.Sizes.{atom_size, atoms_size}
use Rattle.fo_formula.specs.Words.{Word}
use Rattle.fo_formula.specs.Tests.{same_atom}
use Rattle.fo_formula.proofs.Reflects.{atom_is}
use Rattle.fo_rules.specs.Capping.{capped}
use Rattle.fo_rules.proofs.Measuring.{size-cons}
use Rattle.fo_search.specs.Subterms.{subterms, lists_of}
use Rattle.fo_search.specs.Links.{variables, link_by, is_fit, links_to}

kept_mapped : {X Y Z : Type 0} (p : Z → Bool) (g : Y → Z) (h : X → Y) (xs : List X)
    → map (λ x. g (h x)) (filter (λ x. p (g (h x))) xs) ≡ filter p (map g (map h xs))
kept_mapped p g h [] = refl
kept_mapped {Z = Z} p g h (x ∷ xs) = branch (p (g (h x))) (kept_mapped p g h xs)
  where
    branch : (b : Bool) → map (λ x. g (h x)) (filter (λ x. p (g (h x))) xs) ≡ filter p (map g (map h xs))
        → map (λ x. g (h x)) (cond b (x ∷ filter (λ x. p (g (h x))) xs) (filter (λ x. p (g (h x))) xs))
        ≡ cond b (g (h x) ∷ filter p (map g (map h xs))) (filter p (map g (map h xs)))
    branch true rest = ap (λ (zs : List Z). g (h x) ∷ zs) rest
    branch false rest = rest

-- what the first of the right choices give, and the first right ones of what all choices give
pub first_mapped : {X Y Z : Type 0} (n : ℕ) (p : Z → Bool) (g : Y → Z) (h : X → Y) (xs : List X)
    → map (λ x. g (h x)) (take n (filter (λ x. p (g (h x))) xs)) ≡ take n (filter p (map g (map h xs)))
first_mapped n p g h xs = sym (take-map (λ x. g (h x)) n (filter (λ x. p (g (h x))) xs))
    ∙ ap (take n) (kept_mapped p g h xs)

-- fewer than so many are all
pub all_taken : {X : Type 0} (n : ℕ) (xs : List X) → length (take n xs) < n → take n xs ≡ xs
all_taken zero xs h = absurd (omega arith)
all_taken (suc n) [] h = refl
all_taken {X} (suc n) (x ∷ xs) h = ap (λ (ys : List X). x ∷ ys) (all_taken n xs (omega arith))

-- an atom that is larger than others together is none of them
pub large_absent : (x : FoAtom) (atoms : List FoAtom) → atoms_size atoms < atom_size x
    → list_any (λ y. same_atom y x) atoms ≡ false
large_absent x [] h = refl
large_absent x (y ∷ ys) h = branch (same_atom y x) refl
    (large_absent x ys (let all = size-cons atom_size y ys in omega arith))
  where
    branch : (b : Bool) → same_atom y x ≡ b → list_any (λ y. same_atom y x) ys ≡ false
        → list_any (λ y. same_atom y x) (y ∷ ys) ≡ false
    branch true e rest = absurd (let same = ap atom_size (atom_is y x e) in let all = size-cons atom_size y ys in
        omega arith)
    branch false e rest = ap (λ b. b || list_any (λ y. same_atom y x) ys) e ∙ rest

pub capped_absent : (x : FoAtom) (atoms : List FoAtom) (n : ℕ) → atoms_size atoms ≤ 4096 → n ≡ capped (atom_size x)
    → 4096 < n → list_any (λ y. same_atom y x) atoms ≡ false
capped_absent x atoms n small is large = large_absent x atoms (omega arith)

-- the first right choices give the first links
pub links_first : (most : ℕ) (bud companion : FoSequent) (number : ℕ) (sources : List ℕ) (values : List Word)
    (count : ℕ) (found : List (List Word)) → sources ≡ variables companion → values ≡ subterms bud
    → count ≡ length (variables companion) → found ≡ take most
    (filter (λ ts. is_fit bud companion (link_by bud companion number (zip sources ts))) (lists_of count values))
    → map (λ ts. link_by bud companion number (zip sources ts)) found ≡ links_to most bud companion number
links_first most bud companion number sources values count found s v k e =
    ap (map (λ (ts : List Word). link_by bud companion number (zip sources ts))) e
    ∙ (λ i. map (λ (ts : List Word). link_by bud companion number (zip (s i) ts))
    (take most (filter (λ (ts : List Word). is_fit bud companion (link_by bud companion number (zip (s i) ts)))
    (lists_of (k i) (v i)))))
    ∙ first_mapped most (is_fit bud companion) (link_by bud companion number) (zip (variables companion))
    (lists_of (length (variables companion)) (subterms bud))
