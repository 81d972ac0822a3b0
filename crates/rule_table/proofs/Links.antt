-- A bud's state satisfies the companion's antecedent after the substitution.
use Rattle.std.proofs.Common.{◌≡◌, ℕ, zero, suc, ◌+◌, ◌⊎◌, Bool, true, false, List, [], ◌∷◌, length, Some, refl, sym}
use Rattle.std.proofs.Common.{ap, subst, arith, inl, inr}
use Rattle.std.specs.Prelude.{slice_get}
use Rattle.heap_formula.specs.declared.terms.Term.{Term}
use Rattle.heap_formula.specs.declared.atoms.Pure.{Pure}
use Rattle.heap_formula.specs.declared.atoms.Pure.TheVariants.{Eq, Neq}
use Rattle.heap_formula.specs.declared.atoms.Spatial.{Spatial}
use Rattle.heap_formula.specs.declared.atoms.Spatial.TheVariants.{Cell, Pred}
use Rattle.heap_formula.specs.Words.{Each}
use Rattle.heap_formula.specs.Values.{Stack, value, values}
use Rattle.heap_formula.specs.Cells.{Cells, no_cells, Star}
use Rattle.heap_formula.specs.Meaning.{Family, IsCell, PureHolds, AtomHolds, SpatialHolds, Stages}
use Rattle.heap_formula.specs.Positions.{chosen, chosen_step, chosen_place, place_step}
use Rattle.rule_table.specs.RuleLink.{EachPair, HasPure, FollowsFrom, AreEquated, IsMatch, minus, MapsInto}
use Rattle.rule_table.specs.RuleLink.{mapped_stages, mirror_pure}
use Rattle.heap_formula.proofs.Unions.{star_swap, star_map, star_assoc_back, empty_star}

module _ (pures : List Pure) (s e : Stack) (hold : Each (PureHolds s e) pures) where
  mirrored : (x y : Pure) → (y ≡ x) ⊎ (y ≡ mirror_pure x) → PureHolds s e y → PureHolds s e x
  mirrored x y (inl q) h = subst (PureHolds s e) q h
  mirrored (Eq t u) y (inr q) h = let g : PureHolds s e (Eq u t) = subst (PureHolds s e) q h in sym g
  mirrored (Neq t u) y (inr q) h = let g : PureHolds s e (Neq u t) = subst (PureHolds s e) q h in λ p. g (sym p)

  among : (x : Pure) (ys : List Pure) → Each (PureHolds s e) ys → HasPure ys x → PureHolds s e x
  among x [] a o = absurd o
  among x (y ∷ ys) a (inl q) = mirrored x y q a.0
  among x (y ∷ ys) a (inr o) = among x ys a.1 o

  pub follows_holds : (x : Pure) → FollowsFrom pures x → PureHolds s e x
  follows_holds x (inl t) = subst (PureHolds s e) (sym t.1) refl
  follows_holds x (inr o) = among x pures hold o

  pub equated_value : (t u : Term) → AreEquated pures t u → value s e t ≡ value s e u
  equated_value t u (inl q) = ap (value s e) q
  equated_value t u (inr o) = among (Eq t u) pures hold o

  equated_values : (ts us : List Term) → EachPair (AreEquated pures) ts us → values s e ts ≡ values s e us
  equated_values [] [] q = refl
  equated_values [] (u ∷ us) q = absurd q
  equated_values (t ∷ ts) [] q = absurd q
  equated_values (t ∷ ts) (u ∷ us) q = λ i. equated_value t u q.0 i ∷ equated_values ts us q.1 i

  -- an atom holds where one that it matches does
  pub match_holds : (P : Family) (x y : Spatial) (h : Cells) → IsMatch pures x y → AtomHolds P s e y h
      → AtomHolds P s e x h
  match_holds P (Cell t ts) (Cell u us) h m a =
      subst (λ n. IsCell n (values s e ts) h) (sym (equated_value t u m.0))
      (subst (λ ns. IsCell (value s e u) ns h) (sym (equated_values ts us m.1)) a)
  match_holds P (Pred p ts) (Pred q us) h m a =
      subst (λ ns. P p ns h) (sym (equated_values ts us m.1)) (subst (λ r. P r (values s e us) h) (sym m.0) a)
  match_holds P (Cell t ts) (Pred q us) h m a = absurd m
  match_holds P (Pred p ts) (Cell u us) h m a = absurd m

module _ (G : ℕ → Family) (s e : Stack) where
  -- the atoms that p chooses, at their stages
  abbrev pub Chosen : (ℕ → Bool) → List Spatial → Stages → Cells → Type 0
  Chosen p xs stages h = SpatialHolds (λ k. G (stages (chosen_place p xs k))) s e (chosen p xs) h

  abbrev pub Stepped : Bool → Spatial → List Spatial → (ℕ → ℕ) → Stages → Cells → Type 0
  Stepped b x cs f stages h = SpatialHolds (λ k. G (stages (place_step b f k))) s e (chosen_step b x cs) h

  at_front : (b : Bool) (x y : Spatial) (cs : List Spatial) (f : ℕ → ℕ) (stages : Stages) (h : Cells) → b ≡ true → x ≡ y
      → Stepped b x cs f stages h → Star (AtomHolds (G (stages 0)) s e y) (Stepped false x cs f stages) h
  at_front true x y cs f stages h t same a = subst
      (λ z. Star (AtomHolds (G (stages 0)) s e z) (Stepped false x cs f stages) h) same a
  at_front false x y cs f stages h t same a = cc

  further : (b : Bool) (x y : Spatial) (m : ℕ) (cs ds : List Spatial) (f g : ℕ → ℕ) (stages : Stages) (h : Cells)
      → ((k : Cells) → SpatialHolds (λ j. G (stages (suc (f j)))) s e cs k
      → Star (AtomHolds (G (stages (suc m))) s e y) (SpatialHolds (λ j. G (stages (suc (g j)))) s e ds) k)
      → Stepped b x cs f stages h → Star (AtomHolds (G (stages (suc m))) s e y) (Stepped b x ds g stages) h
  further true x y m cs ds f g stages h rec a = star_swap (star_map (λ k b. b) rec a)
  further false x y m cs ds f g stages h rec a = rec h a

  pub take_chosen : (xs : List Spatial) (p : ℕ → Bool) (m : ℕ) (y : Spatial) (stages : Stages) (h : Cells)
      → slice_get xs m ≡ Some y → p m ≡ true → Chosen p xs stages h
      → Star (AtomHolds (G (stages m)) s e y) (Chosen (minus m p) xs stages) h
  take_chosen [] p m y stages h at free a = cc
  take_chosen (x ∷ xs) p zero y stages h at free a =
      at_front (p 0) x y (chosen (λ k. p (suc k)) xs) (chosen_place (λ k. p (suc k)) xs) stages h free (cc) a
  take_chosen (x ∷ xs) p (suc m) y stages h at free a =
      further (p 0) x y m (chosen (λ k. p (suc k)) xs) (chosen (minus m (λ k. p (suc k))) xs)
      (chosen_place (λ k. p (suc k)) xs) (chosen_place (minus m (λ k. p (suc k))) xs) stages h
      (λ g b. take_chosen xs (λ k. p (suc k)) m y (λ k. stages (suc k)) g at free b) a

-- what no atom of the map takes
abbrev pub left_over : List ℕ → (ℕ → Bool) → ℕ → Bool
left_over [] p k = p k
left_over (m ∷ ms) p k = left_over ms (minus m p) k

module _ (G : ℕ → Family) (s e : Stack) (pures : List Pure) (hold : Each (PureHolds s e) pures) where
  pub mapped_hold : (atoms : List Spatial) (ms : List ℕ) (xs : List Spatial) (p : ℕ → Bool) (stages : Stages)
      (h : Cells) → MapsInto pures atoms p ms xs → Chosen G s e p atoms stages h
      → Star (SpatialHolds (λ k. G (mapped_stages ms stages k)) s e xs) (Chosen G s e (left_over ms p) atoms stages) h
  mapped_hold atoms [] [] p stages h maps a = empty_star a
  mapped_hold atoms [] (x ∷ xs) p stages h maps a = absurd maps
  mapped_hold atoms (m ∷ ms) [] p stages h maps a = absurd maps
  mapped_hold atoms (m ∷ ms) (x ∷ xs) p stages h maps a =
      star_assoc_back (star_map (λ g b. match_holds pures s e hold (G (stages m)) x maps.0 g maps.3 b)
      (λ g b. mapped_hold atoms ms xs (minus m p) stages g maps.4 b)
      (take_chosen G s e atoms p m maps.0 stages h maps.1 maps.2 a))

-- ---- where the map takes every atom, nothing is left

one_less : (b : Bool) (x : Spatial) (cs : List Spatial) → b ≡ true → length cs + 1 ≡ length (chosen_step b x cs)
one_less true x cs t = omega arith
one_less false x cs t = cc

still : (b : Bool) (x : Spatial) (cs ds : List Spatial) → length cs + 1 ≡ length ds
    → length (chosen_step b x cs) + 1 ≡ length (chosen_step b x ds)
still true x cs ds h = omega arith
still false x cs ds h = h

length_minus : (xs : List Spatial) (p : ℕ → Bool) (m : ℕ) (y : Spatial) → slice_get xs m ≡ Some y → p m ≡ true
    → length (chosen (minus m p) xs) + 1 ≡ length (chosen p xs)
length_minus [] p m y at free = cc
length_minus (x ∷ xs) p zero y at free = one_less (p 0) x (chosen (λ k. p (suc k)) xs) free
length_minus (x ∷ xs) p (suc m) y at free =
    still (p 0) x (chosen (minus m (λ k. p (suc k))) xs) (chosen (λ k. p (suc k)) xs)
    (length_minus xs (λ k. p (suc k)) m y at free)

pub length_left : (pures : List Pure) (atoms : List Spatial) (p : ℕ → Bool) (ms : List ℕ) (xs : List Spatial)
    → MapsInto pures atoms p ms xs → length (chosen (left_over ms p) atoms) + length xs ≡ length (chosen p atoms)
length_left pures atoms p [] [] m = omega arith
length_left pures atoms p [] (x ∷ xs) m = absurd m
length_left pures atoms p (k ∷ ms) [] m = absurd m
length_left pures atoms p (k ∷ ms) (x ∷ xs) m =
    let r = length_left pures atoms (minus k p) ms xs m.4 in
    let l = length_minus atoms p k m.0 m.1 m.2 in omega arith

pub none_left : (P : ℕ → Family) (s e : Stack) (xs : List Spatial) (h : Cells) → length xs ≡ 0 → SpatialHolds P s e xs h
    → h ≡ no_cells
none_left P s e [] h l a = a
none_left P s e (x ∷ xs) h l a = absurd (omega arith)
