-- Links are sound.
use Rattle.std.proofs.Common.{◌≡◌, ◌↔◌, ℕ, suc, Bool, true, false, List, [], ◌∷◌, ◌++◌, map, Option, Some, None}
use Rattle.std.proofs.Common.{slice_get, refl, sym, ap, arith, append-nil, inl, inr}
use Rattle.std.specs.Prelude.{nat_eq, if◌then◌else◌, slice_index}
use Rattle.std.specs.Option.{option_map}
use Rattle.heap_formula.specs.Words.{Each, OneOf}
use Rattle.heap_formula.specs.Meaning.{Stages}
use Rattle.fo_formula.specs.declared.terms.Sign.{Sign}
use Rattle.fo_formula.specs.declared.terms.Sign.TheVariants.{Universal, Local, Constructor}
use Rattle.fo_formula.specs.declared.atoms.FoAtom.{FoAtom}
use Rattle.fo_formula.specs.declared.nodes.FoLink.{FoLink}
use Rattle.fo_formula.specs.declared.numbers.Kind.TheVariants.{Variables}
use Rattle.fo_formula.specs.declared.sequents.FoSequent.{FoSequent}
use Rattle.fo_formula.specs.declared.theory.Constructor.{Constructor as ConstructorValue}
use Rattle.fo_formula.specs.declared.theory.FoTheory.{FoTheory}
use Rattle.fo_formula.specs.Words.{Word, in_atom}
use Rattle.fo_formula.specs.Values.{IsClosedTerm, IsValuation, entry, value}
use Rattle.fo_formula.specs.Meaning.{Family, AtomHolds, at_stage, least}
use Rattle.fo_formula.specs.Validity.{LeftHolds}
use Rattle.fo_formula.specs.Bounds.{sequent_bound}
use Rattle.fo_formula.specs.Shapes.{IsOpenTerm, HasConstant}
use Rattle.fo_formula.proofs.Replacing.{InAtom, IsValued, atom-replaced, value_closed}
use Rattle.fo_formula.specs.declared.table.faults.FoFault.{FoFault}
use Rattle.fo_formula.specs.declared.table.faults.FoFault.TheVariants.{LinkLeft, LinkRight}
use Rattle.fo_formula.specs.Table.{Bindings, image, image_sign}
use Rattle.fo_formula.specs.LinkTable.{first_of, is_atom, place_unless, map_place, linked, link_fault, link_premise}
use Rattle.fo_formula.specs.Soundness.{IsLocallySound, HasOpenValues}
use Rattle.fo_formula.proofs.Lefts.{left_at, pairs_follow}
use Rattle.fo_formula.proofs.Reflects.{atom_is}
use Rattle.fo_formula.proofs.Agreement.{IsBelow, atoms_below, in_atom_map, tabulated-at, tabulated_each}
use Rattle.cyc_basics.specs.Words.{tabulated}
use Rattle.heap_formula.proofs.AllMembers.{each_append}
use Rattle.heap_formula.proofs.SomeMember.{one_at}

-- ---- what a map without a fault names

-- each entry names the atom at its place
abbrev pub Names : List FoAtom → List ℕ → List FoAtom → Type 0
Names atoms [] [] = Unit {0}
Names atoms [] (x ∷ xs) = ⊥
Names atoms (m ∷ ms) [] = ⊥
Names atoms (m ∷ ms) (x ∷ xs) = (slice_get atoms m ≡ Some x) × Names atoms ms xs

pub first_none : (f g : Option FoFault) → first_of f g ≡ None → (f ≡ None) × (g ≡ None)
first_none None g e = (refl, e)
first_none (Some f) g e = absurd cc

map_none : (f : ℕ → FoFault) (o : Option ℕ) → option_map f o ≡ None → o ≡ None
map_none f None e = refl
map_none f (Some k) e = absurd cc

pub unless_none : (b : Bool) (k : ℕ) (rest : Option ℕ) → place_unless b k rest ≡ None → (b ≡ true) × (rest ≡ None)
unless_none true k rest e = (refl, e)
unless_none false k rest e = absurd cc

atom_there : (x : FoAtom) (o : Option FoAtom) → is_atom x o ≡ true → o ≡ Some x
atom_there x None e = cc
atom_there x (Some y) e = ap Some (atom_is y x e)

pub map_names : (atoms : List FoAtom) (k : ℕ) (ms : List ℕ) (xs : List FoAtom) → map_place atoms k ms xs ≡ None
    → Names atoms ms xs
map_names atoms k [] [] e = tt
map_names atoms k [] (x ∷ xs) e = absurd cc
map_names atoms k (m ∷ ms) [] e = absurd cc
map_names atoms k (m ∷ ms) (x ∷ xs) e =
    let p = unless_none (is_atom x (slice_get atoms m)) k (map_place atoms (suc k) ms xs) e in
    (atom_there x (slice_get atoms m) p.0, map_names atoms (suc k) ms xs p.1)

-- both maps of a link without a fault name the atoms of the companion
pub link_names : (bud companion : FoSequent) (link : FoLink) → link_fault bud companion link ≡ None
    → Names bud.left link.left_map (linked link companion.left)
    × Names bud.right link.right_map (linked link companion.right)
link_names bud companion link none =
    let l = map_place bud.left 0 link.left_map (linked link companion.left) in
    let r = map_place bud.right 0 link.right_map (linked link companion.right) in
    let faults = first_none (option_map LinkLeft l) (option_map LinkRight r) none in (
      map_names bud.left 0 link.left_map (linked link companion.left) (map_none LinkLeft l faults.0),
      map_names bud.right 0 link.right_map (linked link companion.right) (map_none LinkRight r faults.1),
    )

-- ---- the values of the substitution

by_test : (cs : List ConstructorValue) (b : Bool) (u w : Word) → IsOpenTerm cs u → IsOpenTerm cs w
    → IsOpenTerm cs (if b then u else w)
by_test cs true u w h i = h
by_test cs false u w h i = i

image_open : (cs : List ConstructorValue) (ps : Bindings) → Each (λ (pair : ℕ × Word). IsOpenTerm cs pair.1) ps
    → (n : ℕ) → IsOpenTerm cs (image ps n)
image_open cs [] h n = (tt, (tt, tt))
image_open cs (p ∷ ps) h n = by_test cs (nat_eq n p.0) p.1 (image ps n) h.0 (image_open cs ps h.1 n)

module _ (t : FoTheory) (ps : Bindings) (n : ℕ) (v : List Word) where
  abbrev pub valuation : List Word
  valuation = tabulated (λ k. value v [] (image ps k)) n ++ []

  link_valued : (x : Sign) → IsBelow Variables n x → IsValued v [] valuation [] (image_sign ps) x
  link_valued (Universal m) h = sym (tabulated-at (λ k. value v [] (image ps k)) n [] m (omega arith))
  link_valued (Local m) h = append-nil (entry [] m)
  link_valued (Constructor c k) h = refl

  link_atom : (P : Family) (x : FoAtom) → InAtom (IsBelow Variables n) x → AtomHolds P v [] (in_atom (image_sign ps) x)
      ↔ AtomHolds P valuation [] x
  link_atom P x h =
      atom-replaced v [] valuation [] (image_sign ps) P x
      (in_atom_map (IsBelow Variables n) (IsValued v [] valuation [] (image_sign ps)) link_valued x h)

  left_linked : (bud : List FoAtom) (stages : Stages) → LeftHolds (λ k. at_stage t (stages k)) v bud
      → (ms : List ℕ) (xs : List FoAtom) → Each (InAtom (IsBelow Variables n)) xs
      → Names bud ms (map (in_atom (image_sign ps)) xs) → LeftHolds (λ k. at_stage t (stages (slice_index ms k)))
      valuation xs
  left_linked bud stages h [] [] q names = tt
  left_linked bud stages h [] (x ∷ xs) q names = absurd names
  left_linked bud stages h (m ∷ ms) [] q names = tt
  left_linked bud stages h (m ∷ ms) (x ∷ xs) q names = (
    (link_atom (at_stage t (stages m)) x q.0).0
        (left_at v (λ k. at_stage t (stages k)) bud m (in_atom (image_sign ps) x) names.0 h),
    left_linked bud stages h ms xs q.1 names.1,
  )

  right_linked : (bud : List FoAtom) (ms : List ℕ) (xs : List FoAtom) → Each (InAtom (IsBelow Variables n)) xs
      → Names bud ms (map (in_atom (image_sign ps)) xs) → OneOf (AtomHolds (least t) valuation []) xs
      → OneOf (AtomHolds (least t) v []) bud
  right_linked bud ms [] q names o = absurd o
  right_linked bud [] (x ∷ xs) q names o = absurd names
  right_linked bud (m ∷ ms) (x ∷ xs) q names (inl a) =
      one_at (AtomHolds (least t) v []) bud m (in_atom (image_sign ps) x) names.0 ((link_atom (least t) x q.0).1 a)
  right_linked bud (m ∷ ms) (x ∷ xs) q names (inr o) = right_linked bud ms xs q.1 names.1 o

pub link_is_sound : (t : FoTheory) (bud companion : FoSequent) (link : FoLink) → HasConstant t
    → HasOpenValues t.constructors link → link_fault bud companion link ≡ None
    → IsLocallySound t bud (link_premise companion link ∷ [])
link_is_sound t bud companion link constant are_open none stages premises v ok h =
    let n = sequent_bound companion in
    let ps = link.substitution in
    let names = link_names bud companion link none in
    let lefts = names.0 in
    let rights = names.1 in
    let closed : IsValuation t.constructors (valuation t ps n v) =
    each_append (IsClosedTerm t.constructors) (tabulated (λ k. value v [] (image ps k)) n) []
    (tabulated_each (IsClosedTerm t.constructors) (λ k. value v [] (image ps k))
    (λ k. value_closed t.constructors constant v ok (image ps k) (image_open t.constructors ps are_open k)) n) tt in
    let left = left_linked t ps n v bud.left stages h link.left_map companion.left
    (atoms_below Variables n companion.left (omega arith)) lefts in
    let o = premises.0 (λ k. stages (slice_index link.left_map k))
    (pairs_follow (slice_index link.left_map) stages 0 companion.left) (valuation t ps n v) closed left in
    right_linked t ps n v bud.right link.right_map companion.right
    (atoms_below Variables n companion.right (omega arith)) rights o
