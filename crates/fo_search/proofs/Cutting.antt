-- What is passed over has no right choice in it.
use Rattle.std.proofs.Common.{◌≡◌, ℕ, zero, suc, ◌+◌, Bool, true, false, ◌||◌, not, List, [], ◌∷◌, ◌++◌, map, Option}
use Rattle.std.proofs.Common.{Some, None, refl, sym, ap, ◌∙◌}
use Rattle.std.specs.Prelude.{slice_get, nat_le, is_none}
use Rattle.std.specs.List.{list_any, list_all, zip}
use Rattle.std.specs.Option.{option_map}
use Rattle.fo_formula.specs.declared.atoms.FoAtom.{FoAtom}
use Rattle.fo_formula.specs.declared.nodes.FoReason.TheVariants.{Link}
use Rattle.fo_formula.specs.Sizes.{sequent_size, reason_size}
use Rattle.fo_formula.specs.Words.{Word, in_atom}
use Rattle.fo_formula.specs.declared.table.faults.FoFault.TheVariants.{LinkLeft, LinkRight}
use Rattle.fo_formula.specs.Tests.{same_atom}
use Rattle.fo_formula.specs.LinkTable.{is_atom, map_place, first_of, linked, link_fault}
use Rattle.fo_rules.specs.declared.parts.changes.Change.{Change}
use Rattle.fo_rules.specs.declared.parts.changes.Change.TheVariants.{Instance, Substitution}
use Rattle.fo_rules.specs.Putting.{put}
use Rattle.fo_search.specs.declared.moves.wanted.LinkValues.{LinkValues}
use Rattle.fo_search.specs.declared.moves.wanted.CaseLocals.{CaseLocals}
use Rattle.fo_search.specs.declared.moves.wanted.Wanted.{Wanted}
use Rattle.fo_search.specs.declared.moves.wanted.Wanted.TheVariants.{Values, Locals}
use Rattle.fo_search.specs.Links.{link_by}
use Rattle.fo_search.specs.After.{holds_by}
use Rattle.fo_search.specs.Choosing.{settles_atom, may_stand, may_hold, may_link, may_suit, may_do, does}
use Rattle.fo_search.proofs.Settled.{Extends, atom_stays, substitution_extends, instance_extends}
use Rattle.std.proofs.lemmas.Bool.{and_from, and_parts}
use Rattle.cyc_basics.proofs.Options.{none_is}
use Rattle.fo_formula.proofs.Links.{unless_none}

-- a test that holds wherever another does
all_too : {X Y : Type 0} (f : X → Y) (test : Y → Bool) (weaker : X → Bool)
    → ((x : X) → test (f x) ≡ true → weaker x ≡ true) → (xs : List X) → list_all test (map f xs) ≡ true
    → list_all weaker xs ≡ true
all_too f test weaker h [] t = refl
all_too f test weaker h (x ∷ xs) t =
    let p = and_parts (test (f x)) (list_all test (map f xs)) t in
    and_from (weaker x) (list_all weaker xs) (h x p.0) (all_too f test weaker h xs p.1)

-- ---- a link without a fault finds each atom

abbrev is_among : List FoAtom → FoAtom → Bool
is_among atoms x = list_any (λ y. same_atom y x) atoms

atom_there : (atoms : List FoAtom) (m : ℕ) (x : FoAtom) → is_atom x (slice_get atoms m) ≡ true → is_among atoms x ≡ true
atom_there [] m x h = cc
atom_there (y ∷ ys) zero x h = ap (λ b. b || is_among ys x) h
atom_there (y ∷ ys) (suc m) x h = or_true (same_atom y x) (is_among ys x) (atom_there ys m x h)
  where
    or_true : (a b : Bool) → b ≡ true → a || b ≡ true
    or_true true b p = refl
    or_true false b p = p

all_stand : (atoms : List FoAtom) (k : ℕ) (ms : List ℕ) (xs : List FoAtom) → map_place atoms k ms xs ≡ None
    → list_all (is_among atoms) xs ≡ true
all_stand atoms k [] [] h = refl
all_stand atoms k (m ∷ ms) [] h = cc
all_stand atoms k [] (x ∷ xs) h = cc
all_stand atoms k (m ∷ ms) (x ∷ xs) h =
    let p = unless_none (is_atom x (slice_get atoms m)) k (map_place atoms (suc k) ms xs) h in
    and_from (is_among atoms x) (list_all (is_among atoms) xs) (atom_there atoms m x p.0)
    (all_stand atoms (suc k) ms xs p.1)

none_first : (f g : Option ℕ) → first_of (option_map LinkLeft f) (option_map LinkRight g) ≡ None
    → (f ≡ None) × (g ≡ None)
none_first None None h = (refl, refl)
none_first None (Some k) h = absurd cc
none_first (Some k) g h = absurd cc

-- ---- an atom that is settled

weaker_not : (a b : Bool) → (a ≡ true → b ≡ true) → not a || b ≡ true
weaker_not true b h = h refl
weaker_not false b h = refl

stand_stays : (c d : Change) → Extends c d → (atoms : List FoAtom) (x : FoAtom)
    → is_among atoms (in_atom (put d) x) ≡ true → may_stand c atoms x ≡ true
stand_stays c d same atoms x h =
    weaker_not (settles_atom c x) (is_among atoms (in_atom (put c) x))
    (λ s. ap (is_among atoms) (sym (atom_stays c d same x s)) ∙ h)

hold_stays : (c d : Change) → Extends c d → (left : List FoAtom) (x : FoAtom) → holds_by left (in_atom (put d) x) ≡ true
    → may_hold c left x ≡ true
hold_stays c d same left x h =
    weaker_not (settles_atom c x) (holds_by left (in_atom (put c) x))
    (λ s. ap (holds_by left) (sym (atom_stays c d same x s)) ∙ h)

-- ---- values, and locals

link_may : (goal : LinkValues) (made more : List Word) → does (Values goal) (made ++ more) ≡ true
    → may_link goal made ≡ true
link_may goal made more h =
    let bud = goal.bud.now in
    let companion = goal.companion.now in
    let sources = goal.sources.now in
    let d = Substitution (zip sources (made ++ more)) in
    let c = Substitution (zip sources made) in
    let link = link_by bud companion goal.number (zip sources (made ++ more)) in
    let fit = and_parts (is_none (link_fault bud companion link))
    (nat_le (sequent_size bud + reason_size (Link link)) 4096) h in
    let places = none_first (map_place bud.left 0 link.left_map (linked link companion.left))
    (map_place bud.right 0 link.right_map (linked link companion.right))
    (none_is (link_fault bud companion link) fit.0) in
    let same = substitution_extends sources made more in
    and_from _ _
    (all_too (in_atom (put d)) (is_among bud.left) (may_stand c bud.left) (stand_stays c d same bud.left) companion.left
    (all_stand bud.left 0 link.left_map (linked link companion.left) places.0))
    (all_too (in_atom (put d)) (is_among bud.right) (may_stand c bud.right) (stand_stays c d same bud.right)
    companion.right (all_stand bud.right 0 link.right_map (linked link companion.right) places.1))

case_may : (goal : CaseLocals) (made more : List Word) → does (Locals goal) (made ++ more) ≡ true
    → may_suit goal made ≡ true
case_may goal made more h =
    let d = Instance goal.arguments.now (made ++ more) in
    let c = Instance goal.arguments.now made in
    all_too (in_atom (put d)) (holds_by goal.left.now) (may_hold c goal.left.now)
    (hold_stays c d (instance_extends goal.arguments.now made more) goal.left.now) goal.case.now h

pub choice_may : (wanted : Wanted) (made more : List Word) → does wanted (made ++ more) ≡ true
    → may_do wanted made ≡ true
choice_may (Values goal) made more h = link_may goal made more h
choice_may (Locals goal) made more h = case_may goal made more h
