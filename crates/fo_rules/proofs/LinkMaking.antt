-- The faults of links, as the program finds them, and what a map names.
use Rattle.std.proofs.Common.{◌≡◌, ◌⊎◌, ℕ, zero, suc, ◌<◌, ◌≤◌, true, false, List, [], ◌∷◌, map, length, drop, Option}
use Rattle.std.proofs.Common.{Some, None, slice_get, refl, sym, ap, ◌∙◌, arith, length-drop, inl, inr}
use Rattle.std.specs.Prelude.{slice_index, Result, Ok, Err, IfOk, Vec}
use Rattle.std.specs.declared.alloc.Global.{Global}
use Rattle.std.specs.Option.{option_map}
use Rattle.std.proofs.Common.{subst}
use Rattle.std.proofs.lemmas.List.{drop_all}
use Rattle.std.proofs.lemmas.Bool.{cases_Bool}
use Rattle.std.proofs.lemmas.Option.{slice_get_within}
use Rattle.fo_formula.specs.declared.atoms.FoAtom.{FoAtom}
use Rattle.fo_formula.specs.declared.nodes.FoLink.{FoLink}
use Rattle.fo_formula.specs.declared.sequents.FoSequent.{FoSequent}
use Rattle.fo_formula.specs.declared.theory.FoTheory.{FoTheory}
use Rattle.fo_formula.specs.Words.{in_atom}
use Rattle.fo_formula.specs.Sizes.{atom_size, atoms_size}
use Rattle.fo_formula.specs.declared.table.faults.FoFault.TheVariants.{LinkLeft, LinkRight}
use Rattle.fo_formula.specs.declared.table.faults.FoRuleError.{FoRuleError}
use Rattle.fo_formula.specs.declared.table.premises.FoPremise.{FoPremise}
use Rattle.fo_formula.specs.Answers.{Answer}
use Rattle.fo_formula.specs.Answered.{IsAnswer}
use Rattle.fo_formula.specs.Tests.{same_atom}
use Rattle.fo_formula.specs.LinkTable.{first_of, is_atom, map_place, linked, link_fault}
use Rattle.fo_formula.specs.Soundness.{IsSound, IsLocallySound}
use Rattle.fo_formula.proofs.Reflects.{atom_is}
use Rattle.fo_formula.proofs.Links.{Names}
use Rattle.fo_rules.specs.Capping.{capped}
use Rattle.fo_rules.specs.Putting.{put}
use Rattle.fo_rules.specs.declared.parts.changes.Change.{Change}
use Rattle.fo_rules.specs.declared.parts.changes.Change.TheVariants.{Substitution}
use Rattle.fo_rules.proofs.Measuring.{size_within}

-- an atom that is too large is none of the bud's
pub name_large : (x y : FoAtom) (bud : List FoAtom) (m n : ℕ) → slice_get bud m ≡ Some y → atoms_size bud ≤ 4096
    → n ≡ capped (atom_size x) → 4096 < n → false ≡ is_atom x (slice_get bud m)
name_large x y bud m n at small is large = sym (ap (is_atom x) at ∙ differs (cases_Bool (same_atom y x)))
  where
    differs : (same_atom y x ≡ true) ⊎ (same_atom y x ≡ false) → same_atom y x ≡ false
    differs (inl e) =
        let same = ap atom_size (atom_is y x e) in
        let w = size_within bud m y at in absurd (omega arith)
    differs (inr e) = e

place_end : (bud : List FoAtom) (k : ℕ) (ms : List ℕ) → 0 < length ms → map_place bud k ms [] ≡ Some k
place_end bud k [] h = absurd (omega arith)
place_end bud k (m ∷ ms) h = refl

-- the map goes on where the atoms end
pub place_long : (bud : List FoAtom) (f : FoAtom → FoAtom) (k : ℕ) (ms : List ℕ) (xs : List FoAtom) (whole : Option ℕ)
    → length xs ≤ k → k ≤ length xs → length xs < length ms → map_place bud k (drop k ms) (map f (drop k xs)) ≡ whole
    → Some (length xs) ≡ whole
place_long bud f k ms xs whole a b c e =
    let l = length-drop k ms in
    let n : length xs ≡ k = omega arith in
    ap Some n ∙ sym (place_end bud k (drop k ms) (omega arith))
    ∙ sym (ap (λ (ys : List FoAtom). map_place bud k (drop k ms) (map f ys)) (drop_all k xs a)) ∙ e

pub placed : (link : FoLink) (change : Change) (bud others : List FoAtom) (entries ms : List ℕ) (atoms xs : List FoAtom)
    (o : Option ℕ) → change ≡ Substitution link.substitution → others ≡ bud → entries ≡ ms → atoms ≡ xs
    → o ≡ map_place others 0 entries (map (in_atom (put change)) atoms) → o ≡ map_place bud 0 ms (linked link xs)
placed link change bud others entries ms atoms xs o c p q r e =
    e ∙ (λ i. map_place (p i) 0 (q i) (map (in_atom (put (c i))) (r i)))

pub left_found : (bud companion : FoSequent) (link : FoLink) (o : Option ℕ) (k : ℕ)
    → o ≡ map_place bud.left 0 link.left_map (linked link companion.left) → o ≡ Some k
    → Some (LinkLeft k) ≡ link_fault bud companion link
left_found bud companion link o k e is =
    ap (λ l. first_of (option_map LinkLeft l) (option_map LinkRight
    (map_place bud.right 0 link.right_map (linked link companion.right)))) (sym is ∙ e)

pub left_none : (bud companion : FoSequent) (link : FoLink) (o : Option ℕ)
    → o ≡ map_place bud.left 0 link.left_map (linked link companion.left) → o ≡ None
    → option_map LinkRight (map_place bud.right 0 link.right_map (linked link companion.right))
    ≡ link_fault bud companion link
left_none bud companion link o e is =
    ap (λ l. first_of (option_map LinkLeft l) (option_map LinkRight
    (map_place bud.right 0 link.right_map (linked link companion.right)))) (sym is ∙ e)

pub names_small : (atoms : List FoAtom) (ms : List ℕ) (xs : List FoAtom) → Names atoms ms xs → length atoms ≤ 32
    → (j : ℕ) → slice_index ms j < 256
names_small atoms [] xs h few j = omega arith
names_small atoms (m ∷ ms) [] h few j = absurd h
names_small atoms (m ∷ ms) (x ∷ xs) h few zero = let w = slice_get_within atoms m x h.0 in omega arith
names_small atoms (m ∷ ms) (x ∷ xs) h few (suc j) = names_small atoms ms xs h.1 few j

-- an answer is sound where the table's is
pub sound_answer : (t : FoTheory) (s : FoSequent) (A B C : Type 0) (r : Result (Vec FoPremise Global) FoRuleError)
    (answer : Answer) → IsAnswer r answer → (A → B → C → IsSound t s answer)
    → IfOk r (λ v. A → B → C → IsLocallySound t s v.items)
sound_answer t s A B C (Ok v) answer is sound = λ a b c. subst (IsSound t s) is (sound a b c)
sound_answer t s A B C (Err e) answer is sound = tt
