-- What stands in the place of signs that are settled stays, however many more terms are chosen.
use Rattle.std.proofs.Common.{◌≡◌, ℕ, zero, suc, ◌<◌, Bool, true, false, ◌&&◌, ◌||◌, cond, List, [], ◌∷◌, ◌++◌, length}
use Rattle.std.proofs.Common.{map, refl, sym, ap, ◌∙◌, arith}
use Rattle.std.specs.Prelude.{nat_eq}
use Rattle.std.specs.List.{list_all, zip}
use Rattle.std.proofs.lemmas.Bool.Decides.{nat_tests}
use Rattle.heap_formula.specs.Words.{Each}
use Rattle.fo_formula.specs.declared.terms.Sign.{Sign}
use Rattle.fo_formula.specs.declared.terms.Sign.TheVariants.{Universal, Local, Constructor}
use Rattle.fo_formula.specs.declared.atoms.FoAtom.{FoAtom}
use Rattle.fo_formula.specs.declared.atoms.FoAtom.TheVariants.{Equation, Predicate}
use Rattle.fo_formula.specs.Words.{Word, replaced, in_atom}
use Rattle.fo_formula.specs.Values.{entry}
use Rattle.fo_formula.proofs.Replacing.{replaced-same}
use Rattle.fo_formula.specs.Table.{image}
use Rattle.fo_rules.specs.declared.parts.changes.Change.{Change}
use Rattle.fo_rules.specs.declared.parts.changes.Change.TheVariants.{Instance, Substitution}
use Rattle.fo_rules.specs.Putting.{put}
use Rattle.fo_search.specs.Choosing.{has_pair, settles, settles_word, settles_atom}
use Rattle.std.proofs.lemmas.Bool.{and_parts}

-- the second change puts what the first puts, wherever the first is settled
abbrev pub Extends : Change → Change → Type 0
Extends c d = (s : Sign) → settles c s ≡ true → put d s ≡ put c s

module _ (c d : Change) (same : Extends c d) where
  each_settled : (w : Word) → settles_word c w ≡ true → Each (λ s. put d s ≡ put c s) w
  each_settled [] h = tt
  each_settled (s ∷ w) h = let p = and_parts (settles c s) (settles_word c w) h in (same s p.0, each_settled w p.1)

  word_stays : (w : Word) → settles_word c w ≡ true → replaced (put d) w ≡ replaced (put c) w
  word_stays w h = replaced-same (put d) (put c) w (each_settled w h)

  words_stay : (ws : List Word) → list_all (settles_word c) ws ≡ true
      → map (replaced (put d)) ws ≡ map (replaced (put c)) ws
  words_stay [] h = refl
  words_stay (w ∷ ws) h =
      let p = and_parts (settles_word c w) (list_all (settles_word c) ws) h in
      λ i. word_stays w p.0 i ∷ words_stay ws p.1 i

  pub atom_stays : (x : FoAtom) → settles_atom c x ≡ true → in_atom (put d) x ≡ in_atom (put c) x
  atom_stays (Equation l r) h =
      let p = and_parts (settles_word c l) (settles_word c r && true) h in
      let q = and_parts (settles_word c r) true p.1 in
      λ i. Equation (word_stays l p.0 i) (word_stays r q.0 i)
  atom_stays (Predicate p ts) h = ap (λ (us : List Word). Predicate p us) (words_stay ts h)

-- ---- more pairs, more locals

pub image_stays : (sources : List ℕ) (made more : List Word) (n : ℕ) → has_pair (zip sources made) n ≡ true
    → image (zip sources (made ++ more)) n ≡ image (zip sources made) n
image_stays [] made more n h = cc
image_stays (k ∷ ks) [] more n h = cc
image_stays (k ∷ ks) (w ∷ ws) more n h = branch (nat_eq n k) refl (λ q. image_stays ks ws more n q)
  where
    branch : (b : Bool) → nat_eq n k ≡ b → (has_pair (zip ks ws) n ≡ true
        → image (zip ks (ws ++ more)) n ≡ image (zip ks ws) n)
        → cond (nat_eq n k) w (image (zip ks (ws ++ more)) n) ≡ cond (nat_eq n k) w (image (zip ks ws) n)
    branch true e rest = ap (λ b. cond b w (image (zip ks (ws ++ more)) n)) e
        ∙ sym (ap (λ b. cond b w (image (zip ks ws) n)) e)
    branch false e rest = ap (λ (u : Word). cond (nat_eq n k) w u)
        (rest (sym (ap (λ b. b || has_pair (zip ks ws) n) e) ∙ h))

pub entry_stays : (made more : List Word) (n : ℕ) → n < length made → entry (made ++ more) n ≡ entry made n
entry_stays [] more n h = absurd (omega arith)
entry_stays (w ∷ ws) more zero h = refl
entry_stays (w ∷ ws) more (suc n) h = entry_stays ws more n (omega arith)

pub substitution_extends : (sources : List ℕ) (made more : List Word)
    → Extends (Substitution (zip sources made)) (Substitution (zip sources (made ++ more)))
substitution_extends sources made more (Universal n) h = image_stays sources made more n h
substitution_extends sources made more (Local n) h = refl
substitution_extends sources made more (Constructor c k) h = refl

pub instance_extends : (args made more : List Word) → Extends (Instance args made) (Instance args (made ++ more))
instance_extends args made more (Universal n) h = refl
instance_extends args made more (Local n) h = entry_stays made more n (grind (arith, nat_tests, h))
instance_extends args made more (Constructor c k) h = refl
