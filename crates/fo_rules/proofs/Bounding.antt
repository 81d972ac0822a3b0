-- The faults that come last, where the tests are known.
use Rattle.std.proofs.Common.{◌≡◌, ℕ, ◌+◌, ◌≤◌, Bool, true, false, ◌&&◌, List, length, refl}
use Rattle.std.specs.Prelude.{nat_le, Err}
use Rattle.std.specs.List.{list_all}
use Rattle.std.proofs.lemmas.Bool.{le-leb, and_from}
use Rattle.fo_formula.specs.declared.sequents.FoSequent.{FoSequent}
use Rattle.fo_formula.specs.Sizes.{sequent_size}
use Rattle.fo_formula.specs.declared.table.faults.FoFault.TheVariants.{TooManyAtoms, TooManyTerms}
use Rattle.fo_formula.specs.declared.table.premises.FoPremise.{FoPremise}
use Rattle.fo_formula.specs.Answers.{Answer, needs, is_short, is_small, within}

abbrev pub all_short : List FoPremise → Bool
all_short ps = list_all (λ (p : FoPremise). is_short p.sequent) ps

abbrev pub all_small : List FoPremise → Bool
all_small ps = list_all (λ (p : FoPremise). is_small p.sequent) ps

pub within_passes : (s : FoSequent) (n : ℕ) (ps : List FoPremise) (rest : Answer) → all_short ps ≡ true
    → nat_le (sequent_size s + n) 4096 ≡ true → all_small ps ≡ true → within s n ps rest ≡ rest
within_passes s n ps rest a b c = by (all_short ps) (nat_le (sequent_size s + n) 4096) (all_small ps) a b c
  where
    by : (p q r : Bool) → p ≡ true → q ≡ true → r ≡ true
        → needs p TooManyAtoms (needs (q && r) TooManyTerms rest) ≡ rest
    by true true true a b c = refl
    by false q r a b c = absurd cc
    by true false r a b c = absurd cc
    by true true false a b c = absurd cc

pub within_long : (s : FoSequent) (n : ℕ) (ps : List FoPremise) (rest : Answer) → all_short ps ≡ false
    → within s n ps rest ≡ Err TooManyAtoms
within_long s n ps rest a = by (all_short ps) (nat_le (sequent_size s + n) 4096) (all_small ps) a
  where
    by : (p q r : Bool) → p ≡ false → needs p TooManyAtoms (needs (q && r) TooManyTerms rest) ≡ Err TooManyAtoms
    by false q r a = refl
    by true q r a = absurd cc

pub within_heavy : (s : FoSequent) (n : ℕ) (ps : List FoPremise) (rest : Answer) → all_short ps ≡ true
    → nat_le (sequent_size s + n) 4096 ≡ false → within s n ps rest ≡ Err TooManyTerms
within_heavy s n ps rest a b = by (all_short ps) (nat_le (sequent_size s + n) 4096) (all_small ps) a b
  where
    by : (p q r : Bool) → p ≡ true → q ≡ false → needs p TooManyAtoms (needs (q && r) TooManyTerms rest)
        ≡ Err TooManyTerms
    by true false r a b = refl
    by false q r a b = absurd cc
    by true true r a b = absurd cc

pub within_large : (s : FoSequent) (n : ℕ) (ps : List FoPremise) (rest : Answer) → all_short ps ≡ true
    → all_small ps ≡ false → within s n ps rest ≡ Err TooManyTerms
within_large s n ps rest a b = by (all_short ps) (nat_le (sequent_size s + n) 4096) (all_small ps) a b
  where
    by : (p q r : Bool) → p ≡ true → r ≡ false → needs p TooManyAtoms (needs (q && r) TooManyTerms rest)
        ≡ Err TooManyTerms
    by true true false a b = refl
    by true false r a b = refl
    by false q r a b = absurd cc
    by true true true a b = absurd cc

pub short_is : (s : FoSequent) → length s.left ≤ 32 → length s.right ≤ 16 → is_short s ≡ true
short_is s a b =
    and_from (nat_le (length s.left) 32) (nat_le (length s.right) 16) (le-leb (length s.left) 32 a)
    (le-leb (length s.right) 16 b)

pub within_fit : (s : FoSequent) (n : ℕ) (ps : List FoPremise) (rest : Answer) → all_short ps ≡ true
    → (nat_le (sequent_size s + n) 4096 && all_small ps) ≡ true → within s n ps rest ≡ rest
within_fit s n ps rest a b = by (all_short ps) (nat_le (sequent_size s + n) 4096 && all_small ps) a b
  where
    by : (p q : Bool) → p ≡ true → q ≡ true → needs p TooManyAtoms (needs q TooManyTerms rest) ≡ rest
    by true true a b = refl
    by false q a b = absurd cc
    by true false a b = absurd cc

pub within_unfit : (s : FoSequent) (n : ℕ) (ps : List FoPremise) (rest : Answer) → all_short ps ≡ true
    → (nat_le (sequent_size s + n) 4096 && all_small ps) ≡ false → within s n ps rest ≡ Err TooManyTerms
within_unfit s n ps rest a b = by (all_short ps) (nat_le (sequent_size s + n) 4096 && all_small ps) a b
  where
    by : (p q : Bool) → p ≡ true → q ≡ false → needs p TooManyAtoms (needs q TooManyTerms rest) ≡ Err TooManyTerms
    by true false a b = refl
    by false q a b = absurd cc
    by true true a b = absurd cc
