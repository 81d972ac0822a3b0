-- Lists of faults, one checked after the other.
use Rattle.std.proofs.Common.{◌≡◌, Bool, true, false, [], ◌∷◌, refl, ap}
use Rattle.clap.specs.Kinds.{Kinds, or_else}
use Rattle.clap.specs.declared.error.ErrorKind.{ErrorKind}

abbrev has_fault : Kinds → Bool
has_fault [] = false
has_fault (k ∷ ks) = true

pub first_part : (x y : Kinds) → or_else x y ≡ [] → x ≡ []
first_part [] y h = refl
first_part (k ∷ ks) y h = h

pub second_part : (x y : Kinds) → or_else x y ≡ [] → y ≡ []
second_part [] y h = h
second_part (k ∷ ks) y h = cc

pub some_fault : {A : Type 0} (k : ErrorKind) (ks : Kinds) → k ∷ ks ≡ [] → A
some_fault k ks h = let bad : true ≡ false = ap (λ (x : Kinds). has_fault x) h in absurd (true_is_not bad)
  where
    true_is_not : true ≡ false → ⊥
    true_is_not e = cc
