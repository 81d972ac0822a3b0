-- Lists that go side by side, one member further.
use Rattle.std.proofs.Common.{◌≡◌, ℕ, ◌+◌, ◌<◌, ◌≤◌, List, [], ◌∷◌, ◌++◌, length, take, get_or, sym, ap, ◌∙◌, subst}
use Rattle.std.proofs.lemmas.List.{take_more, take_all}
use Rattle.std.specs.List.{AllZip}

zip_last : {X Y : Type 0} (R : X → Y → Type 0) (xs : List X) (ys : List Y) (x : X) (y : Y) → AllZip R xs ys → R x y
    → AllZip R (xs ++ x ∷ []) (ys ++ y ∷ [])
zip_last R [] [] x y z r = (r, tt)
zip_last R [] (b ∷ ys) x y z r = absurd z
zip_last R (a ∷ xs) [] x y z r = absurd z
zip_last R (a ∷ xs) (b ∷ ys) x y z r = (z.0, zip_last R xs ys x y z.1 r)

module _ {X Y : Type 0} (R : X → Y → Type 0) where
  pub zip_more : (xs : List X) (i : ℕ) (x : X) (ys zs : List Y) (y : Y) → i < length xs → x ≡ get_or xs i x
      → zs ≡ ys ++ y ∷ [] → AllZip R (take i xs) ys → R x y → AllZip R (take (i + 1) xs) zs
  zip_more xs i x ys zs y below here pushed z r =
      let taken : take (i + 1) xs ≡ take i xs ++ x ∷ [] = take_more xs i x below
      ∙ ap (λ a. take i xs ++ a ∷ []) (sym here) in
      subst (λ l. AllZip R (take (i + 1) xs) l) (sym pushed) (subst (λ l. AllZip R l (ys ++ y ∷ [])) (sym taken)
      (zip_last R (take i xs) ys x y z r))

  pub zip_all : (xs : List X) (i : ℕ) (ys : List Y) → length xs ≤ i → AllZip R (take i xs) ys → AllZip R xs ys
  zip_all xs i ys past z = subst (λ l. AllZip R l ys) (take_all i xs past) z

  pub zip_next : (xs : List X) (i : ℕ) (d : X) (ys zs : List Y) (y : Y) → i < length xs → zs ≡ ys ++ y ∷ []
      → AllZip R (take i xs) ys → R (get_or xs i d) y → AllZip R (take (i + 1) xs) zs
  zip_next xs i d ys zs y below pushed z r =
      subst (λ l. AllZip R (take (i + 1) xs) l) (sym pushed) (subst (λ l. AllZip R l (ys ++ y ∷ []))
      (sym (take_more xs i d below)) (zip_last R (take i xs) ys (get_or xs i d) y z r))
