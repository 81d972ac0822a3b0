-- A name stands where its number says.
use Rattle.std.proofs.Common.{◌≡◌, Bool, true, false, cond, ◌||◌, List, [], ◌∷◌, Some, refl, sym, ap, ◌∙◌}
use Rattle.std.specs.Prelude.{find, IfOk, Result, Ok, Err}
use Rattle.std.proofs.lemmas.Bool.{and_parts}
use Rattle.std.proofs.lemmas.List.Folds.{find_at}
use Rattle.std.proofs.lemmas.Slice.Eq.{bytes_eq-Decides}
use Rattle.std.proofs.Math.Bool.{beq}
use Rattle.std.specs.Cmp.{booleans_Decides}
use Rattle.std.specs.Str.{bytes_eq}
use Rattle.problem_syntax.specs.Names.{Name, same, has}
use Rattle.problem_syntax.specs.ByNumber.{IsByNumber}

same-equal : (a b : Name) → same a b ≡ true → a ≡ b
same-equal a b h =
    let p = and_parts (bytes_eq a.text b.text) (beq a.primed b.primed) h in
    let text : a.text ≡ b.text = (bytes_eq-Decides a.text b.text).0 p.0 in
    let primed : a.primed ≡ b.primed = (booleans_Decides a.primed b.primed).0 p.1 in
    λ i. record { text = text i; primed = primed i }

found-step : (n m : Name) (ms : List Name) → (has ms n ≡ true → find (same n) ms ≡ Some n) → (b : Bool) → same n m ≡ b
    → (b || has ms n) ≡ true → cond b (Some m) (find (same n) ms) ≡ Some n
found-step n m ms rest true e h = ap Some (sym (same-equal n m e))
found-step n m ms rest false e h = rest h

found : (ns : List Name) (n : Name) → has ns n ≡ true → find (same n) ns ≡ Some n
found [] n h = cc
found (m ∷ ms) n h = found-step n m ms (found ms n) (same n m) refl h

by_itself : (ns : List Name) → IsByNumber ns ns
by_itself ns n h = sym (find_at (same n) ns) ∙ found ns n h

pub by_number : {V E : Type 0} (names : V → List Name) (r : Result V E) (scope : List Name)
    → IfOk r (λ v. names v ≡ scope) → IfOk r (λ v. IsByNumber scope (names v))
by_number names (Ok v) scope h = λ n within. rw h (by_itself scope n within)
by_number names (Err e) scope h = tt
