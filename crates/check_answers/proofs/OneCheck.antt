-- Two checks of one text say the same, but for the path that is named.
use Rattle.std.proofs.Common.{◌≡◌, ℕ, ◌<◌, List, Option, Some, None, sym, subst, ◌∙◌, inl, inr, arith}
use Rattle.std.proofs.lemmas.Bool.{cases_lt}
use Rattle.std.proofs.lemmas.Option.{same_Some}
use Rattle.std.specs.Prelude.{slice_get}
use Rattle.check_answers.specs.Alike.{AreOneCheck}

-- what is there is one thing
pub one_some : {X : Type 0} (x y : X) (o : Option X) → o ≡ Some x → o ≡ Some y → x ≡ y
one_some x y o first second = same_Some x y (sym first ∙ second)

-- and then not nothing
pub none_some : {X : Type 0} (x : X) (o : Option X) → o ≡ None → o ≡ Some x → ⊥
none_some x o none some = let e : None ≡ Some x = sym none ∙ some in cc

-- texts that are those of one check
pub said_one : (xs ys zs us : List ℕ) → xs ≡ zs → ys ≡ us → AreOneCheck zs us → AreOneCheck xs ys
said_one xs ys zs us first second one =
    subst (λ line. AreOneCheck line ys) (sym first) (subst (λ line. AreOneCheck zs line) (sym second) one)

module _ {X F : Type 0} (nodes : List X) (fault_of : ℕ → X → Option F) where
  -- no node before this one has a fault
  abbrev AreRightBefore : ℕ → Type 0
  AreRightBefore v = (u : ℕ) (node : X) → u < v → slice_get nodes u ≡ Some node → fault_of u node ≡ None

  module _ (v w : ℕ) (m n : X) (x y : F) (at : slice_get nodes v ≡ Some m) (other : slice_get nodes w ≡ Some n)
      (first : fault_of v m ≡ Some x) (second : fault_of w n ≡ Some y) (before : AreRightBefore v)
      (sooner : AreRightBefore w) where
    -- the first node with a fault is one
    pub one_node : v ≡ w
    one_node = elim (cases_lt v w) [
      | inl less ↦ absurd (none_some x (fault_of v m) (sooner v m less at) first)
      | inr le ↦ elim (cases_lt w v) [
        | inl less ↦ absurd (none_some y (fault_of w n) (before w n less other) second)
        | inr ge ↦ omega (arith, le, ge)
      ]
    ]

    -- and so is its fault
    pub one_node_fault : x ≡ y
    one_node_fault =
        let here : slice_get nodes w ≡ Some m = subst (λ u. slice_get nodes u ≡ Some m) one_node at in
        let node : m ≡ n = one_some m n (slice_get nodes w) here other in
        let moved : fault_of w m ≡ Some x = subst (λ u. fault_of u m ≡ Some x) one_node first in
        one_some x y (fault_of w n) (subst (λ k. fault_of w k ≡ Some x) node moved) second
