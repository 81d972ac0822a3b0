-- Rules may be left out that leave more premises than fit.
use Rattle.std.proofs.Common.{◌≡◌, ℕ, suc, ◌+◌, ◌-◌, ◌≤◌, Bool, true, false, cond, ◌||◌, List, [], ◌∷◌, Option, Some}
use Rattle.std.proofs.Common.{None, length, arith, refl, sym, ap, subst, ◌∙◌}
use Rattle.std.specs.Prelude.{nat_lt, nat_le}
use Rattle.std.specs.List.{filter}
use Rattle.std.proofs.lemmas.Bool.{both_ways, and_parts, leb-true}
use Rattle.std.proofs.lemmas.List.{length-reverse}
use Rattle.cyc_basics.specs.Words.{Each}
use Rattle.derivations.specs.Engine.{FitAlike}
use Rattle.derivations.specs.Tableau.{Subgoal, Goal, Made, Calculus}
use Rattle.derivations.specs.Room.{is_nil, has_room, fits_at, offered, offered_at}
use Rattle.derivations.specs.declared.derivation.Derivation.{Derivation}
use Rattle.derivations.specs.Effects.{LeavesOut}
use Rattle.derivations.specs.Derivations.{goals_in, reasons_in, IsInOrder, search_in, room_at}
use Rattle.derivations.proofs.Nexts.{fits_by, reasons_long}

all_pass : {X : Type 0} (xs : List X) → filter (λ x. true) xs ≡ xs
all_pass [] = refl
all_pass {X} (x ∷ xs) = ap (λ (ys : List X). x ∷ ys) (all_pass xs)

-- all are some of all
pub none_out : {J R : Type 0} (c : Calculus J R) (nodes : List (Made J R)) (g : Goal J) (most : ℕ) (all these : List R)
    → these ≡ all → LeavesOut c nodes g most all these
none_out c nodes g most all these e = record {
  keeps = λ r. true;
  are = e ∙ sym (all_pass all);
  few = λ r ps h few. refl;
}

each_left : {X : Type 0} (P : X → Type 0) (keeps : X → Bool) (xs : List X) → Each P xs → Each P (filter keeps xs)
each_left P keeps [] h = tt
each_left P keeps (x ∷ xs) h = branch (keeps x) (each_left P keeps xs h.1)
  where
    branch : (b : Bool) → Each P (filter keeps xs) → Each P (cond b (x ∷ filter keeps xs) (filter keeps xs))
    branch true rest = (h.0, rest)
    branch false rest = rest

pub each_of_these : {J R : Type 0} (c : Calculus J R) (nodes : List (Made J R)) (g : Goal J) (most : ℕ)
    (all these : List R) (P : R → Type 0) → LeavesOut c nodes g most all these → Each P all → Each P these
each_of_these c nodes g most all these P out h = subst (Each P) (sym out.are) (each_left P out.keeps all h)

-- a filter that passes only what another keeps
twice : {X : Type 0} (passes keeps : X → Bool) → ((x : X) → passes x ≡ true → keeps x ≡ true) → (xs : List X)
    → filter passes (filter keeps xs) ≡ filter passes xs
twice passes keeps h [] = refl
twice {X} passes keeps h (x ∷ xs) = branch (keeps x) (passes x) refl refl (twice passes keeps h xs)
  where
    branch : (k p : Bool) → keeps x ≡ k → passes x ≡ p → filter passes (filter keeps xs) ≡ filter passes xs →
        filter passes (cond (keeps x) (x ∷ filter keeps xs) (filter keeps xs))
        ≡ cond (passes x) (x ∷ filter passes xs) (filter passes xs)
    branch true p is_k is_p rest = rw is_k (ap (λ (ys : List X). cond (passes x) (x ∷ ys) ys) rest)
    branch false true is_k is_p rest = absurd (both_ways (keeps x) is_k (h x is_p))
    branch false false is_k is_p rest = rw (is_k, is_p) rest

module _ {L J R : Type 0} (calculus : L → Calculus J R) (Occurs : L → J → Type 0) (Allows : L → R → Type 0)
    (s : Derivation L J R) (order : IsInOrder calculus Occurs Allows s)
    (bound : ℕ) (g : Goal J) (rest : List (Goal J)) (next : goals_in s ≡ g ∷ rest) where
  abbrev most : ℕ
  most = room_at s.limit bound (length s.made.items) (length s.goals.items) g.depth

  room_few : (ps : List (Subgoal J)) → has_room s.limit bound (length (reasons_in s)) g rest (Some ps) ≡ true
      → length ps ≤ most
  room_few ps h =
      let p = and_parts (is_nil ps || nat_lt g.depth bound)
      (nat_le (length (reasons_in s) + 1 + (length ps + length rest)) s.limit) h in
      let room = leb-true _ _ p.1 in
      by (nat_lt g.depth bound) ps refl p.0 room
    where
      made : length (reasons_in s) ≡ length s.made.items
      made = reasons_long calculus Occurs Allows s order

      goals : length s.goals.items ≡ suc (length rest)
      goals = omega (arith, ap length next, length-reverse s.goals.items)

      by : (b : Bool) (ps : List (Subgoal J)) → nat_lt g.depth bound ≡ b → is_nil ps || nat_lt g.depth bound ≡ true
          → length (reasons_in s) + 1 + (length ps + length rest) ≤ s.limit → length ps ≤ most
      by true ps is_b nil room = subst (λ b. length ps ≤ cond b (s.limit - (length s.made.items + length s.goals.items))
          0) (sym is_b) (omega (arith, room, made, goals))
      by false [] is_b nil room = omega arith
      by false (x ∷ xs) is_b nil room = absurd (both_ways (nat_lt g.depth bound) is_b nil)

  fits_few : (r : R) (o : Option (List (Subgoal J))) → (calculus s.logic).premises s.made.items g r ≡ o
      → has_room s.limit bound (length (reasons_in s)) g rest o ≡ true → (keeps : R → Bool)
      → ((ps : List (Subgoal J)) → (calculus s.logic).premises s.made.items g r ≡ Some ps → length ps ≤ most
      → keeps r ≡ true) → keeps r ≡ true
  fits_few r None is h keeps few = absurd (both_ways false refl h)
  fits_few r (Some ps) is h keeps few = few ps is (room_few ps h)

  pub these_fit_alike : (these : List R) → LeavesOut (calculus s.logic) s.made.items g most
      ((calculus s.logic).rules s.made.items g) these → FitAlike (search_in calculus s) bound (reasons_in s) these
      ((search_in calculus s).rules (reasons_in s))
  these_fit_alike these out =
      let fits = (search_in calculus s).fits bound (reasons_in s) in
      let rules : (search_in calculus s).rules (reasons_in s) ≡ (calculus s.logic).rules s.made.items g =
      ap (offered (calculus s.logic).rules) order.replayed ∙ ap (offered_at (calculus s.logic).rules s.made.items) next
      in
      ap (filter fits) out.are
      ∙ (twice fits out.keeps
      (λ r fit.
      fits_few r ((calculus s.logic).premises s.made.items g r) refl
      (sym (fits_by calculus Occurs Allows s order bound r
      ∙ ap (fits_at (calculus s.logic) s.limit bound (length (reasons_in s)) s.made.items r) next) ∙ fit) out.keeps
      (out.few r))
      ((calculus s.logic).rules s.made.items g)
      ∙ ap (filter fits) (sym rules))
