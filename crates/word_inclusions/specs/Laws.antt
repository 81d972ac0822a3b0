-- Why inclusions are a logic: judgements that are the same are one, and a step is locally sound.
use Rattle.std.proofs.Common.{◌≡◌, ℕ, zero, suc, ◌+◌, ◌≤◌, ◌⊎◌, Bool, true, false, cond, List, [], ◌++◌, length}
use Rattle.std.proofs.Common.{Some, Result, Ok, Err, refl, sym, ap, ◌∙◌, subst, inl, inr, arith, append_assoc}
use Rattle.std.specs.Prelude.{slice_get}
use Rattle.std.proofs.lemmas.Bool.{and_parts}
use Rattle.trace_pairs.specs.Graph.{Pair, Falls}
use Rattle.logics.specs.declared.premises.Subgoal.{Subgoal}
use Rattle.logics.specs.Laws.{PremiseHolds}
use Rattle.rule_logics.specs.Rules.{AreRules, AreSound}
use Rattle.rule_logics.specs.Moved.{moved, moved_falls, also_falls}
use Rattle.rule_logics.specs.Trees.{one_tree, tree_itself}
use Rattle.word_inclusions.specs.declared.logic.WordFault.{WordFault}
use Rattle.word_inclusions.specs.declared.logic.WordFault.TheVariants.{NoEmptyWord}
use Rattle.word_inclusions.specs.Expressions.{Expression, Zero, One, Letter, Sum, Product, Star, tree_of, of_tree}
use Rattle.word_inclusions.specs.Expressions.{given_back, same, nullable, derivative, Sides, sides, same_sides}
use Rattle.word_inclusions.specs.Language.{Word, IsJoined, IsPower, IsWord}
use Rattle.word_inclusions.specs.Inclusions.{without, put_before, kept_star, unfolded, step, word_rules}
use Rattle.word_inclusions.specs.Stages.{IsFactorAt, IsWordAt, HoldsAt, IsInclusion}
use Rattle.word_inclusions.specs.Derivatives.{empty_word, alone, derivative_word}

-- ---- a step without a fault

pub record IsEnd (l r : Expression) (ps : List (Subgoal Sides)) : Type 0 where
  pub empty : l ≡ One
  pub nullable : nullable r ≡ true
  pub are : [] ≡ ps

-- it takes the first factor apart
pub record IsUnfolded (l r : Expression) (ps : List (Subgoal Sides)) : Type 0 where
  pub first : Expression
  pub others : Expression
  pub words : (σ : ℕ → ℕ) (w : Word) → IsWordAt l σ w
      → IsJoined (IsFactorAt first (σ 0)) (IsWordAt others (λ i. σ (suc i))) w
  pub are : unfolded first others r ≡ ps

ended : (t : Bool) (r : Expression) (ps : List (Subgoal Sides)) → t ≡ nullable r
    → cond t (Ok []) (Err NoEmptyWord) ≡ Ok ps → IsEnd One r ps
ended true r ps t e = let are : [] ≡ ps = cc in record { empty = refl; nullable = sym t; are = are }
ended false r ps t e = absurd (cc)

abbrev answer : List (Subgoal Sides) → Result (List (Subgoal Sides)) WordFault
answer ps = Ok ps

one_ok : (ps qs : List (Subgoal Sides)) → answer ps ≡ answer qs → ps ≡ qs
one_ok ps qs e = cc

stepped : (l r : Expression) (ps : List (Subgoal Sides)) → step l r ≡ Ok ps → IsEnd l r ps ⊎ IsUnfolded l r ps
stepped One r ps e = inl (ended (nullable r) r ps refl e)
stepped (Product x k) r ps e = inr (record { first = x; others = k; words = λ σ w h. h; are = one_ok _ _ e })
stepped l r ps e =
    inr (record {
      first = l;
      others = One;
      words = λ σ w h. alone (IsFactorAt l (σ 0)) (IsWordAt One (λ i. σ (suc i)))
          w h refl;
      are = one_ok _ _ e;
    })

-- ---- judgements that are the same are one, and premises are few

one_same : (e f : Expression) → same e f ≡ true → e ≡ f
one_same e f h = sym (given_back e) ∙ ap of_tree (one_tree (tree_of e) (tree_of f) h) ∙ given_back f

one_sides : (s t : Sides) → same_sides s t ≡ true → s ≡ t
one_sides s t h =
    let both = and_parts (same s.left t.left) (same s.right t.right) h in
    λ i. sides (one_same s.left t.left both.0 i) (one_same s.right t.right both.1 i)

unfolded_few : (x k r : Expression) → length (unfolded x k r) ≤ 256
unfolded_few Zero k r = omega arith
unfolded_few (Sum e f) k r = omega arith
unfolded_few (Star e) k r = omega arith
unfolded_few x k r = omega arith

few : (l r : Expression) (ps : List (Subgoal Sides)) → step l r ≡ Ok ps → length ps ≤ 256
few l r ps e =
    elim (stepped l r ps e) [
      | inl end ↦ subst (λ (qs : List (Subgoal Sides)). length qs ≤ 256) end.are (omega arith)
      | inr u ↦ subst (λ (qs : List (Subgoal Sides)). length qs ≤ 256) u.are (unfolded_few u.first u.others r)
    ]

pub laws : AreRules word_rules
laws = record {
  one = one_sides;
  itself = λ s. rw (tree_itself (tree_of s.left), tree_itself (tree_of s.right)) refl;
  few = λ s r ps e. few s.left s.right ps e;
}

-- ---- stages behind the first factor

-- a word of a factor is one at some stage
pub factor_word : (e : Expression) (w : Word) → IsWord e w → (n : ℕ) × IsFactorAt e n w
factor_word (Star e) w h = h
factor_word e w h = (0, h)

-- a first stage, and others
abbrev first_then : ℕ → (ℕ → ℕ) → ℕ → ℕ
first_then n σ zero = n
first_then n σ (suc i) = σ i

abbrev later : (ℕ → ℕ) → ℕ → ℕ
later σ i = σ (suc i)

stays : (σ : ℕ → ℕ) (i : ℕ) → σ (suc i) ≤ σ (1 + i)
stays σ i = let e : suc i ≡ 1 + i = omega arith in let le : σ (suc i) ≤ σ (suc i) = omega arith in
    subst (λ m. σ (suc i) ≤ σ m) e le

falls_behind : (σ : ℕ → ℕ) → Falls (moved 32 0 1 0) σ (later σ)
falls_behind σ = moved_falls 32 0 1 0 σ (later σ) (λ i. (let e : i ≡ 0 + i = omega arith in
    subst (λ m. later σ m ≤ σ (1 + i)) e (stays σ i)))

falls_after_one : (n : ℕ) (σ : ℕ → ℕ) → Falls (moved 32 0 1 1) σ (first_then n (later σ))
falls_after_one n σ = moved_falls 32 0 1 1 σ (first_then n (later σ))
    (λ i. (let e : suc i ≡ 1 + i = omega arith in subst (λ m. first_then n (later σ) m ≤ σ (1 + i)) e (stays σ i)))

falls_after_two : (n m : ℕ) (σ : ℕ → ℕ) → Falls (moved 32 0 1 2) σ (first_then n (first_then m (later σ)))
falls_after_two n m σ =
    moved_falls 32 0 1 2 σ (first_then n (first_then m (later σ)))
    (λ i. (let e : suc (suc i) ≡ 2 + i = omega arith in subst
    (λ k. first_then n (first_then m (later σ)) k ≤ σ (1 + i)) e (stays σ i)))

-- ---- local soundness

abbrev EachHolds : (ℕ → ℕ) → List (Subgoal Sides) → Type 0
EachHolds σ ps = (k : ℕ) (p : Subgoal Sides) → slice_get ps k ≡ Some p → PremiseHolds HoldsAt σ p

module _ (k r : Expression) (σ : ℕ → ℕ) (v : Word) (rest : IsWordAt k (later σ) v) where
  -- the first factor goes
  goes : (t : Expression) → EachHolds σ (without k t) → IsWord t v
  goes t hold = hold 0 _ refl (later σ) (falls_behind σ) v rest

  -- one factor in place of the first
  puts : (e : Expression) (u : Word) → IsWord e u → PremiseHolds HoldsAt σ (put_before e k r (moved 32 0 1 1))
      → IsWord r (u ++ v)
  puts e u h hold =
      let s = factor_word e u h in hold (first_then s.0 (later σ)) (falls_after_one s.0 σ) (u ++ v)
      (record { front = u; back = v; is = refl; first = s.1; second = rest })

  -- two factors in place of the first
  two : (e f : Expression) (n m : ℕ) (x y : Word) (pairs : List Pair) → IsFactorAt e n x → IsFactorAt f m y
      → PremiseHolds HoldsAt σ (put_before e (Product f k) r pairs) →
      Falls pairs σ (first_then n (first_then m (later σ))) → IsWord r ((x ++ y) ++ v)
  two e f n m x y pairs hx hy hold falls =
      subst (IsWord r) (sym (append_assoc x y v))
      (hold (first_then n (first_then m (later σ))) falls (x ++ (y ++ v))
      (record {
        front = x;
        back = y ++ v;
        is = refl;
        first = hx;
        second = record { front = y; back = v; is = refl; first = hy; second = rest };
      }))

  star : (e : Expression) (n : ℕ) (u : Word) → n ≡ σ 0 → IsPower (IsWord e) n u → EachHolds σ (unfolded (Star e) k r)
      → IsWord r (u ++ v)
  star e zero u is h hold = subst (λ (w : Word). IsWord r (w ++ v)) (sym h)
      (hold 0 _ refl (later σ) (falls_behind σ) v rest)
  star e (suc m) u is h hold =
      let s = factor_word e h.front h.first in
      subst (λ (w : Word). IsWord r (w ++ v)) (sym h.is)
      (two e (Star e) s.0 m h.front h.back kept_star s.1 h.second (hold 1 _ refl)
      (also_falls 0 1 true (moved 32 0 1 2) σ (first_then s.0 (first_then m (later σ))) (omega (arith, is))
      (λ t. omega (arith, is)) (falls_after_two s.0 m σ)))

  unfolds : (x : Expression) (u : Word) → IsFactorAt x (σ 0) u → EachHolds σ (unfolded x k r) → IsWord r (u ++ v)
  unfolds Zero u h hold = absurd h
  unfolds One u h hold = subst (λ (w : Word). IsWord r (w ++ v)) (sym h) (goes r hold)
  unfolds (Letter a) u h hold = subst (λ (w : Word). IsWord r (w ++ v)) (sym h)
      (derivative_word a r v (goes (derivative a r) hold))
  unfolds (Sum e f) u h hold = elim h [ inl x ↦ puts e u x (hold 0 _ refl) | inr x ↦ puts f u x (hold 1 _ refl) ]
  unfolds (Product e f) u h hold =
      let s = factor_word e h.front h.first in
      let t = factor_word f h.back h.second in
      subst (λ (w : Word). IsWord r (w ++ v)) (sym h.is)
      (two e f s.0 t.0 h.front h.back (moved 32 0 1 2) s.1 t.1 (hold 0 _ refl) (falls_after_two s.0 t.0 σ))
  unfolds (Star e) u h hold = star e (σ 0) u refl h hold

step_sound : (l r : Expression) (ps : List (Subgoal Sides)) → step l r ≡ Ok ps → (σ : ℕ → ℕ) → EachHolds σ ps
    → HoldsAt σ (sides l r)
step_sound l r ps e σ hold w h =
    elim (stepped l r ps e) [
      | inl end ↦ (let none : w ≡ [] = subst (λ (x : Expression). IsWordAt x σ w) end.empty h in
          subst (IsWord r) (sym none) (empty_word r end.nullable))
      | inr u ↦ (
          let j = u.words σ w h in
          subst (IsWord r) (sym j.is) (unfolds u.others r σ j.back j.second u.first j.front j.first
          (subst (EachHolds σ) (sym u.are) hold)))
    ]

pub sound : AreSound word_rules HoldsAt
sound s r ps e σ hold = step_sound s.left s.right ps e σ hold

-- ---- what holds at all stages is an inclusion

some_stages : (e : Expression) (w : Word) → IsWord e w → (σ : ℕ → ℕ) × IsWordAt e σ w
some_stages (Product e f) w h =
    let s = factor_word e h.front h.first in
    let t = some_stages f h.back h.second in
    (first_then s.0 t.0, record { front = h.front; back = h.back; is = h.is; first = s.1; second = t.1 })
some_stages e w h = let s = factor_word e w h in (λ i. s.0, s.1)

pub included : (s : Sides) → ((σ : ℕ → ℕ) → HoldsAt σ s) → IsInclusion s
included s hold w h = let t = some_stages s.left w h in hold t.0 w t.1
