-- Stacks, one entry after the other.
use Rattle.std.proofs.Common.{◌≡◌, ℕ, zero, suc, ◌+◌, ◌<◌, ◌≤◌, ◌^◌, ◌-◌, max, min, List, [], ◌∷◌, ◌++◌, length, take}
use Rattle.std.proofs.Common.{get_or, length-append, refl, sym, ap, ◌∙◌, subst, inl, inr, ◌⊎◌, arith}
use Rattle.std.proofs.lemmas.Bool.{cases_lt}
use Rattle.heap_formula.specs.Words.{Each, OneOf, max_of}
use Rattle.heap_formula.specs.Values.{Stack}
use Rattle.heap_formula.proofs.StageLaws.{OneOf-map}
use Rattle.cyc_basics.specs.Words.{IsMember}
use Rattle.counter_model.proofs.Loops.{pushed}
use Rattle.counter_model.specs.Tightness.{Breaks, IsStack, IsStep}
use Rattle.heap_formula.proofs.AllMembers.{each_last}

-- ---- the front of a stack

take_next : (e : Stack) (k : ℕ) → k < length e → take (suc k) e ≡ take k e ++ get_or e k 0 ∷ []
take_next [] k h = absurd (omega arith)
take_next (x ∷ e) zero h = refl
take_next (x ∷ e) (suc k) h = ap (λ y. x ∷ y) (take_next e k (omega arith))

take_all : (e : Stack) (k : ℕ) → length e ≡ k → take k e ≡ e
take_all [] zero h = refl
take_all [] (suc k) h = refl
take_all (x ∷ e) zero h = absurd (omega arith)
take_all (x ∷ e) (suc k) h = ap (λ y. x ∷ y) (take_all e k (omega arith))

-- ---- adding entries

pub entry_added : (l e : Stack) (v : ℕ) (first old new : List Stack) (more : Stack) → more ≡ l ++ v ∷ []
    → new ≡ old ++ more ∷ [] → ((IsMember e first ⊎ ((u : ℕ) × (u < v) × (e ≡ l ++ u ∷ []))) → IsMember e old)
    → (IsMember e first ⊎ ((u : ℕ) × (u < v + 1) × (e ≡ l ++ u ∷ []))) → IsMember e new
entry_added l e v first old new more m n f o =
    elim o as (λ z. IsMember e new) [
      | inl a ↦ pushed (λ y. y ≡ e) old new more n (inl (f (inl a)))
      | inr k ↦
          let below : k.0 < v + 1 = k.1 in
          elim (cases_lt k.0 v) as (λ z. IsMember e new) [
            | inl lt ↦ pushed (λ y. y ≡ e) old new more n (inl (f (inr (k.0, lt, k.2))))
            | inr ge ↦ let same : v ≡ k.0 = omega arith in
                pushed (λ y. y ≡ e) old new more n (inr (m ∙ ap (λ u. l ++ u ∷ []) same ∙ sym k.2))
          ]
    ]

pub entries_added : (n most last v : ℕ) (l e : Stack) (first old : List Stack) → n < 2 ^ 32
    → last ≡ min (min (most + 1) (2 ^ 64 - 1)) n → most ≡ max_of l → last + 1 ≤ v
    → ((IsMember e first ⊎ ((u : ℕ) × (u < v) × (e ≡ l ++ u ∷ []))) → IsMember e old)
    → (IsMember e first ⊎ IsStep n l e) → IsMember e old
entries_added n most last v l e first old w a m h f o =
    elim o as (λ z. IsMember e old) [
      | inl k ↦ f (inl k)
      | inr k ↦
          let s : k.next ≤ n = k.small in
          let t : k.next ≤ max_of l + 1 = k.tight in
          let lt : k.next < v = omega (arith, a, m) in
          f (inr (k.next, lt, k.whole))
    ]

pub longer_stack : (n k v : ℕ) (l more : Stack) → IsStack n k l → v ≤ n → more ≡ l ++ v ∷ [] → IsStack n (k + 1) more
longer_stack n k v l more s h e = subst (IsStack n (k + 1)) (sym e) (record {
  count = (let p : length (l ++ v ∷ []) ≡ length l + length (v ∷ []) = length-append l (v ∷ []) in
      let q : length (v ∷ []) ≡ 1 = refl in let r : length l ≡ k = s.count in omega arith);
  entries = each_last (λ u. u ≤ n) l v s.entries h;
})

pub longer_sound : (n k v : ℕ) (l more : Stack) (first old new : List Stack) → IsStack n k l → v ≤ n
    → more ≡ l ++ v ∷ [] → new ≡ old ++ more ∷ [] → (Each (IsStack n (k + 1)) first → Each (IsStack n (k + 1)) old)
    → Each (IsStack n (k + 1)) first → Each (IsStack n (k + 1)) new
longer_sound n k v l more first old new s h e w f x = subst (Each (IsStack n (k + 1))) (sym w)
    (each_last (IsStack n (k + 1)) old more (f x) (longer_stack n k v l more s h e))

-- ---- a member of a list

pub each_at : {X : Type 0} (P : X → Type 0) (xs : List X) (i : ℕ) (x : X) → i < length xs → x ≡ get_or xs i x
    → Each P xs → P x
each_at P [] i x h e a = absurd (omega arith)
each_at P (y ∷ ys) zero x h e a = subst P (sym e) a.0
each_at P (y ∷ ys) (suc i) x h e a = each_at P ys i x (omega arith) e a.1

-- ---- stacks that do not break

-- an entry is at most one more than all before it
not_broken : (m : ℕ) (s : Stack) (k : ℕ) → (Breaks m s → ⊥) → k < length s
    → get_or s k 0 ≤ max m (max_of (take k s)) + 1
not_broken m [] k b h = absurd (omega arith)
not_broken m (v ∷ s) zero b h = elim (cases_lt (m + 1) v)
    [ inl lt ↦ absurd (b (inl lt)) | inr ge ↦ (let g : v ≤ m + 1 = omega arith in omega arith) ]
not_broken m (v ∷ s) (suc k) b h =
    let r : get_or s k 0 ≤ max (max m v) (max_of (take k s)) + 1 = not_broken (max m v) s k (λ x. b (inr x))
    (omega arith) in
    omega arith

entry_small : (n : ℕ) (s : Stack) (k : ℕ) → Each (λ v. v ≤ n) s → get_or s k 0 ≤ n
entry_small n [] k a = omega arith
entry_small n (v ∷ s) zero a = a.0
entry_small n (v ∷ s) (suc k) a = entry_small n s k a.1

pub stack_steps : (n long k : ℕ) (s : Stack) (all : List Stack) → k < long → IsStack n long s → (Breaks 0 s → ⊥)
    → IsMember (take k s) all → OneOf (λ l. IsStep n l (take (k + 1) s)) all
stack_steps n long k s all h i b m =
    let j : k < length s = (let c : length s ≡ long = i.count in omega arith) in
    let one : k + 1 ≡ suc k = omega arith in
    let t : get_or s k 0 ≤ max 0 (max_of (take k s)) + 1 = not_broken 0 s k b j in
    let t' : get_or s k 0 ≤ max_of (take k s) + 1 = omega arith in
    OneOf-map (λ l. l ≡ take k s) (λ l. IsStep n l (take (k + 1) s)) (λ l same. record {
      next = get_or s k 0;
      small = entry_small n s k i.entries;
      tight = subst (λ y. get_or s k 0 ≤ max_of y + 1) (sym same) t';
      whole = ap (λ c. take c s) one ∙ take_next s k j ∙ ap (λ y. y ++ get_or s k 0 ∷ []) (sym same);
    }) all m

pub stack_whole : (n long k : ℕ) (s : Stack) (all : List Stack) → long ≡ k → IsStack n long s → IsMember (take k s) all
    → IsMember s all
stack_whole n long k s all e i m = subst (λ y. IsMember y all) (take_all s k (i.count ∙ e)) m

pub same_count : (n j k : ℕ) (xs : List Stack) → j ≡ k → Each (IsStack n j) xs → Each (IsStack n k) xs
same_count n j k xs e a = subst (λ c. Each (IsStack n c) xs) e a
