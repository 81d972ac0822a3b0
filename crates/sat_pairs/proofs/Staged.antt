-- A stage takes in more states and more base pairs.
use Rattle.std.proofs.Common.{◌≡◌, ◌⊎◌, inl, inr, ℕ, List, [], ◌∷◌, ◌++◌, take, drop, length, arith}
use Rattle.std.proofs.Common.{sym, subst}
use Rattle.std.proofs.lemmas.List.{take-append-drop, take_all}
use Rattle.heap_formula.specs.declared.atoms.Spatial.{Spatial}
use Rattle.heap_formula.specs.Words.{OneOf}
use Rattle.pair_family.specs.BasePairs.{BasePair}
use Rattle.pair_family.specs.Labels.{Gives, GivesFrom, Grows}
use Rattle.pair_family.specs.LargeCases.{HasMore}
use Rattle.cyc_basics.specs.Words.{IsMember}
use Rattle.heap_formula.proofs.StageLaws.{OneOf-map}
use Rattle.pair_family.proofs.Large.{more_imply}
use Rattle.sat_pairs.specs.declared.stages.Stage.{Stage}
use Rattle.sat_pairs.specs.CaseStates.{GivesTo, StepsTo}
use Rattle.sat_pairs.specs.Numbers.{count_from, kept_numbers, places_in}
use Rattle.sat_pairs.specs.Stages.{GivesAt, IsAt, IsTaken}
use Rattle.pair_family.specs.Folding.{spoken}

one_left : {X : Type 0} (P : X → Type 0) (xs ys : List X) → OneOf P xs → OneOf P (xs ++ ys)
one_left P [] ys o = absurd o
one_left P (x ∷ xs) ys (inl p) = inl p
one_left P (x ∷ xs) ys (inr o) = inr (one_left P xs ys o)

one_right : {X : Type 0} (P : X → Type 0) (xs ys : List X) → OneOf P ys → OneOf P (xs ++ ys)
one_right P [] ys o = o
one_right P (x ∷ xs) ys o = inr (one_right P xs ys o)

one_append : {X : Type 0} (P : X → Type 0) (xs ys : List X) → OneOf P (xs ++ ys) → OneOf P xs ⊎ OneOf P ys
one_append P [] ys o = inr o
one_append P (x ∷ xs) ys (inl p) = inl (inl p)
one_append P (x ∷ xs) ys (inr o) = elim (one_append P xs ys o) [ inl a ↦ inl (inr a) | inr b ↦ inr b ]

one_both : {X : Type 0} (P Q : X → Type 0) (xs : List X) → OneOf (λ x. P x ⊎ Q x) xs → OneOf P xs ⊎ OneOf Q xs
one_both P Q [] o = absurd o
one_both P Q (x ∷ xs) (inl (inl p)) = inl (inl p)
one_both P Q (x ∷ xs) (inl (inr q)) = inr (inl q)
one_both P Q (x ∷ xs) (inr o) = elim (one_both P Q xs o) [ inl a ↦ inl (inr a) | inr b ↦ inr (inr b) ]

-- the states before: some that were taken in, and new ones; and base pairs likewise
module _ (G : BasePair → BasePair → BasePair → Type 0) (old new taken come : List BasePair) where
  abbrev From : List BasePair → List BasePair → BasePair → Type 0
  From bs cs d = OneOf (λ b. OneOf (G d b) cs) bs

  from_taken : (d : BasePair) → From old taken d → From (old ++ new) (taken ++ come) d
  from_taken d o = one_left (λ b. OneOf (G d b) (taken ++ come)) old new (OneOf-map (λ b. OneOf (G d b) taken)
      (λ b. OneOf (G d b) (taken ++ come)) (λ b i. one_left (G d b) taken come i) old o)

  from_come : (d : BasePair) → From old come d → From (old ++ new) (taken ++ come) d
  from_come d o = one_left (λ b. OneOf (G d b) (taken ++ come)) old new (OneOf-map (λ b. OneOf (G d b) come)
      (λ b. OneOf (G d b) (taken ++ come)) (λ b i. one_right (G d b) taken come i) old o)

  from_new : (d : BasePair) → From new (taken ++ come) d → From (old ++ new) (taken ++ come) d
  from_new d o = one_right (λ b. OneOf (G d b) (taken ++ come)) old new o

  from_all : (d : BasePair) → From (old ++ new) (taken ++ come) d
      → (From old taken d ⊎ From old come d) ⊎ From new (taken ++ come) d
  from_all d o = elim (one_append (λ b. OneOf (G d b) (taken ++ come)) old new o) [
    | inl a ↦
        inl (one_both (λ b. OneOf (G d b) taken) (λ b. OneOf (G d b) come) old
        (OneOf-map (λ b. OneOf (G d b) (taken ++ come)) (λ b. OneOf (G d b) taken ⊎ OneOf (G d b) come)
        (λ b i. one_append (G d b) taken come i) old a))
    | inr b ↦ inr b
  ]

  module _ (before now after : List BasePair) (had : Grows [] before (From old taken)) (first : Grows before now
      (From old come)) where
    had_all : (d : BasePair) → IsMember d before → From (old ++ new) (taken ++ come) d
    had_all d m = elim ((had d).0 m) [ inl no' ↦ absurd no' | inr o ↦ from_taken d o ]

    now_all : (d : BasePair) → IsMember d now → From (old ++ new) (taken ++ come) d
    now_all d m = elim ((first d).0 m) [ inl i ↦ had_all d i | inr o ↦ from_come d o ]

    pub many_first : (most : ℕ) → HasMore most (λ d. IsMember d before ⊎ From old come d)
        → HasMore most (From (old ++ new) (taken ++ come))
    many_first most h = more_imply most (λ d. IsMember d before ⊎ From old come d) (From (old ++ new) (taken ++ come))
        (λ d o. elim o [ inl m ↦ had_all d m | inr f ↦ from_come d f ]) h

    pub many_second : (most : ℕ) → HasMore most (λ d. IsMember d now ⊎ From new (taken ++ come) d)
        → HasMore most (From (old ++ new) (taken ++ come))
    many_second most h = more_imply most (λ d. IsMember d now ⊎ From new (taken ++ come) d)
        (From (old ++ new) (taken ++ come)) (λ d o. elim o [ inl m ↦ now_all d m | inr f ↦ from_new d f ]) h

    pub all_grown : Grows now after (From new (taken ++ come)) → Grows [] after (From (old ++ new) (taken ++ come))
    all_grown second d = (
      λ m. inr (elim ((second d).0 m) [ inl i ↦ now_all d i | inr o ↦ from_new d o ]),
      λ o. elim o [
        | inl no' ↦ absurd no'
        | inr f ↦ elim (from_all d f) [
          | inl a ↦ elim a [
            | inl t ↦ (second d).1 (inl ((first d).1 (inl ((had d).1 (inr t)))))
            | inr t ↦ (second d).1 (inl ((first d).1 (inr t)))
          ]
          | inr t ↦ (second d).1 (inr t)
        ]
      ],
    )

-- the same of a stage, and of first parts of lists
module _ (s : Stage) (pairs before : List BasePair) (done : ℕ) (is : IsTaken pairs before done s) where
  abbrev G : BasePair → BasePair → BasePair → Type 0
  G d b = Gives s.numbers.items b s.places.items s.kept.items d

  abbrev old : List BasePair
  old = take done before

  abbrev new : List BasePair
  new = drop done before

  abbrev had : List BasePair
  had = take s.taken pairs

  abbrev come : List BasePair
  come = drop s.taken pairs

  whole : (P : List BasePair → List BasePair → Type 0) → P (old ++ new) (had ++ come) → P before pairs
  whole P p = subst (λ z. P z pairs) (take-append-drop done before)
      (subst (P (old ++ new)) (take-append-drop s.taken pairs) p)

  parts : (P : List BasePair → Type 0) → P pairs → P (had ++ come)
  parts P p = subst P (sym (take-append-drop s.taken pairs)) p

  -- with what came
  pub first_many : (most : ℕ) → HasMore most (λ d. IsMember d s.states.keys ⊎ GivesAt s old come d)
      → HasMore most (GivesAt s before pairs)
  first_many most h = whole (λ b p. HasMore most (GivesAt s b p)) (more_imply most
      (λ d. IsMember d s.states.keys ⊎ GivesAt s old come d) (GivesAt s (old ++ new) (had ++ come))
      (λ d o. elim o [
        | inl m ↦ elim ((is.given d).0 m) [ inl no' ↦ absurd no' | inr f ↦ from_taken G old new had come d f ]
        | inr f ↦ from_come G old new had come d f
      ]) h)

  module _ (now : List BasePair) (first : Grows s.states.keys now (GivesAt s old come)) where
    pub second_many : (most : ℕ) → HasMore most (λ d. IsMember d now ⊎ GivesAt s new pairs d)
        → HasMore most (GivesAt s before pairs)
    second_many most h = whole (λ b p. HasMore most (GivesAt s b p))
        (many_second G old new had come s.states.keys now now is.given first most
        (parts (λ z. HasMore most (λ d. IsMember d now ⊎ GivesAt s new z d)) h))

    pub second_grown : (after : List BasePair) → Grows now after (GivesAt s new pairs)
        → Grows [] after (GivesAt s before pairs)
    second_grown after g = whole (λ b p. Grows [] after (GivesAt s b p))
        (all_grown G old new had come s.states.keys now after is.given first
        (parts (λ z. Grows now after (GivesAt s new z)) g))

pub take_whole : {X : Type 0} (xs : List X) → take (length xs) xs ≡ xs
take_whole xs = take_all (length xs) xs (omega arith)

-- a stage that has taken in all is a step
module _ (k : ℕ) (rest : List Spatial) (s : Stage) (at : IsAt k rest s) (before pairs : List BasePair) where
  at_step : (P : List ℕ → List ℕ → List ℕ → Type 0) → P s.numbers.items s.places.items s.kept.items
      → P (kept_numbers k (s.atom ∷ rest)) (places_in (kept_numbers k (s.atom ∷ rest)) (spoken s.atom))
      (count_from 0 (length (kept_numbers k rest)))
  at_step P p = subst (λ z. P z (places_in (kept_numbers k (s.atom ∷ rest)) (spoken s.atom))
      (count_from 0 (length (kept_numbers k rest)))) at.numbers
      (subst (λ z. P s.numbers.items z (count_from 0 (length (kept_numbers k rest)))) at.places
      (subst (λ z. P s.numbers.items s.places.items z) at.kept p))

  pub stage_many : (most : ℕ) → HasMore most (GivesAt s before pairs)
      → HasMore most (GivesTo k s.atom rest pairs before)
  stage_many most h = at_step (λ n p q. HasMore most (GivesFrom n before p q pairs)) h

  pub stage_steps : IsTaken pairs before (length before) s → s.taken ≡ length pairs
      → StepsTo k s.atom rest pairs before s.states.keys
  stage_steps t full =
      let g = subst (λ z. Grows [] s.states.keys (GivesAt s z (take s.taken pairs))) (take_whole before) t.given in
      let h = subst (λ z. Grows [] s.states.keys (GivesAt s before (take z pairs))) full g in
      let all = subst (λ z. Grows [] s.states.keys (GivesAt s before z)) (take_whole pairs) h in
      at_step (λ n p q. Grows [] s.states.keys (GivesFrom n before p q pairs)) all

-- the lists that the code has are those of a stage
pub lists_are : (P : List ℕ → List BasePair → List ℕ → List ℕ → List BasePair → Type 0) (n n' p p' q q' : List ℕ)
    (b b' c c' : List BasePair) → n ≡ n' → b ≡ b' → p ≡ p' → q ≡ q' → c ≡ c' → P n b p q c → P n' b' p' q' c'
lists_are P n n' p p' q q' b b' c c' en eb ep eq ec h = subst (λ z. P z b' p' q' c') en (subst (λ z. P n z p' q' c') eb
    (subst (λ z. P n b z q' c') ep (subst (λ z. P n b p z c') eq (subst (λ z. P n b p q z) ec h))))
