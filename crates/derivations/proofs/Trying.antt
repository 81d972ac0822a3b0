-- The candidates are tried one after another.
use Rattle.std.proofs.Common.{ℕ, suc, ◌≡◌, ◌<◌, true, false, List, [], ◌∷◌, ◌++◌, length, filter, arith, refl, sym, ap}
use Rattle.std.proofs.Common.{subst, ◌∙◌, append_assoc, append-nil, ◌≢◌, drop, inl, inr, eq-eqb, eqb-true}
use Rattle.std.specs.Prelude.{flat_map, ◌==◌}
use Rattle.std.proofs.lemmas.Bool.{cases_Bool}
use Rattle.derivations.specs.System.{System, after, tried, Event, Going, TooManyDerivations, status_after}
use Rattle.derivations.specs.declared.search.Tried.{Tried}
use Rattle.derivations.specs.declared.search.Tried.TheVariants.{Admitted, Refused}
use Rattle.derivations.specs.Engine.{FaresSo}

pub own_tail : {X : Type 0} (xs : List X) → xs ≡ drop 1 xs → xs ≡ []
own_tail [] h = refl
own_tail (x ∷ xs) h = absurd (let e : length (x ∷ xs) ≡ length xs = ap length h in omega arith)

-- the events of trying these
abbrev pub trials : {R : Type 0} → System R → List R → List R → List (Event R)
trials s d rs = flat_map (λ r. tried s (after d r)) rs

-- what is left to try, after those that gave `admitted` and `c` counts
pub record AreLeft {R : Type 0} (s : System R) (most : ℕ) (d : List R) (all : List R) (start : ℕ)
    (admitted left : List R) (c : ℕ) : Type 0 where
  pub status : status_after s most start (trials s d all) ≡ status_after s most c (trials s d left)
  pub good : filter (λ r. s.admitted (after d r)) all ≡ admitted ++ filter (λ r. s.admitted (after d r)) left

pub left_admitted : {R : Type 0} (s : System R) (most : ℕ) (d all : List R) (start : ℕ) (admitted : List R) (r : R)
    (left : List R) (c : ℕ) →
    AreLeft s most d all start admitted (r ∷ left) c → s.above (after d r) ≡ false → s.admitted (after d r) ≡ true
    → AreLeft s most d all start (admitted ++ (r ∷ [])) left c
left_admitted s most d all start admitted r left c h low good = record {
  status = h.status ∙ rw (low, good) refl;
  good = h.good ∙ rw good (sym (append_assoc admitted (r ∷ []) (filter (λ r'. s.admitted (after d r')) left)));
}

pub left_refused : {R : Type 0} (s : System R) (most : ℕ) (d all : List R) (start : ℕ) (admitted : List R) (r : R)
    (left : List R) (c : ℕ) →
    AreLeft s most d all start admitted (r ∷ left) c → s.above (after d r) ≡ false → s.admitted (after d r) ≡ false
    → (suc c == most) ≡ false → AreLeft s most d all start admitted left (suc c)
left_refused s most d all start admitted r left c h low bad more = record {
  status = h.status ∙ rw (low, bad) (rw more refl);
  good = h.good ∙ rw bad refl;
}

pub left_counts : {R : Type 0} (s : System R) (most : ℕ) (d all : List R) (start : ℕ) (admitted : List R) (r : R)
    (left : List R) (c : ℕ) →
    AreLeft s most d all start admitted (r ∷ left) c → s.above (after d r) ≡ false → s.admitted (after d r) ≡ false
    → (suc c == most) ≡ true → status_after s most start (trials s d all) ≡ TooManyDerivations
left_counts s most d all start admitted r left c h low bad full = h.status ∙ rw (low, bad) (rw full refl)

pub not_eq : (a b : ℕ) → a ≢ b → (a == b) ≡ false
not_eq a b ne = elim (cases_Bool (a == b)) [ inl yes' ↦ absurd (ne (eqb-true a b yes')) | inr no' ↦ no' ]

fares : {R : Type 0} (s : System R) (d d' : List R) (r : R) (t u : Tried) → d' ≡ d → t ≡ u → FaresSo s (after d' r) t
    → FaresSo s (after d r) u
fares s d d' r t u dd tu f = subst (λ x. FaresSo s (after x r) u) dd (subst (FaresSo s (after d' r)) tu f)

pub more_admitted : {R : Type 0} (s : System R) (most : ℕ) (d d' all : List R) (start : ℕ) (admitted admitted' : List R)
    (r : R) (left left' : List R) (c : ℕ) (t : Tried) →
    AreLeft s most d all start admitted left c → left ≡ r ∷ left' → d' ≡ d → FaresSo s (after d' r) t → t ≡ Admitted
    → admitted' ≡ admitted ++ (r ∷ []) → AreLeft s most d all start admitted' left' c
more_admitted s most d d' all start admitted admitted' r left left' c t h ll dd f tt aa =
    let f' = fares s d d' r t Admitted dd tt f in
    subst (λ a. AreLeft s most d all start a left' c) (sym aa)
    (left_admitted s most d all start admitted r left' c (subst (λ l. AreLeft s most d all start admitted l c) ll h)
    f'.0 f'.1)

pub more_refused : {R : Type 0} (s : System R) (most : ℕ) (d d' all : List R) (start : ℕ) (admitted : List R) (r : R)
    (left left' : List R) (c c' : ℕ) (t : Tried) →
    AreLeft s most d all start admitted left c → left ≡ r ∷ left' → d' ≡ d → FaresSo s (after d' r) t → t ≡ Refused
    → c' ≡ suc c → c' ≢ most → AreLeft s most d all start admitted left' c'
more_refused s most d d' all start admitted r left left' c c' t h ll dd f tt cc' ne =
    let f' = fares s d d' r t Refused dd tt f in
    subst (λ n. AreLeft s most d all start admitted left' n) (sym cc')
    (left_refused s most d all start admitted r left' c (subst (λ l. AreLeft s most d all start admitted l c) ll h)
    f'.0 f'.1 (not_eq (suc c) most (subst (λ n. n ≢ most) cc' ne)))

pub refused_at_most : {R : Type 0} (s : System R) (most : ℕ) (d d' all : List R) (start : ℕ) (admitted : List R) (r : R)
    (left left' : List R) (c c' : ℕ) (t : Tried) →
    AreLeft s most d all start admitted left c → left ≡ r ∷ left' → d' ≡ d → FaresSo s (after d' r) t → t ≡ Refused
    → c' ≡ suc c → c' ≡ most → status_after s most start (trials s d all) ≡ TooManyDerivations
refused_at_most s most d d' all start admitted r left left' c c' t h ll dd f tt cc' e =
    let f' = fares s d d' r t Refused dd tt f in
    left_counts s most d all start admitted r left' c (subst (λ l. AreLeft s most d all start admitted l c) ll h)
    f'.0 f'.1 (eq-eqb (suc c) most (sym cc' ∙ e))

pub none_left : {R : Type 0} (s : System R) (most : ℕ) (d all : List R) (start : ℕ) (admitted left : List R) (c : ℕ)
    → AreLeft s most d all start admitted left c → left ≡ [] → c < most →
    (status_after s most start (trials s d all) ≡ Going c) × (c < most)
    × (admitted ≡ filter (λ r. s.admitted (after d r)) all)
none_left s most d all start admitted left c h e less =
    let h' = subst (λ l. AreLeft s most d all start admitted l c) e h in
    (h'.status, less, sym (h'.good ∙ append-nil admitted))
