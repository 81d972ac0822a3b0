-- Items one after the other are read as they are spelled, and a fault is exact; and so is an option.
use Rattle.std.proofs.Common.{◌≡◌, ℕ, zero, suc, ◌≤◌, true, false, List, [], ◌∷◌, ◌++◌, length, Ok, Err, refl, sym, ap}
use Rattle.std.proofs.Common.{subst, ◌∙◌, append_assoc, arith, inl, inr, ◌⊎◌, length-append}
use Rattle.cyc_lex.specs.Word.{Word}
use Rattle.cyc_grammar.specs.Syntax.{Reading, ◌>>=◌, Syntax, Class, begins, is_one, after}
use Rattle.cyc_grammar.proofs.Laws.{Lawful, Faults, Stops, Stops-never, ClassLaw, bind_ok, bind_err, differ, ok_is}
use Rattle.cyc_grammar.proofs.Laws.{chosen, after-law, class-begins, Begins-append, begins-cut, at-suc}
use Rattle.fo_syntax.specs.Steps.{Steps, read_steps, words_steps, fits_steps, steps, words_option, read_option}
use Rattle.fo_syntax.specs.Steps.{more_option, fits_option, option}

-- each item is lawful, nothing goes on it, and it has a word; from each state on some items come to an end
pub record StepsLaw {S A : Type 0} (p : Steps S A) : Type 0 where
  pub law : (s : S) → Lawful (p.item s)
  pub closed : (s : S) (x : A) (ts : List Word) → (p.item s).fits x → Stops ((p.item s).more x) ts
  pub some : (s : S) (x : A) → (p.item s).fits x → 1 ≤ length ((p.item s).words x)
  pub finish : S → List A
  pub finished : (s : S) → fits_steps p s (finish s)

step : {S A : Type 0} (p : Steps S A) (n : ℕ) (s : S) (ts : List Word) → p.wants s ≡ true
    → read_steps p (suc n) s ts ≡ ((p.item s).read ts >>= λ x. read_steps p n (p.next s x.0) x.1 >>= λ y.
    Ok (x.0 ∷ y.0, y.1))
step p n s ts h = rw h refl

none : {S A : Type 0} (p : Steps S A) (n : ℕ) (s : S) (ts : List Word) → p.wants s ≡ false
    → read_steps p n s ts ≡ Ok ([], ts)
none p zero s ts h = rw h refl
none p (suc n) s ts h = rw h refl

steps-takes : {S A : Type 0} (p : Steps S A) → StepsLaw p → (n : ℕ) (s : S) (ts : List Word) (x : List A × List Word)
    → read_steps p n s ts ≡ Ok x → (ts ≡ words_steps p s x.0 ++ x.1) × fits_steps p s x.0
steps-takes {A = A} p l zero s ts x e =
    elim (chosen (p.wants s) (Err (length ts)) (Ok ([], ts)) (Ok x) e) [
      | inl q ↦ absurd (differ x (length ts) (sym q.1))
      | inr q ↦ subst (λ (y : List A × List Word). (ts ≡ words_steps p s y.0 ++ y.1) × fits_steps p s y.0)
          (ok_is ([], ts) x q.1) (refl, q.0)
    ]
steps-takes {A = A} p l (suc n) s ts x e =
    elim (chosen (p.wants s) ((p.item s).read ts >>= λ x. read_steps p n (p.next s x.0) x.1 >>= λ y.
    Ok (x.0 ∷ y.0, y.1)) (Ok ([], ts)) (Ok x) e) [
      | inl h ↦
          let q = bind_ok ((p.item s).read ts) (λ x. read_steps p n (p.next s x.0) x.1 >>= λ y. Ok (x.0 ∷ y.0, y.1))
          x h.1 in
          let r = bind_ok (read_steps p n (p.next s q.0.0) q.0.1) (λ y. Ok (q.0.0 ∷ y.0, y.1)) x q.2 in
          let one = (l.law s).takes ts q.0 q.1 in
          let rest = steps-takes p l n (p.next s q.0.0) q.0.1 r.0 r.1 in
          let made : List A × List Word = (q.0.0 ∷ r.0.0, r.0.1) in
          let whole : ts ≡ ((p.item s).words q.0.0 ++ words_steps p (p.next s q.0.0) r.0.0) ++ r.0.1 = one.0
          ∙ ap (λ t. (p.item s).words q.0.0 ++ t) rest.0
          ∙ sym (append_assoc ((p.item s).words q.0.0) (words_steps p (p.next s q.0.0) r.0.0) r.0.1) in
          subst (λ (y : List A × List Word). (ts ≡ words_steps p s y.0 ++ y.1) × fits_steps p s y.0) (ok_is made x r.2)
          (whole, (h.0, (one.2, rest.1)))
      | inr q ↦ subst (λ (y : List A × List Word). (ts ≡ words_steps p s y.0 ++ y.1) × fits_steps p s y.0)
          (ok_is ([], ts) x q.1) (refl, q.0)
    ]

steps-again : {S A : Type 0} (p : Steps S A) → StepsLaw p → (n : ℕ) (s : S) (xs : List A) (rest : List Word)
    → length xs ≤ n → fits_steps p s xs → read_steps p n s (words_steps p s xs ++ rest) ≡ Ok (xs, rest)
steps-again p l n s [] rest le fit = none p n s rest fit
steps-again p l zero s (x ∷ xs) rest le fit = absurd (omega arith)
steps-again p l (suc n) s (x ∷ xs) rest le fit =
    let less : length xs ≤ n = omega arith in
    let one = (l.law s).again x (words_steps p (p.next s x) xs ++ rest) fit.1.0
    (l.closed s x (words_steps p (p.next s x) xs ++ rest) fit.1.0) in
    ap (read_steps p (suc n) s) (append_assoc ((p.item s).words x) (words_steps p (p.next s x) xs) rest)
    ∙ step p n s ((p.item s).words x ++ (words_steps p (p.next s x) xs ++ rest)) fit.0
    ∙ rw (one, steps-again p l n (p.next s x) xs rest less fit.1.1) refl

steps-length : {S A : Type 0} (p : Steps S A) → StepsLaw p → (s : S) (xs : List A) → fits_steps p s xs
    → length xs ≤ length (words_steps p s xs)
steps-length p l s [] fit = omega arith
steps-length p l s (x ∷ xs) fit = omega (
  arith,
  steps-length p l (p.next s x) xs fit.1.1,
  length-append ((p.item s).words x) (words_steps p (p.next s x) xs),
  l.some s x fit.1.0,
)

record StepFaults {S A : Type 0} (p : Steps S A) (s : S) (ts : List Word) (left : ℕ) : Type 0 where
  front : List Word
  rest : List Word
  parts : ts ≡ front ++ rest
  size : length rest ≡ left
  value : List A
  fits : fits_steps p s value
  tail : List Word
  begins : words_steps p s value ≡ front ++ tail
  stays : (n : ℕ) (d : Word) (r x : List Word) → rest ≡ d ∷ r → length (front ++ d ∷ x) ≤ n
      → read_steps p n s (front ++ d ∷ x) ≡ Err (suc (length x))

-- where words run out, the rest is to come
at-end : {S A : Type 0} (p : Steps S A) → StepsLaw p → (s : S) (ts : List Word) → length ts ≤ 0
    → StepFaults p s ts (length ts)
at-end p l s [] le = record {
  front = [];
  rest = [];
  parts = refl;
  size = refl;
  value = l.finish s;
  fits = l.finished s;
  tail = words_steps p s (l.finish s);
  begins = refl;
  stays = λ n d r x h k. absurd cc;
}
at-end p l s (t ∷ ts) le = absurd (omega arith)

abbrev failed : {A : Type 0} → ℕ → Reading A
failed k = Err k

err_is : {A : Type 0} (i j : ℕ) → failed {A = A} i ≡ failed j → i ≡ j
err_is i j h = cc

steps-fault : {S A : Type 0} (p : Steps S A) → StepsLaw p → (n : ℕ) (s : S) (ts : List Word) (left : ℕ) → length ts ≤ n
    → read_steps p n s ts ≡ Err left → StepFaults p s ts left
steps-fault p l zero s ts left le e =
    elim (chosen (p.wants s) (Err (length ts)) (Ok ([], ts)) (Err left) e) [
      | inl q ↦ subst (λ k. StepFaults p s ts k) (err_is (length ts) left q.1) (at-end p l s ts le)
      | inr q ↦ absurd (differ ([], ts) left q.1)
    ]
steps-fault {S = S} {A = A} p l (suc n) s ts left le e =
    elim (chosen (p.wants s) ((p.item s).read ts >>= λ x. read_steps p n (p.next s x.0) x.1 >>= λ y.
    Ok (x.0 ∷ y.0, y.1)) (Ok ([], ts)) (Err left) e) [
      | inl h ↦ elim (bind_err ((p.item s).read ts) (λ x. read_steps p n (p.next s x.0) x.1 >>= λ y.
          Ok (x.0 ∷ y.0, y.1)) left h.1) [
            | inl bad ↦ first h.0 bad
            | inr q ↦ elim (bind_err (read_steps p n (p.next s q.0.0) q.0.1) (λ y. Ok (q.0.0 ∷ y.0, y.1)) left q.2) [
              | inl bad ↦ later h.0 q.0 q.1 (steps-fault p l n (p.next s q.0.0) q.0.1 left (shorter q.0 q.1) bad)
              | inr r ↦ absurd (differ (q.0.0 ∷ r.0.0, r.0.1) left r.2)
            ]
          ]
      | inr q ↦ absurd (differ ([], ts) left q.1)
    ]
  where
    shorter : (x : A × List Word) → (p.item s).read ts ≡ Ok x → length x.1 ≤ n
    shorter x good = let t = (l.law s).takes ts x good in
        omega (arith, ap length t.0, length-append ((p.item s).words x.0) x.1, l.some s x.0 t.2)

    first : p.wants s ≡ true → (p.item s).read ts ≡ Err left → StepFaults p s ts left
    first want bad =
        let f = (l.law s).fault ts left bad in
        let behind = words_steps p (p.next s f.value) (l.finish (p.next s f.value)) in
        record {
          front = f.front;
          rest = f.rest;
          parts = f.parts;
          size = f.size;
          value = f.value ∷ l.finish (p.next s f.value);
          fits = (want, (f.fits, l.finished (p.next s f.value)));
          tail = f.tail ++ behind;
          begins = ap (λ t. t ++ behind) f.begins ∙ append_assoc f.front f.tail behind;
          stays = λ m d2 r x h le2.
              let k = at-suc m (f.front ++ d2 ∷ x) (omega (arith, length-append f.front (d2 ∷ x))) le2 in
              ap (λ j. read_steps p j s (f.front ++ d2 ∷ x)) k.1 ∙ step p k.0 s (f.front ++ d2 ∷ x) want
              ∙ rw (f.stays d2 r x h) refl;
        }

    later : p.wants s ≡ true → (x : A × List Word) → (p.item s).read ts ≡ Ok x → StepFaults p (p.next s x.0) x.1 left
        → StepFaults p s ts left
    later want x good f =
        let t = (l.law s).takes ts x good in
        record {
          front = (p.item s).words x.0 ++ f.front;
          rest = f.rest;
          size = f.size;
          parts = t.0 ∙ ap (λ u. (p.item s).words x.0 ++ u) f.parts
              ∙ sym (append_assoc ((p.item s).words x.0) f.front f.rest);
          value = x.0 ∷ f.value;
          fits = (want, (t.2, f.fits));
          tail = f.tail;
          begins = ap (λ u. (p.item s).words x.0 ++ u) f.begins
              ∙ sym (append_assoc ((p.item s).words x.0) f.front f.tail);
          stays = λ m d2 r u h le2.
              let one = (l.law s).again x.0 (f.front ++ d2 ∷ u) t.2 (l.closed s x.0 (f.front ++ d2 ∷ u) t.2) in
              let same = append_assoc ((p.item s).words x.0) f.front (d2 ∷ u) in
              let le3 : length ((p.item s).words x.0 ++ (f.front ++ d2 ∷ u)) ≤ m = subst
              (λ (v : List Word). length v ≤ m) same le2 in
              let k = at-suc m ((p.item s).words x.0 ++ (f.front ++ d2 ∷ u))
              (omega (arith, length-append ((p.item s).words x.0) (f.front ++ d2 ∷ u), l.some s x.0 t.2)) le3 in
              let le4 : length (f.front ++ d2 ∷ u) ≤ k.0 = omega
              (arith, length-append ((p.item s).words x.0) (f.front ++ d2 ∷ u), l.some s x.0 t.2, k.1) in
              ap (read_steps p m s) same ∙ ap (λ j. read_steps p j s ((p.item s).words x.0 ++ (f.front ++ d2 ∷ u))) k.1
              ∙ step p k.0 s ((p.item s).words x.0 ++ (f.front ++ d2 ∷ u)) want
              ∙ rw (one, f.stays k.0 d2 r u h le4) refl;
        }

pub steps-law : {S A : Type 0} (p : Steps S A) → StepsLaw p → (s : S) → Lawful (steps p s)
steps-law p l s = record {
  some = l.finish s;
  fits = l.finished s;
  takes = λ ts x e. let t = steps-takes p l (length ts) s ts x e in (t.0, Stops-never x.1, t.1);
  again = λ xs rest fit h.
      let le : length xs ≤ length (words_steps p s xs ++ rest) = omega
      (arith, steps-length p l s xs fit, length-append (words_steps p s xs) rest) in
      steps-again p l (length (words_steps p s xs ++ rest)) s xs rest le fit;
  fault = λ ts left e.
      let f = steps-fault p l (length ts) s ts left (omega arith) e in
      record {
        front = f.front;
        rest = f.rest;
        parts = f.parts;
        size = f.size;
        value = f.value;
        fits = f.fits;
        tail = f.tail;
        begins = f.begins;
        stays = λ d r x h.
            f.stays (length (f.front ++ d ∷ x)) d r x h (omega arith);
      };
}

-- ---- a word and then a, or neither

pub option-law : {A : Type 0} (c : Class (Unit {0})) (a : Syntax A) → ClassLaw c → Lawful a → Lawful (option c a)
option-law {A = A} c a lc la = record { some = inl tt; fits = tt; takes = takes; again = again; fault = fault }
  where
    item : Lawful (after c a)
    item = after-law c a lc la

    starts : (ts : List Word) → begins (is_one c) ts ≡ false → Stops (is_one c) ts
    starts [] h = tt
    starts (d ∷ ts) h = h

    stopped : (ts : List Word) → Stops (is_one c) ts → begins (is_one c) ts ≡ false
    stopped [] h = refl
    stopped (d ∷ ts) h = h

    takes : (ts : List Word) (x : (Unit {0} ⊎ A) × List Word) → read_option c a ts ≡ Ok x
        → (ts ≡ words_option c a x.0 ++ x.1) × Stops (more_option c a x.0) x.1 × fits_option a x.0
    takes ts x e = elim (chosen (begins (is_one c) ts) ((after c a).read ts >>= λ x. Ok (inr x.0, x.1))
        (Ok (inl tt, ts)) (Ok x) e) [
          | inl h ↦
              let q = bind_ok ((after c a).read ts) (λ x. Ok (inr x.0, x.1)) x h.1 in
              let made : (Unit {0} ⊎ A) × List Word = (inr q.0.0, q.0.1) in
              subst (λ (y : (Unit {0} ⊎ A) × List Word). (ts ≡ words_option c a y.0 ++ y.1)
              × Stops (more_option c a y.0) y.1 × fits_option a y.0) (ok_is made x q.2) (item.takes ts q.0 q.1)
          | inr h ↦
              let made : (Unit {0} ⊎ A) × List Word = (inl tt, ts) in
              subst (λ (y : (Unit {0} ⊎ A) × List Word). (ts ≡ words_option c a y.0 ++ y.1)
              × Stops (more_option c a y.0) y.1 × fits_option a y.0) (ok_is made x h.1) (refl, starts ts h.0, tt)
        ]

    again : (t : Unit {0} ⊎ A) (rest : List Word) → fits_option a t → Stops (more_option c a t) rest
        → read_option c a (words_option c a t ++ rest) ≡ Ok (t, rest)
    again (inl u) rest fit h = rw (stopped rest h) refl
    again (inr x) rest fit h = rw (
      Begins-append (is_one c) ((after c a).words x) rest (class-begins c a lc x),
      item.again x rest fit h,
    ) refl

    fault : (ts : List Word) (left : ℕ) → read_option c a ts ≡ Err left → Faults (option c a) ts left
    fault ts left e = elim (chosen (begins (is_one c) ts) ((after c a).read ts >>= λ x. Ok (inr x.0, x.1))
        (Ok (inl tt, ts)) (Err left) e) [
          | inl h ↦ elim (bind_err ((after c a).read ts) (λ x. Ok (inr x.0, x.1)) left h.1) [
            | inl bad ↦
                let f = item.fault ts left bad in
                record {
                  front = f.front;
                  rest = f.rest;
                  parts = f.parts;
                  size = f.size;
                  value = inr f.value;
                  fits = f.fits;
                  tail = f.tail;
                  begins = f.begins;
                  stays = λ d r x k. rw (
                    begins-cut (is_one c) f.front d x r
                        ∙ ap (begins (is_one c)) (ap (λ v. f.front ++ v) (sym k) ∙ sym f.parts) ∙ h.0,
                    f.stays d r x k,
                  ) refl;
                }
            | inr q ↦ absurd (differ (inr q.0.0, q.0.1) left q.2)
          ]
          | inr h ↦ absurd (differ (inl tt, ts) left h.1)
        ]
