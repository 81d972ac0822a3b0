-- Strings and labels read back as what they say.
use Rattle.std.proofs.Common.{◌≡◌, ℕ, Bool, true, false, List, [], ◌∷◌, ◌++◌, Some, Result, Ok, Err, refl, ap, sym, ◌∙◌}
use Rattle.std.proofs.Common.{append_assoc, arith}
use Rattle.std.proofs.lemmas.Bool.{eqb-true, eqb-false}
use Rattle.std.specs.Prelude.{nat_eq, codes, OnOk}
use Rattle.draw_top.specs.Quoting.{escape, escaped, quoted, mark_up, marked_up}
use Rattle.draw_top.specs.Reading.{with_front, read_string, read_quoted, InText, read_from, HasNoTag}

-- ---- strings

escape-read : (b : ℕ) (q s : Bool) → nat_eq b 34 ≡ q → nat_eq b 92 ≡ s → (rest : List ℕ)
    → read_string false (escape b ++ rest) ≡ with_front b (read_string false rest)
escape-read b true s e f rest = rw (e) (ap (λ x. with_front x (read_string false rest)) (sym (eqb-true b 34 e)))
escape-read b false true e f rest = rw (e, f) (ap (λ x. with_front x (read_string false rest)) (sym (eqb-true b 92 f)))
escape-read b false false e f rest = rw (e, f, e, f) refl

string-read : (bs others : List ℕ) → read_string false (escaped bs ++ 34 ∷ others) ≡ Some (bs, others)
string-read [] others = refl
string-read (b ∷ bs) others =
    ap (read_string false) (append_assoc (escape b) (escaped bs) (34 ∷ others))
    ∙ escape-read b (nat_eq b 34) (nat_eq b 92) refl refl (escaped bs ++ 34 ∷ others)
    ∙ ap (with_front b) (string-read bs others)

pub quoted-read : (bs others : List ℕ) → read_quoted (quoted bs ++ others) ≡ Some (bs, others)
quoted-read bs others = ap (read_string false) (append_assoc (escaped bs) (codes "\"") others) ∙ string-read bs others

-- ---- labels

mark-read : (b : ℕ) (q s t : Bool) → nat_eq b 38 ≡ q → nat_eq b 60 ≡ s → nat_eq b 62 ≡ t → (rest : List ℕ)
    → read_from InText (mark_up b ++ rest) ≡ b ∷ read_from InText rest
mark-read b true s t e f g rest = rw (e) (ap (λ x. x ∷ read_from InText rest) (sym (eqb-true b 38 e)))
mark-read b false true t e f g rest = rw (e, f) (ap (λ x. x ∷ read_from InText rest) (sym (eqb-true b 60 f)))
mark-read b false false true e f g rest = rw (e, f, g) (ap (λ x. x ∷ read_from InText rest) (sym (eqb-true b 62 g)))
mark-read b false false false e f g rest = rw (e, f, g, e) refl

pub marked-read : (bs : List ℕ) → read_from InText (marked_up bs) ≡ bs
marked-read [] = refl
marked-read (b ∷ bs) =
    mark-read b (nat_eq b 38) (nat_eq b 60) (nat_eq b 62) refl refl refl (marked_up bs)
    ∙ ap (λ rest. b ∷ rest) (marked-read bs)

no-tag : (b : ℕ) (q s t : Bool) → nat_eq b 38 ≡ q → nat_eq b 60 ≡ s → nat_eq b 62 ≡ t → (rest : List ℕ) → HasNoTag rest
    → HasNoTag (mark_up b ++ rest)
no-tag b true s t e f g rest h =
    rw (e) (
      λ x. omega arith,
      λ x. omega arith,
      (
        λ x. omega arith,
        λ x.
            omega arith,
        (
          λ x. omega arith,
          λ x. omega arith,
          (
            λ x. omega arith,
            λ x.
                omega arith,
            (λ x. omega arith, λ x. omega arith, h),
          ),
        ),
      ),
    )
no-tag b false true t e f g rest h =
    rw (e, f) (
      λ x. omega arith,
      λ x. omega arith,
      (
        λ x. omega arith,
        λ x.
            omega arith,
        (λ x. omega arith, λ x. omega arith, (λ x. omega arith, λ x. omega arith, h)),
      ),
    )
no-tag b false false true e f g rest h =
    rw (e, f, g) (
      λ x. omega arith,
      λ x. omega arith,
      (
        λ x. omega arith,
        λ x.
            omega arith,
        (λ x. omega arith, λ x. omega arith, (λ x. omega arith, λ x. omega arith, h)),
      ),
    )
no-tag b false false false e f g rest h = rw (e, f, g) (eqb-false b 60 f, eqb-false b 62 g, h)

pub marked-no-tag : (bs : List ℕ) → HasNoTag (marked_up bs)
marked-no-tag [] = tt
marked-no-tag (b ∷ bs) = no-tag b (nat_eq b 38) (nat_eq b 60) (nat_eq b 62) refl refl refl (marked_up bs)
    (marked-no-tag bs)

-- ---- texts in parts

-- three texts were appended
pub three_parts : {E : Type 0} (r : Result (Unit {0}) E) (old a b new x y z : List ℕ) → a ≡ old ++ x → b ≡ a ++ y
    → OnOk r (new ≡ b ++ z) → OnOk r (new ≡ old ++ (x ++ y ++ z))
three_parts (Ok u) old a b new x y z ha hb hc =
    hc ∙ ap (λ s. s ++ z) (hb ∙ ap (λ s. s ++ y) ha ∙ append_assoc old x y) ∙ append_assoc old (x ++ y) z
three_parts (Err e) old a b new x y z ha hb hc = tt
