-- A walk over signs, one after the other.
use Rattle.std.proofs.Common.{◌≡◌, ℕ, zero, suc, ◌+◌, ◌-◌, ◌<◌, ◌≤◌, List, [], ◌∷◌, ◌++◌, length, length-append, get_or}
use Rattle.std.proofs.Common.{drop, take, Some, None, refl, sym, ap, subst, ◌∙◌, arith}
use Rattle.std.specs.Prelude.{nat_lt}
use Rattle.std.proofs.lemmas.List.{take_all}
use Rattle.cyc_lex.specs.declared.fault.What.TheVariants.{Locals, Terms}
use Rattle.heap_reader.specs.declared.flaw.Flaw.{Flaw}
use Rattle.heap_reader.specs.Trees.{Heading}
use Rattle.heap_reader.specs.Flaws.{Found, over_if, or_later, arity_in, use_flaw}
use Rattle.heap_reader.proofs.NoFlaw.{neither, not_over, below}
use Rattle.fo_syntax.specs.Trees.{Sign, Variable, Local, Apply, AreTerms}
use Rattle.fo_syntax.specs.declared.terms.bracket.Awaited.TheVariants.{First}
use Rattle.fo_syntax.specs.Brackets.{brackets}
use Rattle.fo_syntax.specs.Grammar.{IsTerm}
use Rattle.fo_syntax.specs.Places.{places_of, tokens_in, marks_at, marks_end}
use Rattle.fo_syntax.proofs.PlaceLaws.{HaveRoom, places-count}
use Rattle.fo_file.specs.declared.walk.flaw.Scope.{Scope}
use Rattle.fo_file.specs.Arguments.{numbers_behind, argument_flaw}
use Rattle.fo_file.specs.AtomFlaws.{variable_flaw, terms_flaw, sign_flaw, signs_flaw}

-- where a sign has no flaw, nothing stands against it, and fewer than 4,096 terms are before it
pub passed : (cs : List Heading) (scope : Scope) (m k : ℕ) (limit : Found) (s : Sign)
    → sign_flaw cs scope m k limit s ≡ None → (limit ≡ None) × (m < 4096)
passed cs scope m k limit (Variable n) e =
    let a = neither limit (or_later (terms_flaw m k) (variable_flaw scope (k + 1) n)) e in
    let b = neither (terms_flaw m k) (variable_flaw scope (k + 1) n) a.1 in
    (a.0, below 4096 m (not_over _ Terms k b.0))
passed cs scope m k limit (Local n) e =
    let a = neither limit (or_later (terms_flaw m k) (over_if (nat_lt 15 n) Locals (k + 1))) e in
    let b = neither (terms_flaw m k) (over_if (nat_lt 15 n) Locals (k + 1)) a.1 in
    (a.0, below 4096 m (not_over _ Terms k b.0))
passed cs scope m k limit (Apply name n) e =
    let a = neither (use_flaw (arity_in cs name) n k) (or_later limit (terms_flaw m k)) e in
    let b = neither limit (terms_flaw m k) a.1 in
    (b.0, below 4096 m (not_over _ Terms k b.1))

pub stepped : (cs : List Heading) (scope : Scope) (ns : List ℕ) (m n k : ℕ) (limit here : Found) (s : Sign)
    (ss whole : List Sign) (p : ℕ) (ps places : List ℕ) (total : Found) → whole ≡ s ∷ ss → places ≡ p ∷ ps
    → here ≡ or_later limit (argument_flaw ns (k + p)) → sign_flaw cs scope (m + n) (k + p) here s ≡ None
    → signs_flaw cs scope ns (m + n) k limit whole places ≡ total
    → signs_flaw cs scope (numbers_behind s ns) (m + (n + 1)) k None ss ps ≡ total
stepped cs scope ns m n k limit here s ss whole p ps places total is at stands none so_far =
    let next : m + (n + 1) ≡ (m + n) + 1 = omega arith in
    let rest = λ (j : ℕ). signs_flaw cs scope (numbers_behind s ns) j k None ss ps in
    ap rest next ∙ sym (ap (λ f. or_later f (rest ((m + n) + 1))) none)
    ∙ ap (λ f. or_later (sign_flaw cs scope (m + n) (k + p) f s) (rest ((m + n) + 1))) stands
    ∙ sym (ap (λ x. signs_flaw cs scope ns (m + n) k limit x (p ∷ ps)) is)
    ∙ sym (ap (signs_flaw cs scope ns (m + n) k limit whole) at) ∙ so_far

pub faulty : (cs : List Heading) (scope : Scope) (ns : List ℕ) (m k : ℕ) (limit here : Found) (s : Sign)
    (ss whole : List Sign) (p : ℕ) (ps places : List ℕ) (total : Found) (f : Flaw) → whole ≡ s ∷ ss → places ≡ p ∷ ps
    → here ≡ or_later limit (argument_flaw ns (k + p)) → sign_flaw cs scope m (k + p) here s ≡ Some f
    → signs_flaw cs scope ns m k limit whole places ≡ total → total ≡ Some f
faulty cs scope ns m k limit here s ss whole p ps places total f is at stands some so_far =
    let rest = signs_flaw cs scope (numbers_behind s ns) (m + 1) k None ss ps in
    sym so_far ∙ ap (signs_flaw cs scope ns m k limit whole) at
    ∙ ap (λ x. signs_flaw cs scope ns m k limit x (p ∷ ps)) is
    ∙ ap (λ g. or_later (sign_flaw cs scope m (k + p) g s) rest) (sym stands) ∙ ap (λ g. or_later g rest) some

pub all-stepped : (cs : List Heading) (scope : Scope) (ns : List ℕ) (m k : ℕ) (limit : Found) (whole : List Sign)
    (places : List ℕ) (total : Found) → whole ≡ [] → signs_flaw cs scope ns m k limit whole places ≡ total
    → total ≡ None
all-stepped cs scope ns m k limit whole places total none so_far = sym so_far
    ∙ ap (λ x. signs_flaw cs scope ns m k limit x places) none

-- ---- room for places

pub room-first : (e p q : ℕ) (ps places rest : List ℕ) → places ≡ p ∷ rest → rest ≡ q ∷ ps → HaveRoom e places
    → (p + 2 ≤ e) × HaveRoom e rest
room-first e p q ps places rest is next h =
    let both : HaveRoom e (p ∷ q ∷ ps) = subst (HaveRoom e) (is ∙ ap (λ x. p ∷ x) next) h in
    (both.0, subst (HaveRoom e) (sym next) both.1)

pub room-more : (e f : ℕ) (ps : List ℕ) → e ≤ f → HaveRoom e ps → HaveRoom f ps
room-more e f [] le h = tt
room-more e f (p ∷ []) le h = omega (arith, h, le)
room-more e f (p ∷ q ∷ ps) le h = (omega (arith, h.0, le), room-more e f (q ∷ ps) le h.1)

-- the last place is the end
pub last-place : (t : List Sign) (d : ℕ) → IsTerm t → get_or (places_of t) (length t) d ≡ tokens_in t
last-place [] d h = absurd h
last-place (Variable n ∷ []) d h = refl
last-place (Variable n ∷ s ∷ ss) d h = absurd h
last-place (Local n ∷ []) d h = refl
last-place (Local n ∷ s ∷ ss) d h = absurd h
last-place (Apply name n ∷ ss) d h = at-end (places-count (Apply name n ∷ ss) h)
  where
    behind : (xs : List ℕ) (y j : ℕ) → length xs ≡ j → get_or (xs ++ y ∷ []) j d ≡ y
    behind [] y zero e = refl
    behind [] y (suc j) e = absurd cc
    behind (x ∷ xs) y zero e = absurd cc
    behind (x ∷ xs) y (suc j) e = let f : length xs ≡ j = cc in behind xs y j f

    at-end : length (places_of (Apply name n ∷ ss)) ≡ length (Apply name n ∷ ss) + 1
        → get_or (places_of (Apply name n ∷ ss)) (length (Apply name n ∷ ss)) d ≡ tokens_in (Apply name n ∷ ss)
    at-end e = behind (marks_at 2 (First 0) (brackets (n ∷ []) ss)) (marks_end 2 (First 0) (brackets (n ∷ []) ss))
        (length ss) (omega (
          arith,
          e,
          length-append (marks_at 2 (First 0) (brackets (n ∷ []) ss))
              (marks_end 2 (First 0) (brackets (n ∷ []) ss) ∷ []),
        ))

-- ---- what is after the first place

pub length-tail : (xs : List ℕ) → length (drop 1 xs) ≡ length xs - 1
length-tail [] = omega arith
length-tail (x ∷ xs) = omega arith

pub tail-of : (xs : List ℕ) → take (length xs - 1) (drop 1 xs) ≡ drop 1 xs
tail-of xs = take_all (length xs - 1) (drop 1 xs) (omega (arith, length-tail xs))

pub room-tail : (e : ℕ) (ps : List ℕ) → HaveRoom e ps → HaveRoom e (drop 1 ps)
room-tail e [] h = tt
room-tail e (p ∷ []) h = tt
room-tail e (p ∷ q ∷ ps) h = h.1

pub one-term : (name : List ℕ) (n : ℕ) (ss : List Sign) → AreTerms n ss → IsTerm (Apply name n ∷ ss)
one-term name n ss h = subst (λ k. AreTerms k ss) (omega arith) h
