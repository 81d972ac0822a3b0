-- A text without a flaw has known names, numbers that fit, and parts within the limits.
use Rattle.std.proofs.Common.{◌≡◌, ℕ, suc, ◌+◌, ◌<◌, ◌≤◌, Bool, true, false, List, [], ◌∷◌, length, drop, Option, Some}
use Rattle.std.proofs.Common.{None, refl, sym, ap, arith}
use Rattle.std.specs.Prelude.{nat_eq, nat_lt, nat_le, not, if◌then◌else◌}
use Rattle.std.specs.Str.{bytes_eq}
use Rattle.std.proofs.lemmas.Bool.{eqb-true, not-false}
use Rattle.heap_formula.specs.Words.{Each}
use Rattle.cyc_lex.specs.declared.fault.IllFault.TheVariants.{Parameter, Arity}
use Rattle.cyc_lex.specs.declared.fault.What.TheVariants.{Atoms, Locals, Variable as VariableLimit}
use Rattle.heap_reader.specs.Trees.{Heading}
use Rattle.heap_reader.specs.Flaws.{Found, over_if, or_later, arity_in, use_flaw}
use Rattle.heap_reader.proofs.NoFlaw.{neither, not_over, not_ill, at_most, below}
use Rattle.fo_syntax.specs.Trees.{Sign, Variable, Local, Apply, Atom, Equation, Predicate}
use Rattle.fo_syntax.specs.Grammar.{IsTerm, IsApplication}
use Rattle.fo_syntax.specs.Places.{places_of, tokens_in}
use Rattle.fo_syntax.proofs.PlaceLaws.{places-count}
use Rattle.fo_file.specs.declared.walk.flaw.Scope.{Scope}
use Rattle.fo_file.specs.declared.walk.flaw.Scope.TheVariants.{Node as InNode, Case as InCase}
use Rattle.fo_file.specs.AtomSpans.{atom_span, behind_first, terms_in, total_terms, IsAtom, AreAtoms}
use Rattle.fo_file.specs.Arguments.{numbers, numbers_behind, argument_flaw}
use Rattle.fo_file.specs.AtomFlaws.{variable_flaw, terms_flaw as term_limit, sign_flaw, signs_flaw, term_flaw}
use Rattle.fo_file.specs.AtomFlaws.{predicate_flaw, atom_flaw, atoms_flaw, side_flaw}
use Rattle.fo_file.proofs.Walks.{passed, one-term}
use Rattle.fo_file.specs.Known.{IsKnownSign, IsKnownTerm, IsKnownUse, IsKnownAtom, AreKnownAtoms}

-- ---- names

abbrev pub HasFewArguments : Heading → Type 0
HasFewArguments h = h.arity ≤ 8

first-few : (h : Heading) (rest : Option ℕ) (n : ℕ) (b : Bool) → h.arity ≤ 8 → (rest ≡ Some n → n ≤ 8)
    → (if b then Some h.arity else rest) ≡ Some n → n ≤ 8
first-few h rest n true few later e = let same : h.arity ≡ n = cc in omega arith
first-few h rest n false few later e = later e

-- what is known has at most eight arguments, where all headings have
pub arity-few : (hs : List Heading) → Each HasFewArguments hs → (name : List ℕ) (n : ℕ) → arity_in hs name ≡ Some n
    → n ≤ 8
arity-few [] few name n e = absurd cc
arity-few (h ∷ hs) few name n e =
    first-few h (arity_in hs name) n (bytes_eq h.name name) few.0 (arity-few hs few.1 name n) e

used : (o : Option ℕ) (n k : ℕ) → use_flaw o n k ≡ None → o ≡ Some n
used None n k e = absurd cc
used (Some arity) n k e =
    let same = eqb-true n arity (not-false (nat_eq n arity) (not_ill (not (nat_eq n arity)) Arity k e)) in
    ap Some (sym same)

-- ---- signs and terms

-- a case of a predicate has at most eight parameters
abbrev pub HasFewParameters : Scope → Type 0
HasFewParameters InNode = Unit {0}
HasFewParameters (InCase arity) = arity ≤ 8

pub variable-small : (scope : Scope) → HasFewParameters scope → (k n : ℕ) → variable_flaw scope k n ≡ None → n < 65536
variable-small InNode few k n e = let h = at_most 65534 n (not_over _ VariableLimit k e) in omega arith
variable-small (InCase arity) few k n e = let h = below arity n (not_ill _ Parameter k e) in omega arith

module _ (cs : List Heading) (few_cs : Each HasFewArguments cs) (scope : Scope) (few : HasFewParameters scope) where
  sign-known : (m k : ℕ) (limit : Found) (s : Sign) → sign_flaw cs scope m k limit s ≡ None
      → (limit ≡ None) × ((m < 4096) × IsKnownSign cs s)
  sign-known m k limit (Variable n) e =
      let p = passed cs scope m k limit (Variable n) e in
      let a = neither limit (or_later (term_limit m k) (variable_flaw scope (k + 1) n)) e in
      (p.0, (p.1, variable-small scope few (k + 1) n (neither (term_limit m k) (variable_flaw scope (k + 1) n) a.1).1))
  sign-known m k limit (Local n) e =
      let p = passed cs scope m k limit (Local n) e in
      let a = neither limit (or_later (term_limit m k) (over_if (nat_lt 15 n) Locals (k + 1))) e in
      let h = at_most 15 n (not_over _ Locals (k + 1) (neither (term_limit m k) (over_if (nat_lt 15 n) Locals (k + 1))
      a.1).1) in
      (p.0, (p.1, omega arith))
  sign-known m k limit (Apply name n) e =
      let p = passed cs scope m k limit (Apply name n) e in
      let known = used (arity_in cs name) n k (neither (use_flaw (arity_in cs name) n k)
      (or_later limit (term_limit m k)) e).0 in
      let h = arity-few cs few_cs name n known in
      (p.0, (p.1, (omega arith, known)))

  signs-known : (ns : List ℕ) (m k : ℕ) (limit : Found) (ss : List Sign) (ps : List ℕ) → length ss ≤ length ps
      → m ≤ 4096 → signs_flaw cs scope ns m k limit ss ps ≡ None → (m + length ss ≤ 4096) × Each (IsKnownSign cs) ss
  signs-known ns m k limit [] ps le h e = (omega arith, tt)
  signs-known ns m k limit (s ∷ ss) [] le h e = absurd (omega arith)
  signs-known ns m k limit (s ∷ ss) (p ∷ ps) le h e =
      let here = or_later limit (argument_flaw ns (k + p)) in
      let both = neither (sign_flaw cs scope m (k + p) here s)
      (signs_flaw cs scope (numbers_behind s ns) (m + 1) k None ss ps) e in
      let first = sign-known m (k + p) here s both.0 in
      let room = first.1.0 in
      let rest = signs-known (numbers_behind s ns) (m + 1) k None ss ps (omega arith) (omega arith) both.1 in
      let all = rest.0 in
      (omega arith, (first.1.1, rest.1))

  pub term-known : (m k : ℕ) (limit : Found) (t : List Sign) → IsTerm t → m ≤ 4096
      → term_flaw cs scope m k limit t ≡ None → (m + length t ≤ 4096) × IsKnownTerm cs t
  term-known m k limit t is h e =
      let count = places-count t is in
      let r = signs-known [] m k limit t (places_of t) (omega arith) h e in
      (r.0, (is, r.1))

  first-free : (m k : ℕ) (limit : Found) (s : Sign) → sign_flaw cs scope m (k + 0) (or_later limit None) s ≡ None
      → limit ≡ None
  first-free m k limit s e = (neither limit None (passed cs scope m (k + 0) (or_later limit None) s e).0).0

  term-limit : (m k : ℕ) (limit : Found) (t : List Sign) → IsTerm t → term_flaw cs scope m k limit t ≡ None
      → limit ≡ None
  term-limit m k limit [] is e = absurd is
  term-limit m k limit (Variable n ∷ ss) is e =
      first-free m k limit (Variable n) (neither (sign_flaw cs scope m (k + 0) (or_later limit None) (Variable n))
      _ e).0
  term-limit m k limit (Local n ∷ ss) is e =
      first-free m k limit (Local n) (neither (sign_flaw cs scope m (k + 0) (or_later limit None) (Local n)) _ e).0
  term-limit m k limit (Apply name n ∷ ss) is e =
      first-free m k limit (Apply name n) (neither (sign_flaw cs scope m (k + 0) (or_later limit None) (Apply name n))
      _ e).0

  -- ---- atoms

  module _ (ps : List Heading) where
    use-known : (m k : ℕ) (limit : Found) (t : List Sign) → IsApplication t → m ≤ 4096
        → predicate_flaw cs scope ps m k limit t ≡ None → (limit ≡ None)
        × ((m + behind_first t ≤ 4096) × IsKnownUse cs ps t)
    use-known m k limit [] is h e = absurd is
    use-known m k limit (Variable n ∷ ss) is h e = absurd is
    use-known m k limit (Local n ∷ ss) is h e = absurd is
    use-known m k limit (Apply name n ∷ ss) is h e =
        let places = drop 1 (places_of (Apply name n ∷ ss)) in
        let count : length (places_of (Apply name n ∷ ss))
        ≡ length (Apply name n ∷ ss) + 1 = places-count (Apply name n ∷ ss) (one-term name n ss is) in
        let some : length (places_of (Apply name n ∷ ss)) ≡ suc (length places) = refl in
        let a = neither (use_flaw (arity_in ps name) n k)
        (or_later limit (signs_flaw cs scope (numbers n) m k None ss places)) e in
        let b = neither limit (signs_flaw cs scope (numbers n) m k None ss places) a.1 in
        let r = signs-known (numbers n) m k None ss places (omega arith) h b.1 in
        (b.0, (r.0, (used (arity_in ps name) n k a.0, (is, r.1))))

    pub atom-known : (m k : ℕ) (limit : Found) (a : Atom) → IsAtom a → m ≤ 4096
        → atom_flaw cs scope ps m k limit a ≡ None → (limit ≡ None) × ((m + terms_in a ≤ 4096) × IsKnownAtom cs ps a)
    atom-known m k limit (Equation t u) is h e =
        let both = neither (term_flaw cs scope m k limit t)
        (term_flaw cs scope (m + length t) (k + tokens_in t + 1) None u) e in
        let first = term-known m k limit t is.0 h both.0 in
        let second = term-known (m + length t) (k + tokens_in t + 1) None u is.1 first.0 both.1 in
        let all = second.0 in
        (term-limit m k limit t is.0 both.0, (omega arith, (first.1, second.1)))
    atom-known m k limit (Predicate t) is h e = use-known m k limit t is h e

    -- within the limits of a list of atoms before which n atoms and m terms stand
    pub record AreWithin (most n m : ℕ) (xs : List Atom) : Type 0 where
      pub atoms : n + length xs ≤ most
      pub terms : m + total_terms xs ≤ 4096
      pub known : AreKnownAtoms cs ps xs

    atoms-known : (most n m k : ℕ) (limit : Found) (xs : List Atom) → AreAtoms xs → n ≤ most → m ≤ 4096
        → atoms_flaw cs scope ps most n m k limit xs ≡ None → AreWithin most n m xs
    atoms-known most n m k limit [] are l h e = record { atoms = omega arith; terms = omega arith; known = tt }
    atoms-known most n m k limit (a ∷ more) are l h e =
        let here = or_later limit (over_if (nat_le most n) Atoms k) in
        let both = neither (atom_flaw cs scope ps m k here a)
        (atoms_flaw cs scope ps most (n + 1) (m + terms_in a) (k + atom_span a) None more) e in
        let first = atom-known m k here a are.0 h both.0 in
        let room = below most n (not_over _ Atoms k (neither limit (over_if (nat_le most n) Atoms k) first.0).1) in
        let rest = atoms-known most (n + 1) (m + terms_in a) (k + atom_span a) None more are.1 (omega arith)
        first.1.0 both.1 in
        let atoms = rest.atoms in
        let terms = rest.terms in
        record { atoms = omega arith; terms = omega arith; known = (first.1.1, rest.known) }

    pub record IsSideWithin (most m : ℕ) (limit : Found) (xs : List Atom) : Type 0 where
      pub allowed : limit ≡ None
      pub atoms : length xs ≤ most
      pub terms : m + total_terms xs ≤ 4096
      pub known : AreKnownAtoms cs ps xs

    pub side-known : (most m k : ℕ) (limit : Found) (xs : List Atom) → AreAtoms xs → m ≤ 4096
        → side_flaw cs scope ps most m k limit xs ≡ None → IsSideWithin most m limit xs
    side-known most m k limit [] are h e = record { allowed = e; atoms = omega arith; terms = omega arith; known = tt }
    side-known most m k limit (a ∷ more) are h e =
        let here = or_later limit (over_if (nat_le most 0) Atoms k) in
        let both = neither (atom_flaw cs scope ps m k here a)
        (atoms_flaw cs scope ps most 1 (m + terms_in a) (k + atom_span a) None more) e in
        let first = atom-known m k here a are.0 h both.0 in
        let all = atoms-known most 0 m k limit (a ∷ more) are (omega arith) h e in
        let atoms = all.atoms in
        record {
          allowed = (neither limit (over_if (nat_le most 0) Atoms k) first.0).0;
          atoms = omega arith;
          terms = all.terms;
          known = all.known;
        }
