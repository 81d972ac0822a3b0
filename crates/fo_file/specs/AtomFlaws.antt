-- The first flaw of terms and atoms, in the order of their tokens; at one token the order of the table: unknown, arity,
-- arguments, cases, atoms, terms.
use Rattle.std.specs.Prelude.{◌≡◌, ℕ, ◌+◌, nat_lt, nat_le, List, [], ◌∷◌, length, drop, Some, None, Result, Ok, Err}
use Rattle.cyc_basics.specs.declared.limits.TheConstants.{GREATEST_FIRST_ORDER_LOCAL, GREATEST_VARIABLE, MOST_TERMS}
use Rattle.cyc_lex.specs.declared.fault.IllFault.TheVariants.{Parameter}
use Rattle.cyc_lex.specs.declared.fault.What.TheVariants.{Atoms, Locals, Terms, Variable as VariableLimit}
use Rattle.heap_reader.specs.Trees.{Heading}
use Rattle.heap_reader.specs.Flaws.{Found, ill_if, over_if, or_later, arity_in, use_flaw}
use Rattle.fo_syntax.specs.Trees.{Sign, Variable, Local, Apply, Atom, Equation, Predicate}
use Rattle.fo_syntax.specs.Places.{places_of, tokens_in}
use Rattle.fo_file.specs.declared.walk.flaw.Scope.{Scope}
use Rattle.fo_file.specs.declared.walk.flaw.Scope.TheVariants.{Node, Case}
use Rattle.fo_file.specs.declared.walk.flaw.Reached.{Reached}
use Rattle.fo_file.specs.declared.walk.flaw.Stop.{Stop}
use Rattle.fo_file.specs.declared.walk.flaw.Stop.TheVariants.{Flaw, OutOfMemory}
use Rattle.fo_file.specs.AtomSpans.{atom_span, terms_in}
use Rattle.fo_file.specs.Arguments.{numbers, numbers_behind, argument_flaw}

-- in a case $n is a parameter; elsewhere a number is at most 65,534
abbrev pub variable_flaw : Scope → ℕ → ℕ → Found
variable_flaw Node k n = over_if (nat_lt GREATEST_VARIABLE n) VariableLimit k
variable_flaw (Case arity) k n = ill_if (nat_le arity n) Parameter k

-- a term more than 4,096
abbrev pub terms_flaw : ℕ → ℕ → Found
terms_flaw m k = over_if (nat_le MOST_TERMS m) Terms k

-- Each sign begins at token k, with m terms before it; limit is what the
-- case or the list of atoms that begins here has against it.
module _ (constructors : List Heading) (scope : Scope) where
  abbrev pub sign_flaw : ℕ → ℕ → Found → Sign → Found
  sign_flaw m k limit (Variable n) = or_later limit (or_later (terms_flaw m k) (variable_flaw scope (k + 1) n))
  sign_flaw m k limit (Local n) = or_later limit (or_later (terms_flaw m k)
      (over_if (nat_lt GREATEST_FIRST_ORDER_LOCAL n) Locals (k + 1)))
  sign_flaw m k limit (Apply name n) = or_later (use_flaw (arity_in constructors name) n k)
      (or_later limit (terms_flaw m k))

  -- signs at these places, counted from token k on, of terms that are the arguments with these numbers
  abbrev pub signs_flaw : List ℕ → ℕ → ℕ → Found → List Sign → List ℕ → Found
  signs_flaw ns m k limit [] ps = None
  signs_flaw ns m k limit (s ∷ ss) [] = None
  signs_flaw ns m k limit (s ∷ ss) (p ∷ ps) =
      or_later (sign_flaw m (k + p) (or_later limit (argument_flaw ns (k + p))) s)
      (signs_flaw (numbers_behind s ns) (m + 1) k None ss ps)

  -- no application stands round it
  abbrev pub term_flaw : ℕ → ℕ → Found → List Sign → Found
  term_flaw m k limit t = signs_flaw [] m k limit t (places_of t)

  -- a term, the token between and a term; the limit stands against the first alone
  abbrev pub equation_flaw : ℕ → ℕ → Found → List Sign → List Sign → Found
  equation_flaw m k limit t u =
      or_later (term_flaw m k limit t) (term_flaw (m + length t) (k + tokens_in t + 1) None u)

  module _ (predicates : List Heading) where
    -- a predicate's name with so many arguments, whose signs have these places
    abbrev pub name_flaw : Reached → Found → List ℕ → ℕ → List Sign → List ℕ → Found
    name_flaw from limit name n ss places =
        or_later (use_flaw (arity_in predicates name) n from.token)
        (or_later limit (signs_flaw (numbers n) from.terms from.token None ss places))

    abbrev pub predicate_flaw : ℕ → ℕ → Found → List Sign → Found
    predicate_flaw m k limit [] = None
    predicate_flaw m k limit (Variable n ∷ ss) = None
    predicate_flaw m k limit (Local n ∷ ss) = None
    predicate_flaw m k limit (Apply name n ∷ ss) = or_later (use_flaw (arity_in predicates name) n k)
        (or_later limit (signs_flaw (numbers n) m k None ss (drop 1 (places_of (Apply name n ∷ ss)))))

    abbrev pub atom_flaw : ℕ → ℕ → Found → Atom → Found
    atom_flaw m k limit (Equation t u) = equation_flaw m k limit t u
    atom_flaw m k limit (Predicate t) = predicate_flaw m k limit t

    -- atoms of which n stand before, in a list of at most so many
    abbrev pub atoms_flaw : ℕ → ℕ → ℕ → ℕ → Found → List Atom → Found
    atoms_flaw most n m k limit [] = None
    atoms_flaw most n m k limit (a ∷ more) =
        or_later (atom_flaw m k (or_later limit (over_if (nat_le most n) Atoms k)) a)
        (atoms_flaw most (n + 1) (m + terms_in a) (k + atom_span a) None more)

    -- a side of a sequent or a case, also without atoms
    abbrev pub side_flaw : ℕ → ℕ → ℕ → Found → List Atom → Found
    side_flaw most m k limit [] = limit
    side_flaw most m k limit (a ∷ more) = atoms_flaw most 0 m k limit (a ∷ more)

-- ---- answers

-- the walk ends after the part where it has no flaw, and else names the first; out of memory is free
abbrev pub IsWalk : Result Reached Stop → Found → ℕ → ℕ → Type 0
IsWalk (Ok reached) found token terms = (found ≡ None) × ((reached.token ≡ token) × (reached.terms ≡ terms))
IsWalk (Err (Flaw flaw)) found token terms = found ≡ Some flaw
IsWalk (Err OutOfMemory) found token terms = Unit {0}

-- the same from what is reached on, over so many tokens and terms
abbrev pub IsWalkFrom : Reached → Result Reached Stop → (ℕ → ℕ → Found) → ℕ → ℕ → Type 0
IsWalkFrom from result flaw tokens terms =
    IsWalk result (flaw from.terms from.token) (from.token + tokens) (from.terms + terms)
