-- Tests on terms and atoms.
use Rattle.std.specs.Prelude.{ℕ, [], ◌∷◌, Bool, false, ◌&&◌, ◌||◌, not, nat_eq, nat_lt, length, Option, Some, None}
use Rattle.std.specs.Cmp.Lexicographic.{pointwise}
use Rattle.fo_formula.specs.declared.terms.Sign.{Sign}
use Rattle.fo_formula.specs.declared.terms.Sign.TheVariants.{Universal, Local, Constructor}
use Rattle.fo_formula.specs.declared.atoms.FoAtom.{FoAtom}
use Rattle.fo_formula.specs.declared.atoms.FoAtom.TheVariants.{Equation, Predicate}
use Rattle.fo_formula.specs.declared.sequents.FoSequent.{FoSequent}
use Rattle.fo_formula.specs.Words.{Word}

-- two signs, words, atoms, sequents are one as they stand
abbrev pub same_sign : Sign → Sign → Bool
same_sign (Universal m) (Universal n) = nat_eq m n
same_sign (Universal m) (Local n) = false
same_sign (Universal m) (Constructor c k) = false
same_sign (Local m) (Universal n) = false
same_sign (Local m) (Local n) = nat_eq m n
same_sign (Local m) (Constructor c k) = false
same_sign (Constructor c k) (Universal n) = false
same_sign (Constructor c k) (Local n) = false
same_sign (Constructor c k) (Constructor d m) = nat_eq c d && nat_eq k m

abbrev pub same_word : Word → Word → Bool
same_word a b = pointwise same_sign a b

abbrev pub same_atom : FoAtom → FoAtom → Bool
same_atom (Equation a b) (Equation c d) = same_word a c && same_word b d
same_atom (Equation a b) (Predicate q us) = false
same_atom (Predicate p ts) (Equation c d) = false
same_atom (Predicate p ts) (Predicate q us) = nat_eq p q && pointwise same_word ts us

abbrev pub same_sequent : FoSequent → FoSequent → Bool
same_sequent s u = pointwise same_atom s.left u.left && pointwise same_atom s.right u.right

-- the signs are constructors, and differ
abbrev pub are_different : Sign → Sign → Bool
are_different (Constructor c k) (Constructor d m) = not (nat_eq c d && nat_eq k m)
are_different (Constructor c k) (Universal n) = false
are_different (Constructor c k) (Local n) = false
are_different (Universal m) t = false
are_different (Local m) t = false

-- both words begin with constructors, and these differ
abbrev pub begin_differently : Word → Word → Bool
begin_differently [] b = false
begin_differently (s ∷ a) [] = false
begin_differently (s ∷ a) (t ∷ b) = are_different s t

-- the word has the variable
abbrev pub has_variable : ℕ → Word → Bool
has_variable n [] = false
has_variable n (s ∷ w) = same_sign (Universal n) s || has_variable n w

-- the number of the variable that the word is
abbrev pub only_variable : Word → Option ℕ
only_variable [] = None
only_variable (Universal n ∷ []) = Some n
only_variable (Universal n ∷ s ∷ w) = None
only_variable (Local n ∷ w) = None
only_variable (Constructor c k ∷ w) = None

-- the word has the variable and more
abbrev pub has_more : Option ℕ → Word → Bool
has_more None b = false
has_more (Some n) b = has_variable n b && nat_lt 1 (length b)

-- the first word is a variable, and the second has it and more
abbrev pub is_inside : Word → Word → Bool
is_inside a b = has_more (only_variable a) b

-- no two closed terms in place of the variables make the words one: different constructors, or a variable properly
-- inside the other side (Robinson 1965)
abbrev pub is_absurd : Word → Word → Bool
is_absurd l r = begin_differently l r || (is_inside l r || is_inside r l)

-- the signs are one constructor
abbrev pub are_one_constructor : Sign → Sign → Bool
are_one_constructor (Constructor c k) (Constructor d m) = nat_eq c d && nat_eq k m
are_one_constructor (Constructor c k) (Universal n) = false
are_one_constructor (Constructor c k) (Local n) = false
are_one_constructor (Universal m) t = false
are_one_constructor (Local m) t = false

-- both words begin with one constructor
abbrev pub have_one_constructor : Word → Word → Bool
have_one_constructor [] b = false
have_one_constructor (s ∷ a) [] = false
have_one_constructor (s ∷ a) (t ∷ b) = are_one_constructor s t
