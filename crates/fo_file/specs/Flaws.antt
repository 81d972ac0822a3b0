-- The first flaw of a text of first-order logic that the grammar has: what is ill-formed or passes a limit, and at
-- which token. At one token what is ill-formed goes before limits.
use Rattle.std.specs.Prelude.{ℕ, ◌+◌, ◌&&◌, ◌||◌, not, nat_eq, nat_lt, nat_le, is_some, List, [], ◌∷◌, length, map}
use Rattle.std.specs.Prelude.{take, None}
use Rattle.cyc_basics.specs.declared.limits.TheConstants.{MOST_FIRST_ORDER_ARGUMENTS, MOST_FIRST_ORDER_CASES, MOST_CASE_ATOMS}
use Rattle.cyc_basics.specs.declared.limits.TheConstants.{MOST_CONSTRUCTORS, MOST_LEFT, MOST_NODES, MOST_PREDICATES}
use Rattle.cyc_basics.specs.declared.limits.TheConstants.{MOST_RIGHT}
use Rattle.cyc_lex.specs.declared.fault.IllFault.TheVariants.{Duplicate, Constant}
use Rattle.cyc_lex.specs.declared.fault.What.TheVariants.{Constructors, Predicates, Arguments, Cases, Nodes}
use Rattle.heap_reader.specs.Trees.{Heading}
use Rattle.heap_reader.specs.Spans.{total}
use Rattle.heap_reader.specs.Flaws.{Found, ill_if, over_if, or_later, listed_flaw, arity_in}
use Rattle.fo_syntax.specs.Trees.{Sign, Atom}
use Rattle.fo_syntax.specs.ProblemTrees.{Constructor, Definition, Sequent, Problem}
use Rattle.fo_syntax.specs.ProofTrees.{Entry, Reason, Axiom, Refl, Clash, Decompose, Replace, WeakenLeft, WeakenRight}
use Rattle.fo_syntax.specs.ProofTrees.{Contract, Unfold, Cut, Right, Link, Node, File}
use Rattle.fo_file.specs.declared.walk.flaw.Scope.TheVariants.{Node as InNode, Case as InCase}
use Rattle.fo_file.specs.AtomSpans.{atoms_span, total_terms}
use Rattle.fo_file.specs.AtomFlaws.{variable_flaw, term_flaw, atom_flaw, side_flaw}
use Rattle.fo_file.specs.Spans.{constructor_span, definition_span, sequent_span, sequent_terms, term_span, entry_span}
use Rattle.fo_file.specs.Spans.{node_span, behind_theory}

-- what the uses of constructors and of predicates are compared with
abbrev pub constructor_heading : Constructor → Heading
constructor_heading c = record { name = c.name; arity = c.arguments }

abbrev pub predicate_heading : Definition → Heading
predicate_heading d = record { name = d.name; arity = d.arity }

abbrev pub constructor_heads : List Constructor → List Heading
constructor_heads cs = map constructor_heading cs

abbrev pub predicate_heads : List Definition → List Heading
predicate_heads ds = map predicate_heading ds

-- ---- each part begins at token k, and n members stand before it

-- a number of arguments is at most eight
abbrev pub arguments_flaw : ℕ → ℕ → Found
arguments_flaw k n = over_if (nat_lt MOST_FIRST_ORDER_ARGUMENTS n) Arguments k

-- the first constructor is a constant
abbrev pub constant_flaw : ℕ → ℕ → ℕ → Found
constant_flaw n k arguments = ill_if (nat_eq n 0 && not (nat_eq arguments 0)) Constant k

module _ (constructors : List Heading) where
  -- at most 64, no two with one name
  abbrev pub constructor_flaw : ℕ → ℕ → Constructor → Found
  constructor_flaw n k c =
      or_later (over_if (nat_le MOST_CONSTRUCTORS n) Constructors k)
      (or_later (ill_if (is_some (arity_in (take n constructors) c.name)) Duplicate (k + 1))
      (or_later (constant_flaw n (k + 2) c.arguments) (arguments_flaw (k + 2) c.arguments)))

  -- terms and substitutions in a reason, before which m terms stand in their node
  abbrev pub terms_flaw : ℕ → ℕ → List (List Sign) → Found
  terms_flaw m k [] = None
  terms_flaw m k (t ∷ ts) = or_later (term_flaw constructors InNode m k None t)
      (terms_flaw (m + length t) (k + term_span t) ts)

  -- "$", the variable, ":=" and its value; the variable is no term of its own
  abbrev pub entry_flaw : ℕ → ℕ → Entry → Found
  entry_flaw m k e = or_later (variable_flaw InNode (k + 1) e.variable)
      (term_flaw constructors InNode m (k + 3) None e.value)

  abbrev pub entries_flaw : ℕ → ℕ → List Entry → Found
  entries_flaw m k [] = None
  entries_flaw m k (e ∷ es) = or_later (entry_flaw m k e) (entries_flaw (m + length e.value) (k + entry_span e) es)

  module _ (predicates : List Heading) where
    -- at most 4,096, none with the name of a constructor or of an earlier one
    abbrev pub definition_head_flaw : ℕ → ℕ → Definition → Found
    definition_head_flaw n k d =
        or_later (over_if (nat_le MOST_PREDICATES n) Predicates k)
        (or_later (ill_if (is_some (arity_in constructors d.name) || is_some (arity_in (take n predicates) d.name))
        Duplicate (k + 1)) (arguments_flaw (k + 3) d.arity))

    -- at most sixteen cases of a predicate with so many parameters, of at most sixteen atoms each
    abbrev pub case_flaw : ℕ → ℕ → ℕ → List Atom → Found
    case_flaw arity n k xs = side_flaw constructors (InCase arity) predicates MOST_CASE_ATOMS 0 k
        (over_if (nat_le MOST_FIRST_ORDER_CASES n) Cases k) xs

    abbrev pub cases_flaw : ℕ → ℕ → List (List Atom) → Found
    cases_flaw arity k cases = listed_flaw (case_flaw arity) atoms_span 0 k cases

    abbrev pub definition_flaw : ℕ → ℕ → Definition → Found
    definition_flaw n k d = or_later (definition_head_flaw n k d) (cases_flaw d.arity (k + 6) d.cases)

    -- at most 32 atoms on the left and sixteen on the right
    abbrev pub sequent_flaw : ℕ → Sequent → Found
    sequent_flaw k s =
        or_later (side_flaw constructors InNode predicates MOST_LEFT 0 k None s.left)
        (side_flaw constructors InNode predicates MOST_RIGHT (total_terms s.left) (k + atoms_span s.left)
        None s.right)

    -- a reason, before which m terms stand in its node: the word, two numbers and "[" stand before the terms, the word,
    -- a number and "{" before the entries
    abbrev pub reason_flaw : ℕ → ℕ → Reason → Found
    reason_flaw m k (Axiom i j) = None
    reason_flaw m k (Refl j) = None
    reason_flaw m k (Clash i) = None
    reason_flaw m k (Decompose i) = None
    reason_flaw m k (Replace i side) = None
    reason_flaw m k (WeakenLeft i) = None
    reason_flaw m k (WeakenRight j) = None
    reason_flaw m k (Contract i) = None
    reason_flaw m k (Unfold i) = None
    reason_flaw m k (Cut a) = atom_flaw constructors InNode predicates m (k + 1) None a
    reason_flaw m k (Right i j ts) = terms_flaw m (k + 4) ts
    reason_flaw m k (Link l) = entries_flaw m (k + 3) l.substitution

    -- at most 20,000; the terms of the sequent and of the reason count together
    abbrev pub node_flaw : ℕ → ℕ → Node → Found
    node_flaw n k x =
        or_later (over_if (nat_le MOST_NODES n) Nodes k)
        (or_later (sequent_flaw (k + 1) x.sequent) (reason_flaw (sequent_terms x.sequent)
        (k + 1 + sequent_span x.sequent) x.reason))

    abbrev pub nodes_flaw : ℕ → List Node → Found
    nodes_flaw k nodes = listed_flaw node_flaw node_span 0 k nodes

-- ---- texts: four tokens stand before the constructors, and "goal" before the goal

abbrev pub constructors_flaw : List Constructor → Found
constructors_flaw cs = listed_flaw (constructor_flaw (constructor_heads cs)) constructor_span 0 4 cs

abbrev pub definitions_flaw : List Constructor → List Definition → Found
definitions_flaw cs ds =
    listed_flaw (definition_flaw (constructor_heads cs) (predicate_heads ds)) definition_span 0
    (4 + total constructor_span cs) ds

abbrev pub theory_flaw : List Constructor → List Definition → Found
theory_flaw cs ds = or_later (constructors_flaw cs) (definitions_flaw cs ds)

abbrev pub file_flaw : File → Found
file_flaw f =
    or_later (theory_flaw f.constructors f.definitions)
    (nodes_flaw (constructor_heads f.constructors) (predicate_heads f.definitions)
    (behind_theory f.constructors f.definitions) f.nodes)

abbrev pub problem_flaw : Problem → Found
problem_flaw p =
    or_later (theory_flaw p.constructors p.definitions)
    (sequent_flaw (constructor_heads p.constructors) (predicate_heads p.definitions)
    (behind_theory p.constructors p.definitions + 1) p.goal)
