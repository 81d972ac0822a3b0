-- The rules, each as its faults in their order and then its premises.
use Rattle.std.specs.Prelude.{ℕ, zero, suc, ◌+◌, List, [], ◌∷◌, ◌++◌, map, length, Bool, nat_eq, nat_le, Ok}
use Rattle.std.specs.Prelude.{if◌then◌else◌, slice_get, slice_set}
use Rattle.std.specs.List.{list_all}
use Rattle.cyc_basics.specs.declared.limits.TheConstants.{VARIABLE_NUMBERS}
use Rattle.heap_formula.specs.declared.proof_rules.Side.{Side}
use Rattle.heap_formula.specs.declared.proof_rules.Side.TheVariants.{Left as TheLeft, Right as TheRight}
use Rattle.heap_formula.specs.Positions.{without}
use Rattle.fo_formula.specs.declared.terms.Sign.{Sign}
use Rattle.fo_formula.specs.declared.terms.Sign.TheVariants.{Universal, Local, Constructor}
use Rattle.fo_formula.specs.declared.atoms.FoAtom.{FoAtom}
use Rattle.fo_formula.specs.declared.atoms.FoAtom.TheVariants.{Equation}
use Rattle.fo_formula.specs.declared.sequents.FoSequent.{FoSequent}
use Rattle.fo_formula.specs.declared.nodes.FoRule.{FoRule}
use Rattle.fo_formula.specs.declared.nodes.FoRule.TheVariants.{Axiom, Refl, Clash, Decompose, Replace, WeakenLeft}
use Rattle.fo_formula.specs.declared.nodes.FoRule.TheVariants.{WeakenRight, Contract, Unfold, Cut, Right}
use Rattle.fo_formula.specs.declared.theory.FoTheory.{FoTheory}
use Rattle.fo_formula.specs.declared.numbers.Kind.TheVariants.{Locals}
use Rattle.fo_formula.specs.Words.{Word, in_atom, first_term, after_first}
use Rattle.fo_formula.specs.Values.{sign_value}
use Rattle.fo_formula.specs.Meaning.{cases_of}
use Rattle.fo_formula.specs.Bounds.{atoms_bound, sequent_bound}
use Rattle.fo_formula.specs.Sizes.{words_size, atom_size}
use Rattle.fo_formula.specs.declared.table.faults.FoFault.TheVariants.{NoSuchAtom, AtomsDiffer, NotAbsurd, NotVariable}
use Rattle.fo_formula.specs.declared.table.faults.FoFault.TheVariants.{NoSuchCase, NoFreshVariable, TermCount}
use Rattle.fo_formula.specs.declared.table.premises.FoPremise.{FoPremise}
use Rattle.fo_formula.specs.Tests.{same_word, same_atom, only_variable, is_absurd, have_one_constructor}
use Rattle.fo_formula.specs.Traces.{pairs_from, same_pairs, kept_pairs, child_pairs}
use Rattle.fo_formula.specs.Answers.{Answer, needs, finds, equation, predicate, within, limited}

-- ---- substitution

abbrev pub Bindings : Type 0
Bindings = List (ℕ × Word)

-- the term of the first pair for a variable; a variable without one stays
abbrev pub image : Bindings → ℕ → Word
image [] n = Universal n ∷ []
image (p ∷ ps) n = if nat_eq n p.0 then p.1 else image ps n

-- what the substitution puts in a sign's place
abbrev pub image_sign : Bindings → Sign → Word
image_sign ps (Universal n) = image ps n
image_sign ps (Local n) = Local n ∷ []
image_sign ps (Constructor c k) = Constructor c k ∷ []

-- ---- sequents

-- the sequent with another left side, another right side
abbrev pub with_left : FoSequent → List FoAtom → FoSequent
with_left s xs = record { left = xs; right = s.right }

abbrev pub with_right : FoSequent → List FoAtom → FoSequent
with_right s ys = record { left = s.left; right = ys }

-- the premise without left atom i
abbrev pub weakened_left : FoSequent → ℕ → FoPremise
weakened_left s i = record { sequent = with_left s (without i s.left); pairs = kept_pairs i s.left }

abbrev pub weakened_right : FoSequent → ℕ → FoPremise
weakened_right s j = record { sequent = with_right s (without j s.right); pairs = same_pairs s.left }

-- the equations between k terms of the one word and k of the other
abbrev pub equations : ℕ → Word → Word → List FoAtom
equations zero a b = []
equations (suc k) a b = Equation (first_term a) (first_term b) ∷ equations k (after_first a) (after_first b)

-- the equations between the arguments of two terms
abbrev pub argument_equations : Word → Word → List FoAtom
argument_equations (Constructor c k ∷ a) (t ∷ b) = equations k a b
argument_equations _ b = []

abbrev pub decomposed : FoSequent → ℕ → Word → Word → FoPremise
decomposed s i l r =
    record { sequent = with_left s (without i s.left ++ argument_equations l r); pairs = kept_pairs i s.left }

-- the premise without left atom i, and with t for variable x everywhere else
abbrev pub with_term : FoSequent → ℕ → ℕ → Word → FoPremise
with_term s i x t =
    record {
      sequent = record {
        left = map (in_atom (image_sign ((x, t) ∷ []))) (without i s.left);
        right = map (in_atom (image_sign ((x, t) ∷ []))) s.right;
      };
      pairs = kept_pairs i s.left;
    }

-- the named side of an equation, and the other
abbrev pub named : Side → Word → Word → Word
named TheLeft l r = l
named TheRight l r = r

abbrev pub unnamed : Side → Word → Word → Word
unnamed TheLeft l r = r
unnamed TheRight l r = l

-- left atom i, which is x, copied to the end; the copy goes on from it
abbrev pub contracted : FoSequent → ℕ → FoAtom → FoPremise
contracted s i x =
    record {
      sequent = with_left s (s.left ++ x ∷ []);
      pairs = same_pairs s.left ++ pairs_from (λ _. i) (length s.left) (x ∷ []);
    }

-- k variables from n on
abbrev pub variables_from : ℕ → ℕ → List Word
variables_from n zero = []
variables_from n (suc k) = (Universal n ∷ []) ∷ variables_from (suc n) k

-- a case at these arguments, its locals being these terms
abbrev pub case_body : List Word → List Word → List FoAtom → List FoAtom
case_body args locals case = map (in_atom (sign_value args locals)) case

-- the case's locals as variables from n on
abbrev pub fresh_locals : ℕ → List FoAtom → List Word
fresh_locals n case = variables_from n (atoms_bound Locals case)

-- a case in place of left atom i, its locals as variables from n on; the case's atoms progress
abbrev pub unfold_premise : FoSequent → ℕ → List Word → ℕ → List FoAtom → FoPremise
unfold_premise s i args n case =
    record {
      sequent = with_left s (without i s.left ++ case_body args (fresh_locals n case) case);
      pairs = kept_pairs i s.left ++ child_pairs i (length (without i s.left)) case;
    }

-- the numbers of these variables are at most 65,534
abbrev pub is_numbered : ℕ → List FoAtom → Bool
is_numbered n case = nat_le (n + atoms_bound Locals case) VARIABLE_NUMBERS

-- an atom of a case in place of right atom j
abbrev pub right_premise : FoSequent → ℕ → List Word → List Word → FoAtom → FoPremise
right_premise s j args terms x =
    record {
      sequent = with_right s (slice_set s.right j (in_atom (sign_value args terms) x));
      pairs = same_pairs s.left;
    }

abbrev pub cut_right : FoSequent → FoAtom → FoPremise
cut_right s x = record { sequent = with_right s (s.right ++ x ∷ []); pairs = same_pairs s.left }

-- x on the left has no pair
abbrev pub cut_left : FoSequent → FoAtom → FoPremise
cut_left s x = record { sequent = with_left s (s.left ++ x ∷ []); pairs = same_pairs s.left }

-- ---- the rules

abbrev pub axiom_answer : FoSequent → ℕ → ℕ → Answer
axiom_answer s i j =
    finds (slice_get s.left i) NoSuchAtom (λ x.
    finds (slice_get s.right j) NoSuchAtom (λ y. needs (same_atom x y) AtomsDiffer (limited s 0 [])))

abbrev pub refl_answer : FoSequent → ℕ → Answer
refl_answer s j =
    finds (slice_get s.right j) NoSuchAtom (λ y. equation y (λ l r. needs (same_word l r) AtomsDiffer (limited s 0 [])))

abbrev pub clash_answer : FoSequent → ℕ → Answer
clash_answer s i =
    finds (slice_get s.left i) NoSuchAtom (λ x. equation x (λ l r. needs (is_absurd l r) NotAbsurd (limited s 0 [])))

abbrev pub decompose_answer : FoSequent → ℕ → Answer
decompose_answer s i =
    finds (slice_get s.left i) NoSuchAtom (λ x.
    equation x (λ l r. needs (have_one_constructor l r) AtomsDiffer (limited s 0 (decomposed s i l r ∷ []))))

abbrev pub replace_answer : FoSequent → ℕ → Side → Answer
replace_answer s i side =
    finds (slice_get s.left i) NoSuchAtom (λ x.
    equation x (λ l r.
    finds (only_variable (named side l r)) NotVariable (λ n. limited s 0 (with_term s i n (unnamed side l r) ∷ []))))

abbrev pub weaken_left_answer : FoSequent → ℕ → Answer
weaken_left_answer s i = finds (slice_get s.left i) NoSuchAtom (λ x. limited s 0 (weakened_left s i ∷ []))

abbrev pub weaken_right_answer : FoSequent → ℕ → Answer
weaken_right_answer s j = finds (slice_get s.right j) NoSuchAtom (λ y. limited s 0 (weakened_right s j ∷ []))

abbrev pub contract_answer : FoSequent → ℕ → Answer
contract_answer s i = finds (slice_get s.left i) NoSuchAtom (λ x. limited s 0 (contracted s i x ∷ []))

abbrev pub unfold_cases : FoSequent → ℕ → List Word → ℕ → List (List FoAtom) → Answer
unfold_cases s i args n cases =
    within s 0 (map (unfold_premise s i args n) cases)
    (needs (list_all (is_numbered n) cases) NoFreshVariable (Ok (map (unfold_premise s i args n) cases)))

abbrev pub unfold_answer : FoTheory → FoSequent → ℕ → Answer
unfold_answer t s i =
    finds (slice_get s.left i) NoSuchAtom (λ x.
    predicate x (λ p args. unfold_cases s i args (sequent_bound s) (cases_of t.definitions p)))

abbrev pub cut_answer : FoSequent → FoAtom → Answer
cut_answer s x = limited s (atom_size x) (cut_right s x ∷ cut_left s x ∷ [])

abbrev pub right_answer : FoTheory → FoSequent → ℕ → ℕ → List Word → Answer
right_answer t s j c terms =
    finds (slice_get s.right j) NoSuchAtom (λ y.
    predicate y (λ p args.
    finds (slice_get (cases_of t.definitions p) c) NoSuchCase (λ case.
    needs (nat_eq (length terms) (atoms_bound Locals case)) TermCount
    (limited s (words_size terms) (map (right_premise s j args terms) case)))))

-- the answer of a rule
abbrev pub rule_answer : FoTheory → FoSequent → FoRule → Answer
rule_answer t s (Axiom i j) = axiom_answer s i j
rule_answer t s (Refl j) = refl_answer s j
rule_answer t s (Clash i) = clash_answer s i
rule_answer t s (Decompose i) = decompose_answer s i
rule_answer t s (Replace i side) = replace_answer s i side
rule_answer t s (WeakenLeft i) = weaken_left_answer s i
rule_answer t s (WeakenRight j) = weaken_right_answer s j
rule_answer t s (Contract i) = contract_answer s i
rule_answer t s (Unfold i) = unfold_answer t s i
rule_answer t s (Cut x) = cut_answer s x
rule_answer t s (Right j c terms) = right_answer t s j c terms
