-- What a tree says, whose names are known, is written as that tree.
use Rattle.std.proofs.Common.{◌≡◌, ℕ, zero, suc, ◌+◌, List, [], ◌∷◌, map, Some, refl, ap, subst, arith}
use Rattle.std.specs.List.{flat_map}
use Rattle.heap_formula.specs.Words.{Each}
use Rattle.heap_reader.specs.Trees.{Heading}
use Rattle.heap_reader.specs.Flaws.{arity_in}
use Rattle.heap_reader.specs.Values.{place_of}
use Rattle.fo_formula.specs.declared.theory.FoTheory.{FoTheory}
use Rattle.fo_formula.specs.Words as words
use Rattle.fo_syntax.specs.Trees.{Sign, Variable, Local, Apply, arguments_of, AreTerms, Atom, Equation, Predicate}
use Rattle.fo_syntax.specs.ProblemTrees.{Constructor, Definition, Sequent, Problem}
use Rattle.fo_syntax.specs.declared.proofs.tree.SideTree.{SideTree}
use Rattle.fo_syntax.specs.declared.proofs.tree.SideTree.TheVariants.{Left, Right as RightSide}
use Rattle.fo_syntax.specs.ProofTrees.{Entry, LinkData, Reason, Axiom, Refl, Clash, Decompose, Replace, WeakenLeft}
use Rattle.fo_syntax.specs.ProofTrees.{WeakenRight, Contract, Unfold, Cut, Right, Link, Node, File}
use Rattle.fo_file.specs.Values.{first_terms, side_value, sign_value, term_value, use_value, atom_value, atoms_value}
use Rattle.fo_file.specs.Values.{sequent_value, definition_value, theory_value, entry_value, link_value, reason_value}
use Rattle.fo_file.specs.Values.{node_value, file_value, problem_value, constructor_value}
use Rattle.fo_file.specs.Known.{IsKnownSign, AreKnownTerms, IsKnownTerm, IsKnownEntry, IsKnownAtom, AreKnownAtoms}
use Rattle.fo_file.specs.Known.{IsKnownSequent, IsKnownDefinition, IsKnownReason, IsKnownNode, IsKnownFile}
use Rattle.fo_file.specs.Known.{IsKnownProblem}
use Rattle.fo_file.specs.Written.{side_tree, constructor_name, predicate_name, sign_tree, term_tree, atom_tree}
use Rattle.fo_file.specs.Written.{atoms_tree, sequent_tree, definition_tree, constructor_tree, entry_tree, link_tree}
use Rattle.fo_file.specs.Written.{reason_tree, node_tree, file_tree, problem_tree}
use Rattle.fo_file.proofs.Adjacent.{first-count, first-joined}

each-again : {X Y : Type 0} (value : X → Y) (tree : Y → X) (Known : X → Type 0)
    → ((x : X) → Known x → tree (value x) ≡ x) → (xs : List X) → Each Known xs → map tree (map value xs) ≡ xs
each-again value tree Known one [] k = refl
each-again value tree Known one (x ∷ xs) k =
    let first = one x k.0 in
    let rest = each-again value tree Known one xs k.1 in
    λ i. first i ∷ rest i

constructors-again : (cs : List Constructor) → map constructor_tree (map constructor_value cs) ≡ cs
constructors-again [] = refl
constructors-again (c ∷ cs) = ap (λ ds. c ∷ ds) (constructors-again cs)

side-again : (s : SideTree) → side_tree (side_value s) ≡ s
side-again Left = refl
side-again RightSide = refl

pub arity-value : (cs : List Heading) (s : Sign) → words.arity (sign_value cs s) ≡ arguments_of s
arity-value cs (Variable n) = refl
arity-value cs (Local n) = refl
arity-value cs (Apply name n) = refl

-- terms are said as terms
pub terms-value : (cs : List Heading) (n : ℕ) (ss : List Sign) → AreTerms n ss → words.AreTerms n (term_value cs ss)
terms-value cs zero [] h = tt
terms-value cs zero (s ∷ ss) h = absurd h
terms-value cs (suc n) [] h = absurd h
terms-value cs (suc n) (s ∷ ss) h =
    let a = arity-value cs s in
    let e : n + arguments_of s ≡ words.arity (sign_value cs s) + n = omega (arith, a) in
    subst (λ i. words.AreTerms i (term_value cs ss)) e (terms-value cs (n + arguments_of s) ss h)

module _ (cs : List Heading) (t : FoTheory) (named : (name : List ℕ) (n : ℕ) → arity_in cs name ≡ Some n
    → constructor_name t (place_of cs name) ≡ name) where
  sign-again : (s : Sign) → IsKnownSign cs s → sign_tree t (sign_value cs s) ≡ s
  sign-again (Variable n) k = refl
  sign-again (Local n) k = refl
  sign-again (Apply name n) k = ap (λ (x : List ℕ). Apply x n) (named name n k.1)

  term-again : (ss : List Sign) → Each (IsKnownSign cs) ss → term_tree t (term_value cs ss) ≡ ss
  term-again ss k = each-again (sign_value cs) (sign_tree t) (IsKnownSign cs) sign-again ss k

  entry-again : (e : Entry) → IsKnownEntry cs e → entry_tree t (entry_value cs e) ≡ e
  entry-again e k = ap (λ (v : List Sign). record { variable = e.variable; value = v }) (term-again e.value k.1.1)

  link-again : (l : LinkData) → Each (IsKnownEntry cs) l.substitution → link_tree t (link_value cs l) ≡ l
  link-again l k =
      ap (λ (s : List Entry). record { target = l.target; substitution = s; left = l.left; right = l.right })
      (each-again (entry_value cs) (entry_tree t) (IsKnownEntry cs) entry-again l.substitution k)

  module _ (ps : List Heading) (named_predicates : (name : List ℕ) (n : ℕ) → arity_in ps name ≡ Some n
      → predicate_name t (place_of ps name) ≡ name) where
    use-again : (name : List ℕ) (n : ℕ) (ss : List Sign) → arity_in ps name ≡ Some n → AreKnownTerms cs n ss
        → atom_tree t (use_value cs ps (Apply name n ∷ ss)) ≡ Predicate (Apply name n ∷ ss)
    use-again name n ss e k =
        let there = named_predicates name n e in
        let count = first-count n (term_value cs ss) in
        let joined = first-joined (sign_tree t) n (term_value cs ss) (terms-value cs n ss k.0) in
        let all = term-again ss k.1 in
        let whole : flat_map (term_tree t) (first_terms n (term_value cs ss)) ≡ ss = cc in
        λ i. Predicate (Apply (there i) (count i) ∷ whole i)

    atom-again : (a : Atom) → IsKnownAtom cs ps a → atom_tree t (atom_value cs ps a) ≡ a
    atom-again (Equation l r) k =
        let first = term-again l k.0.1 in
        let second = term-again r k.1.1 in
        λ i. Equation (first i) (second i)
    atom-again (Predicate []) k = absurd k
    atom-again (Predicate (Variable n ∷ ss)) k = absurd k
    atom-again (Predicate (Local n ∷ ss)) k = absurd k
    atom-again (Predicate (Apply name n ∷ ss)) k = use-again name n ss k.0 k.1

    atoms-again : (xs : List Atom) → AreKnownAtoms cs ps xs → atoms_tree t (atoms_value cs ps xs) ≡ xs
    atoms-again xs k = each-again (atom_value cs ps) (atom_tree t) (IsKnownAtom cs ps) atom-again xs k

    sequent-again : (s : Sequent) → IsKnownSequent cs ps s → sequent_tree t (sequent_value cs ps s) ≡ s
    sequent-again s k =
        let left = atoms-again s.left k.0 in
        let right = atoms-again s.right k.1 in
        λ i. record { left = left i; right = right i }

    definition-again : (d : Definition) → IsKnownDefinition cs ps d → definition_tree t (definition_value cs ps d) ≡ d
    definition-again d k =
        let cases = each-again (atoms_value cs ps) (atoms_tree t) (AreKnownAtoms cs ps) atoms-again d.cases k.1 in
        λ i. record { name = d.name; arity = d.arity; cases = cases i }

    definitions-again : (ds : List Definition) → Each (IsKnownDefinition cs ps) ds
        → map (definition_tree t) (map (definition_value cs ps) ds) ≡ ds
    definitions-again ds k = each-again (definition_value cs ps) (definition_tree t) (IsKnownDefinition cs ps)
        definition-again ds k

    reason-again : (r : Reason) → IsKnownReason cs ps r → reason_tree t (reason_value cs ps r) ≡ r
    reason-again (Axiom i j) k = refl
    reason-again (Refl j) k = refl
    reason-again (Clash i) k = refl
    reason-again (Decompose i) k = refl
    reason-again (Replace n side) k = ap (λ (s : SideTree). Replace n s) (side-again side)
    reason-again (WeakenLeft i) k = refl
    reason-again (WeakenRight j) k = refl
    reason-again (Contract i) k = refl
    reason-again (Unfold i) k = refl
    reason-again (Cut a) k = ap Cut (atom-again a k)
    reason-again (Right j c ts) k =
        ap (λ (xs : List (List Sign)). Right j c xs)
        (each-again (term_value cs) (term_tree t) (IsKnownTerm cs) (λ ss h. term-again ss h.1) ts k)
    reason-again (Link l) k = ap Link (link-again l k)

    node-again : (n : Node) → IsKnownNode cs ps n → node_tree t (node_value cs ps n) ≡ n
    node-again n k =
        let sequent = sequent-again n.sequent k.0 in
        let reason = reason-again n.reason k.1 in
        λ i. record { sequent = sequent i; reason = reason i; premises = n.premises }

    nodes-again : (ns : List Node) → Each (IsKnownNode cs ps) ns → map (node_tree t) (map (node_value cs ps) ns) ≡ ns
    nodes-again ns k = each-again (node_value cs ps) (node_tree t) (IsKnownNode cs ps) node-again ns k

-- ---- whole files

-- the names of a theory are those at their places
pub record AreNamed (cs ps : List Heading) (t : FoTheory) : Type 0 where
  pub constructors : (name : List ℕ) (n : ℕ) → arity_in cs name ≡ Some n → constructor_name t (place_of cs name) ≡ name
  pub predicates : (name : List ℕ) (n : ℕ) → arity_in ps name ≡ Some n → predicate_name t (place_of ps name) ≡ name

pub file-again : (cs ps : List Heading) (f : File) → AreNamed cs ps (theory_value cs ps f.constructors f.definitions)
    → IsKnownFile cs ps f → file_tree (file_value cs ps f) ≡ f
file-again cs ps f named k =
    let t = theory_value cs ps f.constructors f.definitions in
    let constructors = constructors-again f.constructors in
    let definitions = definitions-again cs t named.constructors ps named.predicates f.definitions k.0.1 in
    let nodes = nodes-again cs t named.constructors ps named.predicates f.nodes k.1 in
    λ i. record { constructors = constructors i; definitions = definitions i; nodes = nodes i }

pub problem-again : (cs ps : List Heading) (p : Problem)
    → AreNamed cs ps (theory_value cs ps p.constructors p.definitions) → IsKnownProblem cs ps p
    → problem_tree (problem_value cs ps p) ≡ p
problem-again cs ps p named k =
    let t = theory_value cs ps p.constructors p.definitions in
    let constructors = constructors-again p.constructors in
    let definitions = definitions-again cs t named.constructors ps named.predicates p.definitions k.0.1 in
    let goal = sequent-again cs t named.constructors ps named.predicates p.goal k.1 in
    λ i. record { constructors = constructors i; definitions = definitions i; goal = goal i }
