-- The trees of nodes within the limits have no flaw, where names are known.
use Rattle.std.proofs.Common.{◌≡◌, ℕ, zero, suc, ◌+◌, ◌<◌, ◌≤◌, List, [], ◌∷◌, length, map, drop, Option, Some, None}
use Rattle.std.proofs.Common.{refl, sym, ap, ◌∙◌, subst, arith}
use Rattle.std.specs.Prelude.{nat_le, not}
use Rattle.std.specs.List.{range_with_len}
use Rattle.std.proofs.lemmas.Bool.{eq-eqb, le-ltb, lt-leb}
use Rattle.std.proofs.lemmas.List.{length-map}
use Rattle.std.proofs.lemmas.List.Sums.{sum_by-cons}
use Rattle.heap_formula.specs.Words.{Each}
use Rattle.cyc_lex.specs.declared.fault.IllFault.TheVariants.{Arity}
use Rattle.cyc_lex.specs.declared.fault.What.TheVariants.{Arguments, Atoms, Nodes, Terms, Variable as VariableLimit}
use Rattle.heap_reader.specs.Trees.{Heading}
use Rattle.heap_reader.specs.Flaws.{Found, ill_if, over_if, or_later, listed_flaw, arity_in, use_flaw}
use Rattle.heap_reader.proofs.NoFlaw.{none_later}
use Rattle.fo_formula.specs.declared.terms.Sign.{Sign as SignValue}
use Rattle.fo_formula.specs.declared.terms.Sign.TheVariants as signs
use Rattle.fo_formula.specs.declared.atoms.FoAtom.{FoAtom}
use Rattle.fo_formula.specs.declared.atoms.FoAtom.TheVariants as atoms
use Rattle.fo_formula.specs.Nodes.{FoNode}
use Rattle.fo_formula.specs.declared.nodes.FoReason.{FoReason}
use Rattle.fo_formula.specs.declared.nodes.FoReason.TheVariants as reasons
use Rattle.fo_formula.specs.declared.nodes.FoRule.TheVariants as rules
use Rattle.fo_formula.specs.declared.sequents.FoSequent.{FoSequent}
use Rattle.fo_formula.specs.declared.theory.FoTheory.{FoTheory}
use Rattle.fo_formula.specs.Sizes.{words_size, atom_size, atoms_size, reason_size}
use Rattle.fo_formula.specs.Values.{IsConstructor}
use Rattle.fo_formula.specs.Words.{Word}
use Rattle.fo_logic.specs.Limits.{IsSignWithin, IsTermWithin, TakesArguments, IsAtomWithin, IsSequentWithin}
use Rattle.fo_logic.specs.Limits.{IsPairWithin, IsReasonWithin, IsNodeWithin}
use Rattle.fo_syntax.specs.Trees.{Sign, Apply, arguments_of}
use Rattle.fo_syntax.specs.Places.{places_of, tokens_in}
use Rattle.fo_file.specs.declared.walk.flaw.Scope.TheVariants.{Node as InNode}
use Rattle.fo_file.specs.AtomSpans.{atom_span, atoms_span, terms_in, total_terms}
use Rattle.fo_file.specs.Arguments.{numbers, numbers_behind, argument_flaw}
use Rattle.fo_file.specs.AtomFlaws.{variable_flaw, terms_flaw as term_limit, sign_flaw, signs_flaw, term_flaw}
use Rattle.fo_file.specs.AtomFlaws.{predicate_flaw, atom_flaw, atoms_flaw, side_flaw}
use Rattle.fo_file.specs.Spans.{term_span, entry_span, sequent_span, sequent_terms, node_span}
use Rattle.fo_file.specs.Flaws.{terms_flaw, entry_flaw, entries_flaw, sequent_flaw, reason_flaw, node_flaw}
use Rattle.fo_file.specs.Written.{constructor_name, predicate_name, sign_tree, term_tree, atom_tree, atoms_tree}
use Rattle.fo_file.specs.Written.{sequent_tree, entry_tree, reason_tree, node_tree}
use Rattle.heap_formula.proofs.AllMembers.{each_append}
use Rattle.fo_file.proofs.Flawless.{HasFewArguments, arity-few}
use Rattle.fo_file.proofs.NodeTrees.{joined, joined-signs, joined-length, joined-tree, atom-terms, atoms-terms}
use Rattle.fo_file.proofs.NodeTrees.{sequent-terms}

-- ---- names and limits

-- a name is used with its number of arguments
use-right : (o : Option ℕ) (n k : ℕ) → o ≡ Some n → use_flaw o n k ≡ None
use-right o n k e = ap (λ (x : Option ℕ). use_flaw x n k) e ∙ ap (λ b. ill_if (not b) Arity k) (eq-eqb n n refl)

term-room : (m k : ℕ) → m < 4096 → term_limit m k ≡ None
term-room m k h = ap (λ b. over_if b Terms k) (lt-leb 4096 m h)

atom-room : (most n k : ℕ) → n < most → over_if (nat_le most n) Atoms k ≡ None
atom-room most n k h = ap (λ b. over_if b Atoms k) (lt-leb most n h)

node-room : (n k : ℕ) → n < 20000 → over_if (nat_le 20000 n) Nodes k ≡ None
node-room n k h = ap (λ b. over_if b Nodes k) (lt-leb 20000 n h)

variable-right : (k n : ℕ) → n ≤ 65534 → variable_flaw InNode k n ≡ None
variable-right k n h = ap (λ b. over_if b VariableLimit k) (le-ltb 65534 n h)

-- ---- arguments

-- among the first eight
abbrev pub IsEarly : ℕ → Type 0
IsEarly n = n < 8

early-numbers : (a n : ℕ) → a + n ≤ 8 → Each IsEarly (range_with_len a n)
early-numbers a zero h = tt
early-numbers a (suc n) h = (omega arith, early-numbers (a + 1) n (omega arith))

early-rest : (ns : List ℕ) → Each IsEarly ns → Each IsEarly (drop 1 ns)
early-rest [] h = tt
early-rest (n ∷ ns) h = h.1

early-behind : (s : Sign) (ns : List ℕ) → arguments_of s ≤ 8 → Each IsEarly ns → Each IsEarly (numbers_behind s ns)
early-behind s ns few h =
    each_append IsEarly (numbers (arguments_of s)) (drop 1 ns) (early-numbers 0 (arguments_of s) (omega arith))
    (early-rest ns h)

argument-right : (ns : List ℕ) (k : ℕ) → Each IsEarly ns → argument_flaw ns k ≡ None
argument-right [] k h = refl
argument-right (n ∷ ns) k h = ap (λ b. over_if b Arguments k) (lt-leb 8 n h.0)

-- ---- signs and terms

module _ (t : FoTheory) (cs : List Heading) (constructors : (c k : ℕ) → IsConstructor t.constructors c k
    → arity_in cs (constructor_name t c) ≡ Some k) (few_cs : Each HasFewArguments cs) where
  few-arguments : (s : SignValue) → IsSignWithin t s → arguments_of (sign_tree t s) ≤ 8
  few-arguments (signs.Universal n) is = omega arith
  few-arguments (signs.Local n) is = absurd is
  few-arguments (signs.Constructor c a) is = arity-few cs few_cs (constructor_name t c) a (constructors c a is)

  sign-right : (m k : ℕ) (limit : Found) (s : SignValue) → limit ≡ None → m < 4096 → IsSignWithin t s
      → sign_flaw cs InNode m k limit (sign_tree t s) ≡ None
  sign-right m k limit (signs.Universal n) e h is =
      none_later limit _ e (none_later (term_limit m k) (variable_flaw InNode (k + 1) n) (term-room m k h)
      (variable-right (k + 1) n is))
  sign-right m k limit (signs.Local n) e h is = absurd is
  sign-right m k limit (signs.Constructor c a) e h is =
      let name = constructor_name t c in
      none_later (use_flaw (arity_in cs name) a k) (or_later limit (term_limit m k))
      (use-right (arity_in cs name) a k (constructors c a is))
      (none_later limit (term_limit m k) e (term-room m k h))

  signs-right : (ns : List ℕ) (m k : ℕ) (limit : Found) (w : Word) (places : List ℕ) → Each IsEarly ns → limit ≡ None
      → m + length w ≤ 4096 → Each (IsSignWithin t) w → signs_flaw cs InNode ns m k limit (term_tree t w) places ≡ None
  signs-right ns m k limit [] places early e h is = refl
  signs-right ns m k limit (s ∷ w) [] early e h is = refl
  signs-right ns m k limit (s ∷ w) (p ∷ places) early e h is =
      let tree = sign_tree t s in
      let here = or_later limit (argument_flaw ns (k + p)) in
      let next = early-behind tree ns (few-arguments s is.0) early in
      none_later (sign_flaw cs InNode m (k + p) here tree)
      (signs_flaw cs InNode (numbers_behind tree ns) (m + 1) k None (term_tree t w) places)
      (sign-right m (k + p) here s (none_later limit (argument_flaw ns (k + p)) e (argument-right ns (k + p) early))
      (omega arith) is.0)
      (signs-right (numbers_behind tree ns) (m + 1) k None w places next refl (omega arith) is.1)

  term-right : (m k : ℕ) (limit : Found) (w : Word) → limit ≡ None → m + length w ≤ 4096 → IsTermWithin t w
      → term_flaw cs InNode m k limit (term_tree t w) ≡ None
  term-right m k limit w e h is = signs-right [] m k limit w (places_of (term_tree t w)) tt e h is.1

  -- ---- the terms of reasons

  terms-right : (m k : ℕ) (ts : List Word) → m + words_size ts ≤ 4096 → Each (IsTermWithin t) ts
      → terms_flaw cs m k (map (term_tree t) ts) ≡ None
  terms-right m k [] h is = refl
  terms-right m k (v ∷ ts) h is =
      let tree = term_tree t v in
      let size = length-map v (sign_tree t) in
      let front = sum_by-cons (λ (n : ℕ). n) (length v) (map (λ (u : Word). length u) ts) in
      none_later (term_flaw cs InNode m k None tree)
      (terms_flaw cs (m + length tree) (k + term_span tree) (map (term_tree t) ts))
      (term-right m k None v refl (omega arith) is.0)
      (terms-right (m + length tree) (k + term_span tree) ts (omega arith) is.1)

  entry-right : (m k : ℕ) (pair : ℕ × Word) → m + length pair.1 ≤ 4096 → IsPairWithin t pair
      → entry_flaw cs m k (entry_tree t pair) ≡ None
  entry-right m k pair h is =
      none_later (variable_flaw InNode (k + 1) pair.0) (term_flaw cs InNode m (k + 3) None (term_tree t pair.1))
      (variable-right (k + 1) pair.0 is.0) (term-right m (k + 3) None pair.1 refl h is.1)

  entries-right : (m k : ℕ) (es : List (ℕ × Word)) → m + words_size (map (λ (pair : ℕ × Word). pair.1) es) ≤ 4096
      → Each (IsPairWithin t) es → entries_flaw cs m k (map (entry_tree t) es) ≡ None
  entries-right m k [] h is = refl
  entries-right m k (e ∷ es) h is =
      let tree = entry_tree t e in
      let size = length-map e.1 (sign_tree t) in
      let front = sum_by-cons (λ (n : ℕ). n) (length e.1)
      (map (λ (u : Word). length u) (map (λ (pair : ℕ × Word). pair.1) es)) in
      none_later (entry_flaw cs m k tree) (entries_flaw cs (m + length tree.value) (k + entry_span tree)
      (map (entry_tree t) es))
      (entry-right m k e (omega arith) is.0) (entries-right (m + length tree.value) (k + entry_span tree) es
      (omega arith) is.1)

  -- ---- atoms and sequents

  module _ (ps : List Heading) (predicates : (p n : ℕ) → TakesArguments t p n
      → arity_in ps (predicate_name t p) ≡ Some n) (few_ps : Each HasFewArguments ps) where
    predicate-right : (m k : ℕ) (limit : Found) (p n : ℕ) (w : Word) → limit ≡ None → m + length w ≤ 4096
        → TakesArguments t p n → Each (IsSignWithin t) w
        → predicate_flaw cs InNode ps m k limit (Apply (predicate_name t p) n ∷ term_tree t w) ≡ None
    predicate-right m k limit p n w e h takes is =
        let name = predicate_name t p in
        let places = drop 1 (places_of (Apply name n ∷ term_tree t w)) in
        let few = arity-few ps few_ps name n (predicates p n takes) in
        none_later (use_flaw (arity_in ps name) n k)
        (or_later limit (signs_flaw cs InNode (numbers n) m k None (term_tree t w) places))
        (use-right (arity_in ps name) n k (predicates p n takes))
        (none_later limit (signs_flaw cs InNode (numbers n) m k None (term_tree t w) places) e
        (signs-right (numbers n) m k None w places (early-numbers 0 n (omega arith)) refl h is))

    atom-right : (m k : ℕ) (limit : Found) (x : FoAtom) → limit ≡ None → m + atom_size x ≤ 4096 → IsAtomWithin t x
        → atom_flaw cs InNode ps m k limit (atom_tree t x) ≡ None
    atom-right m k limit (atoms.Equation l r) e h is =
        let left = term_tree t l in
        let size = length-map l (sign_tree t) in
        none_later (term_flaw cs InNode m k limit left)
        (term_flaw cs InNode (m + length left) (k + tokens_in left + 1) None (term_tree t r))
        (term-right m k limit l e (omega arith) is.0)
        (term-right (m + length left) (k + tokens_in left + 1) None r refl (omega arith) is.1)
    atom-right m k limit (atoms.Predicate p ts) e h is =
        let size = joined-length ts in
        subst (λ (ss : List Sign). predicate_flaw cs InNode ps m k limit (Apply (predicate_name t p) (length ts) ∷ ss)
        ≡ None) (sym (joined-tree t ts))
        (predicate-right m k limit p (length ts) (joined ts) e (omega arith) is.0
        (joined-signs (IsSignWithin t) ts is.1))

    atoms-right : (most n m k : ℕ) (limit : Found) (xs : List FoAtom) → limit ≡ None → n + length xs ≤ most
        → m + atoms_size xs ≤ 4096 → Each (IsAtomWithin t) xs
        → atoms_flaw cs InNode ps most n m k limit (atoms_tree t xs) ≡ None
    atoms-right most n m k limit [] e l h is = refl
    atoms-right most n m k limit (x ∷ xs) e l h is =
        let a = atom_tree t x in
        let here = or_later limit (over_if (nat_le most n) Atoms k) in
        let size = atom-terms t x in
        let front = sum_by-cons (λ (i : ℕ). i) (atom_size x) (map atom_size xs) in
        none_later (atom_flaw cs InNode ps m k here a)
        (atoms_flaw cs InNode ps most (n + 1) (m + terms_in a) (k + atom_span a) None (atoms_tree t xs))
        (atom-right m k here x (none_later limit (over_if (nat_le most n) Atoms k) e (atom-room most n k (omega arith)))
        (omega arith) is.0)
        (atoms-right most (n + 1) (m + terms_in a) (k + atom_span a) None xs refl (omega arith) (omega arith) is.1)

    side-right : (most m k : ℕ) (limit : Found) (xs : List FoAtom) → limit ≡ None → length xs ≤ most
        → m + atoms_size xs ≤ 4096 → Each (IsAtomWithin t) xs
        → side_flaw cs InNode ps most m k limit (atoms_tree t xs) ≡ None
    side-right most m k limit [] e l h is = e
    side-right most m k limit (x ∷ xs) e l h is = atoms-right most 0 m k limit (x ∷ xs) e (omega arith) h is

    sequent-right : (k : ℕ) (s : FoSequent) → IsSequentWithin t s → sequent_flaw cs ps k (sequent_tree t s) ≡ None
    sequent-right k s is =
        let left = atoms_tree t s.left in
        let size = is.0.size in
        let count = atoms-terms t s.left in
        none_later (side_flaw cs InNode ps 32 0 k None left)
        (side_flaw cs InNode ps 16 (total_terms left) (k + atoms_span left) None (atoms_tree t s.right))
        (side-right 32 0 k None s.left refl is.0.left (omega arith) is.1.0)
        (side-right 16 (total_terms left) (k + atoms_span left) None s.right refl is.0.right (omega arith) is.1.1)

    -- ---- reasons and nodes

    reason-right : (m k : ℕ) (r : FoReason) → m + reason_size r ≤ 4096 → IsReasonWithin t r
        → reason_flaw cs ps m k (reason_tree t r) ≡ None
    reason-right m k (reasons.Rule (rules.Axiom i j)) h is = refl
    reason-right m k (reasons.Rule (rules.Refl j)) h is = refl
    reason-right m k (reasons.Rule (rules.Clash i)) h is = refl
    reason-right m k (reasons.Rule (rules.Decompose i)) h is = refl
    reason-right m k (reasons.Rule (rules.Replace i side)) h is = refl
    reason-right m k (reasons.Rule (rules.WeakenLeft i)) h is = refl
    reason-right m k (reasons.Rule (rules.WeakenRight j)) h is = refl
    reason-right m k (reasons.Rule (rules.Contract i)) h is = refl
    reason-right m k (reasons.Rule (rules.Unfold i)) h is = refl
    reason-right m k (reasons.Rule (rules.Cut x)) h is = atom-right m (k + 1) None x refl h is
    reason-right m k (reasons.Rule (rules.Right j c ts)) h is = terms-right m (k + 4) ts h is
    reason-right m k (reasons.Link l) h is = entries-right m (k + 3) l.substitution h is

    node-right : (n k : ℕ) (x : FoNode) → n < 20000 → IsNodeWithin t x → node_flaw cs ps n k (node_tree t x) ≡ None
    node-right n k x h is =
        let s = sequent_tree t x.judgement in
        let sequent = sequent_flaw cs ps (k + 1) s in
        let reason = reason_flaw cs ps (sequent_terms s) (k + 1 + sequent_span s) (reason_tree t x.reason) in
        let count = sequent-terms t x.judgement in
        let size = is.size in
        none_later (over_if (nat_le 20000 n) Nodes k) (or_later sequent reason) (node-room n k h)
        (none_later sequent reason (sequent-right (k + 1) x.judgement is.sequent)
        (reason-right (sequent_terms s) (k + 1 + sequent_span s) x.reason (omega arith) is.reason))

    pub nodes-right : (n k : ℕ) (xs : List FoNode) → n + length xs ≤ 20000 → Each (IsNodeWithin t) xs
        → listed_flaw (node_flaw cs ps) node_span n k (map (node_tree t) xs) ≡ None
    nodes-right n k [] h is = refl
    nodes-right n k (x ∷ xs) h is =
        let tree = node_tree t x in
        none_later (node_flaw cs ps n k tree) (listed_flaw (node_flaw cs ps) node_span (suc n) (k + node_span tree)
        (map (node_tree t) xs))
        (node-right n k x (omega arith) is.0) (nodes-right (suc n) (k + node_span tree) xs (omega arith) is.1)
