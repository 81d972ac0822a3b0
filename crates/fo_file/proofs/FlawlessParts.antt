-- Theories, sequents, reasons and nodes without a flaw have known names, and are within the limits.
use Rattle.std.proofs.Common.{◌≡◌, ℕ, suc, ◌+◌, ◌<◌, ◌≤◌, List, [], ◌∷◌, length, take, None, arith}
use Rattle.std.specs.Prelude.{nat_eq, nat_le, not, is_some, ◌||◌}
use Rattle.std.proofs.lemmas.Bool.{eqb-true, not-false}
use Rattle.std.proofs.lemmas.List.{length-map}
use Rattle.heap_formula.specs.Words.{Each}
use Rattle.cyc_lex.specs.declared.fault.IllFault.TheVariants.{Duplicate, Constant}
use Rattle.cyc_lex.specs.declared.fault.What.TheVariants.{Constructors, Predicates, Arguments, Cases, Nodes}
use Rattle.heap_reader.specs.Trees.{Heading}
use Rattle.heap_reader.specs.Spans.{total}
use Rattle.heap_reader.specs.Flaws.{ill_if, over_if, or_later, listed_flaw, arity_in}
use Rattle.heap_reader.proofs.NoFlaw.{neither, not_over, not_ill, at_most, below, each_of, few_all}
use Rattle.fo_syntax.specs.Trees.{Sign, Atom}
use Rattle.fo_syntax.specs.Grammar.{IsTerm}
use Rattle.fo_syntax.specs.ProblemTrees.{Constructor, Definition, Sequent}
use Rattle.fo_syntax.specs.ProofTrees.{Entry, Reason, Axiom, Refl, Clash, Decompose, Replace, WeakenLeft, WeakenRight}
use Rattle.fo_syntax.specs.ProofTrees.{Contract, Unfold, Cut, Right, Link, Node}
use Rattle.fo_file.specs.declared.walk.flaw.Scope.TheVariants.{Node as InNode, Case as InCase}
use Rattle.fo_file.specs.AtomSpans.{atoms_span, total_terms, AreAtoms}
use Rattle.fo_file.specs.AtomFlaws.{variable_flaw, term_flaw, side_flaw}
use Rattle.fo_file.specs.Parts.{IsDefinition, IsSequent, IsEntry, IsReason, IsNode}
use Rattle.fo_file.specs.Spans.{constructor_span, definition_span, sequent_span, sequent_terms, term_span, entry_span}
use Rattle.fo_file.specs.Spans.{node_span}
use Rattle.fo_file.specs.Flaws.{constructor_heading, predicate_heading, constructor_heads, predicate_heads}
use Rattle.fo_file.specs.Flaws.{arguments_flaw, constant_flaw, constructor_flaw, definition_head_flaw, case_flaw}
use Rattle.fo_file.specs.Flaws.{cases_flaw, definition_flaw, sequent_flaw, terms_flaw, entry_flaw, entries_flaw}
use Rattle.fo_file.specs.Flaws.{reason_flaw, node_flaw, nodes_flaw, constructors_flaw, definitions_flaw, theory_flaw}
use Rattle.fo_file.specs.Known.{IsNarrow, IsKnownTerm, IsKnownEntry, AreKnownAtoms, IsKnownSequent, IsKnownDefinition}
use Rattle.fo_file.specs.Known.{IsKnownReason, IsKnownTheory}
use Rattle.fo_file.proofs.Lists.{each-apply}
use Rattle.fo_file.proofs.Flawless.{HasFewArguments, variable-small, term-known, atom-known, side-known}
use Rattle.heap_formula.proofs.AllMembers.{each_imply, each_made}

-- ---- constructors

abbrev pub HasFew : Constructor → Type 0
HasFew c = c.arguments ≤ 8

constructor-few : (hs : List Heading) (n k : ℕ) (c : Constructor) → constructor_flaw hs n k c ≡ None
    → (n < 64) × ((c.arguments ≤ 8) × (constant_flaw n (k + 2) c.arguments ≡ None))
constructor-few hs n k c e =
    let duplicate = ill_if (is_some (arity_in (take n hs) c.name)) Duplicate (k + 1) in
    let constant = constant_flaw n (k + 2) c.arguments in
    let a = neither (over_if (nat_le 64 n) Constructors k)
    (or_later duplicate (or_later constant (arguments_flaw (k + 2) c.arguments))) e in
    let b = neither duplicate (or_later constant (arguments_flaw (k + 2) c.arguments)) a.1 in
    let d = neither constant (arguments_flaw (k + 2) c.arguments) b.1 in
    (below 64 n (not_over _ Constructors k a.0), (at_most 8 c.arguments (not_over _ Arguments (k + 2) d.1), d.0))

pub constructors-few : (cs : List Constructor) → constructors_flaw cs ≡ None → Each HasFew cs × (length cs ≤ 64)
constructors-few cs e = (
  each_of (constructor_flaw (constructor_heads cs)) constructor_span HasFew
      (λ n k c h. (constructor-few (constructor_heads cs) n k c h).1.0) 0 4 cs e,
  few_all (constructor_flaw (constructor_heads cs)) constructor_span 64
      (λ n k c h. (constructor-few (constructor_heads cs) n k c h).0) 4 cs e,
)

pub few-heads : (cs : List Constructor) → Each HasFew cs → Each HasFewArguments (constructor_heads cs)
few-heads cs few = each_made constructor_heading HasFew HasFewArguments (λ c h. h) cs few

-- ---- predicates

abbrev pub TakesFew : Definition → Type 0
TakesFew d = d.arity ≤ 8

definition-few : (cs ps : List Heading) (n k : ℕ) (d : Definition) → definition_flaw cs ps n k d ≡ None
    → (n < 4096) × (d.arity ≤ 8)
definition-few cs ps n k d e =
    let duplicate = ill_if (is_some (arity_in cs d.name) || is_some (arity_in (take n ps) d.name)) Duplicate (k + 1) in
    let a = neither (definition_head_flaw cs ps n k d) (cases_flaw cs ps d.arity (k + 6) d.cases) e in
    let b = neither (over_if (nat_le 4096 n) Predicates k) (or_later duplicate (arguments_flaw (k + 3) d.arity)) a.0 in
    let c = neither duplicate (arguments_flaw (k + 3) d.arity) b.1 in
    (below 4096 n (not_over _ Predicates k b.0), at_most 8 d.arity (not_over _ Arguments (k + 3) c.1))

pub few-predicates : (cs ps : List Heading) (k : ℕ) (ds : List Definition)
    → listed_flaw (definition_flaw cs ps) definition_span 0 k ds ≡ None → Each HasFewArguments (predicate_heads ds)
few-predicates cs ps k ds e =
    each_made predicate_heading TakesFew HasFewArguments (λ d h. h) ds
    (each_of (definition_flaw cs ps) definition_span TakesFew (λ n j d h. (definition-few cs ps n j d h).1)
    0 k ds e)

narrow : (cs : List Constructor) → Each HasFew cs → Each IsNarrow cs
narrow cs few = each_imply HasFew IsNarrow (λ c h. omega arith) cs few

-- the first constructor is a constant
pub first-constant : (c : Constructor) (cs : List Constructor) → constructors_flaw (c ∷ cs) ≡ None → c.arguments ≡ 0
first-constant c cs e =
    let hs = constructor_heads (c ∷ cs) in
    let first = neither (constructor_flaw hs 0 4 c)
    (listed_flaw (constructor_flaw hs) constructor_span 1 (4 + constructor_span c) cs) e in
    let constant = (constructor-few hs 0 4 c first.0).1.1 in
    eqb-true c.arguments 0 (not-false (nat_eq c.arguments 0) (not_ill (not (nat_eq c.arguments 0)) Constant 6 constant))

module _ (cs : List Heading) (few : Each HasFewArguments cs) (ps : List Heading) where
  -- ---- definitions

  abbrev pub IsCaseWithin : List Atom → Type 0
  IsCaseWithin xs = AreKnownAtoms cs ps xs × (length xs ≤ 16)

  cases-known : (arity n k : ℕ) → arity ≤ 8 → (cases : List (List Atom)) → Each AreAtoms cases → n ≤ 16
      → listed_flaw (case_flaw cs ps arity) atoms_span n k cases ≡ None
      → (n + length cases ≤ 16) × Each IsCaseWithin cases
  cases-known arity n k small [] are h e = (omega arith, tt)
  cases-known arity n k small (xs ∷ more) are h e =
      let limit = over_if (nat_le 16 n) Cases k in
      let both = neither (case_flaw cs ps arity n k xs)
      (listed_flaw (case_flaw cs ps arity) atoms_span (suc n) (k + atoms_span xs) more) e in
      let first = side-known cs few (InCase arity) small ps 16 0 k limit xs are.0 (omega arith) both.0 in
      let room = below 16 n (not_over _ Cases k first.allowed) in
      let rest = cases-known arity (suc n) (k + atoms_span xs) small more are.1 (omega arith) both.1 in
      let all = rest.0 in
      (omega arith, ((first.known, first.atoms), rest.1))

  pub record IsDefinitionWithin (d : Definition) : Type 0 where
    pub known : IsKnownDefinition cs ps d
    pub cases : length d.cases ≤ 16
    pub atoms : Each (λ (xs : List Atom). length xs ≤ 16) d.cases

  definition-known : (n k : ℕ) (d : Definition) → definition_flaw cs ps n k d ≡ None
      → (n < 4096) × (IsDefinition d → IsDefinitionWithin d)
  definition-known n k d e =
      let heads = definition-few cs ps n k d e in
      let a = neither (definition_head_flaw cs ps n k d) (cases_flaw cs ps d.arity (k + 6) d.cases) e in
      let small = heads.1 in (
        heads.0,
        λ is.
            let r = cases-known d.arity 0 (k + 6) small d.cases is (omega arith) a.1 in
            let count = r.0 in
            record {
              known = (omega arith, each_imply IsCaseWithin (AreKnownAtoms cs ps) (λ xs h. h.0) d.cases r.1);
              cases = omega arith;
              atoms = each_imply IsCaseWithin (λ (xs : List Atom). length xs ≤ 16) (λ xs h. h.1) d.cases r.1;
            },
      )

  pub definitions-known : (k : ℕ) (ds : List Definition) → Each IsDefinition ds
      → listed_flaw (definition_flaw cs ps) definition_span 0 k ds ≡ None
      → Each IsDefinitionWithin ds × (length ds ≤ 4096)
  definitions-known k ds are e = (
    each-apply IsDefinition IsDefinitionWithin ds (each_of (definition_flaw cs ps) definition_span
        (λ d. IsDefinition d → IsDefinitionWithin d) (λ n j d h. (definition-known n j d h).1) 0 k ds e) are,
    few_all (definition_flaw cs ps) definition_span 4096 (λ n j d h. (definition-known n j d h).0) k ds e,
  )

  -- ---- sequents

  pub record IsSequentWithin (s : Sequent) : Type 0 where
    pub left : length s.left ≤ 32
    pub right : length s.right ≤ 16
    pub terms : sequent_terms s ≤ 4096
    pub known : IsKnownSequent cs ps s

  pub sequent-known : (k : ℕ) (s : Sequent) → IsSequent s → sequent_flaw cs ps k s ≡ None → IsSequentWithin s
  sequent-known k s is e =
      let both = neither (side_flaw cs InNode ps 32 0 k None s.left)
      (side_flaw cs InNode ps 16 (total_terms s.left) (k + atoms_span s.left) None s.right) e in
      let left = side-known cs few InNode tt ps 32 0 k None s.left is.0 (omega arith) both.0 in
      let left_terms = left.terms in
      let right = side-known cs few InNode tt ps 16 (total_terms s.left) (k + atoms_span s.left) None s.right is.1
      (omega arith) both.1 in
      record { left = left.atoms; right = right.atoms; terms = right.terms; known = (left.known, right.known) }

  -- ---- reasons

  terms-known : (m k : ℕ) (ts : List (List Sign)) → Each IsTerm ts → m ≤ 4096 → terms_flaw cs m k ts ≡ None
      → Each (IsKnownTerm cs) ts
  terms-known m k [] are h e = tt
  terms-known m k (t ∷ ts) are h e =
      let both = neither (term_flaw cs InNode m k None t) (terms_flaw cs (m + length t) (k + term_span t) ts) e in
      let first = term-known cs few InNode tt m k None t are.0 h both.0 in
      (first.1, terms-known (m + length t) (k + term_span t) ts are.1 first.0 both.1)

  entries-known : (m k : ℕ) (es : List Entry) → Each IsEntry es → m ≤ 4096 → entries_flaw cs m k es ≡ None
      → Each (IsKnownEntry cs) es
  entries-known m k [] are h e = tt
  entries-known m k (x ∷ xs) are h e =
      let both = neither (entry_flaw cs m k x) (entries_flaw cs (m + length x.value) (k + entry_span x) xs) e in
      let parts = neither (variable_flaw InNode (k + 1) x.variable) (term_flaw cs InNode m (k + 3) None x.value) both.0
      in
      let value = term-known cs few InNode tt m (k + 3) None x.value are.0 h parts.1 in (
        (variable-small InNode tt (k + 1) x.variable parts.0, value.1),
        entries-known (m + length x.value) (k + entry_span x) xs are.1 value.0 both.1,
      )

  reason-known : (m k : ℕ) (r : Reason) → IsReason r → m ≤ 4096 → reason_flaw cs ps m k r ≡ None → IsKnownReason cs ps r
  reason-known m k (Axiom i j) is h e = tt
  reason-known m k (Refl j) is h e = tt
  reason-known m k (Clash i) is h e = tt
  reason-known m k (Decompose i) is h e = tt
  reason-known m k (Replace i side) is h e = tt
  reason-known m k (WeakenLeft i) is h e = tt
  reason-known m k (WeakenRight j) is h e = tt
  reason-known m k (Contract i) is h e = tt
  reason-known m k (Unfold i) is h e = tt
  reason-known m k (Cut a) is h e = (atom-known cs few InNode tt ps m (k + 1) None a is h e).1.1
  reason-known m k (Right i j ts) is h e = terms-known m (k + 4) ts is h e
  reason-known m k (Link l) is h e = entries-known m (k + 3) l.substitution is h e

  -- ---- nodes

  pub record IsNodeWithin (x : Node) : Type 0 where
    pub sequent : IsSequentWithin x.sequent
    pub reason : IsKnownReason cs ps x.reason

  node-known : (n k : ℕ) (x : Node) → node_flaw cs ps n k x ≡ None → (n < 20000) × (IsNode x → IsNodeWithin x)
  node-known n k x e =
      let sequent = sequent_flaw cs ps (k + 1) x.sequent in
      let reason = reason_flaw cs ps (sequent_terms x.sequent) (k + 1 + sequent_span x.sequent) x.reason in
      let a = neither (over_if (nat_le 20000 n) Nodes k) (or_later sequent reason) e in
      let b = neither sequent reason a.1 in
      let within = λ (is : IsNode x). sequent-known (k + 1) x.sequent is.0 b.0 in (
        below 20000 n (not_over _ Nodes k a.0),
        λ is.
            record {
              sequent = within is;
              reason = reason-known (sequent_terms x.sequent) (k + 1 + sequent_span x.sequent)
                  x.reason is.1 (within is).terms b.1;
            },
      )

  pub nodes-known : (k : ℕ) (xs : List Node) → Each IsNode xs → nodes_flaw cs ps k xs ≡ None
      → Each IsNodeWithin xs × (length xs ≤ 20000)
  nodes-known k xs are e = (
    each-apply IsNode IsNodeWithin xs (each_of (node_flaw cs ps) node_span (λ x. IsNode x → IsNodeWithin x)
        (λ n j x h. (node-known n j x h).1) 0 k xs e) are,
    few_all (node_flaw cs ps) node_span 20000 (λ n j x h. (node-known n j x h).0) k xs e,
  )

-- ---- theories

pub record IsTheoryWithin (cs : List Constructor) (ds : List Definition) : Type 0 where
  pub few : Each HasFew cs
  pub constructors : length (constructor_heads cs) ≤ 64
  pub predicates : length (predicate_heads ds) ≤ 4096
  pub definitions : Each (IsDefinitionWithin (constructor_heads cs) (few-heads cs few) (predicate_heads ds)) ds
  pub known : IsKnownTheory (constructor_heads cs) (predicate_heads ds) cs ds

pub theory-known : (cs : List Constructor) (ds : List Definition) → Each IsDefinition ds → theory_flaw cs ds ≡ None
    → IsTheoryWithin cs ds
theory-known cs ds are e =
    let both = neither (constructors_flaw cs) (definitions_flaw cs ds) e in
    let first = constructors-few cs both.0 in
    let rest = definitions-known (constructor_heads cs) (few-heads cs first.0) (predicate_heads ds)
    (4 + total constructor_span cs) ds are both.1 in
    let count = first.1 in
    let defined = rest.1 in
    let size = length-map cs constructor_heading in
    let sized = length-map ds predicate_heading in
    record {
      few = first.0;
      constructors = omega arith;
      predicates = omega arith;
      definitions = rest.0;
      known = (
        narrow cs first.0,
        each_imply (IsDefinitionWithin (constructor_heads cs) (few-heads cs first.0)
            (predicate_heads ds)) (IsKnownDefinition (constructor_heads cs) (predicate_heads ds)) (λ d h. h.known)
            ds rest.0,
      );
    }
