-- Nodes within the limits over the theory of a problem that was read make a proof that has a text.
use Rattle.std.proofs.Common.{◌≡◌, ℕ, zero, suc, ◌<◌, ◌≤◌, List, [], ◌∷◌, ◌+◌, length, map, Some, None, arith}
use Rattle.std.specs.Prelude.{slice_get}
use Rattle.heap_formula.specs.Words.{Each}
use Rattle.heap_reader.proofs.NoFlaw.{neither, none_later}
use Rattle.fo_formula.specs.declared.atoms.FoAtom.{FoAtom}
use Rattle.fo_formula.specs.declared.atoms.FoAtom.TheVariants.{Equation, Predicate}
use Rattle.fo_formula.specs.Nodes.{FoNode}
use Rattle.fo_formula.specs.declared.nodes.FoReason.{FoReason}
use Rattle.fo_formula.specs.declared.nodes.FoReason.TheVariants.{Rule, Link}
use Rattle.fo_formula.specs.declared.nodes.FoRule.{FoRule}
use Rattle.fo_formula.specs.declared.nodes.FoRule.TheVariants.{Axiom, Refl, Clash, Decompose, Replace, WeakenLeft}
use Rattle.fo_formula.specs.declared.nodes.FoRule.TheVariants.{WeakenRight, Contract, Unfold, Cut, Right}
use Rattle.fo_formula.specs.declared.theory.Constructor.{Constructor as ConstructorValue}
use Rattle.fo_formula.specs.declared.theory.FoDefinition.{FoDefinition}
use Rattle.fo_formula.specs.declared.theory.FoTheory.{FoTheory}
use Rattle.fo_formula.specs.Values.{IsConstructor}
use Rattle.fo_logic.specs.Limits.{IsSignWithin, IsAtomWithin, IsRuleWithin, IsReasonWithin, IsNodeWithin}
use Rattle.fo_syntax.specs.Words.{free_name}
use Rattle.fo_syntax.specs.ProblemTrees.{Constructor, Definition}
use Rattle.fo_syntax.specs.ProblemGrammar.{con, constructors, definition, definitions}
use Rattle.fo_syntax.specs.ProofTrees.{File}
use Rattle.fo_syntax.specs.ProofGrammar.{node, nodes, body, file}
use Rattle.fo_file.specs.Spans.{behind_theory}
use Rattle.fo_file.specs.Flaws.{constructor_heads, predicate_heads, constructors_flaw, definitions_flaw, theory_flaw}
use Rattle.fo_file.specs.Flaws.{sequent_flaw, nodes_flaw}
use Rattle.fo_file.specs.declared.values.problem.FoProblem.{FoProblem}
use Rattle.fo_file.specs.Written.{constructor_tree, definition_tree, node_tree, constructor_name_in, predicate_name_in}
use Rattle.fo_file.specs.Written.{file_tree, problem_tree}
use Rattle.fo_file.specs.OfTerms.{IsAtomOfTerms, IsRuleOfTerms, IsReasonOfTerms, IsNodeOfTerms}
use Rattle.fo_file.specs.Questions.{IsFoQuestion}
use Rattle.fo_file.specs.Reading.{IsWritable, IsWritableProblem}
use Rattle.fo_file.proofs.Fitted.{definitions-fit, problem-parts}
use Rattle.fo_file.proofs.NodeTrees.{are-terms}
use Rattle.fo_file.proofs.NodesFit.{node-fits, nodes-made}
use Rattle.fo_file.proofs.FlawlessParts.{constructors-few, few-heads, few-predicates}
use Rattle.fo_file.proofs.NodesFlawless.{nodes-right}
use Rattle.fo_file.proofs.Places.{constructor-arity, predicate-arity}
use Rattle.heap_formula.proofs.AllMembers.{each_imply, each_made}
use Rattle.heap_reader.proofs.Members.{many_fit}

-- ---- names

constructors-fit : (cs : List Constructor) → constructors.fits cs → Each con.fits cs
unfolding constructors
constructors-fit [] f = tt
constructors-fit (c ∷ cs) f = (f.1.0, many_fit con cs f.1.1)

con-free : (c : Constructor) → con.fits c → free_name.fits c.name
unfolding con
con-free c f = f.1.0

definition-free : (d : Definition) → definition.fits d → free_name.fits d.name
unfolding definition
definition-free d f = f.1.0

constructor-free : (cs : List ConstructorValue) → Each con.fits (map constructor_tree cs) → (c k : ℕ)
    → IsConstructor cs c k → free_name.fits (constructor_name_in (slice_get cs c))
constructor-free [] f c k is = absurd cc
constructor-free (x ∷ cs) f zero k is = con-free (constructor_tree x) f.0
constructor-free (x ∷ cs) f (suc c) k is = constructor-free cs f.1 c k is

predicate-free : (t : FoTheory) (ds : List FoDefinition) → Each definition.fits (map (definition_tree t) ds) → (p n : ℕ)
    → slice_get (map (λ (d : FoDefinition). d.arity) ds) p ≡ Some n
    → free_name.fits (predicate_name_in (slice_get ds p))
predicate-free t [] f p n is = absurd cc
predicate-free t (d ∷ ds) f zero n is = definition-free (definition_tree t d) f.0
predicate-free t (d ∷ ds) f (suc p) n is = predicate-free t ds f.1 p n is

-- ---- arguments are terms

module _ (t : FoTheory) where
  atom-terms : (x : FoAtom) → IsAtomWithin t x → IsAtomOfTerms x
  atom-terms (Equation l r) h = tt
  atom-terms (Predicate p ts) h = are-terms (IsSignWithin t) ts h.1

  rule-terms : (rule : FoRule) → IsRuleWithin t rule → IsRuleOfTerms rule
  rule-terms (Axiom i j) h = tt
  rule-terms (Refl j) h = tt
  rule-terms (Clash i) h = tt
  rule-terms (Decompose i) h = tt
  rule-terms (Replace i side) h = tt
  rule-terms (WeakenLeft i) h = tt
  rule-terms (WeakenRight j) h = tt
  rule-terms (Contract i) h = tt
  rule-terms (Unfold i) h = tt
  rule-terms (Cut x) h = atom-terms x h
  rule-terms (Right j c ts) h = tt

  reason-terms : (r : FoReason) → IsReasonWithin t r → IsReasonOfTerms r
  reason-terms (Rule rule) h = rule-terms rule h
  reason-terms (Link link) h = tt

  node-terms : (n : FoNode) → IsNodeWithin t n → IsNodeOfTerms n
  node-terms n h = (
    (
      each_imply (IsAtomWithin t) IsAtomOfTerms atom-terms n.judgement.left h.sequent.1.0,
      each_imply (IsAtomWithin t) IsAtomOfTerms atom-terms n.judgement.right h.sequent.1.1,
    ),
    reason-terms n.reason h.reason,
  )

-- ---- proofs

file-made : (f : File) → constructors.fits f.constructors → definitions.fits f.definitions → nodes.fits f.nodes
    → file.fits f
unfolding file body
file-made f cs ds ns = (tt, (cs, (ds, ns)))

module _ (p : FoProblem) (writable : IsWritableProblem p) (ns : List FoNode) (within : Each (IsNodeWithin p.theory) ns)
  where
    nodes-fit : 0 < length ns → nodes.fits (map (node_tree p.theory) ns)
    nodes-fit some =
        let t = p.theory in
        let tree = problem_tree p in
        let parts = problem-parts tree writable.fits in
        let names = constructor-free t.constructors (constructors-fit tree.constructors parts.constructors) in
        let predicates = predicate-free t t.definitions (definitions-fit tree.definitions parts.definitions) in
        let all = each_made (node_tree t) (IsNodeWithin t) node.fits (node-fits t names predicates) ns within in
        nodes-made (map (node_tree t) ns) (map-some ns some) all
      where
        map-some : (xs : List FoNode) → 0 < length xs → 0 < length (map (node_tree p.theory) xs)
        map-some [] h = absurd (omega arith)
        map-some (x ∷ xs) h = omega arith

    theory-right : theory_flaw (problem_tree p).constructors (problem_tree p).definitions ≡ None
    theory-right =
        let tree = problem_tree p in
        let hs = constructor_heads tree.constructors in
        let ps = predicate_heads tree.definitions in
        (neither (theory_flaw tree.constructors tree.definitions)
        (sequent_flaw hs ps (behind_theory tree.constructors tree.definitions + 1) tree.goal) writable.flawless).0

    nodes-flawless : (k : ℕ) → length ns ≤ 20000
        → nodes_flaw (constructor_heads (problem_tree p).constructors) (predicate_heads (problem_tree p).definitions) k
        (map (node_tree p.theory) ns) ≡ None
    nodes-flawless k few =
        let t = p.theory in
        let tree = problem_tree p in
        let theory = neither (constructors_flaw tree.constructors) (definitions_flaw tree.constructors tree.definitions)
        theory-right in
        let names = constructor-arity t.constructors theory.0 in
        let predicates = predicate-arity (constructor_heads tree.constructors) _ t t.definitions theory.1 in
        let few_cs = few-heads tree.constructors (constructors-few tree.constructors theory.0).0 in
        let few_ps = few-predicates (constructor_heads tree.constructors) (predicate_heads tree.definitions)
        _ tree.definitions theory.1 in
        nodes-right t (constructor_heads tree.constructors) names few_cs (predicate_heads tree.definitions)
        predicates few_ps 0 k ns (omega arith) within

pub nodes-writable : (p : FoProblem) (ns : List FoNode) → IsFoQuestion p → IsWritableProblem p → 0 < length ns
    → length ns ≤ 20000 → Each (IsNodeWithin p.theory) ns → IsWritable (record { theory = p.theory; nodes = ns })
nodes-writable p ns question writable some few within =
    let tree = problem_tree p in
    let parts = problem-parts tree writable.fits in
    let f = file_tree (record { theory = p.theory; nodes = ns }) in
    let start = behind_theory tree.constructors tree.definitions in record {
      terms = (writable.terms.0, each_imply (IsNodeWithin p.theory) IsNodeOfTerms (node-terms p.theory) ns within);
      fits = file-made f parts.constructors parts.definitions (nodes-fit p writable ns within some);
      flawless = none_later (theory_flaw tree.constructors tree.definitions)
          (nodes_flaw (constructor_heads tree.constructors) (predicate_heads tree.definitions) start f.nodes)
          (theory-right p writable ns within) (nodes-flawless p writable ns within start few);
    }
