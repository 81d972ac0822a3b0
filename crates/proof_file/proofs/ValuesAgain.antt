-- Values that have a text are what their tree says.
use Rattle.std.proofs.Common.{◌≡◌, ℕ, true, false, List, refl, sym}
use Rattle.heap_formula.specs.declared.terms.Term.{Term}
use Rattle.heap_formula.specs.declared.judgements.Judgement.{Judgement}
use Rattle.heap_formula.specs.declared.judgements.Judgement.TheVariants.{Entail, Term as Halting}
use Rattle.heap_formula.specs.declared.proof_rules.Side.{Side}
use Rattle.heap_formula.specs.declared.proof_rules.Side.TheVariants as sides
use Rattle.heap_formula.specs.declared.proof_rules.Rule.TheVariants as rules
use Rattle.heap_formula.specs.declared.proof_rules.Reason.{Reason as ReasonValue}
use Rattle.heap_formula.specs.declared.proof_rules.Reason.TheVariants.{Step, Back}
use Rattle.heap_formula.specs.Definitions.{Definition as DefinitionValue}
use Rattle.cyc_grammar.specs.Classes.{is_free_name}
use Rattle.heap_syntax.specs.Versions.{limits}
use Rattle.proof_syntax.specs.Grammar.{reserved, uterm, definition, disjuncts, entailment, state, judgement, cut, split}
use Rattle.proof_syntax.specs.Grammar.{parts, reason, node, body, file, or_word, by_word}
use Rattle.proof_file.specs.FileNodes.{FileNode}
use Rattle.proof_file.specs.declared.file.ProofFile.{ProofFile}
use Rattle.heap_reader.specs.Trees.{Heading}
use Rattle.heap_reader.specs.Values.{place_of}
use Rattle.heap_reader.proofs.ValuesAgain.{each_known, found_place, term_known, heap_known, heaps_known}
use Rattle.heap_reader.proofs.ValuesAgain.{definition_known, definitions_fit}
use Rattle.proof_file.specs.Flaws.{headings}
use Rattle.proof_file.specs.Values.{definition_value, judgement_value, side_value, pair_value, reason_value, node_value}
use Rattle.proof_file.specs.Written.{name_of, definition_tree}
use Rattle.proof_file.specs.Written.{judgement_tree, side_tree, pair_tree, reason_tree, node_tree, tree_of}
use Rattle.proof_file.specs.Reading.{IsFileOf}
use Rattle.proof_file.proofs.Fitting.{file_parts}
use Rattle.proof_file.proofs.LinesAgain.{program_known}
use Rattle.proof_file.proofs.ReadableNodes.{nodes_fit}
use Rattle.cyc_basics.proofs.Parts.{map_back}

-- ---- judgements and nodes

module _ (ds : List DefinitionValue) (ts : List Heading)
    (placed : (p : ℕ) → is_free_name reserved (name_of ds p) ≡ true → place_of ts (name_of ds p) ≡ p) where
  judgement_known : (j : Judgement) → judgement.fits (judgement_tree ds j)
      → judgement_value ts (judgement_tree ds j) ≡ j
  unfolding judgement entailment state disjuncts
  judgement_known (Entail a bs) f =
      let left = heap_known ds ts placed true a f.1.1.0 in
      let right = heaps_known ds ts placed or_word by_word bs f.1.1.1 in
      λ i. Entail (left i) (right i)
  judgement_known (Halting k a) f =
      let state = heap_known ds ts placed true a f.1.1 in
      λ i. Halting k (state i)

  side_known : (s : Side) → side_value (side_tree s) ≡ s
  side_known sides.Left = refl
  side_known sides.Right = refl

  pair_known : (p : ℕ × Term) → pair_value (pair_tree p) ≡ p
  pair_known p = λ i. (p.0, term_known p.1 i)

  reason_known : (r : ReasonValue) → reason.fits (reason_tree ds r) → reason_value ts (reason_tree ds r) ≡ r
  unfolding reason parts split cut uterm
  reason_known (Step rules.Absurd) f = refl
  reason_known (Step (rules.Rewrite k s)) f = λ i. Step (rules.Rewrite k (side_known s i))
  reason_known (Step (rules.Split t u)) f = λ i. Step (rules.Split (term_known t i) (term_known u i))
  reason_known (Step (rules.Distinct m n)) f = refl
  reason_known (Step (rules.Weaken k)) f = refl
  reason_known (Step (rules.Unfold k)) f = refl
  reason_known (Step (rules.Cut places formula)) f =
      let same = heap_known ds ts placed false formula f.1.1.1 in
      λ i. Step (rules.Cut places (same i))
  reason_known (Step rules.Done) f = refl
  reason_known (Step (rules.Choose k)) f = refl
  reason_known (Step (rules.PureRight k)) f = refl
  reason_known (Step (rules.Instantiate v t)) f = λ i. Step (rules.Instantiate v (term_known t i))
  reason_known (Step (rules.Frame m n)) f = refl
  reason_known (Step (rules.UnfoldRight m n)) f = refl
  reason_known (Step rules.Exec) f = refl
  reason_known (Step (rules.Drop k)) f = refl
  reason_known (Back l) f =
      let pairs = map_back pair_tree pair_value pair_known l.subst in
      λ i. Back (record { target = l.target; subst = pairs i; map = l.map; disjuncts = l.disjuncts })

  node_known : (n : FileNode) → node.fits (node_tree ds n) → node_value ts (node_tree ds n) ≡ n
  unfolding node
  node_known n f =
      let judgement = judgement_known n.judgement f.1.0 in
      let reason = reason_known n.reason f.1.1.0 in
      λ i. record { judgement = judgement i; reason = reason i; premises = n.premises }

-- ---- files

-- the definitions, the program and the nodes of a file are what its tree says
pub file_known : (f : ProofFile) → IsFileOf (tree_of f.version f.defs.list f.program f.nodes) f
unfolding file body
file_known f =
    let ds = f.defs.list in
    let tree = tree_of f.version ds f.program f.nodes in
    let hs = headings tree.definitions in
    let placed = found_place (limits f.version) ds (file_parts tree f.flawless).0 in
    record {
      version = refl;
      most = f.limit;
      definitions = sym (each_known (definition_tree ds) (definition_value hs) definition.fits
          (definition_known ds hs placed) ds (definitions_fit tree.definitions f.fits.1.1.0));
      program = sym (program_known ds hs placed f.version f.program f.universal f.fits.1.1.1.1.0);
      nodes = sym (each_known (node_tree ds) (node_value hs) node.fits (node_known ds hs placed) f.nodes
          (nodes_fit tree.nodes f.fits.1.1.1.1.1));
    }
