-- The nodes' trees have no flaw.
use Rattle.std.proofs.Common.{◌≡◌, ℕ, ◌+◌, ◌<◌, ◌≤◌, List, map, length, None, ap, arith}
use Rattle.std.specs.Prelude.{nat_le}
use Rattle.std.proofs.lemmas.Bool.{lt-leb}
use Rattle.cyc_basics.specs.declared.limits.Limits.{Limits}
use Rattle.heap_formula.specs.Definitions.{Definition}
use Rattle.heap_formula.specs.Words.{Each}
use Rattle.cyc_lex.specs.declared.fault.What.TheVariants.{Nodes}
use Rattle.heap_reader.specs.Flaws.{over_if, listed_flaw}
use Rattle.proof_file.specs.FileNodes.{FileNode}
use Rattle.proof_file.specs.Spans.{judgement_span, node_span}
use Rattle.proof_file.specs.Flaws.{headings, node_flaw}
use Rattle.proof_file.specs.Written.{definition_tree, judgement_tree, node_tree}
use Rattle.formula_reader.specs.Nodes.{IsNodeWithin}
use Rattle.formula_reader.proofs.Lists.{none_later, none_listed}
use Rattle.formula_reader.proofs.Names.{HaveFewParameters, heads_of}
use Rattle.formula_reader.specs.Within.{HaveOwnNames}
use Rattle.formula_reader.proofs.Judgements.{judgement_flawless}
use Rattle.formula_reader.proofs.Reasons.{reason_flawless}

module _ (limit : Limits) (wide : 8 ≤ limit.arguments) (ds : List Definition) (count : ℕ) (own : HaveOwnNames ds)
    (few : HaveFewParameters limit ds) where
  node_flawless : (n k : ℕ) (x : FileNode) → n < 20000 → IsNodeWithin limit ds count x
      → node_flaw limit (heads_of ds ds) count n k (node_tree ds x) ≡ None
  node_flawless n k x below w =
      none_later (over_if (nat_le 20000 n) Nodes k) _ (ap (λ b. over_if b Nodes k) (lt-leb 20000 n below))
      (none_later _ _ (judgement_flawless limit ds count wide own few x.judgement w.judgement (k + 1))
      (reason_flawless limit ds wide own few x.reason w.reason (k + 1 + judgement_span
      (judgement_tree ds x.judgement))))

  pub nodes_flawless : (ns : List FileNode) → length ns ≤ 20000 → Each (IsNodeWithin limit ds count) ns → (k : ℕ)
      → listed_flaw (node_flaw limit (headings (map (definition_tree ds) ds)) count) node_span 0 k
      (map (node_tree ds) ns) ≡ None
  nodes_flawless ns most w k =
      none_listed (node_flaw limit (heads_of ds ds) count) node_span (node_tree ds) (IsNodeWithin limit ds count)
      20000 node_flawless 0 k ns (omega arith) w
