-- The nodes' trees fit the grammar, and their values are as it lets them through.
use Rattle.std.proofs.Common.{◌≡◌, ℕ, ◌<◌, ◌≤◌, true, List, [], ◌∷◌, map, length, arith}
use Rattle.std.proofs.lemmas.Bool.{and_from}
use Rattle.cyc_basics.specs.declared.limits.Limits.{Limits}
use Rattle.heap_formula.specs.Definitions.{Definition}
use Rattle.heap_formula.specs.Judgements.{antecedent}
use Rattle.heap_formula.specs.Words.{Each}
use Rattle.proof_syntax.specs.Grammar as grammar
use Rattle.proof_file.specs.FileNodes.{FileNode}
use Rattle.proof_file.specs.Readable.{is_universal_reason, is_readable, are_readable, is_at_line, are_at_lines}
use Rattle.proof_file.specs.Written.{node_tree}
use Rattle.formula_reader.specs.Nodes.{IsNodeWithin}
use Rattle.formula_reader.proofs.Lists.{many_fit}
use Rattle.formula_reader.proofs.Firsts.{all_pass}
use Rattle.formula_reader.specs.Within.{HaveFreeNames}
use Rattle.formula_reader.proofs.Judgements.{judgement_fits, judgement_at_line}
use Rattle.formula_reader.proofs.Universal.{universal_heap_passes}
use Rattle.formula_reader.proofs.Reasons.{reason_fits, premises_fit, reason_readable}
use Rattle.heap_formula.proofs.AllMembers.{each_imply}
use Rattle.rule_table.specs.Tests.{is_universal_heap}

module _ (limit : Limits) (ds : List Definition) (count : ℕ) where
  node_fits : HaveFreeNames ds → count ≤ 4096 → (n : FileNode) → IsNodeWithin limit ds count n
      → grammar.node.fits (node_tree ds n)
  unfolding grammar.node
  node_fits free most n w = (
    tt,
    (
      judgement_fits limit ds count free most n.judgement w.judgement,
      (reason_fits limit ds free n.reason w.reason w.numbers, premises_fit n.premises w.premises),
    ),
  )

  pub nodes_fit : HaveFreeNames ds → count ≤ 4096 → (ns : List FileNode) → 0 < length ns
      → Each (IsNodeWithin limit ds count) ns → grammar.nodes.fits (map (node_tree ds) ns)
  unfolding grammar.nodes grammar.more_nodes
  nodes_fit free most [] some w = absurd (omega (arith, some))
  nodes_fit free most (n ∷ ns) some w =
      let each = each_imply (IsNodeWithin limit ds count) (λ m. grammar.node.fits (node_tree ds m))
      (node_fits free most) (n ∷ ns) w in
      (omega arith, (each.0, many_fit grammar.node (node_tree ds) ns each.1))

  node_readable : (n : FileNode) → IsNodeWithin limit ds count n → is_readable n ≡ true
  node_readable n w =
      and_from (is_universal_heap (antecedent n.judgement)) (is_universal_reason n.reason)
      (universal_heap_passes (antecedent n.judgement) w.judgement.universal)
      (reason_readable limit ds n.reason w.reason)

  pub nodes_readable : (ns : List FileNode) → Each (IsNodeWithin limit ds count) ns → are_readable ns ≡ true
  nodes_readable ns w = all_pass is_readable ns (each_imply (IsNodeWithin limit ds count) (λ n. is_readable n ≡ true)
      node_readable ns w)

  pub nodes_at_lines : (ns : List FileNode) → Each (IsNodeWithin limit ds count) ns → are_at_lines count ns ≡ true
  nodes_at_lines ns w =
      all_pass (λ n. is_at_line count n.judgement) ns
      (each_imply (IsNodeWithin limit ds count) (λ n. is_at_line count n.judgement ≡ true)
      (λ n v. judgement_at_line limit ds count n.judgement v.judgement) ns w)
