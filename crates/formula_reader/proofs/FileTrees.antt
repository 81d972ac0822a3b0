-- The tree of a file with a problem's definitions and program, and with nodes within the limits, has a text and no
-- flaw.
use Rattle.std.proofs.Common.{◌≡◌, ℕ, ◌<◌, ◌≤◌, List, length, map, None, sym, subst, arith}
use Rattle.cyc_basics.specs.declared.limits.Limits.{Limits}
use Rattle.cyc_basics.specs.Limits.{AreLimits}
use Rattle.heap_formula.specs.declared.commands.Command.{Command}
use Rattle.heap_formula.specs.Definitions.{Definition}
use Rattle.heap_formula.specs.Words.{Each}
use Rattle.goto_lang.specs.Lines.{IsProgram}
use Rattle.rule_book.specs.Limits.{IsDefinitionWithin, AreEndsWithin}
use Rattle.heap_syntax.specs.declared.version.Version.{Version}
use Rattle.heap_syntax.specs.declared.version.Version.TheVariants.{One, Two, Three}
use Rattle.heap_syntax.specs.Versions.{limits}
use Rattle.heap_reader.specs.Flaws.{or_later, listed_flaw}
use Rattle.heap_reader.proofs.Fitting.{most_fits}
use Rattle.proof_syntax.specs.Grammar as grammar
use Rattle.proof_file.specs.FileNodes.{FileNode}
use Rattle.proof_file.specs.Spans.{definition_span, node_span}
use Rattle.proof_file.specs.Flaws.{definition_flaw, program_flaw, program_ends_flaw, node_flaw, first_line}
use Rattle.proof_file.specs.Flaws.{first_end, first_node, file_ends_flaw, nodes_flaw}
use Rattle.proof_file.specs.Flaws.{file_flaw}
use Rattle.proof_file.specs.Written.{node_tree, tree_of}
use Rattle.formula_reader.specs.Nodes.{IsNodeWithin}
use Rattle.formula_reader.proofs.Lists.{none_later}
use Rattle.formula_reader.proofs.Names.{few_parameters, heads_of}
use Rattle.formula_reader.specs.Within.{HaveFreeNames, HaveOwnNames}
use Rattle.formula_reader.proofs.ProgramLines.{program_fits, lines_long, program_flawless}
use Rattle.formula_reader.proofs.ProgramEnds.{ends_fit, ends_flawless}
use Rattle.formula_reader.specs.Within.{IsCommandOf}
use Rattle.formula_reader.proofs.DefinitionTrees.{definitions_fit, definitions_flawless}
use Rattle.formula_reader.proofs.NodesFit.{nodes_fit}
use Rattle.formula_reader.proofs.NodesFlawless.{nodes_flawless}
use Rattle.formula_reader.specs.declared.problem.Problem.{Problem}
use Rattle.formula_reader.proofs.Within.{problem_keeps}

-- each version allows eight arguments
pub eight_arguments : (version : Version) → 8 ≤ (limits version).arguments
eight_arguments One = omega arith
eight_arguments Two = omega arith
eight_arguments Three = omega arith

module _ (version : Version) (limit : Limits) (same : limit ≡ limits version) (ds : List Definition)
    (cs : List Command) (ns : List FileNode) (w : Each (IsDefinitionWithin limit ds) ds) (program : IsProgram cs)
    (known : Each (IsCommandOf version limit) cs) (ended : AreEndsWithin limit ds cs)
    (nodes : Each (IsNodeWithin limit ds (length cs)) ns) where
  pub file_fits : HaveFreeNames ds → 0 < length ns → grammar.file.fits (tree_of version ds cs ns)
  unfolding grammar.file grammar.body grammar.definitions
  file_fits free some =
      let bounded = subst AreLimits (sym same) (most_fits version) in (
        tt,
        (
          tt,
          (
            definitions_fit limit bounded ds free w,
            (
              program_fits version limit cs program known,
              (
                ends_fit version limit ds cs free program ended known,
                nodes_fit limit ds (length cs) free program.few_lines ns some nodes,
              ),
            ),
          ),
        ),
      )

  pub file_flawless : HaveOwnNames ds → length ds ≤ 4096 → length ns ≤ 20000
      → file_flaw (tree_of version ds cs ns) ≡ None
  file_flawless own few most =
      let file = tree_of version ds cs ns in
      let hs = heads_of ds ds in
      let wide = subst (λ (most : Limits). 8 ≤ most.arguments) (sym same) (eight_arguments version) in
      let first = definitions_flawless limit wide ds few own w in
      let second = subst (λ (most : Limits). program_flaw most (first_line file) file.lines ≡ None) same
      (program_flawless version limit cs program known (first_line file)) in
      let few_heads = few_parameters limit ds ds w in
      let ends = subst (λ (most : Limits). program_ends_flaw most hs file.lines (first_end file) file.ends ≡ None) same
      (ends_flawless limit wide ds own few_heads cs program ended (first_end file)) in
      let third = subst (λ (count : ℕ). listed_flaw (node_flaw limit hs count) node_span 0 (first_node file)
      (map (node_tree ds) ns) ≡ None) (sym (lines_long 0 cs))
      (nodes_flawless limit wide ds (length cs) own (few_parameters limit ds ds w) ns most nodes (first_node file)) in
      let first_here = subst (λ (most : Limits). listed_flaw
      (definition_flaw most hs) definition_span 0 4 file.definitions
      ≡ None) same first in
      let third_here = subst (λ (most : Limits). listed_flaw (node_flaw most hs (length file.lines)) node_span 0
      (first_node file) file.nodes ≡ None) same third in
      none_later (listed_flaw (definition_flaw (limits version) hs) definition_span 0 4 file.definitions)
      (or_later (program_flaw (limits version) (first_line file) file.lines)
      (or_later (file_ends_flaw file) (nodes_flaw file))) first_here
      (none_later (program_flaw (limits version) (first_line file) file.lines)
      (or_later (file_ends_flaw file) (nodes_flaw file)) second
      (none_later (file_ends_flaw file) (nodes_flaw file) ends third_here))

-- ---- a problem with nodes within its limits

module _ (p : Problem) (ns : List FileNode) where
  pub problem_fits : 0 < length ns → Each (IsNodeWithin p.defs.most p.defs.list (length p.program)) ns
      → grammar.file.fits (tree_of p.version p.defs.list p.program ns)
  problem_fits some w =
      let kept = problem_keeps p in
      file_fits p.version p.defs.most p.limit p.defs.list p.program ns kept.definitions kept.program kept.commands
      kept.ends w
      kept.free some

  pub problem_flawless : length ns ≤ 20000 → Each (IsNodeWithin p.defs.most p.defs.list (length p.program)) ns
      → file_flaw (tree_of p.version p.defs.list p.program ns) ≡ None
  problem_flawless most w =
      let kept = problem_keeps p in
      file_flawless p.version p.defs.most p.limit p.defs.list p.program ns kept.definitions kept.program kept.commands
      kept.ends w
      kept.own kept.few most
