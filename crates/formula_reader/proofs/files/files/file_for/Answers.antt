-- What holds of the problem's definitions and program holds of their copies.
use Rattle.std.proofs.Common.{◌≡◌, true, List, None, length, sym, subst}
use Rattle.cyc_basics.specs.Limits.{AreLimits}
use Rattle.heap_formula.specs.declared.commands.Command.{Command}
use Rattle.pred_defs.specs.Book.{DefinitionBook}
use Rattle.proof_syntax.specs.Grammar.{file}
use Rattle.proof_file.specs.Readable.{are_universal_commands, are_at_lines, all_have_few_cases}
use Rattle.proof_file.specs.Flaws.{file_flaw}
use Rattle.proof_file.specs.Written.{tree_of}
use Rattle.heap_reader.proofs.Fitting.{most_fits}
use Rattle.formula_reader.proofs.Within.{problem_keeps}
use Rattle.formula_reader.proofs.ProgramLines.{commands_universal}
use Rattle.formula_reader.proofs.DefinitionTrees.{few_cases}
use Rattle.formula_reader.proofs.NodesFit.{nodes_readable, nodes_at_lines}
use Rattle.formula_reader.proofs.FileTrees.{problem_fits, problem_flawless}
use Rattle.formula_reader.proofs.files.files.file_for.Goals as goal

copied : (P : DefinitionBook → List Command → Type 0) (book copy : DefinitionBook) (program lines : List Command)
    → copy ≡ book → lines ≡ program → P book program → P copy lines
copied P book copy program lines d l x =
    subst (λ (b : DefinitionBook). P b lines) (sym d) (subst (λ (p : List Command). P book p) (sym l) x)

pub invariant_of-result-clause-readable : goal.invariant_of-result-clause-readable
invariant_of-result-clause-readable c =
    let p = c.args.problem.now in
    nodes_readable p.defs.most p.defs.list (length p.program) c.args.nodes c.requires.within

pub invariant_of-result-clause-universal : goal.invariant_of-result-clause-universal
invariant_of-result-clause-universal c =
    let p = c.args.problem.now in
    subst (λ (lines : List Command). are_universal_commands lines ≡ true) (sym c.in_ok-program.ensures.cases)
    (commands_universal p.version p.defs.most p.program (problem_keeps p).program.universal (problem_keeps p).commands)

pub invariant_of-result-clause-at_lines : goal.invariant_of-result-clause-at_lines
invariant_of-result-clause-at_lines c =
    let p = c.args.problem.now in
    subst (λ (lines : List Command). are_at_lines (length lines) c.args.nodes ≡ true)
    (sym c.in_ok-program.ensures.cases) (nodes_at_lines p.defs.most p.defs.list (length p.program)
    c.args.nodes c.requires.within)

pub invariant_of-result-clause-cases : goal.invariant_of-result-clause-cases
invariant_of-result-clause-cases c =
    let p = c.args.problem.now in
    let bounded = subst AreLimits (sym p.limit) (most_fits p.version) in
    subst (λ (book : DefinitionBook). all_have_few_cases book.list ≡ true) (sym c.in_ok-defs.ensures.cases)
    (few_cases p.defs.most bounded p.defs.list p.defs.list (problem_keeps p).definitions)

pub invariant_of-result-clause-fits : goal.invariant_of-result-clause-fits
invariant_of-result-clause-fits c =
    let p = c.args.problem.now in
    copied (λ book lines. file.fits (tree_of p.version book.list lines c.args.nodes))
    p.defs c.in_ok-defs.defs p.program c.in_ok-program.program c.in_ok-defs.ensures.cases
    c.in_ok-program.ensures.cases (problem_fits p c.args.nodes c.requires.some_node c.requires.within)

pub invariant_of-result-clause-flawless : goal.invariant_of-result-clause-flawless
invariant_of-result-clause-flawless c =
    let p = c.args.problem.now in
    copied (λ book lines. file_flaw (tree_of p.version book.list lines c.args.nodes) ≡ None)
    p.defs c.in_ok-defs.defs p.program c.in_ok-program.program c.in_ok-defs.ensures.cases
    c.in_ok-program.ensures.cases (problem_flawless p c.args.nodes c.requires.few c.requires.within)
