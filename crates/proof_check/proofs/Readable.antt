-- What the type of proof files sees to of its nodes and definitions.
use Rattle.std.proofs.Common.{◌≡◌, ℕ, true, List, length, Some}
use Rattle.std.proofs.lemmas.Bool.{leb-true, and_parts}
use Rattle.cyc_basics.specs.declared.limits.TheConstants.{MOST_CASES}
use Rattle.heap_formula.specs.declared.terms.Term.{Term}
use Rattle.heap_formula.specs.declared.commands.Command.{Command}
use Rattle.heap_formula.specs.declared.proof_rules.Reason.{Reason}
use Rattle.heap_formula.specs.declared.proof_rules.Reason.TheVariants.{Step, Back}
use Rattle.heap_formula.specs.Closedness.{IsUniversal}
use Rattle.heap_formula.specs.Definitions.{Definition, HasFewCases}
use Rattle.heap_formula.specs.Judgements.{antecedent}
use Rattle.heap_formula.specs.Words.{Each}
use Rattle.rule_table.specs.Tests.{is_universal, is_universal_heap}
use Rattle.rule_table.specs.Judgements.{IsReadable}
use Rattle.rule_table.specs.Soundness.{IsCommand}
use Rattle.rule_table.proofs.Reflects.{universal_is}
use Rattle.goto_lang.specs.Lines.{IsProgram}
use Rattle.symbolic_exec.proofs.ProgramLines.{program_commands}
use Rattle.proof_file.specs.Readable.{is_universal_reason, is_readable, are_readable, has_few_cases, all_have_few_cases}
use Rattle.proof_file.specs.FileNodes.{FileNode}
use Rattle.proof_file.specs.declared.file.ProofFile.{ProofFile}
use Rattle.proof_file.proofs.Universal.{each_passes, universal_heap}
use Rattle.logics.specs.Laws.{MayStand}
use Rattle.rule_book.specs.SeparationLogic.{MayOccur}
use Rattle.proof_check.specs.Files.{AreReadable}
use Rattle.heap_formula.proofs.AllMembers.{each_at}

node_readable : (n : FileNode) → is_readable n ≡ true → IsReadable n.judgement n.reason
node_readable n e = by_reason n.reason (and_parts (is_universal_heap (antecedent n.judgement))
    (is_universal_reason n.reason) e)
  where
    by_reason : (r : Reason) → (is_universal_heap (antecedent n.judgement) ≡ true) × (is_universal_reason r ≡ true)
        → IsReadable n.judgement r
    by_reason (Step rule) b = universal_heap (antecedent n.judgement) b.0
    by_reason (Back link) b = each_passes (λ (pair : ℕ × Term). is_universal pair.1) (λ pair. IsUniversal pair.1)
        (λ pair. universal_is pair.1) link.subst b.1

nodes_readable : (ns : List FileNode) → are_readable ns ≡ true → AreReadable ns
nodes_readable ns e v node at =
    node_readable node (each_at (λ (n : FileNode). is_readable n ≡ true) ns v node at
    (each_passes is_readable (λ n. is_readable n ≡ true) (λ n h. h) ns e))

few_cases : (ds : List Definition) → all_have_few_cases ds ≡ true → Each HasFewCases ds
few_cases ds e = each_passes has_few_cases HasFewCases (λ d h. leb-true (length d.cases) MOST_CASES h) ds e

pub file_readable : (f : ProofFile) → AreReadable f.nodes
file_readable f = nodes_readable f.nodes f.readable

pub file_cases : (f : ProofFile) → Each HasFewCases f.defs.list
file_cases f = few_cases f.defs.list f.cases

-- the nodes may stand in a proof over these definitions and lines
pub may_stand : (ds : List Definition) (lines : List Command) (nodes : List FileNode) → Each IsCommand lines
    → Each HasFewCases ds → AreReadable nodes → MayStand (MayOccur ds lines) IsReadable nodes
may_stand ds lines nodes commands few readable = record {
  occurs = λ v node at. record { commands = commands; cases = few };
  allowed = readable;
}

pub file_stands : (f : ProofFile) → IsProgram f.program → MayStand (MayOccur f.defs.list f.program) IsReadable f.nodes
file_stands f program = may_stand f.defs.list f.program f.nodes (program_commands f.program program) (file_cases f)
    (file_readable f)
