-- The whole table.
use Rattle.std.specs.Prelude.{ℕ, List, length, Bool, true, not, ◌||◌, nat_le, Option}
use Rattle.cyc_basics.specs.declared.limits.Limits.{Limits}
use Rattle.heap_formula.specs.declared.commands.Command.{Command}
use Rattle.heap_formula.specs.declared.judgements.Judgement.{Judgement}
use Rattle.heap_formula.specs.declared.judgements.Judgement.TheVariants.{Entail, Term as Runs}
use Rattle.heap_formula.specs.declared.proof_rules.Link.{Link}
use Rattle.heap_formula.specs.declared.proof_rules.Rule.{Rule}
use Rattle.heap_formula.specs.declared.proof_rules.Rule.TheVariants.{Absurd, Rewrite, Split, Distinct, Weaken, Unfold}
use Rattle.heap_formula.specs.declared.proof_rules.Rule.TheVariants.{Cut, Done, Choose, PureRight, Instantiate, Frame}
use Rattle.heap_formula.specs.declared.proof_rules.Rule.TheVariants.{UnfoldRight, Exec, Drop}
use Rattle.heap_formula.specs.declared.proof_rules.RuleFault.{RuleFault}
use Rattle.heap_formula.specs.declared.proof_rules.RuleFault.TheVariants.{WrongJudgement, LinkSpatial}
use Rattle.heap_formula.specs.Definitions.{Definition}
use Rattle.heap_formula.specs.Judgements.{antecedent}
use Rattle.heap_formula.specs.Programs.{program_variables, has_ends}
use Rattle.rule_table.specs.Answer.{Answer, needs}
use Rattle.rule_table.specs.Table.{absurd_answer, rewrite_answer, split_answer, distinct_answer, weaken_answer}
use Rattle.rule_table.specs.Table.{unfold_answer, cut_answer, done_answer, choose_answer, pure_right_answer}
use Rattle.rule_table.specs.Table.{instantiate_answer, frame_answer, unfold_right_answer, drop_answer}
use Rattle.rule_table.specs.ExecTable.{exec_answer}
use Rattle.rule_table.specs.LinkTable.{first_of, fault_unless, link_fault}

-- the number of program variables for a `from` judgement, 0 for an entailment
abbrev pub variables_of : List Command → Judgement → ℕ
variables_of lines (Entail a bs) = 0
variables_of lines (Runs i a) = program_variables lines

-- the answer of each rule; `most` are the limits of the format's version. What is dropped would be missed at an end,
-- which speaks of the whole part
abbrev pub rule_answer : Limits → List Definition → List Command → Judgement → Rule → Answer
rule_answer most ds lines j Absurd = absurd_answer j
rule_answer most ds lines j (Rewrite k side) = rewrite_answer (variables_of lines j) j k side
rule_answer most ds lines j (Split t u) = split_answer most j t u
rule_answer most ds lines j (Distinct i k) = distinct_answer most j i k
rule_answer most ds lines j (Weaken k) = weaken_answer j k
rule_answer most ds lines j (Unfold k) = unfold_answer most ds (variables_of lines j) j k
rule_answer most ds lines j (Cut places f) = cut_answer most (variables_of lines j) j places f
rule_answer most ds lines j Done = done_answer j
rule_answer most ds lines j (Choose k) = choose_answer j k
rule_answer most ds lines j (PureRight k) = pure_right_answer j k
rule_answer most ds lines j (Instantiate v t) = instantiate_answer j v t
rule_answer most ds lines j (Frame i k) = frame_answer j i k
rule_answer most ds lines j (UnfoldRight k c) = unfold_right_answer most ds j k c
rule_answer most ds lines j Exec = exec_answer most lines j
rule_answer most ds lines j (Drop k) = needs (not (has_ends lines)) WrongJudgement (drop_answer j k)

-- where the program has an end, no atom of the bud's is over
abbrev pub leaves_nothing : List Command → Judgement → Judgement → Bool
leaves_nothing lines (Entail a bs) (Entail b cs) = true
leaves_nothing lines (Entail a bs) (Runs k b) = true
leaves_nothing lines (Runs i a) (Entail b cs) = true
leaves_nothing lines (Runs i a) (Runs k b) = not (has_ends lines) || nat_le (length a.spatial) (length b.spatial)

-- the first fault of a link between judgements on the program
abbrev pub program_link_fault : List Command → Judgement → Judgement → Link → Option RuleFault
program_link_fault lines bud companion link =
    first_of (link_fault bud companion link (variables_of lines bud))
    (fault_unless (leaves_nothing lines bud companion) (LinkSpatial (length (antecedent companion).spatial)))
