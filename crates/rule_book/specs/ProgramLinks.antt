-- A link without a fault in a program is one without a fault by itself, and leaves nothing over.
use Rattle.std.proofs.Common.{◌≡◌, List, true, None}
use Rattle.heap_formula.specs.declared.commands.Command.{Command}
use Rattle.heap_formula.specs.declared.judgements.Judgement.{Judgement}
use Rattle.heap_formula.specs.declared.proof_rules.Link.{Link}
use Rattle.heap_formula.specs.declared.proof_rules.RuleFault.TheVariants.{LinkSpatial}
use Rattle.heap_formula.specs.Judgements.{antecedent}
use Rattle.std.specs.Prelude.{length}
use Rattle.rule_table.specs.LinkTable.{first_of, fault_unless, link_fault}
use Rattle.rule_table.specs.RuleBook.{variables_of, leaves_nothing, program_link_fault}
use Rattle.rule_table.proofs.LinkRule.{none_of_two, no_fault}

pub program_link_none : (lines : List Command) (bud companion : Judgement) (link : Link)
    → link_fault bud companion link (variables_of lines bud) ≡ None → leaves_nothing lines bud companion ≡ true
    → program_link_fault lines bud companion link ≡ None
program_link_none lines bud companion link e whole =
    λ i. first_of (e i) (fault_unless (whole i) (LinkSpatial (length (antecedent companion).spatial)))

pub program_link_parts : (lines : List Command) (bud companion : Judgement) (link : Link)
    → program_link_fault lines bud companion link ≡ None
    → (link_fault bud companion link (variables_of lines bud) ≡ None) × (leaves_nothing lines bud companion ≡ true)
program_link_parts lines bud companion link e =
    let over = LinkSpatial (length (antecedent companion).spatial) in
    let f = none_of_two (link_fault bud companion link (variables_of lines bud))
    (fault_unless (leaves_nothing lines bud companion) over) e in
    (f.0, no_fault (leaves_nothing lines bud companion) over f.1)
