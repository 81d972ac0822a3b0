use Rattle.std.proofs.Common.{◌≡◌, drop}
use Rattle.std.specs.List.{list_all}
use Rattle.fo_formula.specs.Answers.{is_short}
use Rattle.fo_formula.specs.declared.table.premises.FoPremise.{FoPremise}
use Rattle.fo_rules.proofs.parts.limits.are_short.Given as goal

abbrev pub invariant-loop-premise : goal.invariant-loop-premise
invariant-loop-premise l = list_all (λ (p : FoPremise). is_short p.sequent) (drop l.premise-index l.premises)
    ≡ list_all (λ (p : FoPremise). is_short p.sequent) l.premises
