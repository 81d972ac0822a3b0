use Rattle.std.proofs.Common.{◌≡◌, drop}
use Rattle.search_moves.specs.Trying.{is_applicable}
use Rattle.search_moves.specs.Settings.{theory_of}
use Rattle.std.specs.List.{list_any}
use Rattle.search_moves.proofs.setting.some_goes.Given as goal

abbrev pub invariant-loop-rule : goal.invariant-loop-rule
invariant-loop-rule l = list_any (is_applicable (theory_of l.at) l.at.judgement.now) (drop l.rule-index l.rules)
    ≡ list_any (is_applicable (theory_of l.at) l.at.judgement.now) l.rules
