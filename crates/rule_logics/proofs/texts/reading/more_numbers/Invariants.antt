use Rattle.std.proofs.Common.{◌≡◌, ◌-◌, [], ◌∷◌}
use Rattle.cyc_grammar.specs.Giving.{with_front}
use Rattle.rule_logics.specs.Grammar.{read_more}
use Rattle.rule_logics.proofs.texts.reading.more_numbers.Given as goal

abbrev pub invariant-loop : goal.invariant-loop
invariant-loop l = with_front l.numbers.items (read_more (l.most - l.counter) l.cursor)
    ≡ with_front (l.first ∷ []) (read_more l.most l.fn.cursor)
