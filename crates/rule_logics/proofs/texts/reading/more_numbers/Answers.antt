use Rattle.std.proofs.Common.{◌≡◌, true, sym}
use Rattle.cyc_grammar.specs.Classes.{number}
use Rattle.cyc_grammar.specs.Syntax.{begins, is_one}
use Rattle.rule_logics.proofs.Answered.{number_more}
use Rattle.rule_logics.proofs.texts.reading.more_numbers.Goals as goal

pub loop-preserved : goal.loop-preserved
loop-preserved c =
    let begin : begins (is_one number) c.loop.cursor ≡ true = sym c.if-not-is_number_next.ensures in
    rw (c.in_ok-push-2.ensures.items)
    (number_more c.loop.numbers.items c.args.most c.loop.counter c.in_ok-number.field-0 c.loop.cursor
    c.number.new.self _ c.loop-test.true begin c.in_ok-number.ensures c.loop.invariant)
