use Rattle.std.proofs.Common.{◌≡◌, ◌-◌, length}
use Rattle.cyc_grammar.specs.Syntax.{read_many, is_one, after}
use Rattle.cyc_grammar.specs.Giving.{with_front}
use Rattle.proof_syntax.specs.Grammar.{pair, comma}
use Rattle.proof_syntax.proofs.read_reasons.more_pairs.Given as goal

abbrev pub invariant-loop : goal.invariant-loop
invariant-loop l =
    with_front l.items.items (read_many (is_one comma) (after comma pair) (length l.fn.cursor - l.counter) l.cursor)
    ≡ with_front l.fn.items.items (read_many (is_one comma) (after comma pair) (length l.fn.cursor) l.fn.cursor)
