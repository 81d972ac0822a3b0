use Rattle.std.proofs.Common.{◌≡◌, ℕ, List, sym, subst}
use Rattle.cyc_lex.specs.Writing.{write_all}
use Rattle.cyc_grammar.proofs.WrittenTexts.{first-others, on-ok}
use Rattle.heap_syntax.specs.Numbers.{premises}
use Rattle.heap_syntax.proofs.PremisesTexts.{premises-wrote}
use Rattle.heap_syntax.proofs.writing.numbers.write_premises.Goals as goal

pub returns-in_ok-write_numbers-in-len1-up : goal.returns-in_ok-write_numbers-in-len1-up
returns-in_ok-write_numbers-in-len1-up c =
    let whole = first-others c.args.trees.now 0 c.in-len1-up.len_at_least in
    on-ok c.symbol-in-len1-up.result (λ e. subst (λ (xs : List ℕ). c.symbol-in-len1-up.new.self
    ≡ write_all c.args.writer.now (premises.words xs)) (sym whole)
    (premises-wrote c.args.writer.now c.name.new.self c.number.new.self c.write_numbers.new.writer
    c.symbol-in-len1-up.new.self _ _ c.in_ok-name-in-len1-up.ensures.ok c.in_ok-number-in-len1-up.ensures.ok
    c.in_ok-write_numbers-in-len1-up.ensures e)) c.symbol-in-len1-up.ensures.ok
