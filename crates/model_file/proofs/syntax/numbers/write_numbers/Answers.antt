use Rattle.std.proofs.Common.{◌≡◌, ℕ, List, sym, subst}
use Rattle.cyc_lex.specs.Writing.{write_all}
use Rattle.cyc_grammar.specs.Classes.{symbol}
use Rattle.cyc_grammar.proofs.WrittenTexts.{first-others, on-ok}
use Rattle.heap_syntax.specs.Grammar.{listed}
use Rattle.model_file.specs.Grammar.{numbers}
use Rattle.model_file.proofs.ModelWriting.{number-wrote}
use Rattle.model_file.proofs.syntax.numbers.write_numbers.Goals as goal

pub returns : goal.returns
unfolding numbers listed
returns c =
    let whole = first-others c.args.trees.now _ c.in-len1-up.len_at_least in
    on-ok c.symbol.result (λ e. subst (λ (xs : List ℕ). c.symbol.new.self
    ≡ write_all c.args.writer.now ((numbers (symbol c.args.behind.now)).words xs)) (sym whole)
    (number-wrote _ _ _ _ _ _ _ c.in_ok-number-in-len1-up.ensures.ok c.in_ok-write_more_numbers-in-len1-up.ensures
    e)) c.symbol.ensures.ok
