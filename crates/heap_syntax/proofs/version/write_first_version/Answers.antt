use Rattle.std.proofs.Common.{ℕ, List, ◌∙◌, ap, arith}
use Rattle.std.proofs.lemmas.Fmt.{decimal_digit}
use Rattle.cyc_lex.specs.declared.token.Kind.TheVariants.{Number}
use Rattle.cyc_lex.specs.Writing.{write}
use Rattle.cyc_grammar.proofs.WrittenTexts.{on-ok}
use Rattle.heap_syntax.proofs.version.write_first_version.Goals as goal

pub returns : goal.returns
returns c = on-ok c.number.result (λ e. e ∙ ap (λ (s : List ℕ). write c.args.writer.now
    (record { kind = Number; text = s })) (decimal_digit 1 (omega arith))) c.number.ensures.ok
