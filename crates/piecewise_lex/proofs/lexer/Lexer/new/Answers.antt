use Rattle.std.proofs.Common.{◌∙◌, ◌++◌, ap, List, ℕ, false}
use Rattle.piecewise_lex.specs.Feeding.{told, tokens_from}
use Rattle.cyc_lex.specs.Lexing.{start}
use Rattle.piecewise_lex.proofs.Fed.{from-fresh}
use Rattle.piecewise_lex.proofs.lexer.Lexer.new.Goals as goal

pub returns-clause-law : goal.returns-clause-law
returns-clause-law c bytes = ap (λ (w : List ℕ). told (tokens_from start false (w ++ bytes))) c.new.ensures.items
    ∙ from-fresh bytes
