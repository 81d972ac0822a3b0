use Rattle.std.proofs.Common.{◌≡◌, List, sym, ap, subst}
use Rattle.std.specs.Prelude.{map}
use Rattle.cyc_lex.specs.Writing.{write_all}
use Rattle.cyc_grammar.proofs.WrittenTexts.{first-item, wrote-ended, on-ok}
use Rattle.heap_syntax.specs.Grammar.{listed}
use Rattle.model_file.specs.Trees.{Cell, cell_of}
use Rattle.model_file.specs.Grammar.{cells1, cells}
use Rattle.model_file.proofs.syntax.cell_list.write_cells.Goals as goal

pub returns-in_ok-write_more_cells-in-len1-up : goal.returns-in_ok-write_more_cells-in-len1-up
unfolding cells cells1 listed
returns-in_ok-write_more_cells-in-len1-up c =
    let whole = ap (map cell_of)
    (first-item c.args.trees.now c.first-item.result c.in-len1-up.len_at_least c.first-item.is) in
    on-ok c.symbol-in-len1-up.result (λ e. subst (λ (xs : List Cell). c.symbol-in-len1-up.new.self
    ≡ write_all c.args.writer.now (cells.words xs)) (sym whole)
    (wrote-ended _ _ _ _ _ _ _ c.in_ok-write_cell-in-len1-up.ensures c.in_ok-write_more_cells-in-len1-up.ensures e))
    c.symbol-in-len1-up.ensures.ok
