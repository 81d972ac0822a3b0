use Rattle.std.proofs.Common.{◌≡◌, ℕ, List, sym, subst}
use Rattle.std.specs.Prelude.{OnOk}
use Rattle.cyc_lex.specs.Writing.{write_all}
use Rattle.model_file.specs.Grammar.{numbers, values}
use Rattle.run_file.proofs.SeenItems.{items-same}
use Rattle.run_file.proofs.items.write_values.Goals as goal

pub write_listed_or_none-requires : goal.write_listed_or_none-requires
unfolding values numbers
write_listed_or_none-requires c = subst (λ (ns : List ℕ). values.fits ns) (sym (items-same c.args.trees.now))
    c.requires

pub returns : goal.returns
unfolding values numbers
returns c = subst (λ (ns : List ℕ). OnOk c.write_listed_or_none.result
    (c.write_listed_or_none.new.writer ≡ write_all c.args.writer.now (values.words ns))) (items-same c.args.trees.now)
    c.write_listed_or_none.ensures
