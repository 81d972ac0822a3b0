use Rattle.std.proofs.Common.{◌≡◌, ℕ, List, sym, subst}
use Rattle.std.specs.Prelude.{OnOk}
use Rattle.cyc_lex.specs.Writing.{write_all}
use Rattle.cyc_grammar.specs.Classes.{symbol}
use Rattle.model_file.specs.Grammar.{numbers}
use Rattle.run_file.proofs.SeenItems.{items-same}
use Rattle.run_file.proofs.items.write_numbers.Goals as goal

pub write_listed-requires : goal.write_listed-requires
unfolding numbers
write_listed-requires c = subst (λ (ns : List ℕ). (numbers (symbol c.args.behind.now)).fits ns)
    (sym (items-same c.args.trees.now)) c.requires

pub returns : goal.returns
unfolding numbers
returns c = subst (λ (ns : List ℕ). OnOk c.write_listed.result
    (c.write_listed.new.writer ≡ write_all c.args.writer.now ((numbers (symbol c.args.behind.now)).words ns)))
    (items-same c.args.trees.now) c.write_listed.ensures
