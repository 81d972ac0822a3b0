use Rattle.std.proofs.Common.{◌≡◌, List, sym, subst}
use Rattle.std.specs.Prelude.{OnOk}
use Rattle.cyc_lex.specs.Writing.{write_all}
use Rattle.general_models.specs.declared.runs.growth.ValuePair.{ValuePair}
use Rattle.run_file.specs.Grammar.{value_pairs}
use Rattle.run_file.proofs.SeenItems.{items-same}
use Rattle.run_file.proofs.items.write_value_pairs.Goals as goal

pub write_listed-requires : goal.write_listed-requires
unfolding value_pairs
write_listed-requires c = subst (λ (ps : List ValuePair). value_pairs.fits ps) (sym (items-same c.args.pairs.now))
    c.requires

pub returns : goal.returns
unfolding value_pairs
returns c = subst (λ (ps : List ValuePair). OnOk c.write_listed.result
    (c.write_listed.new.writer ≡ write_all c.args.writer.now (value_pairs.words ps))) (items-same c.args.pairs.now)
    c.write_listed.ensures
