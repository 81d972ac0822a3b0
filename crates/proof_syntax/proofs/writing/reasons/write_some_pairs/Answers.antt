use Rattle.std.proofs.Common.{◌≡◌, List, sym, subst}
use Rattle.cyc_lex.specs.Writing.{write_all}
use Rattle.cyc_grammar.proofs.WrittenTexts.{first-others, wrote-both, on-ok}
use Rattle.proof_syntax.specs.declared.tree.PairTree.{PairTree}
use Rattle.cyc_grammar.specs.Syntax.{list1}
use Rattle.proof_syntax.specs.Grammar.{comma, pair, some_pair}
use Rattle.proof_syntax.proofs.writing.reasons.write_some_pairs.Goals as goal

pub returns : goal.returns
returns c =
    let whole = first-others c.args.trees.now _ c.in-len1-up.len_at_least in
    on-ok c.write_more_pairs.result (λ e. subst (λ (xs : List PairTree). c.write_more_pairs.new.writer
    ≡ write_all c.args.writer.now ((list1 some_pair comma pair).words xs)) (sym whole)
    (wrote-both _ _ _ _ _ c.in_ok-write_pair-in-len1-up.ensures e)) c.write_more_pairs.ensures
