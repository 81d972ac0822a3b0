use Rattle.std.proofs.Common.{◌≡◌, List, sym, ap, subst}
use Rattle.std.specs.Prelude.{map}
use Rattle.cyc_lex.specs.Writing.{write_all}
use Rattle.cyc_grammar.proofs.WrittenTexts.{first-others, wrote-both, on-ok}
use Rattle.fo_syntax.specs.ProblemTrees.{Constructor, constructor_of}
use Rattle.fo_syntax.specs.ProblemGrammar.{constructors}
use Rattle.fo_syntax.proofs.problems.theories.write_constructors.Goals as goal

pub returns : goal.returns
unfolding constructors
returns c =
    let whole = ap (map constructor_of) (first-others c.args.trees.now _ c.in-len1-up.len_at_least) in
    on-ok c.write_statements.result (λ e. subst (λ (xs : List Constructor). c.write_statements.new.writer
    ≡ write_all c.args.writer.now (constructors.words xs)) (sym whole)
    (wrote-both _ _ _ _ _ c.in_ok-write_con-in-len1-up.ensures e)) c.write_statements.ensures
