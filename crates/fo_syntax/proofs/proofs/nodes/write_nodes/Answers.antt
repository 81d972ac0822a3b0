use Rattle.std.proofs.Common.{◌≡◌, List, sym, ap, subst}
use Rattle.std.specs.Prelude.{map}
use Rattle.cyc_lex.specs.Writing.{write_all}
use Rattle.cyc_grammar.proofs.WrittenTexts.{first-item, wrote-ended, on-ok}
use Rattle.fo_syntax.specs.ProofTrees.{Node, node_of}
use Rattle.fo_syntax.specs.ProofGrammar.{nodes}
use Rattle.fo_syntax.proofs.proofs.nodes.write_nodes.Goals as goal

pub returns : goal.returns
unfolding nodes
returns c =
    let whole = ap (map node_of)
    (first-item c.args.trees.now c.first-item.result c.in-len1-up.len_at_least c.first-item.is) in
    on-ok c.name.result (λ e. subst (λ (xs : List Node). c.name.new.self ≡ write_all c.args.writer.now (nodes.words xs))
    (sym whole)
    (wrote-ended _ _ _ _ _ _ _ c.in_ok-write_node-in-len1-up.ensures c.in_ok-write_statements-in-len1-up.ensures e))
    c.name.ensures.ok
