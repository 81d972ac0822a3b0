use Rattle.std.proofs.Common.{◌≡◌, ◌-◌, length}
use Rattle.std.specs.Prelude.{map}
use Rattle.cyc_grammar.specs.Syntax.{read_many, is_one}
use Rattle.cyc_grammar.specs.Giving.{with_front}
use Rattle.proof_syntax.specs.Trees.{node_of}
use Rattle.proof_syntax.specs.Grammar.{node, node_word}
use Rattle.proof_syntax.proofs.read_files.more_nodes.Given as goal

abbrev pub invariant-loop : goal.invariant-loop
invariant-loop l =
    with_front (map node_of l.items.items) (read_many (is_one node_word) node (length l.fn.cursor - l.counter) l.cursor)
    ≡ with_front (map node_of l.fn.items.items) (read_many (is_one node_word) node (length l.fn.cursor) l.fn.cursor)
