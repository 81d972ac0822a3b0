use Rattle.std.proofs.Common.{◌+◌, ◌-◌, true, Ok, refl, ap, ◌∙◌, arith}
use Rattle.std.specs.Prelude.{map}
use Rattle.std.proofs.lemmas.List.{length-map}
use Rattle.cyc_lex.specs.Word.{word_of}
use Rattle.proof_syntax.specs.Trees.{node_of}
use Rattle.proof_syntax.specs.declared.statements.tree.NodeOrLast.{NodeOrLast}
use Rattle.proof_syntax.specs.StatementTrees.{node_or_last_of}
use Rattle.file_reader.specs.declared.known.Found.{Found}
use Rattle.file_reader.specs.Lasts.{left_from}
use Rattle.file_reader.specs.Stretches.{tokens_of}
use Rattle.file_reader.proofs.LastLaws.{left-stands, left-size, words-size, step-taken, step-stands}
use Rattle.file_reader.proofs.NodeLaws.{later-fits, later-span, statement-shrinks, NodeTaken, node-comes, end-comes}
use Rattle.file_reader.proofs.adding.add_statement.Goals as goal

pub overflow_sub-tokens : goal.overflow_sub-tokens
overflow_sub-tokens c =
    let s = c.args.stretch in
    let n = c.args.found.now.tokens in
    let us = left_from s n in
    omega (
      arith,
      c.left.ensures,
      statement-shrinks (map word_of us) c.args.cursor.now
          (node_or_last_of c.args.statement.now) c.requires.read,
      words-size s c.requires.stretch n (map word_of us) (left-stands s n c.requires.later c.requires.within),
    )

pub add_node-requires-clause-fits : goal.add_node-requires-clause-fits
add_node-requires-clause-fits c =
    let us = left_from c.args.stretch c.args.found.now.tokens in
    later-fits (map word_of us) c.args.cursor.now (node_of c.in-Node.tree)
    (c.requires.read ∙ ap (λ (x : NodeOrLast). Ok (node_or_last_of x, c.args.cursor.now)) c.in-Node.is)

pub add_node-requires-clause-within : goal.add_node-requires-clause-within
add_node-requires-clause-within c =
    let s = c.args.stretch in
    let n = c.args.found.now.tokens in
    let us = left_from s n in
    let read = c.requires.read ∙ ap (λ (x : NodeOrLast). Ok (node_or_last_of x, c.args.cursor.now)) c.in-Node.is in
    omega (
      arith,
      later-span (map word_of us) c.args.cursor.now (node_of c.in-Node.tree) read,
      words-size s c.requires.stretch n (map word_of us) (left-stands s n c.requires.later c.requires.within),
      c.requires.later,
    )

pub returns-in_ok-add_node-in-Node : goal.returns-in_ok-add_node-in-Node
returns-in_ok-add_node-in-Node c =
    let k = c.args.known.now in
    let s = c.args.stretch in
    let ws = c.args.cursor.now in
    let old = c.args.found.now in
    let us = left_from s old.tokens in
    let mid = c.add_node.new.found in
    let read = c.requires.read ∙ ap (λ (x : NodeOrLast). Ok (node_or_last_of x, ws)) c.in-Node.is in
    let new : Found = record {
      flaw = mid.flaw;
      nodes = mid.nodes;
      tokens = s.before + (s.count - c.left.result);
      ended = mid.ended;
    } in
    let size = left-size s c.requires.stretch old.tokens (map word_of us)
    (left-stands s old.tokens c.requires.later c.requires.within) in
    let less = statement-shrinks (map word_of us) ws (node_or_last_of c.args.statement.now) c.requires.read in
    let taken : NodeTaken k us ws old new = node-comes k c.args.heads.now c.requires.heads s.before (tokens_of s) us ws
    (node_of c.in-Node.tree)
    old mid new c.requires.later refl read c.in_ok-add_node-in-Node.ensures c.requires.steady c.requires.going refl
    refl refl
    (omega (arith, size, less, length-map us word_of, c.requires.later, c.left.ensures)) in
    record {
      taken = step-taken k s c.requires.stretch old new ws c.requires.later c.requires.within taken;
      stands = step-stands k s c.requires.stretch old new ws c.requires.later c.requires.within taken;
    }

pub returns-in-Last : goal.returns-in-Last
returns-in-Last c =
    let k = c.args.known.now in
    let s = c.args.stretch in
    let ws = c.args.cursor.now in
    let old = c.args.found.now in
    let us = left_from s old.tokens in
    let read = c.requires.read ∙ ap (λ (x : NodeOrLast). Ok (node_or_last_of x, ws)) c.in-Last.is in
    let new : Found = record {
      flaw = old.flaw;
      nodes = old.nodes;
      tokens = s.before + (s.count - c.left.result);
      ended = true;
    } in
    let size = left-size s c.requires.stretch old.tokens (map word_of us)
    (left-stands s old.tokens c.requires.later c.requires.within) in
    let less = statement-shrinks (map word_of us) ws (node_or_last_of c.args.statement.now) c.requires.read in
    let taken : NodeTaken k us ws old new = end-comes k us ws old new read c.requires.steady c.requires.going refl refl
    refl
    (omega (arith, size, less, length-map us word_of, c.requires.later, c.left.ensures)) in
    record {
      taken = step-taken k s c.requires.stretch old new ws c.requires.later c.requires.within taken;
      stands = step-stands k s c.requires.stretch old new ws c.requires.later c.requires.within taken;
    }
