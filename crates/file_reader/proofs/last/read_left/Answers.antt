use Rattle.std.proofs.lemmas.Result.{err_from_is_err_and}
use Rattle.proof_syntax.specs.StatementTrees.{node_or_last_of}
use Rattle.file_reader.specs.Lasts.{comes_to}
use Rattle.file_reader.proofs.LastLaws.{node-dies, dies-same, read-words, step-read}
use Rattle.file_reader.proofs.NodeLaws.{statement-shrinks}
use Rattle.file_reader.proofs.last.read_left.Goals as goal

pub returns-in_err-statement : goal.returns-in_err-statement
returns-in_err-statement c =
    let p = err_from_is_err_and c.from_residual.result c.from_residual.ensures.1 in
    let k = c.args.known.now in
    let s = c.args.stretch in
    let read = c.nodes.invariant in
    rw (p.1, p.2) (dies-same s (comes_to k c.args.found.now s) (comes_to k c.nodes.found s)
    c.in_err-statement.field-0.0 read.same
    (node-dies k s c.requires.stretch c.nodes.found c.nodes.cursor read.stands c.in_err-statement.field-0.0
    c.nodes-test.true c.in_err-statement.ensures))

pub add_statement-added-requires-clause-read : goal.add_statement-added-requires-clause-read
add_statement-added-requires-clause-read c = read-words c.args.stretch c.nodes.found.tokens c.nodes.cursor
    c.nodes.invariant.stands _ c.in_ok-statement.ensures

pub nodes-smaller : goal.nodes-smaller
nodes-smaller c = statement-shrinks c.nodes.cursor c.kept_node_or_last.new.cursor
    (node_or_last_of c.in_ok-statement.statement) c.in_ok-statement.ensures

pub nodes-preserved : goal.nodes-preserved
nodes-preserved c =
    let added = c.in_ok-added.ensures in
    step-read c.args.known.now c.args.stretch c.args.found.now c.nodes.found c.add_statement-added.new.found
    c.nodes.cursor c.kept_node_or_last.new.cursor c.nodes.invariant added.taken added.stands
