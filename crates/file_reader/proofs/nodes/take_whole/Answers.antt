use Rattle.std.proofs.Common.{ℕ, ap, ◌∙◌, arith}
use Rattle.std.specs.Prelude.{map, drop}
use Rattle.cyc_lex.specs.Word.{word_of}
use Rattle.proof_syntax.specs.Left.{Nodes, kept_statement}
use Rattle.file_reader.specs.Fronts.{kept}
use Rattle.file_reader.specs.Stretches.{tokens_of}
use Rattle.file_reader.proofs.LastLaws.{all-taken}
use Rattle.file_reader.proofs.nodes.take_whole.Goals as goal

pub add_statement-requires-clause-read : goal.add_statement-requires-clause-read
add_statement-requires-clause-read c =
    ap (λ (n : ℕ). (kept_statement kept Nodes).read (map word_of (drop n (tokens_of c.args.stretch)))) {y = 0}
    (omega (arith, c.requires.here)) ∙ c.requires.read

pub returns : goal.returns
returns c =
    let added = c.in_ok-add_statement.ensures in
    all-taken c.args.known.now c.args.stretch c.requires.stretch c.args.found.now c.add_statement.new.found
    c.args.cursor.now c.requires.here (omega (arith, c.if-left-gt0.false, c.left.ensures)) added.taken added.stands
