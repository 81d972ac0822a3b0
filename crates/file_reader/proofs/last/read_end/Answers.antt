use Rattle.std.proofs.Common.{subst, arith, ◌∙◌, length}
use Rattle.std.proofs.lemmas.Result.{err_from_is_err_and}
use Rattle.cyc_grammar.specs.declared.cursor.Refusal.TheVariants as refusals
use Rattle.file_reader.specs.Lasts.{comes_to, DiesAt}
use Rattle.file_reader.proofs.LastLaws.{dies-same, end-dies, rest-dies, end-comes-to}
use Rattle.file_reader.proofs.last.read_end.Goals as goal

pub returns-in_err-end : goal.returns-in_err-end
returns-in_err-end c =
    let p = err_from_is_err_and c.from_residual-in_err-end.result c.from_residual-in_err-end.ensures.1 in
    let k = c.args.known.now in
    let s = c.args.stretch in
    let read = c.in_ok-read_statements.ensures.0 in
    let mid = c.read_statements.new.found in
    rw (p.1, p.2) (dies-same s (comes_to k c.args.found.now s) (comes_to k mid s) c.in_err-end.field-0.0 read.same
    (end-dies k s c.requires.stretch mid c.read_statements.new.cursor read.stands c.in_ok-read_statements.ensures.1
    c.in_err-end.field-0.0 c.in_err-end.ensures))

pub returns-then-left-gt0 : goal.returns-then-left-gt0
returns-then-left-gt0 c =
    let k = c.args.known.now in
    let s = c.args.stretch in
    let read = c.in_ok-read_statements.ensures.0 in
    let mid = c.read_statements.new.found in
    let rest = c.end.new.self in
    let dies = dies-same s (comes_to k c.args.found.now s) (comes_to k mid s) (refusals.Dead (length rest)) read.same
    (rest-dies k s c.requires.stretch mid c.read_statements.new.cursor read.stands c.in_ok-read_statements.ensures.1
    rest c.in_ok-end.ensures (omega (arith, c.left.ensures, c.if-left-gt0.true))) in
    subst (λ (n : _). DiesAt s (comes_to k c.args.found.now s) (refusals.Dead n))
    (omega (arith, c.left-then-left-gt0.ensures)) dies

pub returns : goal.returns
returns c =
    let k = c.args.known.now in
    let s = c.args.stretch in
    let read = c.in_ok-read_statements.ensures.0 in
    let mid = c.read_statements.new.found in (
      read.same
          ∙ end-comes-to k s c.requires.stretch mid c.read_statements.new.cursor read.stands
          c.in_ok-read_statements.ensures.1 c.end.new.self c.in_ok-end.ensures
          (omega (arith, c.left.ensures, c.if-left-gt0.false)),
      read.steady,
    )
