use Rattle.std.proofs.Common.{subst, ◌++◌}
use Rattle.cyc_runs.specs.Runs.{IsAnswerOf, WrotePart}
use Rattle.cyc_runs.proofs.run_over.Goals as goal

pub returns-clause-write_fault : goal.returns-clause-write_fault
returns-clause-write_fault g c =
    λ e.
    let wrote = c.run_in_pieces.ensures.write_fault e in (
      wrote.0,
      subst (λ xs. WrotePart (IsAnswerOf (λ input. g.T.Tool.answers c.args.tool.now (xs ++ input)))
          (g.S.Source.left c.args.src.now) (g.K.Sink.written c.args.out.now) (g.K.Sink.written c.run_in_pieces.new.out))
          c.new.ensures.items wrote.1,
    )
