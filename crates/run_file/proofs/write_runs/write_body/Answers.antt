use Rattle.cyc_grammar.proofs.WrittenTexts.{on-ok}
use Rattle.run_file.specs.Trees.{run_of}
use Rattle.run_file.proofs.RunWriting.{body-wrote}
use Rattle.run_file.proofs.write_runs.write_body.Goals as goal

pub returns : goal.returns
returns c = on-ok c.symbol-2.result
    (λ e. body-wrote c.args.writer.now c.name.new.self c.name-2.new.self c.write_model_version.new.writer
    c.symbol.new.self c.write_claim.new.writer c.write_course.new.writer c.symbol-2.new.self (run_of c.args.tree.now)
    c.in_ok-name.ensures.ok c.in_ok-name-2.ensures.ok c.in_ok-write_model_version.ensures c.in_ok-symbol.ensures.ok
    c.in_ok-write_claim.ensures c.in_ok-write_course.ensures e) c.symbol-2.ensures.ok
