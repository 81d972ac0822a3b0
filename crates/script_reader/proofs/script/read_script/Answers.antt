use Rattle.script_reader.proofs.Asking.{asked_text, tells_script, tells_trees}
use Rattle.script_reader.proofs.Standing.{stands_tree, tells_token}
use Rattle.script_reader.specs.Faults.{lexical_fault}
use Rattle.script_reader.proofs.script.read_script.Goals as goal

pub returns-in-Ok-clause-text : goal.returns-in-Ok-clause-text
returns-in-Ok-clause-text c =
    tells_script _ _ c.args.bytes.now (lexical_fault c.args.bytes.now) c.in-Ok.trees c.read_asked.result
    c.in-Ok.ensures.exact

pub returns-in-Ok-clause-told : goal.returns-in-Ok-clause-told
returns-in-Ok-clause-told c = tells_token _ c.args.bytes.now c.in-Ok.trees c.read_asked.result c.in-Ok.ensures.spelled
    c.in-Ok.ensures.same c.read_asked.ensures.told

pub returns-in-Ok-clause-asked : goal.returns-in-Ok-clause-asked
returns-in-Ok-clause-asked c = asked_text _ c.args.bytes.now c.in-Ok.trees c.read_asked.result c.in-Ok.ensures.spelled
    c.in-Ok.ensures.same c.read_asked.ensures.asked

pub returns-in-Err-clause-text : goal.returns-in-Err-clause-text
returns-in-Err-clause-text c =
    tells_trees _ _ c.args.bytes.now (lexical_fault c.args.bytes.now) c.in-Err.fault c.from-error.result
    c.in-Err.ensures.exact c.from-error.ensures

pub returns-in-Err-clause-told : goal.returns-in-Err-clause-told
returns-in-Err-clause-told c = stands_tree _ c.args.bytes.now c.in-Err.fault c.from-error.result c.in-Err.ensures.exact
    c.from-error.ensures
