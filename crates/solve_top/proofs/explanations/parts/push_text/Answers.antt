use Rattle.std.proofs.lemmas.Iterator.{YieldsList-from_chars}
use Rattle.std.proofs.lemmas.Iterator.Consumers.{YieldsList-end}
use Rattle.solve_top.proofs.NoteLaws.{shown-line, text-more, text-done}
use Rattle.solve_top.proofs.explanations.parts.push_text.Goals as goal

pub loop-c-preserved : goal.loop-c-preserved
loop-c-preserved c = text-more _ _ _ c.loop-c.yielded c.in-Some.c c.shown.result c.loop-c.invariant
    c.in_ok-push.ensures.bytes c.shown.ensures

pub returns-clause-text : goal.returns-clause-text
returns-clause-text c =
    let t = YieldsList-end (YieldsList-from_chars c.args.text.now c.utf8.text cc)
    c.loop-c.yielded _ c.loop-c.yielded_by _ _ c.in-None.is c.next.ensures.steps in
    text-done _ _ c.loop-c.yielded c.args.text.now c.loop-c.invariant t.0

pub returns-clause-fits : goal.returns-clause-fits
returns-clause-fits c = shown-line c.args.text.now c.utf8.text
