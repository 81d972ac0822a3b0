use Rattle.model_check.proofs.Asking.{asked_full}
use Rattle.model_check.proofs.questions.ask.Goals as goal

pub returns : goal.returns
returns c = asked_full c.args.questions.now.keys c.insert_full.new.self.keys c.new.result c.args.predicate
    c.args.values.items c.in_ok-q.q c.new.ensures c.in_ok-q.ensures.keys c.in_ok-q.ensures.stored
