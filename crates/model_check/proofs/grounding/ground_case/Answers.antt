use Rattle.std.proofs.Common.{refl}
use Rattle.model_check.proofs.CaseRules.{listed_case, no_case, one_case}
use Rattle.model_check.proofs.grounding.ground_case.Goals as goal

pub returns-in-None : goal.returns-in-None
returns-in-None c =
    no_case c.args.cells.now c.args.places.now.keys c.args.questions.now.keys c.args.rules.now.items c.args.head
    c.args.values.now c.args.case.now (rw c.in-None.is at c.in_ok-locals_of.ensures)

pub returns-in_ok-push-in-Some : goal.returns-in_ok-push-in-Some
returns-in_ok-push-in-Some c =
    one_case c.args.cells.now c.args.places.now.keys c.args.questions.now.keys c.pieces_of-asked.new.questions.keys
    c.args.rules.now.items c.push.new.self.items c.args.head c.args.values.now c.args.case.now
    c.in-Some.locals.items c.deref.result.now c.spatial.result.now c.in_ok-pieces-in-Some.pieces
    (rw c.in-Some.is at c.in_ok-locals_of.ensures) c.deref.ensures.value c.spatial.ensures.value
    (c.in_ok-pieces-in-Some.ensures c.in_ok-pieces-in-Some.pieces refl) c.in_ok-push-in-Some.ensures.items

pub pieces_of-asked-requires : goal.pieces_of-asked-requires
pieces_of-asked-requires c =
    record {
      listed = listed_case c.args.cells.now c.args.places.now.keys c.args.values.now c.in-Some.locals.items
          c.deref.result.now c.args.case.now c.spatial.result.now c.requires.covers
          (rw c.in-Some.is at c.in_ok-locals_of.ensures) c.deref.ensures.value c.spatial.ensures.value;
    }
