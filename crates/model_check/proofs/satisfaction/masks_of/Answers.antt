use Rattle.std.proofs.Common.{refl}
use Rattle.std.proofs.lemmas.Result.{IfOk-weaker}
use Rattle.model_check.specs.ForcedLocals.{stack_of}
use Rattle.model_check.proofs.CaseRules.{listed_only}
use Rattle.model_check.proofs.Exact.{masks_exact}
use Rattle.model_check.proofs.satisfaction.masks_of.Goals as goal

pub pieces_of-requires : goal.pieces_of-requires
pieces_of-requires c =
    record {
      listed = listed_only c.args.cells.now c.args.places.now.keys c.args.stack.now (stack_of c.args.locals.now)
          c.args.ask.now c.spatial.result.now c.requires.covers c.requires.only c.spatial.ensures.value;
    }

pub returns : goal.returns
returns c =
    let t = c.in_ok-table.ensures in
    IfOk-weaker c.unions.result _ _
    (λ masks u.
    masks_exact c.args.defs.now.list c.args.cells.now c.args.places.now.keys c.new-questions.result.keys
    c.pieces_of.new.questions.keys c.table_of-solved.new.questions.keys t.0 t.0 c.in_ok-table.table.items
    c.deref.result.now c.args.stack.now (stack_of c.args.locals.now)
    c.args.ask.now c.spatial.result.now c.in_ok-pieces.pieces c.as_slice.result.now masks c.spatial.ensures.value
    refl c.deref.ensures.value c.as_slice.ensures (c.in_ok-pieces.ensures c.in_ok-pieces.pieces refl)
    t.1 t.2 t.3 c.requires.only u) c.unions.ensures
