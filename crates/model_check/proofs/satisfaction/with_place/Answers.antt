use Rattle.model_check.specs.WideMasks.{number}
use Rattle.model_check.proofs.PlaceLists.{standing_result, standing_same}
use Rattle.model_check.proofs.satisfaction.with_place.Goals as goal

pub returns : goal.returns
returns c =
    standing_result number c.args.places.now.keys c.args.cells.now c.args.i c.args.address (number c.args.mask)
    (number c.in_ok-one.one)
    c.stands_at.result c.requires.address c.requires.before c.stands_at.ensures c.if-not-stands_at.false
    c.in_ok-one.ensures c.union.result c.union.ensures

pub returns-then-not-stands_at : goal.returns-then-not-stands_at
returns-then-not-stands_at c =
    standing_same c.args.places.now.keys c.args.cells.now c.args.i c.args.address (number c.args.mask)
    c.stands_at.result c.requires.address c.requires.before c.stands_at.ensures c.if-not-stands_at.true
