use Rattle.std.proofs.Common.{◌≡◌, Err, ap}
use Rattle.std.proofs.lemmas.Result.{err_from_is_err_and}
use Rattle.pair_family.specs.Family.{InFamily}
use Rattle.pair_family.specs.Tables.{in_table}
use Rattle.pair_family.proofs.Large.{large_within}
use Rattle.pair_family.specs.declared.states.states.StatesFault.TheVariants.{TooManyStates}
use Rattle.sat_pairs.proofs.Satisfied.{satisfiable_is}
use Rattle.sat_pairs.proofs.cases.satisfiable_within.Goals as goal

pub returns-clause-exact : goal.returns-clause-exact
returns-clause-exact c =
    satisfiable_is c.args._defs.now.list c.args.table.now c.args.heap.now c.in_ok-states.states.keys c.requires.table
    c.in_ok-states.ensures.given c.requires.closed c.requires.fields c.is_empty-is_satisfiable.result
    c.is_empty-is_satisfiable.ensures

pub returns-clause-few : goal.returns-clause-few
returns-clause-few c =
    λ l. c.in_ok-states.ensures.few (large_within (InFamily c.args._defs.now.list) (in_table c.args.table.now)
    (λ p b. (c.requires.table p b).1) c.args.most 0 c.args.heap.now l)

pub returns-in_err-states-clause-many : goal.returns-in_err-states-clause-many
returns-in_err-states-clause-many c e =
    let q = err_from_is_err_and c.from_residual.result c.from_residual.ensures.1 in
    let q1 = q.1 in
    let q2 = q.2 in
    let f : c.in_err-states.field-0.0 ≡ TooManyStates = cc in
    large_within (in_table c.args.table.now) (InFamily c.args._defs.now.list) (λ p b. (c.requires.table p b).0)
    c.args.most 0 c.args.heap.now (c.in_err-states.ensures.many (ap Err f))
