use Rattle.std.proofs.Common.{◌≡◌, ◌+◌, ◌≤◌, sym, subst, arith}
use Rattle.pair_family.specs.Tables.{pairs_of}
use Rattle.cyc_basics.specs.Words.{IsMember}
use Rattle.sat_pairs.specs.Growth.{total, IsPartOf, IsGrown}
use Rattle.sat_pairs.proofs.Taken.{part_more, grown_more, count_more, with_there, too_many, added_new}
use Rattle.sat_pairs.proofs.rounds.put.Goals as goal

pub returns-then-count-limits-clause-many : goal.returns-then-count-limits-clause-many
returns-then-count-limits-clause-many c =
    let T = c.args.table.now in
    let a = added_new T c.insert.new.self c.args.pred c.args.known c.in_ok-is_new.is_new c.if-not-is_new.false
    c.in_ok-is_new.ensures in
    let l : c.args.limits.pairs ≤ total T = subst (λ z. c.args.limits.pairs ≤ z) c.requires.count c.if-count-limits.true
    in
    λ e. too_many c.args._defs.now.list c.args.limits.pairs T c.args.pred c.args.known c.requires.part c.requires.member
    a.0 l

pub returns-clause-part : goal.returns-clause-part
returns-clause-part c =
    let T = c.args.table.now in
    let ds = c.args._defs.now.list in
    let a = added_new T c.insert.new.self c.args.pred c.args.known c.in_ok-is_new.is_new c.if-not-is_new.false
    c.in_ok-is_new.ensures in
    let e = c.requires.count in
    let f = c.if-count-limits.false in (
      subst (IsPartOf ds c.args.limits.pairs) (sym a.1)
          (part_more ds c.args.limits.pairs T c.args.pred c.args.known c.requires.part c.requires.there
          c.requires.member a.0 (omega arith)),
      subst (λ z. c.args.count + 1 ≡ total z) (sym a.1)
          (count_more T c.args.pred c.args.known c.args.count c.requires.there c.requires.count),
    )

pub returns-clause-grown : goal.returns-clause-grown
returns-clause-grown c =
    let T = c.args.table.now in
    let a = added_new T c.insert.new.self c.args.pred c.args.known c.in_ok-is_new.is_new c.if-not-is_new.false
    c.in_ok-is_new.ensures in
    subst (IsGrown T) (sym a.1)
    (grown_more c.args._defs.now.list c.args.limits.pairs T c.args.pred c.args.known c.requires.part
    c.requires.there c.requires.member a.0)

pub returns-clause-taken : goal.returns-clause-taken
returns-clause-taken c =
    let T = c.args.table.now in
    let a = added_new T c.insert.new.self c.args.pred c.args.known c.in_ok-is_new.is_new c.if-not-is_new.false
    c.in_ok-is_new.ensures in
    subst (λ z. IsMember c.args.known (pairs_of z c.args.pred)) (sym a.1)
    (with_there T c.args.pred c.args.known c.requires.there)
