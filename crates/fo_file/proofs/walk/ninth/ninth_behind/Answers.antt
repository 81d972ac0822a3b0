use Rattle.std.proofs.Common.{◌<◌, ◌+◌, ◌∙◌, subst, arith}
use Rattle.std.specs.Prelude.{IfSome, Option, ℕ}
use Rattle.fo_file.proofs.NextNinth.{behind-none, behind-some, behind-many}
use Rattle.fo_file.proofs.walk.ninth.ninth_behind.Goals as goal

pub returns-then-arguments-gt-MOST_FIRST_ORDER_ARGUMENTS-clause-counts :
    goal.returns-then-arguments-gt-MOST_FIRST_ORDER_ARGUMENTS-clause-counts
returns-then-arguments-gt-MOST_FIRST_ORDER_ARGUMENTS-clause-counts c ns is = behind-many c.args.arguments ns
    (omega (arith, c.if-arguments-gt-MOST_FIRST_ORDER_ARGUMENTS.true))

pub returns-in-Some-clause-counts : goal.returns-in-Some-clause-counts
returns-in-Some-clause-counts c ns is =
    let some = subst (λ (o : Option ℕ). IfSome o (λ n. (0 < n) × (n + 8 < 18446744073709551616)))
    c.in-Some.is c.requires in
    behind-some c.args.arguments c.in-Some.terms ns (omega (arith, c.if-arguments-gt-MOST_FIRST_ORDER_ARGUMENTS.false))
    some.0 (is ∙ c.in-Some.is)

pub returns-in-None-clause-counts : goal.returns-in-None-clause-counts
returns-in-None-clause-counts c ns is =
    behind-none c.args.arguments ns (omega (arith, c.if-arguments-gt-MOST_FIRST_ORDER_ARGUMENTS.false))
    (is ∙ c.in-None.is)
