use Rattle.std.proofs.Common.{◌≡◌, map, ap, subst}
use Rattle.std.specs.Prelude.{IfOk}
use Rattle.std.specs.List.{list_all}
use Rattle.fo_formula.specs.Words.{in_atom}
use Rattle.fo_rules.specs.declared.parts.changes.Change.{Change}
use Rattle.fo_rules.specs.Putting.{put}
use Rattle.fo_search.specs.After.{holds_by, suits}
use Rattle.fo_search.proofs.moves.choosing.suits.Goals as goal

pub returns : goal.returns
returns c =
    let left = c.args.goal.now.left.now in
    let case = c.args.goal.now.case.now in
    let done : list_all (holds_by left) (map (in_atom (put c.in_ok-change.change)) case)
    ≡ suits left c.args.goal.now.arguments.now case c.args.terms.now = ap
    (λ (change : Change). list_all (holds_by left) (map (in_atom (put change)) case)) c.in_ok-change.ensures in
    subst (λ b. IfOk c.all_hold.result (λ r. r ≡ b)) done c.all_hold.ensures
