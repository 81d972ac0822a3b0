use Rattle.std.proofs.Common.{◌≡◌, true, ◌||◌, sym, ap, ◌∙◌}
use Rattle.std.specs.Prelude.{not}
use Rattle.fo_formula.specs.Words.{in_atom}
use Rattle.fo_rules.specs.Putting.{put}
use Rattle.fo_search.specs.Choosing.{settles_atom, stands_after}
use Rattle.fo_search.proofs.Listed.{capped_absent}
use Rattle.fo_search.proofs.moves.settling.may_stand.Goals as goal

pub returns-then-size_of_changed_atom-gt-MOST_TERMS : goal.returns-then-size_of_changed_atom-gt-MOST_TERMS
returns-then-size_of_changed_atom-gt-MOST_TERMS c =
    let change = c.args.change.now in
    let atoms = c.args.atoms.now in
    let settled : settles_atom change c.args.atom.now ≡ true = sym c.settles_atom.ensures ∙ c.if-not-settles_atom.false
    in
    let absent = capped_absent (in_atom (put change) c.args.atom.now)
    atoms c.size_of_changed_atom.result c.requires c.size_of_changed_atom.ensures
    c.if-size_of_changed_atom-gt-MOST_TERMS.true in
    sym (ap (λ b. not b || stands_after change atoms c.args.atom.now) settled ∙ absent)
