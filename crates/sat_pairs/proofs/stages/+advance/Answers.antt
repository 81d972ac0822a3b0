use Rattle.std.proofs.Common.{◌≡◌, Err, suc, length, sym, ap, subst, arith}
use Rattle.std.proofs.lemmas.Result.{IfOk-weaker, err_from_is_err_and}
use Rattle.heap_formula.specs.Words.{Each}
use Rattle.pair_family.specs.Frames.{kept_terms, frames_of}
use Rattle.pair_family.specs.Labels.{Extends}
use Rattle.pair_family.specs.Reordering.{families_of}
use Rattle.pair_family.specs.Within.{IsWithin}
use Rattle.pair_family.specs.declared.states.states.StatesFault.TheVariants.{TooManyStates}
use Rattle.sat_pairs.specs.CaseStates.{PassesFrom}
use Rattle.sat_pairs.specs.Atoms.{lists_of}
use Rattle.sat_pairs.specs.Stages.{AreStages, atoms_of, outcome}
use Rattle.sat_pairs.proofs.Advanced.{first_passes, next_done, next_passes, next_stages, next_within}
use Rattle.sat_pairs.proofs.stages.+advance.Goals as goal

pub returns-in_err-take_in-clause-many : goal.returns-in_err-take_in-clause-many
returns-in_err-take_in-clause-many t c e =
    let q = err_from_is_err_and c.from_residual.result c.from_residual.ensures.1 in
    let q1 = q.1 in
    let q2 = q.2 in
    let f : c.in_err-take_in.field-0.0 ≡ TooManyStates = cc in
    first_passes c.args._most c.args._k c.args.table.now c.args.cell.now c.args.before.now c.args.done c.args.stages.now
    c.in-Some.stage.now c.in-Some.rest.now c.in-Some.ensures.cases.0 c.requires.cell c.requires.within c.requires.stages
    c.pairs_of_atom-pairs.result.now c.pairs_of_atom-pairs.ensures (c.in_err-take_in.ensures.many (ap Err f))

pub advance-requires : goal.advance-requires
advance-requires t c =
    let s = c.in-Some.stage.now in
    let new = c.take_in.new.self in
    let rest = c.in-Some.rest.now in
    let a = c.in-Some.ensures.cases.0 in
    let l : length c.args.stages.now ≡ suc (length rest) = ap length a in
    let keys = c.as_slice.ensures.keys in
    let old : c.len-old.result ≡ length s.states.keys = c.len-old.ensures.len in
    let k = c.args._k in
    let within = next_within c.args._most k c.args.table.now c.args.cell.now c.args.before.now c.args.done
    c.args.stages.now s rest a c.requires.cell c.requires.within c.requires.stages c.pairs_of_atom-pairs.result.now
    c.pairs_of_atom-pairs.ensures new c.in_ok-take_in.ensures.same c.in_ok-take_in.ensures.extends
    c.in_ok-take_in.ensures.taken c.in_ok-take_in.ensures.full in
    let done = next_done c.args._most k c.args.table.now c.args.cell.now c.args.before.now c.args.done
    c.args.stages.now s rest a c.requires.cell c.requires.within c.requires.stages c.pairs_of_atom-pairs.result.now
    c.pairs_of_atom-pairs.ensures new c.in_ok-take_in.ensures.same c.in_ok-take_in.ensures.extends
    c.in_ok-take_in.ensures.taken c.in_ok-take_in.ensures.full in
    let stages = next_stages c.args._most k c.args.table.now c.args.cell.now c.args.before.now c.args.done
    c.args.stages.now s rest a c.requires.cell c.requires.within c.requires.stages c.pairs_of_atom-pairs.result.now
    c.pairs_of_atom-pairs.ensures new c.in_ok-take_in.ensures.same c.in_ok-take_in.ensures.extends
    c.in_ok-take_in.ensures.taken c.in_ok-take_in.ensures.full in
    let m : length c.as_slice.result.now ≡ length new.states.keys = ap length keys in (
      omega arith,
      (
        c.requires.cell,
        (
          subst (Each (IsWithin (suc (length (kept_terms k (atoms_of rest)))))) (sym keys) within,
          (
            omega arith,
            subst (λ z. AreStages c.args._most c.args.table.now c.args.cell.now k z c.len-old.result rest) (sym keys)
                (subst (λ n. AreStages c.args._most c.args.table.now c.args.cell.now k new.states.keys n rest)
                (sym old) stages),
          ),
        ),
      ),
    )

pub returns-clause-many : goal.returns-clause-many
returns-clause-many t c e =
    let s = c.in-Some.stage.now in
    let new = c.take_in.new.self in
    let rest = c.in-Some.rest.now in
    let k = c.args._k in
    next_passes c.args._most k c.args.table.now c.args.cell.now c.args.before.now c.args.done
    c.args.stages.now s rest c.in-Some.ensures.cases.0 c.requires.cell c.requires.within c.requires.stages
    c.pairs_of_atom-pairs.result.now c.pairs_of_atom-pairs.ensures new c.in_ok-take_in.ensures.same
    c.in_ok-take_in.ensures.extends c.in_ok-take_in.ensures.taken c.in_ok-take_in.ensures.full
    (subst (λ z. PassesFrom c.args._most (families_of (lists_of c.args.table.now c.args.cell.now (atoms_of rest)))
    (frames_of k (atoms_of rest)) z (atoms_of rest)) c.as_slice.ensures.keys
    (c.advance.ensures.many e))

-- what was found stays in front
pub returns-clause-longer : goal.returns-clause-longer
returns-clause-longer t c =
    let s = c.in-Some.stage.now in
    let new = c.take_in.new.self in
    let rest = c.in-Some.rest.now in
    let keys = c.as_slice.ensures.keys in
    let last = c.advance.new.stages in
    IfOk-weaker c.advance.result _ _ (λ u h. λ old ex.
    subst (λ z. Extends (outcome old z) (outcome new.states.keys last)) (sym c.in-Some.ensures.cases.0)
    (subst (λ z. Extends (outcome s.states.keys rest) (outcome z last)) keys
    (h s.states.keys (subst (Extends s.states.keys) (sym keys) c.in_ok-take_in.ensures.extends))))
    c.advance.ensures.longer
