use Rattle.std.proofs.Common.{◌≡◌, Err, ◌∷◌, [], suc, length, sym, ap, subst}
use Rattle.std.proofs.lemmas.Result.{IfOk-weaker, err_from_is_err_and}
use Rattle.std.specs.Prelude.{MatchOption}
use Rattle.heap_formula.specs.Symbolic.{SymbolicHeap}
use Rattle.pair_family.specs.Combination.{pure_facts, AreConsistent}
use Rattle.pair_family.specs.Frames.{kept_terms, frames_of}
use Rattle.pair_family.specs.Reordering.{families_of}
use Rattle.cyc_basics.specs.Words.{IsMember}
use Rattle.pair_family.specs.Within.{IsWithin}
use Rattle.pair_family.specs.declared.states.states.StatesFault.TheVariants.{TooManyStates}
use Rattle.sat_pairs.specs.CaseStates.{PassesFrom}
use Rattle.sat_pairs.specs.Atoms.{lists_of}
use Rattle.sat_pairs.proofs.Reached.{alone_alike, each_alike, passes_alike, passes_first, states_alike, turned}
use Rattle.sat_pairs.proofs.Starts.{IsStart}
use Rattle.sat_pairs.proofs.Steps.{case_none, case_states, start_within}
use Rattle.sat_pairs.proofs.cases.given_in_order.Goals as goal

pub returns-in_default-clause-given : goal.returns-in_default-clause-given
returns-in_default-clause-given c =
    let xs = c.args.atoms.now in
    let ps = c.args.pure.now in
    let a : SymbolicHeap = record { pure = ps; spatial = xs } in
    let n : ¬ AreConsistent (pure_facts ps) = subst
    (λ o. MatchOption o (¬ AreConsistent (pure_facts ps)) (IsStart c.args.k xs ps))
    c.in_default.is c.in_ok-first.ensures in
    λ d. (
      λ m. absurd (subst (IsMember d) c.new.ensures.empty m),
      λ g.
          absurd (case_none (lists_of c.args.table.now c.args.cell.now c.args.atoms.now) c.args.k a n d g),
    )

pub returns-in_default-clause-few : goal.returns-in_default-clause-few
returns-in_default-clause-few c =
    let xs = c.args.atoms.now in
    let ps = c.args.pure.now in
    let n : ¬ AreConsistent (pure_facts ps) = subst
    (λ o. MatchOption o (¬ AreConsistent (pure_facts ps)) (IsStart c.args.k xs ps))
    c.in_default.is c.in_ok-first.ensures in
    λ p. n p.0

pub fold-requires-clause-within : goal.fold-requires-clause-within
fold-requires-clause-within c =
    let xs = c.args.atoms.now in
    let ps = c.args.pure.now in
    let lists = lists_of c.args.table.now c.args.cell.now c.args.atoms.now in
    let a : SymbolicHeap = record { pure = ps; spatial = xs } in
    let s : IsStart c.args.k xs ps c.in-Some.first = subst
    (λ o. MatchOption o (¬ AreConsistent (pure_facts ps)) (IsStart c.args.k xs ps))
    c.in-Some.is c.in_ok-first.ensures in
    let same = alone_alike c.in_ok-states.states.keys c.in-Some.first c.in_ok-states.ensures.given in
    each_alike (IsWithin (suc (length (kept_terms c.args.k xs)))) c.in_ok-states.states.keys (c.in-Some.first ∷ []) same
    (start_within c.args.k a c.in-Some.first s)

pub returns-in_err-states-clause-many : goal.returns-in_err-states-clause-many
returns-in_err-states-clause-many c e =
    let xs = c.args.atoms.now in
    let ps = c.args.pure.now in
    let lists = lists_of c.args.table.now c.args.cell.now c.args.atoms.now in
    let a : SymbolicHeap = record { pure = ps; spatial = xs } in
    let s : IsStart c.args.k xs ps c.in-Some.first = subst
    (λ o. MatchOption o (¬ AreConsistent (pure_facts ps)) (IsStart c.args.k xs ps))
    c.in-Some.is c.in_ok-first.ensures in
    let q = err_from_is_err_and c.from_residual-in_err-states.result c.from_residual-in_err-states.ensures.1 in
    let q1 = q.1 in
    let q2 = q.2 in
    let f : c.in_err-states.field-0.0 ≡ TooManyStates = cc in
    let p = passes_first c.args.most (families_of lists) (frames_of c.args.k xs) c.in-Some.first xs
    (c.in_err-states.ensures.many (ap Err f)) in
    (s.0, subst (λ z. PassesFrom c.args.most (families_of lists) (frames_of c.args.k xs) (z ∷ []) xs) s.1 p)

pub returns-clause-given : goal.returns-clause-given
returns-clause-given c =
    let xs = c.args.atoms.now in
    let ps = c.args.pure.now in
    let lists = lists_of c.args.table.now c.args.cell.now c.args.atoms.now in
    let a : SymbolicHeap = record { pure = ps; spatial = xs } in
    let s : IsStart c.args.k xs ps c.in-Some.first = subst
    (λ o. MatchOption o (¬ AreConsistent (pure_facts ps)) (IsStart c.args.k xs ps))
    c.in-Some.is c.in_ok-first.ensures in
    let same = alone_alike c.in_ok-states.states.keys c.in-Some.first c.in_ok-states.ensures.given in
    IfOk-weaker c.fold.result _ _ (λ out h. case_states lists c.args.k a c.in-Some.first out.keys s
    (states_alike (families_of lists) (frames_of c.args.k xs) c.in_ok-states.states.keys (c.in-Some.first ∷ [])
    xs out.keys same h)) c.fold.ensures.given

pub returns-clause-few : goal.returns-clause-few
returns-clause-few c =
    let xs = c.args.atoms.now in
    let ps = c.args.pure.now in
    let lists = lists_of c.args.table.now c.args.cell.now c.args.atoms.now in
    let a : SymbolicHeap = record { pure = ps; spatial = xs } in
    let s : IsStart c.args.k xs ps c.in-Some.first = subst
    (λ o. MatchOption o (¬ AreConsistent (pure_facts ps)) (IsStart c.args.k xs ps))
    c.in-Some.is c.in_ok-first.ensures in
    let same = alone_alike c.in_ok-states.states.keys c.in-Some.first c.in_ok-states.ensures.given in
    IfOk-weaker c.fold.result _ _ (λ out h p. h (passes_alike c.args.most (families_of lists) (frames_of c.args.k xs)
    (c.in-Some.first ∷ []) c.in_ok-states.states.keys xs
    (turned c.in_ok-states.states.keys (c.in-Some.first ∷ []) same)
    (subst (λ z. PassesFrom c.args.most (families_of lists) (frames_of c.args.k xs) (z ∷ []) xs) (sym s.1) p.1)))
    c.fold.ensures.few

pub returns-clause-many : goal.returns-clause-many
returns-clause-many c e =
    let xs = c.args.atoms.now in
    let ps = c.args.pure.now in
    let lists = lists_of c.args.table.now c.args.cell.now c.args.atoms.now in
    let a : SymbolicHeap = record { pure = ps; spatial = xs } in
    let s : IsStart c.args.k xs ps c.in-Some.first = subst
    (λ o. MatchOption o (¬ AreConsistent (pure_facts ps)) (IsStart c.args.k xs ps))
    c.in-Some.is c.in_ok-first.ensures in
    let same = alone_alike c.in_ok-states.states.keys c.in-Some.first c.in_ok-states.ensures.given in (
      s.0,
      subst (λ z. PassesFrom c.args.most (families_of lists) (frames_of c.args.k xs) (z ∷ []) xs) s.1
          (passes_alike c.args.most (families_of lists) (frames_of c.args.k xs) c.in_ok-states.states.keys
          (c.in-Some.first ∷ []) xs same (c.fold.ensures.many e)),
    )
