use Rattle.std.proofs.Common.{◌≡◌, ◌∙◌, [], suc, ◌∷◌, Err, length, sym, ap, subst, arith}
use Rattle.std.proofs.lemmas.Bool.{eqb-true}
use Rattle.std.proofs.lemmas.Result.{IfOk-weaker, err_from_is_err_and}
use Rattle.std.proofs.lemmas.List.{nil_from_length}
use Rattle.heap_formula.specs.Words.{Each}
use Rattle.pair_family.specs.Frames.{kept_terms, frames_of}
use Rattle.pair_family.specs.LargeCases.{HasMore}
use Rattle.pair_family.specs.Reordering.{families_of}
use Rattle.pair_family.specs.States.{AreStates}
use Rattle.pair_family.specs.Within.{IsWithin}
use Rattle.pair_family.specs.declared.states.states.StatesFault.TheVariants.{TooManyStates}
use Rattle.sat_pairs.specs.CaseStates.{GivesTo, PassesFrom}
use Rattle.sat_pairs.specs.Numbers.{kept_numbers}
use Rattle.sat_pairs.specs.Atoms.{atom_pairs, lists_of}
use Rattle.sat_pairs.proofs.AtomLists.{atom_cell}
use Rattle.sat_pairs.proofs.Reached.{passes_here, passes_later, passes_none, passes_nowhere}
use Rattle.sat_pairs.proofs.Steps.{Stepped, fold_within, fold_more, leads, many_led}
use Rattle.sat_pairs.proofs.cases.+fold.Goals as goal

pub fold-requires : goal.fold-requires
fold-requires t c =
    let l : length c.args.atoms.now ≡ suc (length c.first_of.result.1.now) = ap length c.first_of.ensures in
    let a = c.first_of.ensures in
    let k = c.args.k in
    let x = c.first_of.result.0.now in
    let rest = c.first_of.result.1.now in
    let states = c.args.states.keys in
    let table = c.args.table.now in
    let cell = c.args.cell.now in
    let pairs = atom_pairs table cell x in
    let has = atom_cell table cell x c.requires.cell in
    let within = subst (λ z. Each (IsWithin (suc (length (kept_terms k z)))) states) a c.requires.within in
    let stepped = subst (λ z. Stepped x (kept_numbers k (x ∷ rest))
    (length (kept_numbers k rest)) z states c.in_ok-next.field-0.keys) c.pairs_of_atom-pairs.ensures
    (subst (λ z. Stepped x (kept_numbers k (x ∷ rest)) (length (kept_numbers k rest))
    c.pairs_of_atom-pairs.result.now z c.in_ok-next.field-0.keys)
    c.as_slice.ensures.keys c.in_ok-next.ensures.given) in (
      omega arith,
      (
        c.requires.cell,
        (
          fold_within k x rest
              pairs states c.in_ok-next.field-0.keys has within stepped,
          c.in_ok-next.ensures.few,
        ),
      ),
    )

pub returns-clause-given : goal.returns-clause-given
returns-clause-given t c =
    let a = c.first_of.ensures in
    let k = c.args.k in
    let x = c.first_of.result.0.now in
    let rest = c.first_of.result.1.now in
    let states = c.args.states.keys in
    let table = c.args.table.now in
    let cell = c.args.cell.now in
    let pairs = atom_pairs table cell x in
    let has = atom_cell table cell x c.requires.cell in
    let within = subst (λ z. Each (IsWithin (suc (length (kept_terms k z)))) states) a c.requires.within in
    let stepped = subst (λ z. Stepped x (kept_numbers k (x ∷ rest))
    (length (kept_numbers k rest)) z states c.in_ok-next.field-0.keys) c.pairs_of_atom-pairs.ensures
    (subst (λ z. Stepped x (kept_numbers k (x ∷ rest)) (length (kept_numbers k rest))
    c.pairs_of_atom-pairs.result.now z c.in_ok-next.field-0.keys)
    c.as_slice.ensures.keys c.in_ok-next.ensures.given) in
    IfOk-weaker c.fold.result _ _ (λ out h. subst (λ z. AreStates (families_of (lists_of table cell z))
    (frames_of k z) states z out.keys) (sym a)
    (fold_more k x rest pairs states c.in_ok-next.field-0.keys has within stepped
    (lists_of table cell rest) out.keys h)) c.fold.ensures.given

pub returns-clause-few : goal.returns-clause-few
returns-clause-few t c =
    let a = c.first_of.ensures in
    let k = c.args.k in
    let x = c.first_of.result.0.now in
    let rest = c.first_of.result.1.now in
    let states = c.args.states.keys in
    let table = c.args.table.now in
    let cell = c.args.cell.now in
    let pairs = atom_pairs table cell x in
    let has = atom_cell table cell x c.requires.cell in
    let within = subst (λ z. Each (IsWithin (suc (length (kept_terms k z)))) states) a c.requires.within in
    let stepped = subst (λ z. Stepped x (kept_numbers k (x ∷ rest))
    (length (kept_numbers k rest)) z states c.in_ok-next.field-0.keys) c.pairs_of_atom-pairs.ensures
    (subst (λ z. Stepped x (kept_numbers k (x ∷ rest)) (length (kept_numbers k rest))
    c.pairs_of_atom-pairs.result.now z c.in_ok-next.field-0.keys)
    c.as_slice.ensures.keys c.in_ok-next.ensures.given) in
    let led = leads k x rest pairs states c.in_ok-next.field-0.keys has within stepped in
    IfOk-weaker c.fold.result _ _ (λ out h. subst (λ z. ¬ PassesFrom c.args.most (families_of (lists_of table cell z))
    (frames_of k z) states z) (sym a)
    (passes_nowhere c.args.most (families_of (lists_of table cell (x ∷ rest))) (frames_of k (x ∷ rest))
    states x rest c.in_ok-next.field-0.keys led c.requires.few h)) c.fold.ensures.few

pub returns-clause-many : goal.returns-clause-many
returns-clause-many t c e =
    let a = c.first_of.ensures in
    let k = c.args.k in
    let x = c.first_of.result.0.now in
    let rest = c.first_of.result.1.now in
    let states = c.args.states.keys in
    let table = c.args.table.now in
    let cell = c.args.cell.now in
    let pairs = atom_pairs table cell x in
    let has = atom_cell table cell x c.requires.cell in
    let within = subst (λ z. Each (IsWithin (suc (length (kept_terms k z)))) states) a c.requires.within in
    let stepped = subst (λ z. Stepped x (kept_numbers k (x ∷ rest))
    (length (kept_numbers k rest)) z states c.in_ok-next.field-0.keys) c.pairs_of_atom-pairs.ensures
    (subst (λ z. Stepped x (kept_numbers k (x ∷ rest)) (length (kept_numbers k rest))
    c.pairs_of_atom-pairs.result.now z c.in_ok-next.field-0.keys)
    c.as_slice.ensures.keys c.in_ok-next.ensures.given) in
    let led = leads k x rest pairs states c.in_ok-next.field-0.keys has within stepped in
    subst (λ z. PassesFrom c.args.most (families_of (lists_of table cell z)) (frames_of k z) states
    z) (sym a) (passes_later c.args.most (families_of (lists_of table cell (x ∷ rest)))
    (frames_of k (x ∷ rest)) states x rest c.in_ok-next.field-0.keys led
    (c.fold.ensures.many e))

pub returns-in_err-next-clause-many : goal.returns-in_err-next-clause-many
returns-in_err-next-clause-many t c e =
    let a = c.first_of.ensures in
    let k = c.args.k in
    let x = c.first_of.result.0.now in
    let rest = c.first_of.result.1.now in
    let states = c.args.states.keys in
    let table = c.args.table.now in
    let cell = c.args.cell.now in
    let pairs = atom_pairs table cell x in
    let has = atom_cell table cell x c.requires.cell in
    let within = subst (λ z. Each (IsWithin (suc (length (kept_terms k z)))) states) a c.requires.within in
    let q = err_from_is_err_and c.from_residual.result c.from_residual.ensures.1 in
    let q1 = q.1 in
    let q2 = q.2 in
    let f : c.in_err-next.field-0.0 ≡ TooManyStates = cc in
    let more = subst (λ z. HasMore c.args.most (GivesTo k x rest pairs z)) c.as_slice.ensures.keys
    (subst (λ z. HasMore c.args.most (GivesTo k x rest z c.as_slice.result.now))
    c.pairs_of_atom-pairs.ensures (c.in_err-next.ensures.many (ap Err f))) in
    subst (λ z. PassesFrom c.args.most (families_of (lists_of table cell z)) (frames_of k z) states
    z) (sym a) (passes_here c.args.most (families_of (lists_of table cell (x ∷ rest)))
    (frames_of k (x ∷ rest)) states x rest
    (many_led c.args.most k x rest pairs states has within more))

pub returns-then-is_empty-clause-given : goal.returns-then-is_empty-clause-given
returns-then-is_empty-clause-given t c =
    let none : c.args.atoms.now ≡ [] = nil_from_length c.args.atoms.now
    (eqb-true (length c.args.atoms.now) 0 (sym c.is_empty.ensures ∙ c.if-is_empty.true)) in
    let k = c.args.k in
    let states = c.args.states.keys in
    let table = c.args.table.now in
    let cell = c.args.cell.now in
    subst (λ z. AreStates (families_of (lists_of table cell z)) (frames_of k z) states z states)
    (sym none) (λ d. (λ m. m, λ m. m))

pub returns-then-is_empty-clause-few : goal.returns-then-is_empty-clause-few
returns-then-is_empty-clause-few t c =
    let none : c.args.atoms.now ≡ [] = nil_from_length c.args.atoms.now
    (eqb-true (length c.args.atoms.now) 0 (sym c.is_empty.ensures ∙ c.if-is_empty.true)) in
    let k = c.args.k in
    let states = c.args.states.keys in
    let table = c.args.table.now in
    let cell = c.args.cell.now in
    subst (λ z. ¬ PassesFrom c.args.most (families_of (lists_of table cell z)) (frames_of k z) states
    z) (sym none) (passes_none c.args.most (families_of (lists_of table cell [])) (frames_of k [])
    states c.requires.few)
