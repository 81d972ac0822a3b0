use Rattle.std.proofs.Common.{◌≡◌, ◌∙◌, ◌<◌, ◌≤◌, List, false, inl, inr, Err, suc, length, refl, sym, ap, subst}
use Rattle.std.proofs.lemmas.Bool.{both_ways}
use Rattle.std.proofs.lemmas.List.{length-map, with_items_is}
use Rattle.std.proofs.lemmas.Result.{err_from_is_err_and}
use Rattle.std.specs.Vec.{with_items}
use Rattle.heap_formula.specs.Words.{Each}
use Rattle.pair_family.specs.Family.{CaseGives}
use Rattle.pair_family.specs.Frames.{frames_of, kept_terms}
use Rattle.pair_family.specs.Labels.{Extends}
use Rattle.pair_family.specs.LargeCases.{IsLarge, sizes}
use Rattle.pair_family.specs.Reordering.{families_of}
use Rattle.pair_family.specs.Tables.{in_table}
use Rattle.pair_family.specs.Within.{IsWithin}
use Rattle.pair_family.specs.declared.states.states.StatesFault.TheVariants.{TooManyStates}
use Rattle.cyc_basics.specs.Words.{IsMember}
use Rattle.pair_family.proofs.Growing.{extends_self}
use Rattle.sat_pairs.specs.declared.stages.Stage.{Stage}
use Rattle.sat_pairs.specs.declared.turns.Turn.{Turn}
use Rattle.sat_pairs.specs.CaseStates.{PassesFrom}
use Rattle.sat_pairs.specs.Atoms.{lists_of}
use Rattle.sat_pairs.specs.Stages.{AreStages, atoms_of, outcome}
use Rattle.sat_pairs.specs.Turns.{found_by, heap_of, width_of}
use Rattle.sat_pairs.proofs.Taken.{cases_below}
use Rattle.sat_pairs.proofs.Turned.{large_case, large_first, taken_found, taken_small, turn_taken, turn_within}
use Rattle.sat_pairs.proofs.turns.Turn.take_in.Goals as goal

same_length : (ss rs : List Stage) → atoms_of rs ≡ atoms_of ss → length rs ≡ length ss
same_length ss rs e = sym (length-map rs (λ (s : Stage). s.atom))
    ∙ (ap length e ∙ length-map ss (λ (s : Stage). s.atom))

pub returns-then-not-are_within-clause-large : goal.returns-then-not-are_within-clause-large
returns-then-not-are_within-clause-large c e =
    let ds = c.args._defs.now.list in
    let t = c.args.self.now in
    let is = c.requires.turn.is in
    let most = c.args.most in
    let first = t.first.items in
    let big : most < sizes first = elim (cases_below most (sizes first)) [
      | inl l ↦ l
      | inr g ↦
          absurd (both_ways false refl (c.if-not-are_within.ensures.1
          (subst (λ z. sizes z ≤ most) (sym c.deref.ensures.value) g)))
    ] in
    let xs = atoms_of t.stages.items in
    subst (λ z. IsLarge most (in_table c.args.table.now) z (heap_of ds t)) (sym c.requires.arity)
    (large_case (width_of ds t) (heap_of ds t) c.args.table.now c.args.cell.now xs is.ordered most first is.first
    c.requires.some (large_first (width_of ds t) (heap_of ds t) c.args.table.now c.args.cell.now xs is.ordered most
    first is.first big))

pub advance-requires-clause-within : goal.advance-requires-clause-within
advance-requires-clause-within c =
    let ds = c.args._defs.now.list in
    let t = c.args.self.now in
    let w = turn_within ds c.args.most c.args.table.now c.args.cell.now t c.requires.cell c.requires.turn in
    subst (λ k. Each (IsWithin (suc (length (kept_terms k (atoms_of c.deref_mut.result.now)))))
    c.deref-2.result.now) (sym c.requires.arity)
    (subst (λ z. Each (IsWithin (suc (length (kept_terms (width_of ds t) (atoms_of z)))))
    c.deref-2.result.now) (sym c.deref_mut.ensures.value)
    (subst (Each (IsWithin (suc (length (kept_terms (width_of ds t) (atoms_of t.stages.items))))))
    (sym c.deref-2.ensures.value) w))

pub returns-in_err-advance-clause-large : goal.returns-in_err-advance-clause-large
returns-in_err-advance-clause-large c e =
    let ds = c.args._defs.now.list in
    let t = c.args.self.now in
    let is = c.requires.turn.is in
    let most = c.args.most in
    let T = c.args.table.now in
    let cell = c.args.cell.now in
    let q = err_from_is_err_and c.from_residual.result c.from_residual.ensures.1 in
    let q1 = q.1 in
    let q2 = q.2 in
    let f : c.in_err-advance.field-0.0 ≡ TooManyStates = cc in
    let p = c.in_err-advance.ensures.many (ap Err f) in
    let p1 = subst (λ z. PassesFrom most (families_of (lists_of T cell (atoms_of z)))
    (frames_of c.args.k (atoms_of z)) c.deref-2.result.now (atoms_of z)) c.deref_mut.ensures.value
    p in
    let xs = atoms_of t.stages.items in
    let p2 = subst (λ z. PassesFrom most (families_of (lists_of T cell xs)) (frames_of c.args.k xs) z
    xs) c.deref-2.ensures.value p1 in
    let p3 = subst (λ k. PassesFrom most (families_of (lists_of T cell xs)) (frames_of k xs) t.first.items
    xs) c.requires.arity p2 in
    subst (λ z. IsLarge most (in_table T) z (heap_of ds t)) (sym c.requires.arity)
    (large_case (width_of ds t) (heap_of ds t) T cell xs is.ordered most t.first.items is.first c.requires.some p3)

pub returns-clause-turn : goal.returns-clause-turn
returns-clause-turn c =
    let ds = c.args._defs.now.list in
    let t = c.args.self.now in
    let most = c.args.most in
    let T = c.args.table.now in
    let cell = c.args.cell.now in
    let first = t.first.items in
    let new = c.advance.new.stages in
    let same = c.in_ok-advance.ensures.same ∙ ap atoms_of c.deref_mut.ensures.value in
    let a = subst (λ k. AreStages most T cell k first (length first) new) c.requires.arity
    (subst (λ z. AreStages most T cell c.args.k z (length z) new) c.deref-2.ensures.value
    c.in_ok-advance.ensures.stages) in
    let longer : Extends (found_by t) (outcome first new) = subst (λ z. Extends (outcome first z) (outcome first new))
    c.deref_mut.ensures.value (subst (λ z. Extends (outcome first c.deref_mut.result.now) (outcome z new))
    c.deref-2.ensures.value (c.in_ok-advance.ensures.longer first
    (subst (Extends first) (sym c.deref-2.ensures.value) (extends_self first)))) in
    let items = with_items_is t.stages new (same_length t.stages.items new same ∙ sym t.stages.ok.0) in
    let u : Turn = record {
      pred = t.pred;
      place = t.place;
      first = t.first;
      begun = c.len-self.result;
      stages = with_items t.stages new;
      put = t.put;
    } in
    turn_taken ds most T cell t c.requires.cell c.requires.turn new same a c.in_ok-advance.ensures.full u refl refl refl
    (c.len-self.ensures ∙ t.first.ok.0) refl items longer

pub returns-clause-found : goal.returns-clause-found
returns-clause-found c =
    let ds = c.args._defs.now.list in
    let t = c.args.self.now in
    let most = c.args.most in
    let T = c.args.table.now in
    let cell = c.args.cell.now in
    let first = t.first.items in
    let new = c.advance.new.stages in
    let same = c.in_ok-advance.ensures.same ∙ ap atoms_of c.deref_mut.ensures.value in
    let a = subst (λ k. AreStages most T cell k first (length first) new) c.requires.arity
    (subst (λ z. AreStages most T cell c.args.k z (length z) new) c.deref-2.ensures.value
    c.in_ok-advance.ensures.stages) in
    let longer : Extends (found_by t) (outcome first new) = subst (λ z. Extends (outcome first z) (outcome first new))
    c.deref_mut.ensures.value (subst (λ z. Extends (outcome first c.deref_mut.result.now) (outcome z new))
    c.deref-2.ensures.value (c.in_ok-advance.ensures.longer first
    (subst (Extends first) (sym c.deref-2.ensures.value) (extends_self first)))) in
    let items = with_items_is t.stages new (same_length t.stages.items new same ∙ sym t.stages.ok.0) in
    let u : Turn = record {
      pred = t.pred;
      place = t.place;
      first = t.first;
      begun = c.len-self.result;
      stages = with_items t.stages new;
      put = t.put;
    } in
    λ b. subst (λ k. (IsMember b (found_by u) → CaseGives (in_table T) k b (heap_of ds t))
    × (CaseGives (in_table T) k b (heap_of ds t) → IsMember b (found_by u))) (sym c.requires.arity)
    (taken_found ds most T cell t c.requires.cell c.requires.turn new same a c.in_ok-advance.ensures.full u refl refl
    refl (c.len-self.ensures ∙ t.first.ok.0) refl items longer b)

pub returns-clause-small : goal.returns-clause-small
returns-clause-small c =
    let ds = c.args._defs.now.list in
    let t = c.args.self.now in
    let most = c.args.most in
    let T = c.args.table.now in
    let cell = c.args.cell.now in
    let first = t.first.items in
    let new = c.advance.new.stages in
    let same = c.in_ok-advance.ensures.same ∙ ap atoms_of c.deref_mut.ensures.value in
    let a = subst (λ k. AreStages most T cell k first (length first) new) c.requires.arity
    (subst (λ z. AreStages most T cell c.args.k z (length z) new) c.deref-2.ensures.value
    c.in_ok-advance.ensures.stages) in
    let few = subst (λ z. sizes z ≤ most) c.deref.ensures.value (c.if-not-are_within.ensures.0 refl) in
    subst (λ k. IsLarge most (in_table T) k (heap_of ds t) → ⊥) (sym c.requires.arity)
    (taken_small ds most T cell t c.requires.cell c.requires.turn new same a c.in_ok-advance.ensures.full few)
