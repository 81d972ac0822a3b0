-- Exec is sound.
use Rattle.std.proofs.Common.{◌≡◌, ◌≢◌, ℕ, zero, suc, ◌+◌, ◌-◌, ◌<◌, ◌≤◌, Bool, true, false, cond, List, [], ◌∷◌, map}
use Rattle.std.proofs.Common.{length, Option, Some, None, refl, sym, ap, ◌∙◌, subst, arith}
use Rattle.std.specs.Prelude.{slice_get, slice_set, slice_index, nat_eq, if◌then◌else◌}
use Rattle.std.proofs.lemmas.List.{length-set, length-map, map-set}
use Rattle.std.specs.Ordering.{nat_cmp, eq_by_cmp}
use Rattle.std.specs.Cmp.{nat_cmp_total}
use Rattle.std.specs.FinMap.{insert, remove, get-insert, get-remove, get-empty, empty}
use Rattle.std.proofs.lemmas.Bool.Decides.{Decides-eqb}
use Rattle.cyc_basics.specs.declared.limits.Limits.{Limits}
use Rattle.heap_formula.specs.declared.terms.Term.{Term}
use Rattle.heap_formula.specs.declared.terms.Term.TheVariants.{Nil, Univ, Exist}
use Rattle.heap_formula.specs.declared.atoms.Pure.{Pure}
use Rattle.heap_formula.specs.declared.atoms.Pure.TheVariants.{Eq, Neq}
use Rattle.heap_formula.specs.declared.atoms.Spatial.{Spatial}
use Rattle.heap_formula.specs.declared.atoms.Spatial.TheVariants.{Cell, Pred}
use Rattle.heap_formula.specs.declared.commands.Command.{Command}
use Rattle.heap_formula.specs.declared.commands.Command.TheVariants.{Assign, Load, Store, New, Free, IfEq, IfNeq, IfAny}
use Rattle.heap_formula.specs.declared.commands.Command.TheVariants.{Goto, Stop, Ends}
use Rattle.heap_formula.specs.declared.judgements.Judgement.{Judgement}
use Rattle.heap_formula.specs.declared.judgements.Judgement.TheVariants.{Entail, Term as Runs}
use Rattle.heap_formula.specs.declared.proof_rules.RuleFault.TheVariants.{NoCell, WrongJudgement}
use Rattle.heap_formula.specs.Symbolic.{SymbolicHeap}
use Rattle.heap_formula.specs.Definitions.{Definition}
use Rattle.heap_formula.specs.Words.{Each}
use Rattle.heap_formula.specs.Values.{Stack, value, values}
use Rattle.heap_formula.specs.Cells.{Cells, cell_at, one_cell, Joins, IsUnion}
use Rattle.heap_formula.specs.Meaning.{Family, PureHolds, IsCell, AtomHolds, SpatialHolds, Holds, Stages, SatisfiesAt}
use Rattle.heap_formula.specs.Meaning.{at_stage}
use Rattle.heap_formula.specs.Fresh.{heap_bound, fresh_number, univ_bound, variables_from}
use Rattle.heap_formula.specs.Programs.{Config, Halts, EndHolds, Goes, next_line, jump, value_in, field_at, field_of}
use Rattle.heap_formula.specs.Programs.{counted_from_one, first_values, program_variables, start_at}
use Rattle.heap_formula.specs.Judgements.{PremiseHolds, IsLocallySound}
use Rattle.heap_formula.specs.Positions.{without, before, kept_pairs}
use Rattle.heap_formula.specs.Closedness.{InSpatial, IsUniversal}
use Rattle.heap_formula.specs.Substitution.{apply_term}
use Rattle.heap_formula.proofs.Unions.{same_cells, union_comm}
use Rattle.rule_table.proofs.Substitutes.{holds_same, back_along}
use Rattle.rule_table.proofs.Agreement.{IsBelow, heap_below, first_at}
use Rattle.rule_table.proofs.Frames.{take_out, pairs_follow}
use Rattle.rule_table.proofs.Links.{equated_value}
use Rattle.rule_table.proofs.Runs.{one_way, two_ways}
use Rattle.rule_table.proofs.ExecNew.{after_new, after_at_x, renamed as renamed_is, first_set, joins_put, same_address}
use Rattle.rule_table.proofs.ExecNew.{exec_new_sound}
use Rattle.rule_table.specs.Answer.{one, two}
use Rattle.rule_table.specs.Tests.{equated}
use Rattle.rule_table.specs.Table.{without_spatial, with_right}
use Rattle.rule_table.specs.ExecTable.{Found, later, cell_of, renamed, renamed_term, with_atom, with_cell, with_field}
use Rattle.rule_table.specs.ExecTable.{at_line, command_answer, exec_answer}
use Rattle.rule_table.specs.Soundness.{IsSound, IsCommand}
use Rattle.rule_table.proofs.Conclusions.{satisfies_back}
use Rattle.rule_table.proofs.Steps.{finds_sound, limited_sound}
use Rattle.rule_table.proofs.Reflects.{equated_is}
use Rattle.rule_table.proofs.CellsIn.{HasCell, cell_there, left_has, is_cell_has}
use Rattle.heap_formula.proofs.AllMembers.{each_append, each_at}
use Rattle.heap_formula.proofs.FactCommands.{bound_at}

-- ---- the command at a line

pub command_is : (lines : List Command) (i : ℕ) (c : Command) → Each IsCommand lines → counted_from_one lines i ≡ Some c
    → IsCommand c
command_is lines zero c all at = cc
command_is lines (suc i) c all at = each_at IsCommand lines i c at all

-- a command's term has the value that it has in the formula
start_value : (p : ℕ) (s e : Stack) (t : Term) → IsUniversal t → univ_bound t ≤ p
    → value (first_values p s) [] t ≡ value s e t
start_value p s e Nil u b = refl
start_value p s e (Univ m) u b = first_at p s m (omega arith)
start_value p s e (Exist m) u b = absurd u

below_of_bound : (n : ℕ) (t : Term) → univ_bound t ≤ n → IsBelow n t
below_of_bound n Nil b = b
below_of_bound n (Univ m) b = b
below_of_bound n (Exist m) b = b

-- ---- the cell at a term

pub record IsFound (pures : List Pure) (t : Term) (xs : List Spatial) (c : Found) : Type 0 where
  pub at : slice_get xs c.place ≡ Some (Cell c.address c.fields)
  pub same : equated pures c.address t ≡ true

found_later : (pures : List Pure) (t : Term) (x : Spatial) (xs : List Spatial) (o : Option Found) (c : Found)
    → ((d : Found) → o ≡ Some d → IsFound pures t xs d) → later o ≡ Some c → IsFound pures t (x ∷ xs) c
found_later pures t x xs None c f e = cc
found_later pures t x xs (Some d) c f e =
    let r = f d refl in
    let same : record { place = suc d.place; address = d.address; fields = d.fields } ≡ c = cc in
    subst (IsFound pures t (x ∷ xs)) same (record { at = r.at; same = r.same })

found_here : (b : Bool) (pures : List Pure) (t u : Term) (us : List Term) (xs : List Spatial) (c : Found)
    → equated pures u t ≡ b → (later (cell_of pures t xs) ≡ Some c → IsFound pures t (Cell u us ∷ xs) c)
    → cond b (Some (record { place = 0; address = u; fields = us })) (later (cell_of pures t xs)) ≡ Some c
    → IsFound pures t (Cell u us ∷ xs) c
found_here true pures t u us xs c q f e =
    let here : Found = record { place = 0; address = u; fields = us } in
    let same : here ≡ c = cc in
    subst (IsFound pures t (Cell u us ∷ xs)) same (record { at = refl; same = q })
found_here false pures t u us xs c q f e = f e

pub found_is : (pures : List Pure) (t : Term) (xs : List Spatial) (c : Found) → cell_of pures t xs ≡ Some c
    → IsFound pures t xs c
found_is pures t [] c e = cc
found_is pures t (Pred q us ∷ xs) c e = found_later pures t (Pred q us) xs (cell_of pures t xs) c (found_is pures t xs)
    e
found_is pures t (Cell u us ∷ xs) c e =
    found_here (equated pures u t) pures t u us xs c refl
    (λ l. found_later pures t (Cell u us) xs (cell_of pures t xs) c (found_is pures t xs) l) e

counted_map : {X Y : Type 0} (f : X → Y) (xs : List X) (k : ℕ) (x : X) → counted_from_one xs k ≡ Some x
    → counted_from_one (map f xs) k ≡ Some (f x)
counted_map f xs zero x e = cc
counted_map f [] (suc k) x e = cc
counted_map f (y ∷ xs) (suc zero) x e = let same : y ≡ x = cc in λ i. Some (f (same i))
counted_map f (y ∷ xs) (suc (suc k)) x e = counted_map f xs (suc k) x e

pub counted_get : {X : Type 0} (P : X → Type 0) (xs : List X) (k : ℕ) (x : X) → counted_from_one xs k ≡ Some x
    → Each P xs → P x
counted_get P xs zero x e a = cc
counted_get P xs (suc k) x e a = each_at P xs k x e a

-- ---- heaps after a write and after a release

rest_has_none : {l r h : Cells} (a : ℕ) (vs : List ℕ) → IsUnion l r h → cell_at l a ≡ Some vs → cell_at r a ≡ None
rest_has_none {l = l} {r = r} {h = h} a vs u e = none_of_joins (cell_at l a) (cell_at r a) (cell_at h a) vs (u.joins a)
    e
  where
    none_of_joins : (x y z : Option (List ℕ)) (v : List ℕ) → Joins x y z → x ≡ Some v → y ≡ None
    none_of_joins None y z v j e = cc
    none_of_joins (Some x) None z v j e = refl
    none_of_joins (Some x) (Some y) z v j e = absurd j

-- a cell is written in the first part
written_union : {l r h : Cells} (a : ℕ) (vs : List ℕ) → cell_at r a ≡ None → IsUnion l r h
    → IsUnion (insert l a vs) r (insert h a vs)
written_union {l = l} {r = r} {h = h} a vs none u = record {
  joins = λ q.
      let at_l = get-insert nat_cmp_total l a vs q in
      let at_h = get-insert nat_cmp_total h a vs q in
      let none_at : eq_by_cmp nat_cmp q a ≡ true → cell_at r q ≡ None = λ t. ap (cell_at r) (same_address q a t) ∙ none
      in
      let j = joins_put (eq_by_cmp nat_cmp q a) vs (cell_at l q) (cell_at r q) (cell_at h q) none_at (u.joins q) in
      rw (at_l, at_h) j;
}

overwritten : (a : ℕ) (vs us : List ℕ) → insert (one_cell a vs) a us ≡ one_cell a us
overwritten a vs us =
    same_cells (insert (one_cell a vs) a us) (one_cell a us) (λ q.
    get-insert nat_cmp_total (one_cell a vs) a us q
    ∙ ap (cond (eq_by_cmp nat_cmp q a) (Some us)) (get-insert nat_cmp_total empty a vs q)
    ∙ twice (eq_by_cmp nat_cmp q a) (cell_at empty q) ∙ sym (get-insert nat_cmp_total empty a us q))
  where
    twice : (b : Bool) (o : Option (List ℕ)) → cond b (Some us) (cond b (Some vs) o) ≡ cond b (Some us) o
    twice true o = refl
    twice false o = refl

freed_joins : (b : Bool) (vs : List ℕ) (x y z r w : Option (List ℕ)) → x ≡ cond b (Some vs) None → Joins x y z
    → Joins z r w → Joins y r (cond b None w)
freed_joins true vs x None z r w e j k =
    elim r as (λ o. Joins z o w → Joins None o None) [
      | None ↦ λ m. refl
      | Some v ↦ λ m. let j' : Joins (Some vs) None z = subst (λ o. Joins o None z) e j in
          absurd (let bad : Joins (Some vs) (Some v) w = subst (λ o. Joins o (Some v) w) j' m in bad)
    ] k
freed_joins true vs x (Some y) z r w e j k = let bad : Joins (Some vs) (Some y) z = subst (λ o. Joins o (Some y) z) e j
    in absurd bad
freed_joins false vs x y z r w e j k =
    let j' : z ≡ y = subst (λ o. Joins o y z) e j in subst (λ o. Joins o r w) j' k

freed_union : {g part rest h : Cells} (a : ℕ) (vs : List ℕ) → IsUnion (one_cell a vs) g part → IsUnion part rest h
    → IsUnion g rest (remove h a)
freed_union {g = g} {part = part} {rest = rest} {h = h} a vs u v = record {
  joins = λ q.
      let at_h = get-remove nat_cmp_total h a q in
      let at_one : cell_at (one_cell a vs) q ≡ cond (eq_by_cmp nat_cmp q a) (Some vs)
      None = get-insert nat_cmp_total empty a vs q ∙ ap (cond (eq_by_cmp nat_cmp q a) (Some vs))
      (get-empty nat_cmp q) in
      let j = freed_joins (eq_by_cmp nat_cmp q a) vs (cell_at (one_cell a vs) q) (cell_at g q) (cell_at part q)
      (cell_at rest q) (cell_at h q) at_one (u.joins q) (v.joins q) in
      rw at_h j;
}

-- ---- a spatial list after a write

module _ (s e : Stack) where
  written_first : (P : Family) (x : Spatial) (t : Term) (ts us : List Term) (h : Cells) → x ≡ Cell t ts
      → 0 < length (values s e us) → AtomHolds P s e x h → AtomHolds P s e (Cell t us)
      (insert h (value s e t) (values s e us))
  written_first P x t ts us h is some a =
      let c : IsCell (value s e t) (values s e ts) h = subst (λ y. AtomHolds P s e y h) is a in (
        c.0,
        some,
        ap (λ g. insert g (value s e t) (values s e us)) c.2
            ∙ overwritten (value s e t) (values s e ts) (values s e us),
      )

  written_list : (P : ℕ → Family) (xs : List Spatial) (i : ℕ) (t : Term) (ts us : List Term) (h : Cells)
      → slice_get xs i ≡ Some (Cell t ts) → 0 < length (values s e us) → SpatialHolds P s e xs h
      → SpatialHolds P s e (slice_set xs i (Cell t us)) (insert h (value s e t) (values s e us))
  written_list P [] i t ts us h at some a = cc
  written_list P (x ∷ xs) zero t ts us h at some a =
      let is : x ≡ Cell t ts = cc in
      let c : IsCell (value s e t) (values s e ts) a.part = subst (λ y. AtomHolds (P 0) s e y a.part) is a.first in
      record {
        part = insert a.part (value s e t) (values s e us);
        rest = a.rest;
        union = written_union (value s e t) (values s e us)
            (rest_has_none (value s e t) (values s e ts) a.union (is_cell_has _ _ a.part c)) a.union;
        first = written_first (P 0) x t ts us a.part is some a.first;
        others = a.others;
      }
  written_list P (x ∷ xs) (suc i) t ts us h at some a =
      let c = cell_there s e (λ m. P (suc m)) xs i t ts a.rest at a.others in
      record {
        part = a.part;
        rest = insert a.rest (value s e t) (values s e us);
        union = union_comm (written_union (value s e t) (values s e us)
            (rest_has_none (value s e t) (values s e ts) (union_comm a.union) c.has) (union_comm a.union));
        first = a.first;
        others = written_list (λ m. P (suc m)) xs i t ts us a.rest at some a.others;
      }

-- ---- one step

-- the part, and what is asked of a run from the next line
module _ (ds : List Definition) (lines : List Command) (i : ℕ) (a : SymbolicHeap) (stages : Stages) (s : Stack)
    (part : Cells) (o : SatisfiesAt ds stages s part a) (w : ℕ) (pos : 0 < w) (rest h : Cells)
    (is : IsUnion part rest h) where
  abbrev p : ℕ
  p = program_variables lines

  abbrev here : Config
  here = start_at lines i s h

  abbrev e : Stack
  e = o.0

  -- a premise that keeps the spatial atoms and adds a pure one
  go_on : (j : ℕ) (x : Pure) → PremiseHolds ds lines stages (at_line j a (with_atom a x)) → PureHolds s e x
      → (n : ℕ) × Halts (EndHolds ds rest) lines w n (start_at lines j s h)
  go_on j x premise holds =
      premise stages (pairs_follow (λ k. k) stages 0 a.spatial) s part
      (e, (each_append (PureHolds s e) a.pure (x ∷ []) o.1.0 (holds, tt), o.1.1)) w pos rest h is

  -- x is set to the value of f
  set_on : (x n : ℕ) (f : Term) → x < n → p ≤ n → heap_bound a ≤ n → IsBelow n f
      → PremiseHolds ds lines stages (at_line (i + 1) a (with_atom (renamed x n a) (Eq (Univ x) (renamed_term x n f))))
      → (m : ℕ) × Halts (EndHolds ds rest) lines w m (next_line here (slice_set here.stack x (value s e f)) h)
  set_on x n f x_below p_below a_below f_below premise =
      let v = value s e f in
      let s' = after_new n x s v [] in
      let holds : Holds (λ m. at_stage ds (stages m)) s' e (renamed x n a) part =
      back_along (holds_same (IsBelow n) (apply_term ((x, Univ n) ∷ [])) s' e s e (renamed_is n x s e v [])
      (λ m. at_stage ds (stages m)) a (heap_below n a a_below) part) o.1 in
      let equal : PureHolds s' e (Eq (Univ x) (renamed_term x n f)) = after_at_x n x s v [] x_below
      ∙ sym (renamed_is n x s e v [] f f_below) in
      let b = renamed x n a in
      let r = premise stages (pairs_follow (λ k. k) stages 0 a.spatial) s' part (
        e,
        (
          each_append (PureHolds s' e) b.pure (Eq (Univ x) (renamed_term x n f) ∷ []) holds.0 (equal, tt),
          holds.1,
        ),
      ) w pos rest h is in (
        r.0,
        subst (λ st. Halts (EndHolds ds rest) lines w r.0 (record { line = i + 1; stack = st; heap = h }))
            (first_set p n x v s (slice_index s x ∷ []) p_below) r.1,
      )

  test_value : (t u : Term) → IsUniversal t → IsUniversal u → univ_bound t ≤ p → univ_bound u ≤ p → (b : Bool)
      → nat_eq (value_in here t) (value_in here u) ≡ b → (cond b (value s e t ≡ value s e u)
      (value s e t ≢ value s e u))
  test_value t u ut uu bt bu true q =
      sym (start_value p s e t ut bt) ∙ (Decides-eqb _ _).0 q ∙ start_value p s e u uu bu
  test_value t u ut uu bt bu false q = λ same.
      let bad = (Decides-eqb (value_in here t) (value_in here u)).1
      (start_value p s e t ut bt ∙ same ∙ sym (start_value p s e u uu bu)) in cc

  branch : (t u : Term) (j k : ℕ) → IsUniversal t → IsUniversal u → univ_bound t ≤ p → univ_bound u ≤ p
      → PremiseHolds ds lines stages (at_line j a (with_atom a (Eq t u)))
      → PremiseHolds ds lines stages (at_line k a (with_atom a (Neq t u))) → (b : Bool)
      → nat_eq (value_in here t) (value_in here u) ≡ b → (n : ℕ) × Halts (EndHolds ds rest) lines w n (jump here (cond b j k))
  branch t u j k ut uu bt bu equal different true q = go_on j (Eq t u) equal (test_value t u ut uu bt bu true q)
  branch t u j k ut uu bt bu equal different false q = go_on k (Neq t u) different (test_value t u ut uu bt bu false q)

  -- what stands at a command's term
  cell_here : (t : Term) (c : Found) → IsUniversal t → univ_bound t ≤ p → cell_of a.pure t a.spatial ≡ Some c
      → (value s e c.address ≡ value_in here t) × HasCell s e c.address c.fields part
      × (cell_at h (value_in here t) ≡ Some (values s e c.fields))
  cell_here t c ut bt found =
      let f = found_is a.pure t a.spatial c found in
      let same = equated_value a.pure s e o.1.0 c.address t (equated_is a.pure c.address t f.same)
      ∙ sym (start_value p s e t ut bt) in
      let has = cell_there s e (λ m. at_stage ds (stages m)) a.spatial c.place c.address c.fields part f.at o.1.1 in
      (same, has, ap (cell_at h) (sym same) ∙ left_has (value s e c.address) (values s e c.fields) is has.has)

  fields_below : (n : ℕ) (t : Term) (c : Found) → heap_bound a ≤ n → cell_of a.pure t a.spatial ≡ Some c
      → Each (IsBelow n) c.fields
  fields_below n t c a_below found =
      (each_at (InSpatial (IsBelow n)) a.spatial c.place (Cell c.address c.fields)
      (found_is a.pure t a.spatial c found).at (heap_below n a a_below).1).1

  field_here : (o : Option (List ℕ)) (vs : List ℕ) (k v : ℕ) → o ≡ Some vs → counted_from_one vs k ≡ Some v
      → field_of o k ≡ Some v
  field_here None vs k v q f = cc
  field_here (Some us) vs k v q f = let same : vs ≡ us = cc in subst (λ ws. counted_from_one ws k ≡ Some v) same f

module _ (ds : List Definition) (lines : List Command) (i : ℕ) (a : SymbolicHeap) (n : ℕ)
    (p_below : program_variables lines ≤ n) (a_below : heap_bound a ≤ n) where
  goto_sound : (j : ℕ) → counted_from_one lines i ≡ Some (Goto j)
      → IsLocallySound ds lines (Runs i a) (one (at_line j a a))
  goto_sound j at stages premises s part o w pos rest h is =
      one_way (EndHolds ds rest) lines w (Goto j) (start_at lines i s h) (jump (start_at lines i s h) j) at ((λ stop. stop), (λ bad. bad)) (λ e g. g)
      (premises.0 stages (pairs_follow (λ k. k) stages 0 a.spatial) s part o w pos rest h is)

  if_any_sound : (j : ℕ) → counted_from_one lines i ≡ Some (IfAny j)
      → IsLocallySound ds lines (Runs i a) (two (at_line j a a) (at_line (i + 1) a a))
  if_any_sound j at stages premises s part o w pos rest h is =
      let c = start_at lines i s h in
      two_ways (EndHolds ds rest) lines w (IfAny j) c (jump c j) (jump c (i + 1)) at ((λ stop. stop), (λ bad. bad)) (λ e g. g)
      (premises.0 stages (pairs_follow (λ k. k) stages 0 a.spatial) s part o w pos rest h is)
      (premises.1.0 stages (pairs_follow (λ k. k) stages 0 a.spatial) s part o w pos rest h is)

  stop_sound : counted_from_one lines i ≡ Some Stop → IsLocallySound ds lines (Runs i a) []
  stop_sound at stages none s part o w pos rest h is = (0, (Stop, at, tt))

  -- at an end the part is a part that satisfies it
  ends_sound : (bs : List SymbolicHeap) → counted_from_one lines i ≡ Some (Ends bs)
      → IsLocallySound ds lines (Runs i a) (one (with_right a bs))
  ends_sound bs at stages premises s part o w pos rest h is =
      let p = program_variables lines in
      let b = bound_at lines i (Ends bs) at in
      let holds = premises.0 stages (pairs_follow (λ k. k) stages 0 a.spatial) s part o in
      let ends = satisfies_back ds p (first_values p s) s (λ m lt. sym (first_at p s m lt)) part bs (omega arith) holds in
      (0, (Ends bs, at, (part, is, ends)))

  if_eq_sound : (t u : Term) (j : ℕ) → counted_from_one lines i ≡ Some (IfEq t u j) → IsUniversal t × IsUniversal u
      → IsLocallySound ds lines (Runs i a) (two (at_line j a (with_atom a (Eq t u)))
      (at_line (i + 1) a (with_atom a (Neq t u))))
  if_eq_sound t u j at universal stages premises s part o w pos rest h is =
      let b = bound_at lines i (IfEq t u j) at in
      let c = start_at lines i s h in
      one_way (EndHolds ds rest) lines w (IfEq t u j) c (jump c (if nat_eq (value_in c t) (value_in c u) then j else i + 1)) at
      ((λ stop. stop), (λ bad. bad)) (λ e g. g) (branch ds lines i a stages s part o w pos rest h is t u j (i + 1) universal.0 universal.1
      (omega arith) (omega arith) premises.0 premises.1.0 (nat_eq (value_in c t) (value_in c u)) refl)

  if_neq_sound : (t u : Term) (j : ℕ) → counted_from_one lines i ≡ Some (IfNeq t u j) → IsUniversal t × IsUniversal u
      → IsLocallySound ds lines (Runs i a) (two (at_line j a (with_atom a (Neq t u)))
      (at_line (i + 1) a (with_atom a (Eq t u))))
  if_neq_sound t u j at universal stages premises s part o w pos rest h is =
      let b = bound_at lines i (IfNeq t u j) at in
      let c = start_at lines i s h in
      one_way (EndHolds ds rest) lines w (IfNeq t u j) c (jump c (if nat_eq (value_in c t) (value_in c u) then i + 1 else j)) at
      ((λ stop. stop), (λ bad. bad)) (λ e g. g) (branch ds lines i a stages s part o w pos rest h is t u (i + 1) j universal.0 universal.1
      (omega arith) (omega arith) premises.1.0 premises.0 (nat_eq (value_in c t) (value_in c u)) refl)

  assign_sound : (x : ℕ) (t : Term) → counted_from_one lines i ≡ Some (Assign x t) → IsUniversal t
      → IsLocallySound ds lines (Runs i a) (one (at_line (i + 1) a
      (with_atom (renamed x n a) (Eq (Univ x) (renamed_term x n t)))))
  assign_sound x t at universal stages premises s part o w pos rest h is =
      let b = bound_at lines i (Assign x t) at in
      let c = start_at lines i s h in
      let v = start_value (program_variables lines) s o.0 t universal (omega arith) in
      one_way (EndHolds ds rest) lines w (Assign x t) c (next_line c (slice_set c.stack x (value s o.0 t)) h) at ((λ stop. stop), (λ bad. bad))
      (λ e g. g ∙ ap (λ m. next_line c (slice_set c.stack x m) h) v)
      (set_on ds lines i a stages s part o w pos rest h is x n t (omega arith) p_below a_below
      (below_of_bound n t (omega arith)) premises.0)

  load_sound : (x : ℕ) (t : Term) (k : ℕ) (c : Found) (f : Term) → counted_from_one lines i ≡ Some (Load x t k)
      → IsUniversal t → cell_of a.pure t a.spatial ≡ Some c → counted_from_one c.fields k ≡ Some f
      → IsLocallySound ds lines (Runs i a) (one (at_line (i + 1) a
      (with_atom (renamed x n a) (Eq (Univ x) (renamed_term x n f)))))
  load_sound x t k c f at universal found field stages premises s part o w pos rest h is =
      let b = bound_at lines i (Load x t k) at in
      let d = start_at lines i s h in
      let cell = cell_here ds lines i a stages s part o w pos rest h is t c universal (omega arith) found in
      let reads : field_at h (value_in d t) k ≡ Some (value s o.0 f)
      = field_here ds lines i a stages s part o w pos rest h is (cell_at h (value_in d t)) (values s o.0 c.fields) k
      (value s o.0 f) cell.2 (counted_map (value s o.0) c.fields k f field) in
      let f_below : IsBelow n f = counted_get (IsBelow n) c.fields k f field
      (fields_below ds lines i a stages s part o w pos rest h is n t c a_below found) in
      one_way (EndHolds ds rest) lines w (Load x t k) d (next_line d (slice_set d.stack x (value s o.0 f)) h) at
      ((λ stop. stop), (λ bad. let none : field_at h (value_in d t) k ≡ None = bad in cc))
      (λ e g. let read : field_at h (value_in d t) k ≡ Some g.0 = g.1 in let same : g.0 ≡ value s o.0 f = cc in
      g.2 ∙ ap (λ m. next_line d (slice_set d.stack x m) h) same)
      (set_on ds lines i a stages s part o w pos rest h is x n f (omega arith) p_below a_below f_below premises.0)

  some_fields : {X : Type 0} (xs : List X) (k : ℕ) (x : X) → counted_from_one xs k ≡ Some x → 0 < length xs
  some_fields xs zero x q = cc
  some_fields [] (suc k) x q = cc
  some_fields (y ∷ xs) (suc k) x q = omega arith

  store_sound : (t : Term) (k : ℕ) (u : Term) (c : Found) (f : Term) → counted_from_one lines i ≡ Some (Store t k u)
      → IsUniversal t × IsUniversal u → cell_of a.pure t a.spatial ≡ Some c → counted_from_one c.fields k ≡ Some f
      → IsLocallySound ds lines (Runs i a) (one (at_line (i + 1) a (with_field a c k u)))
  store_sound t k u c f at universal found field stages premises s part o w pos rest h is =
      one_way (EndHolds ds rest) lines w (Store t k u) d (next_line d d.stack (insert h (value s e c.address) (values s e us))) at
      ((λ stop. stop), (λ bad. let none : field_at h (value_in d t) k ≡ None = bad in let r = reads in cc)) only
      (premises.0 stages (pairs_follow (λ m. m) stages 0 a.spatial) s
      (insert part (value s e c.address) (values s e us)) (e, (o.1.0, spatial)) w pos rest
      (insert h (value s e c.address) (values s e us)) (written_union (value s e c.address) (values s e us)
      (rest_has_none (value s e c.address) (values s e c.fields) is cell.1.has) is))
    where
      e : Stack
      e = o.0

      d : Config
      d = start_at lines i s h

      us : List Term
      us = slice_set c.fields (k - 1) u

      t_below : univ_bound t ≤ program_variables lines
      t_below = let b = bound_at lines i (Store t k u) at in omega arith

      u_below : univ_bound u ≤ program_variables lines
      u_below = let b = bound_at lines i (Store t k u) at in omega arith

      cell : (value s o.0 c.address ≡ value_in (start_at lines i s h) t) × HasCell s o.0 c.address c.fields part
          × (cell_at h (value_in (start_at lines i s h) t) ≡ Some (values s o.0 c.fields))
      cell = cell_here ds lines i a stages s part o w pos rest h is t c universal.0 t_below found

      reads : field_at h (value_in (start_at lines i s h) t) k ≡ Some (value s o.0 f)
      reads = field_here ds lines i a stages s part o w pos rest h is (cell_at h (value_in d t)) (values s o.0 c.fields) k
          (value s o.0 f) cell.2 (counted_map (value s o.0) c.fields k f field)

      some : 0 < length (values s o.0 us)
      some = let l = some_fields c.fields k f field in let m = length-set c.fields (k - 1) u in
          let q = length-map us (value s o.0) in omega arith

      spatial : SpatialHolds (λ m. at_stage ds (stages m)) s o.0 (slice_set a.spatial c.place (Cell c.address us))
          (insert part (value s o.0 c.address) (values s o.0 us))
      spatial = written_list s o.0 (λ m. at_stage ds (stages m)) a.spatial c.place c.address c.fields us part
          (found_is a.pure t a.spatial c found).at some o.1.1

      only : (g : Config) → Goes (Store t k u) w d g
          → g ≡ next_line d d.stack (insert h (value s o.0 c.address) (values s o.0 us))
      only g way =
          let same : way.0 ≡ values s o.0 c.fields = let q : cell_at h (value_in d t) ≡ Some way.0 = way.2 in
          let q' = cell.2 in cc in
          let new : slice_set way.0 (k - 1) (value_in d u) ≡ values s o.0 us =
          ap (λ vs. slice_set vs (k - 1) (value_in d u)) same
          ∙ ap (λ v. slice_set (values s o.0 c.fields) (k - 1) v)
          (start_value (program_variables lines) s o.0 u universal.1 u_below)
          ∙ sym (map-set (value s o.0) c.fields (k - 1) u) in
          way.4 ∙ (λ q. next_line d d.stack (insert h (sym cell.0 q) (new q)))

  free_sound : (t : Term) (c : Found) → counted_from_one lines i ≡ Some (Free t) → IsUniversal t
      → cell_of a.pure t a.spatial ≡ Some c → IsLocallySound ds lines (Runs i a)
      (one (record { judgement = Runs (i + 1) (without_spatial c.place a); pairs = kept_pairs c.place a.spatial }))
  free_sound t c at universal found stages premises s part o w pos rest h is =
      let b = bound_at lines i (Free t) at in
      let d = start_at lines i s h in
      let cell = cell_here ds lines i a stages s part o w pos rest h is t c universal (omega arith) found in
      let out = take_out (at_stage ds) s o.0 a.spatial c.place (Cell c.address c.fields) stages part
      (found_is a.pure t a.spatial c found).at o.1.1 in
      let first : IsCell (value s o.0 c.address) (values s o.0 c.fields) out.part = out.first in
      let u : IsUnion (one_cell (value s o.0 c.address) (values s o.0 c.fields)) out.rest part = subst
      (λ g. IsUnion g out.rest part) first.2 out.union in
      let left = freed_union (value s o.0 c.address) (values s o.0 c.fields) u is in
      one_way (EndHolds ds rest) lines w (Free t) d (next_line d d.stack (remove h (value s o.0 c.address))) at
      ((λ stop. stop), (λ bad. let none : cell_at h (value_in d t) ≡ None = bad in let has = cell.2 in cc))
      (λ g way. way.2 ∙ (λ q. next_line d d.stack (remove h (sym cell.0 q))))
      (premises.0 (λ m. stages (before c.place m)) (pairs_follow (before c.place) stages 0
      (without c.place a.spatial)) s out.rest (o.0, (o.1.0, out.others)) w pos rest (remove h (value s o.0 c.address))
      left)

  new_sound : (x k : ℕ) → counted_from_one lines i ≡ Some (New x k) → 0 < k
      → IsLocallySound ds lines (Runs i a) (one (at_line (i + 1) a
      (with_cell (renamed x n a) x (variables_from (n + 1) k))))
  new_sound x k at fields =
      let b = bound_at lines i (New x k) at in
      exec_new_sound ds lines i a x k n at fields (omega arith) p_below a_below

  command_sound : (most : Limits) (c : Command) → counted_from_one lines i ≡ Some c → IsCommand c
      → IsSound ds lines (Runs i a) (command_answer most i a n c)
  command_sound most Stop at good = stop_sound at
  command_sound most (Ends bs) at good = limited_sound ds lines most (Runs i a) (one (with_right a bs))
      (ends_sound bs at)
  command_sound most (Goto j) at good = limited_sound ds lines most (Runs i a) (one (at_line j a a)) (goto_sound j at)
  command_sound most (IfEq t u j) at good =
      limited_sound ds lines most (Runs i a) (two (at_line j a (with_atom a (Eq t u)))
      (at_line (i + 1) a (with_atom a (Neq t u)))) (if_eq_sound t u j at good)
  command_sound most (IfNeq t u j) at good =
      limited_sound ds lines most (Runs i a) (two (at_line j a (with_atom a (Neq t u)))
      (at_line (i + 1) a (with_atom a (Eq t u)))) (if_neq_sound t u j at good)
  command_sound most (IfAny j) at good =
      limited_sound ds lines most (Runs i a) (two (at_line j a a) (at_line (i + 1) a a)) (if_any_sound j at)
  command_sound most (Assign x t) at good =
      limited_sound ds lines most (Runs i a) (one (at_line (i + 1) a
      (with_atom (renamed x n a) (Eq (Univ x) (renamed_term x n t))))) (assign_sound x t at good)
  command_sound most (Load x t k) at good =
      finds_sound ds lines (Runs i a) (cell_of a.pure t a.spatial) NoCell _ (λ c found.
      finds_sound ds lines (Runs i a) (counted_from_one c.fields k) NoCell _ (λ f field.
      limited_sound ds lines most (Runs i a) (one (at_line (i + 1) a
      (with_atom (renamed x n a) (Eq (Univ x) (renamed_term x n f))))) (load_sound x t k c f at good found field)))
  command_sound most (Store t k u) at good =
      finds_sound ds lines (Runs i a) (cell_of a.pure t a.spatial) NoCell _ (λ c found.
      finds_sound ds lines (Runs i a) (counted_from_one c.fields k) NoCell _ (λ f field.
      limited_sound ds lines most (Runs i a) (one (at_line (i + 1) a (with_field a c k u)))
      (store_sound t k u c f at good found field)))
  command_sound most (New x k) at good =
      limited_sound ds lines most (Runs i a) (one (at_line (i + 1) a
      (with_cell (renamed x n a) x (variables_from (n + 1) k)))) (new_sound x k at good)
  command_sound most (Free t) at good =
      finds_sound ds lines (Runs i a) (cell_of a.pure t a.spatial) NoCell _ (λ c found.
      limited_sound ds lines most (Runs i a) (one (record {
        judgement = Runs (i + 1) (without_spatial c.place a);
        pairs = kept_pairs c.place a.spatial;
      })) (free_sound t c at good found))

module _ (ds : List Definition) (lines : List Command) where
  pub exec_is_sound : (most : Limits) (j : Judgement) → Each IsCommand lines
      → IsSound ds lines j (exec_answer most lines j)
  exec_is_sound most (Entail a bs) good = tt
  exec_is_sound most (Runs i a) good =
      let n = fresh_number (program_variables lines) (Runs i a) in
      finds_sound ds lines (Runs i a) (counted_from_one lines i) WrongJudgement _ (λ c at.
      command_sound ds lines i a n (omega arith) (omega arith) most c at (command_is lines i c good at))
