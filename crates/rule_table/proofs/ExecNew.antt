-- Exec at `new` is sound: the new cell may stand at any free address.
use Rattle.std.proofs.Common.{◌≡◌, ◌≢◌, ℕ, zero, suc, ◌+◌, ◌<◌, ◌≤◌, Bool, true, false, cond, List, [], ◌∷◌, ◌++◌}
use Rattle.std.proofs.Common.{length, Some, refl, sym, ap, ◌∙◌, subst, arith, map, append_assoc, length-append}
use Rattle.std.specs.Prelude.{slice_index, nat_eq}
use Rattle.std.specs.FinMap.{insert}
use Rattle.std.proofs.Math.ListN.{set, get_or-append}
use Rattle.std.proofs.Math.Seq.{get_or-append_seam}
use Rattle.std.proofs.lemmas.List.{get_or-set_same, get_or-set_other, length-set, length-map}
use Rattle.std.proofs.lemmas.Bool.Decides.{Decides-eqb}
use Rattle.heap_formula.specs.declared.terms.Term.{Term}
use Rattle.heap_formula.specs.declared.terms.Term.TheVariants.{Nil, Univ, Exist}
use Rattle.heap_formula.specs.declared.atoms.Spatial.TheVariants.{Cell}
use Rattle.heap_formula.specs.declared.commands.Command.{Command}
use Rattle.heap_formula.specs.declared.commands.Command.TheVariants.{New}
use Rattle.heap_formula.specs.declared.judgements.Judgement.TheVariants.{Term as Runs}
use Rattle.heap_formula.specs.Symbolic.{SymbolicHeap}
use Rattle.heap_formula.specs.Definitions.{Definition}
use Rattle.heap_formula.specs.Values.{Stack, value, values}
use Rattle.heap_formula.specs.Cells.{cell_at, no_cells, one_cell, IsUnion}
use Rattle.heap_formula.specs.Meaning.{SpatialHolds, Holds, at_stage, IsCell}
use Rattle.heap_formula.specs.Programs.{Halts, EndHolds, counted_from_one, first_values, program_variables, start_at}
use Rattle.heap_formula.specs.Judgements.{IsLocallySound}
use Rattle.heap_formula.specs.Positions.{same_pairs}
use Rattle.heap_formula.specs.Substitution.{in_spatial, apply_term, apply_heap}
use Rattle.heap_formula.specs.Fresh.{heap_bound, variables_from}
use Rattle.heap_formula.proofs.Unions.{union_comm, union_empty, empty_union}
use Rattle.rule_table.proofs.Substitutes.{holds_same, back_along}
use Rattle.rule_table.proofs.Agreement.{IsBelow, heap_below, length-first_values, first_at}
use Rattle.rule_table.proofs.Appends.{append_holds, then_stages, then_stages-first, pairs_follow_if}
use Rattle.rule_table.proofs.Runs.{new_way}
pub use Rattle.heap_formula.proofs.Insertions.{joins_put, none_right, none_left, same_address, put_union}

-- ---- heaps

-- ---- stacks

pub first_short : (p n : ℕ) (s ys : Stack) → p ≤ n → first_values p (first_values n s ++ ys) ≡ first_values p s
first_short zero n s ys le = refl
first_short (suc p) zero s ys le = absurd (omega arith)
first_short (suc p) (suc n) [] ys le = ap (λ l. 0 ∷ l) (first_short p n [] ys (omega arith))
first_short (suc p) (suc n) (v ∷ s) ys le = ap (λ l. v ∷ l) (first_short p n s ys (omega arith))

pub first_set : (p n x a : ℕ) (s ys : Stack) → p ≤ n
    → first_values p (set (first_values n s) x a ++ ys) ≡ set (first_values p s) x a
first_set zero n x a s ys le = refl
first_set (suc p) zero x a s ys le = absurd (omega arith)
first_set (suc p) (suc n) zero a [] ys le = ap (λ l. a ∷ l) (first_short p n [] ys (omega arith))
first_set (suc p) (suc n) zero a (v ∷ s) ys le = ap (λ l. a ∷ l) (first_short p n s ys (omega arith))
first_set (suc p) (suc n) (suc x) a [] ys le = ap (λ l. 0 ∷ l) (first_set p n x a [] ys (omega arith))
first_set (suc p) (suc n) (suc x) a (v ∷ s) ys le = ap (λ l. v ∷ l) (first_set p n x a s ys (omega arith))

-- the stack after x is set to a: its old value and the new cell's fields go after
abbrev pub after_new : ℕ → ℕ → Stack → ℕ → List ℕ → Stack
after_new n x s a vs = set (first_values n s) x a ++ (slice_index s x ∷ vs)

pub after_length : (n x : ℕ) (s : Stack) (a : ℕ) → length (set (first_values n s) x a) ≡ n
after_length n x s a = let l = length-set (first_values n s) x a in let m = length-first_values n s in omega arith

pub after_at_x : (n x : ℕ) (s : Stack) (a : ℕ) (vs : List ℕ) → x < n → slice_index (after_new n x s a vs) x ≡ a
after_at_x n x s a vs lt =
    let l = after_length n x s a in
    let m = length-first_values n s in
    get_or-append (set (first_values n s) x a) (slice_index s x ∷ vs) 0 x (omega arith)
    ∙ get_or-set_same (first_values n s) x a 0 (omega arith)

pub after_at_other : (n x : ℕ) (s : Stack) (a : ℕ) (vs : List ℕ) (i : ℕ) → i < n → i ≢ x
    → slice_index (after_new n x s a vs) i ≡ slice_index s i
after_at_other n x s a vs i lt ne =
    let l = after_length n x s a in
    get_or-append (set (first_values n s) x a) (slice_index s x ∷ vs) 0 i (omega arith)
    ∙ get_or-set_other (first_values n s) x i a 0 ne ∙ first_at n s i lt

pub after_at_old : (n x : ℕ) (s : Stack) (a : ℕ) (vs : List ℕ) → slice_index (after_new n x s a vs) n ≡ slice_index s x
after_at_old n x s a vs =
    let l = after_length n x s a in
    ap (λ k. slice_index (after_new n x s a vs) k) (sym l)
    ∙ get_or-append_seam (set (first_values n s) x a) (slice_index s x) vs 0

pub renamed_value : (b : Bool) (n x : ℕ) (s e : Stack) (a : ℕ) (vs : List ℕ) (i : ℕ) → nat_eq i x ≡ b → i < n
    → value (after_new n x s a vs) e (cond b (Univ n) (Univ i)) ≡ slice_index s i
renamed_value true n x s e a vs i t lt = after_at_old n x s a vs ∙ ap (slice_index s) (sym ((Decides-eqb i x).0 t))
renamed_value false n x s e a vs i t lt = after_at_other n x s a vs i lt (λ q. let bad = (Decides-eqb i x).1 q in cc)

-- a term in which x is renamed has the value that it had
pub renamed : (n x : ℕ) (s e : Stack) (a : ℕ) (vs : List ℕ) → (t : Term) → IsBelow n t
    → value (after_new n x s a vs) e (apply_term ((x, Univ n) ∷ []) t) ≡ value s e t
renamed n x s e a vs Nil q = refl
renamed n x s e a vs (Exist j) q = refl
renamed n x s e a vs (Univ i) q = renamed_value (nat_eq i x) n x s e a vs i refl (omega arith)

variables_value : (pre vs : List ℕ) (e : Stack) → values (pre ++ vs) e (variables_from (length pre) (length vs)) ≡ vs
variables_value pre [] e = refl
variables_value pre (v ∷ vs) e =
    let here : slice_index (pre ++ v ∷ vs) (length pre) ≡ v = get_or-append_seam pre v vs 0 in
    let more = variables_value (pre ++ v ∷ []) vs e in
    let len : length (pre ++ v ∷ []) ≡ suc (length pre) = omega (arith, length-append pre (v ∷ [])) in
    let rest : values (pre ++ v ∷ vs) e (variables_from (suc (length pre)) (length vs)) ≡ vs =
    subst (λ s. values s e (variables_from (suc (length pre)) (length vs)) ≡ vs) (append_assoc pre (v ∷ []) vs)
    (subst (λ m. values ((pre ++ v ∷ []) ++ vs) e (variables_from m (length vs)) ≡ vs) len more) in
    λ i. here i ∷ rest i

fields_value : (n x : ℕ) (s e : Stack) (a k : ℕ) (vs : List ℕ) → length vs ≡ k
    → values (after_new n x s a vs) e (variables_from (n + 1) k) ≡ vs
fields_value n x s e a k vs len =
    let pre = set (first_values n s) x a ++ (slice_index s x ∷ []) in
    let l : length pre ≡ n + 1 = omega (
      arith,
      after_length n x s a,
      length-append (set (first_values n s) x a) (slice_index s x ∷ []),
    ) in
    let v = variables_value pre vs e in
    let same : pre ++ vs ≡ after_new n x s a vs = append_assoc (set (first_values n s) x a) (slice_index s x ∷ []) vs in
    subst (λ j. values (after_new n x s a vs) e (variables_from (n + 1) j) ≡ vs) len
    (subst (λ m. values (after_new n x s a vs) e (variables_from m (length vs)) ≡ vs) l
    (subst (λ t. values t e (variables_from (length pre) (length vs)) ≡ vs) same v))

-- ---- the rule

abbrev pub after_exec_new : SymbolicHeap → ℕ → ℕ → ℕ → SymbolicHeap
after_exec_new a x k n =
    let b = apply_heap ((x, Univ n) ∷ []) a in record {
      pure = b.pure;
      spatial = b.spatial ++ Cell (Univ x) (variables_from (n + 1) k) ∷ [];
    }

pub exec_new_sound : (ds : List Definition) (lines : List Command) (line : ℕ) (a : SymbolicHeap) (x k n : ℕ)
    → counted_from_one lines line ≡ Some (New x k) → 0 < k → x < n → program_variables lines ≤ n → heap_bound a ≤ n
    → IsLocallySound ds lines (Runs line a) (record {
      judgement = Runs (line + 1) (after_exec_new a x k n);
      pairs = same_pairs a.spatial;
    } ∷ [])
exec_new_sound ds lines line a x k n at fields x_below p_below a_below stages premises s part o w pos rest h is =
    new_way (EndHolds ds rest) lines w x k (start_at lines line s h) at (λ a' vs pick.
    let e = o.0 in
    let p = program_variables lines in
    let s' = after_new n x s a' vs in
    let rename = apply_term ((x, Univ n) ∷ []) in
    let old_atoms = map (in_spatial rename) a.spatial in
    let cell = Cell (Univ x) (variables_from (n + 1) k) in
    let old_holds : Holds (λ m. at_stage ds (stages m)) s' e (apply_heap ((x, Univ n) ∷ []) a) part =
    back_along (holds_same (IsBelow n) rename s' e s e (renamed n x s e a' vs) (λ m. at_stage ds (stages m)) a
    (heap_below n a a_below) part) o.1 in
    let address : value s' e (Univ x) ≡ a' = after_at_x n x s a' vs x_below in
    let fields_are : values s' e (variables_from (n + 1) k) ≡ vs = fields_value n x s e a' k vs pick.count in
    let plain : IsCell a' vs (one_cell a' vs) = let c = pick.count in (pick.positive, omega arith, refl) in
    let is_cell : IsCell (value s' e (Univ x)) (values s' e (variables_from (n + 1) k)) (one_cell a' vs) =
    subst (λ us. IsCell (value s' e (Univ x)) us (one_cell a' vs)) (sym fields_are)
    (subst (λ b. IsCell b vs (one_cell a' vs)) (sym address) plain) in
    let new_holds : SpatialHolds (λ _. at_stage ds 0) s' e (cell ∷ []) (one_cell a' vs) =
    record {
      part = one_cell a' vs;
      rest = no_cells;
      union = union_empty (one_cell a' vs);
      first = is_cell;
      others = refl;
    } in
    let free_part = none_left (cell_at part a') (cell_at rest a') (cell_at h a') pick.free (is.joins a') in
    let joined : IsUnion part (one_cell a' vs) (insert part a' vs) = union_comm
    (put_union a' vs free_part (empty_union part)) in
    let below = then_stages old_atoms stages (λ _. 0) in
    let spatial : SpatialHolds (λ m. at_stage ds (below m)) s' e (old_atoms ++ cell ∷ []) (insert part a' vs) =
    append_holds (at_stage ds) s' e old_atoms (cell ∷ []) stages (λ _. 0) (insert part a' vs)
    (record { part = part; rest = one_cell a' vs; union = joined; first = old_holds.1; others = new_holds }) in
    let follows = pairs_follow_if (λ m. m) stages below 0 a.spatial
    (λ i lt. let z : 0 + i ≡ i = omega arith in subst (λ q. below q ≤ stages q) (sym z)
    (let l = length-map a.spatial (in_spatial rename) in
    let v = then_stages-first old_atoms stages (λ _. 0) i (omega arith) in omega arith)) in
    let r = premises.0 below follows s' (insert part a' vs) (e, (old_holds.0, spatial)) w pos rest (insert h a' vs)
    (put_union a' vs pick.free is) in (
      r.0,
      subst (λ st. Halts (EndHolds ds rest) lines w r.0 (record { line = line + 1; stack = st; heap = insert h a' vs }))
          (first_set p n x a' s (slice_index s x ∷ vs) p_below) r.1,
    ))
