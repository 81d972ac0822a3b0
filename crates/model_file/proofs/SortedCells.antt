-- The cells of a heap in the order of their addresses have no flaw where those that it was made of have none.
use Rattle.std.proofs.Common.{◌≡◌, ℕ, zero, suc, ◌+◌, ◌*◌, ◌<◌, ◌≤◌, Bool, true, false, cond, T, List, [], ◌∷◌, ◌++◌}
use Rattle.std.proofs.Common.{length, map, take, get_or, Some, None, refl, sym, ap, subst, ◌∙◌, arith}
use Rattle.std.specs.Prelude.{◌||◌, ◌&&◌, nat_eq, nat_le}
use Rattle.std.specs.List.{list_any}
use Rattle.std.specs.declared.cmp.Ordering.{Ordering}
use Rattle.std.specs.declared.cmp.Ordering.TheVariants.{Less, Equal, Greater}
use Rattle.std.specs.Ordering.{nat_cmp, is_lt, is_eq, eq_by_cmp}
use Rattle.std.specs.Ordering.{MatchOrdering}
use Rattle.std.specs.Cmp.{nat_cmp_total, ranks}
use Rattle.std.specs.FinMap.{entries, entries_sorted, from_entries, empty, entries-insert, len-entries, len-empty, len}
use Rattle.std.specs.FinMap.{len-insert, contains_key, get-entries, nat_cmp-IsAntisymmetric}
use Rattle.std.specs.FinMap.Entries.{put, find, by_order, below_all, is_sorted}
use Rattle.std.proofs.lemmas.Bool.{ne_eqb, lt-leb, le-ltb}
use Rattle.std.proofs.lemmas.List.{length-map, nil_from_length}
use Rattle.cyc_basics.specs.declared.limits.Limits.{Limits}
use Rattle.heap_formula.specs.Words.{Each}
use Rattle.heap_formula.specs.Cells.{Cells as Heap, cell_at}
use Rattle.cyc_lex.specs.declared.fault.IllFault.TheVariants.{Address}
use Rattle.cyc_lex.specs.declared.fault.What.TheVariants.{Arguments, Cells}
use Rattle.heap_reader.specs.Flaws.{ill_if, over_if, or_later, listed_flaw}
use Rattle.heap_reader.proofs.NoFlaw.{none_later}
use Rattle.model_file.specs.Trees.{Cell}
use Rattle.model_file.specs.Spans.{cell_span}
use Rattle.model_file.specs.Flaws.{address_of, fields_flaw, address_flaw, cell_flaw, cells_flaw}
use Rattle.model_file.specs.Grammar.{from_cell, to_cell}
use Rattle.model_file.specs.Values.{cells_value}
use Rattle.model_file.specs.Written.{cells_tree}
use Rattle.model_file.proofs.Parts.{IsFine}

abbrev Entry : Type 0
Entry = ℕ × List ℕ

-- ---- what holds of all members of a list holds of its map's entries

placed : (Q : Entry → Type 0) (k : ℕ) (v : List ℕ) (e : Entry) (es : List Entry) (r : Ordering) → nat_cmp k e.0 ≡ r
    → Q (k, v) → Q e → Each Q es → Each Q (put nat_cmp k v es)
    → Each Q (by_order r ((k, v) ∷ e ∷ es) ((e.0, v) ∷ es) (e ∷ put nat_cmp k v es))
placed Q k v e es Less is new old rest later = (new, (old, rest))
placed Q k v e es Equal is new old rest later = (subst (λ n. Q (n, v)) (nat_cmp-IsAntisymmetric k e.0 is) new, rest)
placed Q k v e es Greater is new old rest later = (old, later)

each_put : (Q : Entry → Type 0) (k : ℕ) (v : List ℕ) (es : List Entry) → Q (k, v) → Each Q es
    → Each Q (put nat_cmp k v es)
each_put Q k v [] new all = (new, tt)
each_put Q k v (e ∷ es) new all = placed Q k v e es (nat_cmp k e.0) refl new all.0 all.1 (each_put Q k v es new all.1)

no_entries : entries (empty {X = List ℕ} {R = nat_cmp}) ≡ []
no_entries = nil_from_length _ (sym (len-entries empty) ∙ len-empty nat_cmp (List ℕ))

pub each_entry : (Q : Entry → Type 0) (es : List Entry) → Each Q es → Each Q (entries (from_entries {R = nat_cmp} es))
each_entry Q [] all = subst (Each Q) (sym no_entries) tt
each_entry Q (e ∷ es) all =
    subst (Each Q) (sym (entries-insert nat_cmp_total (from_entries es) e.0 e.1))
    (each_put Q e.0 e.1 (entries (from_entries es)) all.0 (each_entry Q es all.1))

-- ---- and they are not more

one_more : (b : Bool) (n m : ℕ) → n ≤ m → cond b n (n + 1) ≤ suc m
one_more true n m h = omega arith
one_more false n m h = omega arith

few_kept : (es : List Entry) → len (from_entries {R = nat_cmp} es) ≤ length es
few_kept [] = let none = len-empty nat_cmp (List ℕ) in omega arith
few_kept (e ∷ es) =
    subst (λ (n : ℕ). n ≤ suc (length es)) (sym (len-insert nat_cmp_total (from_entries es) e.0 e.1))
    (one_more (contains_key (from_entries es) e.0) (len (from_entries es)) (length es) (few_kept es))

-- ---- an address is new where all before it are less

abbrev addresses : List Entry → List ℕ
addresses es = map address_of (map to_cell es)

abbrev IsNew : List Entry → Entry → Type 0
IsNew before e = list_any (nat_eq e.0) (addresses before) ≡ false

both_parts : (a b : Bool) → T (a && b) → T a × T b
both_parts true b p = (tt, p)
both_parts false b p = absurd p

less_is : (m n : ℕ) → T (is_lt (nat_cmp m n)) → m < n
less_is m n h = by_result (nat_cmp m n) refl h
  where
    by_result : (r : Ordering) → nat_cmp m n ≡ r → T (is_lt r) → m < n
    by_result Less e p = subst (λ r. MatchOrdering r (m < n) (m ≡ n) (n < m)) e (ranks m n)
    by_result Equal e p = absurd p
    by_result Greater e p = absurd p

any_behind : (p : ℕ → Bool) (xs : List ℕ) (y : ℕ) → list_any p xs ≡ false → p y ≡ false
    → list_any p (xs ++ y ∷ []) ≡ false
any_behind p [] y e f = rw f refl
any_behind p (x ∷ xs) y e f = by_first (p x) e (λ h. any_behind p xs y h f)
  where
    by_first : (b : Bool) → b || list_any p xs ≡ false → (list_any p xs ≡ false → list_any p (xs ++ y ∷ []) ≡ false)
        → b || list_any p (xs ++ y ∷ []) ≡ false
    by_first true h rest = absurd cc
    by_first false h rest = rest h

addresses_behind : (before : List Entry) (e : Entry) → addresses (before ++ e ∷ []) ≡ addresses before ++ e.0 ∷ []
addresses_behind [] e = refl
addresses_behind (x ∷ xs) e = ap (λ ys. x.0 ∷ ys) (addresses_behind xs e)

still_new : (before : List Entry) (e : Entry) (es : List Entry) → T (below_all nat_cmp e.0 es) → Each (IsNew before) es
    → Each (IsNew (before ++ e ∷ [])) es
still_new before e [] below all = tt
still_new before e (x ∷ xs) below all =
    let parts = both_parts (is_lt (nat_cmp e.0 x.0)) (below_all nat_cmp e.0 xs) below in
    let lt = less_is e.0 x.0 parts.0 in
    let other : nat_eq x.0 e.0 ≡ false = ne_eqb x.0 e.0 (λ same. omega arith) in (
      ap (list_any (nat_eq x.0)) (addresses_behind before e)
          ∙ any_behind (nat_eq x.0) (addresses before) e.0 all.0 other,
      still_new before e xs parts.1 all.1,
    )

-- ---- the entry at an address is found

tied : (n : ℕ) → eq_by_cmp nat_cmp n n ≡ true
tied n = by_result (nat_cmp n n) (ranks n n)
  where
    by_result : (r : Ordering) → MatchOrdering r (n < n) (n ≡ n) (n < n) → is_eq r ≡ true
    by_result Less p = absurd (omega arith)
    by_result Equal p = refl
    by_result Greater p = absurd (omega arith)

not_tied : (m n : ℕ) → n < m → eq_by_cmp nat_cmp m n ≡ false
not_tied m n lt = by_result (nat_cmp m n) (ranks m n)
  where
    by_result : (r : Ordering) → MatchOrdering r (m < n) (m ≡ n) (n < m) → is_eq r ≡ false
    by_result Less p = refl
    by_result Equal p = absurd (omega arith)
    by_result Greater p = refl

below_at : (k : ℕ) (es : List Entry) (i : ℕ) (d : Entry) → T (below_all nat_cmp k es) → i < length es
    → k < (get_or es i d).0
below_at k [] i d below lt = absurd (omega arith)
below_at k (e ∷ es) zero d below lt = less_is k e.0
    (both_parts (is_lt (nat_cmp k e.0)) (below_all nat_cmp k es) below).0
below_at k (e ∷ es) (suc i) d below lt = below_at k es i d
    (both_parts (is_lt (nat_cmp k e.0)) (below_all nat_cmp k es) below).1 (omega arith)

find_at : (es : List Entry) (i : ℕ) (d : Entry) → T (is_sorted nat_cmp es) → i < length es
    → find nat_cmp (get_or es i d).0 es ≡ Some (get_or es i d).1
find_at [] i d sorted lt = absurd (omega arith)
find_at (e ∷ es) zero d sorted lt = ap (λ b. cond b (Some e.1) (find nat_cmp e.0 es)) (tied e.0)
find_at (e ∷ es) (suc i) d sorted lt =
    let parts = both_parts (below_all nat_cmp e.0 es) (is_sorted nat_cmp es) sorted in
    let above = below_at e.0 es i d parts.0 (omega arith) in
    ap (λ b. cond b (Some e.1) (find nat_cmp (get_or es i d).0 es)) (not_tied (get_or es i d).0 e.0 above)
    ∙ find_at es i d parts.1 (omega arith)

pub cell_found : (h : Heap) (i : ℕ) (d : Entry) → i < length (entries h)
    → cell_at h (get_or (entries h) i d).0 ≡ Some (get_or (entries h) i d).1
cell_found h i d lt = get-entries h (get_or (entries h) i d).0 ∙ find_at (entries h) i d (entries_sorted h) lt

-- ---- so sorted cells have no flaw

front_taken : {X : Type 0} (xs ys : List X) → take (length xs) (xs ++ ys) ≡ xs
front_taken [] ys = refl
front_taken (x ∷ xs) ys = ap (λ zs. x ∷ zs) (front_taken xs ys)

trees_behind : (before es : List Entry) → map to_cell (before ++ es) ≡ map to_cell before ++ map to_cell es
trees_behind [] es = refl
trees_behind (x ∷ xs) es = ap (λ ys. to_cell x ∷ ys) (trees_behind xs es)

regroup : {X : Type 0} (xs : List X) (y : X) (ys : List X) → (xs ++ y ∷ []) ++ ys ≡ xs ++ y ∷ ys
regroup [] y ys = refl
regroup (x ∷ xs) y ys = ap (λ zs. x ∷ zs) (regroup xs y ys)

one_longer : {X : Type 0} (xs : List X) (y : X) → length (xs ++ y ∷ []) ≡ suc (length xs)
one_longer [] y = refl
one_longer (x ∷ xs) y = ap suc (one_longer xs y)

none_before : (es : List Entry) → Each (IsNew []) es
none_before [] = tt
none_before (e ∷ es) = (refl, none_before es)

-- each entry of cells is a cell again
pub of_entries : (Q : Cell → Type 0) (cs : List Cell) → Each Q cs
    → Each (λ (e : Entry). Q (to_cell e)) (map from_cell cs)
of_entries Q [] all = tt
of_entries Q (c ∷ cs) all = (all.0, of_entries Q cs all.1)

-- ---- within what is allowed

module _ (most : Limits) where
  -- the cell after some others
  cell_right : (before es : List Entry) (k : ℕ) (e : Entry) → length before < most.cells → IsFine most (to_cell e) →
      IsNew before e
      → cell_flaw most (map to_cell (before ++ es)) (length before) k (to_cell e) ≡ None
  cell_right before es k e few fine new =
      let own : map address_of (take (length before) (map to_cell (before ++ es))) ≡ addresses before =
      ap (λ cs. map address_of (take (length before) cs)) (trees_behind before es)
      ∙ ap (λ n. map address_of (take n (map to_cell before ++ map to_cell es))) (sym (length-map before to_cell))
      ∙ ap (map address_of) (front_taken (map to_cell before) (map to_cell es)) in
      let short = fine.few in
      none_later (address_flaw (map address_of (take (length before) (map to_cell (before ++ es)))) k e.0)
      (or_later (over_if (nat_le most.cells (length before)) Cells k) (fields_flaw most (k + 3) e.1))
      (ap (λ others. address_flaw others k e.0) own ∙ ap (λ b.
      ill_if (b || list_any (nat_eq e.0) (addresses before)) Address k) fine.positive
      ∙ ap (λ b. ill_if b Address k) new)
      (none_later (over_if (nat_le most.cells (length before)) Cells k) (fields_flaw most (k + 3) e.1)
      (ap (λ b. over_if b Cells k) (lt-leb most.cells (length before) few))
      (ap (λ b. over_if b Arguments (k + 3 + 2 * most.arguments)) (le-ltb most.arguments (length e.1) short)))

  listed_right : (before es : List Entry) (all : List Cell) (k : ℕ) → all ≡ map to_cell (before ++ es)
      → T (is_sorted nat_cmp es) → length before + length es ≤ most.cells → Each
      (λ (e : Entry). IsFine most (to_cell e)) es
      → Each (IsNew before) es → listed_flaw (cell_flaw most all) cell_span (length before) k (map to_cell es) ≡ None
  listed_right before [] all k is sorted few fine new = refl
  listed_right before (e ∷ es) all k is sorted few fine new =
      let parts = both_parts (below_all nat_cmp e.0 es) (is_sorted nat_cmp es) sorted in
      let longer = one_longer before e in
      let next = listed_right (before ++ e ∷ []) es all (k + cell_span (to_cell e))
      (is ∙ ap (map to_cell) (sym (regroup before e es))) parts.1 (omega arith) fine.1
      (still_new before e es parts.0 new.1) in
      none_later (cell_flaw most all (length before) k (to_cell e))
      (listed_flaw (cell_flaw most all) cell_span (suc (length before)) (k + cell_span (to_cell e)) (map to_cell es))
      (ap (λ cs. cell_flaw most cs (length before) k (to_cell e)) is
      ∙ cell_right before (e ∷ es) k e (omega arith) fine.0 new.0)
      (subst (λ (n : ℕ). listed_flaw (cell_flaw most all) cell_span n (k + cell_span (to_cell e)) (map to_cell es) ≡
      None)
      longer next)

  pub cells_right : (h : Heap) (k : ℕ) → Each (λ (e : Entry). IsFine most (to_cell e)) (entries h) → length (entries h)
      ≤ most.cells
      → cells_flaw most k (cells_tree h) ≡ None
  cells_right h k fine few = listed_right [] (entries h) (cells_tree h) k refl (entries_sorted h) (omega arith) fine
      (none_before (entries h))

  pub sorted_right : (cs : List Cell) (k : ℕ) → Each (IsFine most) cs → length cs ≤ most.cells
      → cells_flaw most k (cells_tree (cells_value cs)) ≡ None
  sorted_right cs k fine few =
      let h = cells_value cs in
      let kept = few_kept (map from_cell cs) in
      let size = length-map cs from_cell in
      let count = len-entries h in
      cells_right h k (each_entry (λ (e : Entry). IsFine most (to_cell e)) (map from_cell cs)
      (of_entries (IsFine most) cs fine))
      (omega arith)
