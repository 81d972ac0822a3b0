-- A model of a script is moved to one in which no two sorts have a location in common.
use Rattle.std.proofs.Common.{◌≡◌, ℕ, zero, suc, ◌+◌, ◌<◌, ◌≤◌, max, Bool, true, false, cond, List, [], ◌∷◌, ◌++◌}
use Rattle.std.proofs.Common.{length, Some, refl, sym, ap, ◌∙◌, subst, arith, inl, inr}
use Rattle.std.specs.Prelude.{slice_get, slice_index}
use Rattle.std.specs.List.{AllZip}
use Rattle.std.specs.Ordering.{nat_cmp, eq_by_cmp}
use Rattle.std.specs.FinMap.{entries, get-entries}
use Rattle.std.specs.FinMap.Entries.{find}
use Rattle.std.proofs.lemmas.Bool.Decides.{leb_tells}
use Rattle.heap_formula.specs.declared.terms.Term.{Term}
use Rattle.heap_formula.specs.declared.terms.Term.TheVariants.{Nil, Univ, Exist}
use Rattle.heap_formula.specs.declared.atoms.Pure.{Pure}
use Rattle.heap_formula.specs.declared.atoms.Pure.TheVariants.{Eq, Neq}
use Rattle.heap_formula.specs.Cells.{cell_at}
use Rattle.heap_formula.specs.Meaning.{PureHolds}
use Rattle.heap_formula.specs.Values.{Stack, value, values}
use Rattle.heap_formula.specs.Words.{Each}
use Rattle.heap_formula.proofs.Insertions.{same_address}
use Rattle.script_formulas.specs.declared.formula.ScriptFormula.{ScriptFormula}
use Rattle.script_formulas.specs.declared.formula.ScriptAtom.{ScriptAtom}
use Rattle.script_formulas.specs.declared.formula.ScriptAtom.TheVariants.{Cell, Call}
use Rattle.script_formulas.specs.declared.script.Constructor.{Constructor}
use Rattle.script_formulas.specs.declared.script.Predicate.{Predicate}
use Rattle.script_formulas.specs.declared.script.Script.{Script}
use Rattle.script_formulas.specs.Formulas.{Formula, True, False, Empty, Says, Atom, Not, And, Or, Sep, Exists}
use Rattle.script_formulas.specs.Formulas.{formula_of}
use Rattle.script_formulas.specs.Heaps.{SortedCells, one_sorted_cell}
use Rattle.script_formulas.specs.Meaning.{SortedFamily, SortedAtomHolds, FormulaHolds, sorted_stage, sorted_least}
use Rattle.script_formulas.specs.Meaning.{locations_of, bodies_of, AssertHolds, IsModel}
use Rattle.script_formulas.specs.Sorts.{HasSort, IsSortedPure, IsSortedAtom, IsSortedFormula, IsSortedIn, IsSorted}
use Rattle.script_formulas.specs.Sorts.{sorts_of}
use Rattle.script_formulas.specs.Spread.{IsApart}
use Rattle.script_formulas.proofs.Exchange.{exchange, nil_stays, low_goes_up, exchanged_twice, offset, offset_far}
use Rattle.script_formulas.proofs.Exchange.{offset_behind}
use Rattle.script_formulas.proofs.MovedHeaps.{IsExchange, fields_at, fields_found, location_found, moved}
use Rattle.script_formulas.proofs.MovedHeaps.{moved_heap, moved_twice, moved_from, heap_twice, moved_none, moved_union}
use Rattle.script_formulas.proofs.MovedHeaps.{moved_one, moved_value, moved_last, length_moved}
use Rattle.script_formulas.proofs.SameQuestion.{body_found}

each_at : {X : Type 0} (P : X → Type 0) (xs : List X) (n : ℕ) (x : X) → Each P xs → slice_get xs n ≡ Some x → P x
each_at P [] n x all e = absurd cc
each_at P (y ∷ xs) zero x all e = let is : y ≡ x = cc in subst P is all.0
each_at P (y ∷ xs) (suc n) x all e = each_at P xs n x all.1 e

module _ (f : ℕ → ℕ → ℕ) (script : Script) (change : IsExchange f) where
  abbrev ks : List Constructor
  ks = script.constructors.items

  abbrev ps : List Predicate
  ps = script.predicates.items

  abbrev mv : List ℕ → List ℕ → List ℕ
  mv sorts vs = moved f ks sorts vs

  abbrev mh : SortedCells → SortedCells
  mh h = moved_heap f ks h

  -- ---- terms

  term_moved : (known bound : List ℕ) (s e : Stack) (t : Term) (sort : ℕ) → HasSort known bound t sort
      → value (mv known s) (mv bound e) t ≡ f sort (value s e t)
  term_moved known bound s e Nil sort has = sym (change.nil sort)
  term_moved known bound s e (Univ n) sort has = moved_value f ks change known s n sort has
  term_moved known bound s e (Exist n) sort has = moved_value f ks change bound e n sort has

  terms_moved : (known bound : List ℕ) (s e : Stack) (ts : List Term) (sorts : List ℕ)
      → AllZip (HasSort known bound) ts sorts → values (mv known s) (mv bound e) ts ≡ mv sorts (values s e ts)
  terms_moved known bound s e [] [] has = refl
  terms_moved known bound s e [] (x ∷ sorts) has = absurd has
  terms_moved known bound s e (t ∷ ts) [] has = absurd has
  terms_moved known bound s e (t ∷ ts) (x ∷ sorts) has = λ i. term_moved known bound s e t x has.0 i
      ∷ terms_moved known bound s e ts sorts has.1 i

  one_to_one : (sort v w : ℕ) → f sort v ≡ f sort w → v ≡ w
  one_to_one sort v w e = sym (change.twice sort v) ∙ ap (f sort) e ∙ change.twice sort w

  pure_moved : (known bound : List ℕ) (s e : Stack) (p : Pure) → IsSortedPure known bound p → PureHolds s e p
      → PureHolds (mv known s) (mv bound e) p
  pure_moved known bound s e (Eq t u) sorted holds =
      term_moved known bound s e t sorted.0 sorted.1
      ∙ ap (f sorted.0) holds
      ∙ sym (term_moved known bound s e u sorted.0 sorted.2)
  pure_moved known bound s e (Neq t u) sorted holds = λ same.
      holds (one_to_one sorted.0 (value s e t) (value s e u) (sym (term_moved known bound s e t sorted.0 sorted.1)
      ∙ same
      ∙ term_moved known bound s e u sorted.0 sorted.2))

  -- ---- formulas

  -- what the predicates hold of, they hold of when it is moved
  abbrev AreMoved : SortedFamily → Type 0
  AreMoved P = (p : ℕ) (q : Predicate) (vs : List ℕ) (h : SortedCells) → slice_get ps p ≡ Some q → P p vs h
      → P p (mv q.parameters.items vs) (mh h)

  module _ (P : SortedFamily) (follow : AreMoved P) where
    atom_moved : (known bound : List ℕ) (s e : Stack) (a : ScriptAtom) (h : SortedCells) → IsSortedAtom ks ps known bound a
        → SortedAtomHolds (locations_of script) P s e a h
        → SortedAtomHolds (locations_of script) P (mv known s) (mv bound e) a (mh h)
    atom_moved known bound s e (Cell t c ts) h sorted holds =
        let k = sorted.0 in
        let at : slice_index (locations_of script) c ≡ k.location = location_found ks c k sorted.1 in
        let there : value (mv known s) (mv bound e) t ≡ f (slice_index (locations_of script) c) (value s e t) =
        term_moved known bound s e t k.location sorted.2 ∙ ap (λ x. f x (value s e t)) (sym at) in
        let fields : values (mv known s) (mv bound e) ts ≡ mv (fields_at ks c) (values s e ts) =
        terms_moved known bound s e ts k.fields.items sorted.3
        ∙ ap (λ x. mv x (values s e ts)) (sym (fields_found ks c k sorted.1)) in (
          subst (λ n. 0 < n) (sym there) (some (slice_index (locations_of script) c) (value s e t) holds.0),
          ap mh holds.1
              ∙ moved_one f ks change (slice_index (locations_of script) c) (value s e t) (c ∷ values s e ts)
              ∙ (λ i. one_sorted_cell (slice_index (locations_of script) c) (sym there i) (c ∷ sym fields i)),
        )
      where
        some : (sort v : ℕ) → 0 < v → 0 < f sort v
        some sort v pos = elim (leb_tells 1 (f sort v)) [
          | inl more ↦ more.1
          | inr none ↦
              let zero_is : f sort v ≡ 0 = omega (arith, none.1) in
              let is : v ≡ 0 = sym (change.twice sort v) ∙ ap (f sort) zero_is ∙ change.nil sort in
              absurd (omega (arith, pos, is))
        ]
    atom_moved known bound s e (Call p ts) h sorted holds =
        subst (λ vs. P p vs (mh h)) (sym (terms_moved known bound s e ts sorted.0.parameters.items sorted.2))
        (follow p sorted.0 (values s e ts) h sorted.1 holds)

    abbrev Says' : Stack → Stack → Formula → SortedCells → Type 0
    Says' s e g h = FormulaHolds (locations_of script) P s e g h

    pub formula_moved : (g : Formula) (known bound : List ℕ) (s e : Stack) (h : SortedCells)
        → IsSortedFormula ks ps known bound g → length e ≡ length bound → Says' s e g h
        → Says' (mv known s) (mv bound e) g (mh h)
    formula_moved True known bound s e h sorted size holds = tt
    formula_moved False known bound s e h sorted size holds = holds
    formula_moved Empty known bound s e h sorted size holds = ap mh holds ∙ moved_none f ks change
    formula_moved (Says p) known bound s e h sorted size holds = pure_moved known bound s e p sorted holds
    formula_moved (Atom a) known bound s e h sorted size holds = atom_moved known bound s e a h sorted holds
    formula_moved (Not g) known bound s e h sorted size holds = λ other.
        let again : Says' (mv known (mv known s)) (mv bound (mv bound e)) g (mh (mh h)) =
        formula_moved g known bound (mv known s) (mv bound e) (mh h) sorted (length_moved f ks bound e ∙ size) other in
        holds (subst (λ x. Says' s e g x) (heap_twice f ks change h)
        (subst (λ x. Says' s x g (mh (mh h))) (moved_twice f ks change bound e)
        (subst (λ x. Says' x (mv bound (mv bound e)) g (mh (mh h))) (moved_twice f ks change known s) again)))
    formula_moved (And g k) known bound s e h sorted size holds = (
      formula_moved g known bound s e h sorted.0 size holds.0,
      formula_moved k known bound s e h sorted.1 size holds.1,
    )
    formula_moved (Or g k) known bound s e h sorted size (inl holds) =
        inl (formula_moved g known bound s e h sorted.0 size holds)
    formula_moved (Or g k) known bound s e h sorted size (inr holds) =
        inr (formula_moved k known bound s e h sorted.1 size holds)
    formula_moved (Sep g k) known bound s e h sorted size holds = record {
      part = mh holds.part;
      rest = mh holds.rest;
      union = moved_union f ks change holds.union;
      first = formula_moved g known bound s e holds.part sorted.0 size holds.first;
      others = formula_moved k known bound s e holds.rest sorted.1 size holds.others;
    }
    formula_moved (Exists sort g) known bound s e h sorted size holds = (
      f sort holds.0,
      subst (λ x. Says' (mv known s) x g (mh h)) (moved_last f ks bound e sort holds.0 size)
          (formula_moved g known (bound ++ sort ∷ []) s (e ++ holds.0 ∷ []) h sorted
          (one_longer e bound holds.0 sort size) holds.1),
    )
      where
        one_longer : (xs ys : List ℕ) (x y : ℕ) → length xs ≡ length ys → length (xs ++ x ∷ []) ≡ length (ys ++ y ∷ [])
        one_longer [] [] x y same = refl
        one_longer [] (b ∷ ys) x y same = absurd (omega (arith, same))
        one_longer (a ∷ xs) [] x y same = absurd (omega (arith, same))
        one_longer (a ∷ xs) (b ∷ ys) x y same =
            let r = one_longer xs ys x y (omega (arith, same)) in omega (arith, r)

  -- ---- predicates

  module _ (sorted : IsSorted script) where
    stage_moved : (n : ℕ) → AreMoved (sorted_stage (locations_of script) (bodies_of script) n)
    stage_moved zero p q vs h at holds = absurd holds
    stage_moved (suc n) p q vs h at holds =
        let body = body_found ps p q at in
        let P = sorted_stage (locations_of script) (bodies_of script) n in
        subst (λ g. FormulaHolds (locations_of script) P (mv q.parameters.items vs) [] g (mh h)) (sym body)
        (formula_moved P (stage_moved n) (formula_of q.body) q.parameters.items [] vs [] h
        (each_at (λ r. IsSortedIn script r.parameters.items (formula_of r.body)) ps p q sorted.predicates at) refl
        (subst (λ g. FormulaHolds (locations_of script) P vs [] g h) body holds))

    least_moved : AreMoved (sorted_least (locations_of script) (bodies_of script))
    least_moved p q vs h at holds = (holds.0, stage_moved holds.0 p q vs h at holds.1)

    assert_moved : (s : Stack) (h : SortedCells) (g : Formula) → IsSortedIn script (sorts_of script) g
        → AssertHolds script s h g → AssertHolds script (mv (sorts_of script) s) (mh h) g
    assert_moved s h g well holds =
        formula_moved (sorted_least (locations_of script) (bodies_of script)) least_moved g (sorts_of script) [] s [] h
        well refl holds

    assert_back : (s : Stack) (h : SortedCells) (g : Formula) → IsSortedIn script (sorts_of script) g
        → AssertHolds script (mv (sorts_of script) s) (mh h) g → AssertHolds script s h g
    assert_back s h g well holds =
        let again = assert_moved (mv (sorts_of script) s) (mh h) g well holds in
        subst (λ x. AssertHolds script s x g) (heap_twice f ks change h)
        (subst (λ x. AssertHolds script x (mh (mh h)) g) (moved_twice f ks change (sorts_of script) s) again)

    pub model_moved : (s : Stack) (h : SortedCells) → IsModel script s h
        → IsModel script (mv (sorts_of script) s) (mh h)
    model_moved s h model = (
      all_moved script.asserted.items sorted.asserted model.0,
      none_moved script.denied.items sorted.denied model.1,
    )
      where
        all_moved : (fs : List ScriptFormula)
            → Each (λ g. IsSortedIn script (sorts_of script) (formula_of g)) fs
            → Each (λ g. AssertHolds script s h (formula_of g)) fs
            → Each (λ g. AssertHolds script (mv (sorts_of script) s) (mh h) (formula_of g)) fs
        all_moved [] well hold = tt
        all_moved (g ∷ fs) well hold =
            (assert_moved s h (formula_of g) well.0 hold.0, all_moved fs well.1 hold.1)

        none_moved : (fs : List ScriptFormula)
            → Each (λ g. IsSortedIn script (sorts_of script) (formula_of g)) fs
            → Each (λ g. AssertHolds script s h (formula_of g) → ⊥) fs
            → Each (λ g. AssertHolds script (mv (sorts_of script) s) (mh h) (formula_of g) → ⊥) fs
        none_moved [] well none = tt
        none_moved (g ∷ fs) well none =
            ((λ x. none.0 (assert_back s h (formula_of g) well.0 x)), none_moved fs well.1 none.1)

-- ---- sorts apart

pub greatest : List (ℕ × List ℕ) → ℕ
greatest [] = 0
greatest (e ∷ es) = max e.0 (greatest es)

found_below : (es : List (ℕ × List ℕ)) (a : ℕ) (x : List ℕ) → find nat_cmp a es ≡ Some x → a ≤ greatest es
unfolding greatest
found_below [] a x e = absurd cc
found_below (y ∷ es) a x e = by_test (eq_by_cmp nat_cmp a y.0) refl e (found_below es a x)
  where
    by_test : (t : Bool) → eq_by_cmp nat_cmp a y.0 ≡ t → cond t (Some y.1) (find nat_cmp a es) ≡ Some x
        → (find nat_cmp a es ≡ Some x → a ≤ greatest es) → a ≤ max y.0 (greatest es)
    by_test true same there below = let is : a ≡ y.0 = same_address a y.0 same in omega (arith, is)
    by_test false other there below = let r = below there in omega (arith, r)

-- each cell stands at a location that is not nil
abbrev pub IsPositive : SortedCells → Type 0
IsPositive h = (sort a : ℕ) (x : List ℕ) → cell_at (h sort) a ≡ Some x → 0 < a

module _ (h : SortedCells) where
  abbrev pub most : ℕ → ℕ
  most sort = greatest (entries (h sort))

  -- the locations of a sort change places with numbers that no other sort gets
  abbrev pub apart : ℕ → ℕ → ℕ
  apart sort v = exchange (most sort) (offset most sort) v

  pub apart_exchanges : IsExchange apart
  apart_exchanges = record {
    nil = λ sort. nil_stays (most sort) (offset most sort);
    twice = λ sort v. exchanged_twice (most sort) (offset most sort) (offset_far most sort) v;
  }

  module _ (constructors : List Constructor) (positive : IsPositive h) where
    -- a cell of the moved heap comes of one whose location is raised
    record Raised (sort a : ℕ) : Type 0 where
      old : ℕ
      some : 0 < old
      low : old ≤ most sort
      is : a ≡ old + offset most sort

    raised : (sort a : ℕ) (x : List ℕ) → cell_at (moved_heap apart constructors h sort) a ≡ Some x → Raised sort a
    raised sort a x e =
        let from = moved_from apart constructors apart_exchanges h sort a x e in
        let old = apart sort a in
        let some : 0 < old = positive sort old from.0 from.1 in
        let low : old ≤ most sort = found_below (entries (h sort)) old from.0
        (sym (get-entries (h sort) old) ∙ from.1) in
        record {
          old = old;
          some = some;
          low = low;
          is = sym (apart_exchanges.twice sort a) ∙ low_goes_up (most sort) (offset most sort) old some low;
        }

    never : (sort other a : ℕ) → Raised sort a → Raised other a → sort < other → ⊥
    never sort other a k l less =
        let far = offset_behind most sort other less in
        omega (arith, k.some, k.low, k.is, l.some, l.low, l.is, far)

    pub moved_apart : IsApart (moved_heap apart constructors h)
    moved_apart = record {
      same = λ sort other a x y e g.
          let k = raised sort a x e in
          let l = raised other a y g in
          elim (leb_tells sort other) [
            | inl up ↦
                elim (leb_tells other sort) [
                  | inl down ↦ omega (arith, up.1, down.1)
                  | inr before ↦ absurd (never sort other a k l before.1)
                ]
            | inr after ↦ absurd (never other sort a l k after.1)
          ];
    }

-- a model without a cell at nil has one in which sorts are apart
pub apart_model : (script : Script) → IsSorted script → (s : Stack) (h : SortedCells) → IsPositive h → IsModel script s h
    → (t : Stack) × (g : SortedCells) × IsApart g × IsModel script t g
apart_model script sorted s h positive model = (
  moved (apart h) script.constructors.items (sorts_of script) s,
  moved_heap (apart h) script.constructors.items h,
  moved_apart h script.constructors.items positive,
  model_moved (apart h) script (apart_exchanges h) sorted s h model,
)
