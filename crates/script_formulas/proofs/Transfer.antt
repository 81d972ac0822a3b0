-- What cases say of a heap with sorts, and their symbolic heaps of the same heap without.
use Rattle.std.proofs.Common.{◌≡◌, ℕ, zero, suc, ◌+◌, ◌<◌, List, [], ◌∷◌, ◌++◌, map, length, get_or}
use Rattle.std.proofs.Common.{Some, refl, sym, ap, ◌∙◌, subst, arith}
use Rattle.std.specs.Prelude.{slice_index, replicate, nat_eq, true, false, if◌then◌else◌}
use Rattle.std.proofs.lemmas.Bool.{eq-eqb, ne_eqb}
use Rattle.std.specs.List.{AllZip}
use Rattle.std.proofs.lemmas.List.{get_or_append_left, get_or-append-add}
use Rattle.heap_formula.specs.declared.terms.Term.{Term}
use Rattle.heap_formula.specs.declared.terms.Term.TheVariants.{Nil, Univ, Exist}
use Rattle.heap_formula.specs.declared.atoms.Pure.{Pure}
use Rattle.heap_formula.specs.declared.atoms.Pure.TheVariants.{Eq, Neq}
use Rattle.heap_formula.specs.declared.atoms.Spatial.{Spatial}
use Rattle.heap_formula.specs.declared.atoms.Spatial.TheVariants.{Cell as CellAtom}
use Rattle.heap_formula.specs.Closedness.{InPure}
use Rattle.heap_formula.specs.Cells.{Cells, no_cells, one_cell}
use Rattle.heap_formula.specs.Values.{Stack, value, values}
use Rattle.heap_formula.specs.Meaning.{Family, PureHolds, AtomHolds, SpatialHolds}
use Rattle.heap_formula.specs.Words.{Each}
use Rattle.script_formulas.specs.declared.formula.ScriptAtom.{ScriptAtom}
use Rattle.script_formulas.specs.declared.formula.ScriptAtom.TheVariants.{Cell, Call}
use Rattle.script_formulas.specs.declared.goals.heaps.Numbers.{Numbers}
use Rattle.script_formulas.specs.declared.goals.heaps.Variables.{Variables}
use Rattle.script_formulas.specs.declared.goals.heaps.Free.{Free}
use Rattle.script_formulas.specs.declared.goals.heaps.Free.TheVariants.{Known, Placed}
use Rattle.script_formulas.specs.declared.goals.heaps.Quantified.{Quantified}
use Rattle.script_formulas.specs.declared.goals.heaps.Quantified.TheVariants.{Raised, Local}
use Rattle.script_formulas.specs.Heaps.{SortedCells, no_sorted_cells, one_sorted_cell}
use Rattle.script_formulas.specs.Meaning.{SortedFamily, SortedAtomHolds}
use Rattle.script_formulas.specs.Holding.{SeparateAtomsHold}
use Rattle.script_formulas.specs.Scope.{IsBound, InAtom}
use Rattle.script_formulas.specs.Translating.{IsPlaceOf, IsFirstPlaceOf, IsFree, IsQuantified, IsTermOf, AreTermsOf}
use Rattle.script_formulas.specs.Translating.{AreFilled, IsPureOf, IsSpatialOf, AreLocal, ArePlaced, AreRaised}
use Rattle.script_formulas.specs.Spread.{IsApart}
use Rattle.script_formulas.proofs.Encoding.{IsCoded, Encodes, encodes_none, encodes_one, union_without, union_with}
use Rattle.script_formulas.proofs.Encoding.{part_apart, rest_apart}

-- ---- terms

-- the variables that are not quantified, and those below q, have the same values on both sides
pub record Agree (v : Variables) (q : ℕ) (s own t e : Stack) : Type 0 where
  pub free : (n : ℕ) (u : Term) → IsFree v.free n u → value t e u ≡ slice_index s n
  pub bound : (n : ℕ) (u : Term) → n < q → IsQuantified v.quantified n u → value t e u ≡ slice_index own n

module _ (v : Variables) (q : ℕ) (s own t e : Stack) (agree : Agree v q s own t e) where
  term_agrees : (x y : Term) → IsBound q x → IsTermOf v x y → value t e y ≡ value s own x
  term_agrees Nil y b i = ap (value t e) i
  term_agrees (Univ n) y b i = agree.free n y i
  term_agrees (Exist n) y b i = agree.bound n y b i

  pub terms_agree : (xs ys : List Term) → Each (IsBound q) xs → AreTermsOf v xs ys → values t e ys ≡ values s own xs
  terms_agree [] [] b i = refl
  terms_agree [] (y ∷ ys) b i = absurd i
  terms_agree (x ∷ xs) [] b i = absurd i
  terms_agree (x ∷ xs) (y ∷ ys) b i = λ k. term_agrees x y b.0 i.0 k ∷ terms_agree xs ys b.1 i.1 k

  pure_to : (p r : Pure) → InPure (IsBound q) p → IsPureOf v p r → PureHolds s own p → PureHolds t e r
  pure_to (Eq x y) r b i h = subst (PureHolds t e) (sym i.4) (term_agrees x i.0 b.0 i.2 ∙ h
      ∙ sym (term_agrees y i.1 b.1 i.3))
  pure_to (Neq x y) r b i h = subst (PureHolds t e) (sym i.4) (λ g. h (sym (term_agrees x i.0 b.0 i.2) ∙ g
      ∙ term_agrees y i.1 b.1 i.3))

  pure_back : (p r : Pure) → InPure (IsBound q) p → IsPureOf v p r → PureHolds t e r → PureHolds s own p
  pure_back (Eq x y) r b i h =
      let g : value t e i.0 ≡ value t e i.1 = subst (PureHolds t e) i.4 h in
      sym (term_agrees x i.0 b.0 i.2) ∙ g ∙ term_agrees y i.1 b.1 i.3
  pure_back (Neq x y) r b i h =
      let g : value t e i.0 ≡ value t e i.1 → ⊥ = subst (PureHolds t e) i.4 h in
      λ k. g (term_agrees x i.0 b.0 i.2 ∙ k ∙ sym (term_agrees y i.1 b.1 i.3))

  pub pures_to : (ps rs : List Pure) → Each (InPure (IsBound q)) ps → AllZip (IsPureOf v) ps rs
      → Each (PureHolds s own) ps
      → Each (PureHolds t e) rs
  pures_to [] [] b i h = tt
  pures_to [] (r ∷ rs) b i h = absurd i
  pures_to (p ∷ ps) [] b i h = absurd i
  pures_to (p ∷ ps) (r ∷ rs) b i h = (pure_to p r b.0 i.0 h.0, pures_to ps rs b.1 i.1 h.1)

  pub pures_back : (ps rs : List Pure) → Each (InPure (IsBound q)) ps → AllZip (IsPureOf v) ps rs
      → Each (PureHolds t e) rs → Each (PureHolds s own) ps
  pures_back [] [] b i h = tt
  pures_back [] (r ∷ rs) b i h = absurd i
  pures_back (p ∷ ps) [] b i h = absurd i
  pures_back (p ∷ ps) (r ∷ rs) b i h = (pure_back p r b.0 i.0 h.0, pures_back ps rs b.1 i.1 h.1)

nils : (t e : Stack) (front : List Term) (more : ℕ) → values t e (front ++ replicate more Nil)
    ≡ values t e front ++ replicate more 0
nils t e [] zero = refl
nils t e [] (suc more) = λ k. 0 ∷ nils t e [] more k
nils t e (x ∷ front) more = λ k. value t e x ∷ nils t e front more k

length_values : (t e : Stack) (xs : List Term) → length (values t e xs) ≡ length xs
length_values t e [] = refl
length_values t e (x ∷ xs) = let r = length_values t e xs in omega arith

length_zip : {X Y : Type 0} (R : X → Y → Type 0) (xs : List X) (ys : List Y) → AllZip R xs ys → length xs ≡ length ys
length_zip R [] [] i = refl
length_zip R [] (y ∷ ys) i = absurd i
length_zip R (x ∷ xs) [] i = absurd i
length_zip R (x ∷ xs) (y ∷ ys) i = let r = length_zip R xs ys i.1 in omega arith

length_more : {X : Type 0} (x : X) (xs : List X) (n : ℕ) → length (xs ++ replicate n x) ≡ length xs + n
length_more x [] zero = refl
length_more x [] (suc n) = let r = length_more x [] n in omega arith
length_more x (y ∷ xs) n = let r = length_more x xs n in omega arith

-- ---- atoms, where two meanings of the predicates say the same

module _ (numbers : Numbers) (locations : List ℕ) where
  abbrev pub Encoded : SortedCells → Cells → Type 0
  Encoded H h = Encodes locations numbers.fields.items numbers.widths.items H h

  -- what the predicates with sorts say of a heap, those of the problem say of one without
  abbrev pub IsTo : SortedFamily → Family → Type 0
  IsTo P Q = (p k : ℕ) (vs : List ℕ) (H : SortedCells) → IsPlaceOf numbers.predicates.items p k → IsApart H → P p vs H
      → (h : Cells) × Encoded H h × Q k vs h

  abbrev pub IsBack : SortedFamily → Family → Type 0
  IsBack P Q = (p k : ℕ) (vs : List ℕ) (h : Cells) → IsPlaceOf numbers.predicates.items p k → Q k vs h
      → (H : SortedCells) × Encoded H h × P p vs H

  -- a cell's values on both sides
  record AreValues (v : Variables) (s own t e : Stack) (c : ℕ) (ts xs : List Term) : Type 0 where
    more : ℕ
    same : values t e xs ≡ values s own ts ++ replicate more 0
    coded : IsCoded locations numbers.fields.items numbers.widths.items (slice_index locations c)
        (c ∷ values s own ts) (Some (values s own ts ++ replicate more 0))
    some : 0 < length (values s own ts ++ replicate more 0)

  are_values : (v : Variables) (q : ℕ) (s own t e : Stack) → Agree v q s own t e → (c : ℕ) (ts xs : List Term)
      → Each (IsBound q) ts → AreFilled v ts xs → length ts ≡ slice_index numbers.fields.items c
      → length xs ≡ slice_index numbers.widths.items c → 0 < length xs → AreValues v s own t e c ts xs
  are_values v q s own t e agree c ts xs b filled has wide pos =
      let front = filled.0 in
      let more = filled.1 in
      let same : values t e front ≡ values s own ts = terms_agree v q s own t e agree ts front b filled.2 in
      let all : values t e xs ≡ values s own ts ++ replicate more 0 = ap (values t e) filled.3 ∙ nils t e front more
      ∙ ap (λ l. l ++ replicate more 0) same in
      let count = length_values s own ts in
      let zip = length_zip (IsTermOf v) ts front filled.2 in
      let long : length xs ≡ length (front ++ replicate more Nil) = ap length filled.3 in
      let both = length_more Nil front more in
      let size = length_more 0 (values s own ts) more in
      record {
        more = more;
        same = all;
        coded = record {
          made = c;
          values = values s own ts;
          more = more;
          is = refl;
          at_sort = refl;
          has_fields = count ∙ has;
          some = omega (arith, pos, wide);
          wide = omega (arith, count, zip, long, both, wide);
          there = refl;
        };
        some = omega (arith, size, count, zip, long, both, pos);
      }

  module _ (P : SortedFamily) (Q : Family) (v : Variables) (q : ℕ) (s own t e : Stack) (agree : Agree v q s own t e)
    where
      atom_to : IsTo P Q → (a : ScriptAtom) (y : Spatial) (H : SortedCells) → InAtom (IsBound q) a
          → IsSpatialOf numbers v a y → IsApart H → SortedAtomHolds locations P s own a H
          → (h : Cells) × Encoded H h × AtomHolds Q t e y h
      atom_to to (Cell x c ts) y H b i apart holds =
          let at : value t e i.0 ≡ value s own x = term_agrees v q s own t e agree x i.0 b.0 i.2 in
          let w = are_values v q s own t e agree c ts i.1 b.1 i.3 i.4 i.5 i.6 in
          let ws = values s own ts ++ replicate w.more 0 in
          let a = value s own x in (
            one_cell a ws,
            subst (λ K. Encoded K (one_cell a ws)) (sym holds.1)
                (encodes_one locations numbers.fields.items numbers.widths.items (slice_index locations c) a
                (c ∷ values s own ts) ws w.coded),
            subst (λ z. AtomHolds Q t e z (one_cell a ws)) (sym i.7) (
              subst (λ n. 0 < n) (sym at) holds.0,
              subst (λ l. 0 < length l) (sym w.same) w.some,
              sym (λ k. one_cell (at k) (w.same k)),
            ),
          )
      atom_to to (Call p ts) y H b i apart holds =
          let same = terms_agree v q s own t e agree ts i.1 b i.3 in
          let r = to p i.0 (values s own ts) H i.2 apart holds in (
            r.0,
            r.1,
            subst (λ z. AtomHolds Q t e z r.0) (sym i.4) (subst (λ l. Q i.0 l r.0) (sym same) r.2),
          )

      atom_back : IsBack P Q → (a : ScriptAtom) (y : Spatial) (h : Cells) → InAtom (IsBound q) a
          → IsSpatialOf numbers v a y → AtomHolds Q t e y h
          → (H : SortedCells) × Encoded H h × SortedAtomHolds locations P s own a H
      atom_back back (Cell x c ts) y h b i holds =
          let cell : AtomHolds Q t e (CellAtom i.0 i.1) h = subst (λ z. AtomHolds Q t e z h) i.7 holds in
          let at : value t e i.0 ≡ value s own x = term_agrees v q s own t e agree x i.0 b.0 i.2 in
          let w = are_values v q s own t e agree c ts i.1 b.1 i.3 i.4 i.5 i.6 in
          let ws = values s own ts ++ replicate w.more 0 in
          let a = value s own x in
          let is : one_cell a ws ≡ h = sym (λ k. one_cell (at k) (w.same k)) ∙ sym cell.2 in
          let H = one_sorted_cell (slice_index locations c) a (c ∷ values s own ts) in (
            H,
            subst (λ g. Encoded H g) is (encodes_one locations numbers.fields.items numbers.widths.items
                (slice_index locations c) a (c ∷ values s own ts) ws w.coded),
            (subst (λ n. 0 < n) at cell.0, refl),
          )
      atom_back back (Call p ts) y h b i holds =
          let call : Q i.0 (values t e i.1) h = subst (λ z. AtomHolds Q t e z h) i.4 holds in
          let same = terms_agree v q s own t e agree ts i.1 b i.3 in
          back p i.0 (values s own ts) h i.2 (subst (λ l. Q i.0 l h) same call)

      pub atoms_to : IsTo P Q → (zs : List ScriptAtom) (ys : List Spatial) (H : SortedCells)
          → Each (InAtom (IsBound q)) zs
          → AllZip (IsSpatialOf numbers v) zs ys → IsApart H → SeparateAtomsHold locations P s own zs H
          → (h : Cells) × Encoded H h × SpatialHolds (λ _. Q) t e ys h
      atoms_to to [] [] H b i apart holds = (
        no_cells,
        subst (λ K. Encoded K no_cells) (sym holds) (encodes_none locations numbers.fields.items numbers.widths.items),
        refl,
      )
      atoms_to to [] (y ∷ ys) H b i apart holds = absurd i
      atoms_to to (a ∷ zs) [] H b i apart holds = absurd i
      atoms_to to (a ∷ zs) (y ∷ ys) H b i apart holds =
          let first = atom_to to a y holds.part b.0 i.0 (part_apart holds.union apart) holds.first in
          let others = atoms_to to zs ys holds.rest b.1 i.1 (rest_apart holds.union apart) holds.others in
          let whole = union_without locations numbers.fields.items numbers.widths.items holds.part holds.rest H first.0
          others.0 first.1 others.1 holds.union apart in (
            whole.0,
            whole.1,
            record { part = first.0; rest = others.0; union = whole.2; first = first.2; others = others.2 },
          )

      pub atoms_back : IsBack P Q → (zs : List ScriptAtom) (ys : List Spatial) (h : Cells)
          → Each (InAtom (IsBound q)) zs
          → AllZip (IsSpatialOf numbers v) zs ys → SpatialHolds (λ _. Q) t e ys h
          → (H : SortedCells) × Encoded H h × SeparateAtomsHold locations P s own zs H
      atoms_back back [] [] h b i holds = (
        no_sorted_cells,
        subst (λ g. Encoded no_sorted_cells g) (sym holds)
            (encodes_none locations numbers.fields.items numbers.widths.items),
        refl,
      )
      atoms_back back [] (y ∷ ys) h b i holds = absurd i
      atoms_back back (a ∷ zs) [] h b i holds = absurd i
      atoms_back back (a ∷ zs) (y ∷ ys) h b i holds =
          let first = atom_back back a y holds.part b.0 i.0 holds.first in
          let others = atoms_back back zs ys holds.rest b.1 i.1 holds.others in
          let whole = union_with locations numbers.fields.items numbers.widths.items first.0 others.0 holds.part
          holds.rest h first.1 others.1 holds.union in (
            whole.0,
            whole.1,
            record { part = first.0; rest = others.0; union = whole.2; first = first.2; others = others.2 },
          )

-- ---- values of both sides

-- so many values of a function, from the m-th on
pub values_from : (ℕ → ℕ) → ℕ → ℕ → Stack
values_from f m zero = []
values_from f m (suc n) = f m ∷ values_from f (suc m) n

pub length_from : (f : ℕ → ℕ) (m n : ℕ) → length (values_from f m n) ≡ n
unfolding values_from
length_from f m zero = refl
length_from f m (suc n) = let r = length_from f (suc m) n in omega arith

pub from_at : (f : ℕ → ℕ) (m n i : ℕ) → i < n → get_or (values_from f m n) i 0 ≡ f (m + i)
unfolding values_from
from_at f m zero i less = absurd (omega arith)
from_at f m (suc n) zero less = let e : m ≡ m + 0 = omega arith in ap f e
from_at f m (suc n) (suc i) less =
    let e : suc m + i ≡ m + suc i = omega arith in
    from_at f (suc m) n i (omega arith) ∙ ap f e

-- the constants, and behind them the quantified variables
pub raised : ℕ → Stack → Stack → Stack
raised most s own = values_from (λ n. get_or s n 0) 0 most ++ own

pub raised_front : (most : ℕ) (s own : Stack) (n : ℕ) → n < most → get_or (raised most s own) n 0 ≡ get_or s n 0
unfolding raised
raised_front most s own n less =
    let f : ℕ → ℕ = λ n. get_or s n 0 in
    let long = length_from f 0 most in
    let same : 0 + n ≡ n = omega arith in
    get_or_append_left (values_from f 0 most) own 0 n (omega arith) ∙ from_at f 0 most n less ∙ ap f same

pub raised_behind : (most : ℕ) (s own : Stack) (n : ℕ) → get_or (raised most s own) (most + n) 0 ≡ get_or own n 0
unfolding raised
raised_behind most s own n =
    let f : ℕ → ℕ = λ n. get_or s n 0 in
    ap (λ k. get_or (values_from f 0 most ++ own) (k + n) 0) (sym (length_from f 0 most))
    ∙ get_or-append-add (values_from f 0 most) own n 0

map_at : (f : ℕ → ℕ) (ns : List ℕ) (k : ℕ) → k < length ns → get_or (map f ns) k 0 ≡ f (get_or ns k 0)
map_at f [] k less = absurd (omega arith)
map_at f (n ∷ ns) zero less = refl
map_at f (n ∷ ns) (suc k) less = map_at f ns k (omega arith)

-- ---- values by places in an order

-- the values of the variables that an order lists
abbrev pub in_order : List ℕ → Stack → Stack
in_order ns s = map (λ n. get_or s n 0) ns

pub in_order_at : (ns : List ℕ) (s : Stack) (n k : ℕ) → IsFirstPlaceOf ns n k
    → get_or (in_order ns s) k 0 ≡ get_or s n 0
in_order_at ns s n k first = map_at (λ m. get_or s m 0) ns k first.place.0 ∙ ap (λ m. get_or s m 0) first.place.1

-- the value of a variable, of values in an order from the j-th on
out_of_order : List ℕ → Stack → ℕ → ℕ → ℕ
out_of_order [] t j n = 0
out_of_order (m ∷ ns) t j n = if nat_eq m n then get_or t j 0 else out_of_order ns t (suc j) n

out_at : (ns : List ℕ) (t : Stack) (j n k : ℕ) → IsFirstPlaceOf ns n k → out_of_order ns t j n ≡ get_or t (j + k) 0
unfolding out_of_order
out_at [] t j n k first = let less = first.place.0 in absurd (omega arith)
out_at (m ∷ ns) t j n zero first =
    let same : nat_eq m n ≡ true = eq-eqb m n first.place.1 in
    let e : j ≡ j + 0 = omega arith in
    rw same (ap (λ i. get_or t i 0) e)
out_at (m ∷ ns) t j n (suc k) first =
    let other : nat_eq m n ≡ false = ne_eqb m n (first.first 0 (omega arith)) in
    let less = first.place.0 in
    let e : suc j + k ≡ j + suc k = omega arith in
    let later : IsFirstPlaceOf ns n k = record {
      place = (omega arith, first.place.1);
      first = λ i below. first.first (suc i) (omega arith);
    } in
    rw other (out_at ns t (suc j) n k later ∙ ap (λ i. get_or t i 0) e)

-- so many values of variables, from the m-th on
pub placed : List ℕ → Stack → ℕ → ℕ → Stack
placed ns t m count = values_from (out_of_order ns t 0) m count

pub length_placed : (ns : List ℕ) (t : Stack) (m count : ℕ) → length (placed ns t m count) ≡ count
unfolding placed
length_placed ns t m count = length_from (out_of_order ns t 0) m count

pub placed_at : (ns : List ℕ) (t : Stack) (m count n k : ℕ) → n < count → IsFirstPlaceOf ns (m + n) k
    → get_or t k 0 ≡ get_or (placed ns t m count) n 0
unfolding placed
placed_at ns t m count n k less first =
    let e : 0 + k ≡ k = omega arith in
    sym (from_at (out_of_order ns t 0) m count n less ∙ out_at ns t 0 (m + n) k first ∙ ap (λ i. get_or t i 0) e)

-- ---- values that agree

-- the variables that are not quantified have the same values on both sides
abbrev pub AgreeFree : Free → Stack → Stack → Type 0
AgreeFree free s t = (e : Stack) (n : ℕ) (u : Term) → IsFree free n u → value t e u ≡ slice_index s n

pub free_known : (most : ℕ) (s : Stack) → AgreeFree (Known most) s s
free_known most s e n u i = ap (value s e) i.1

-- the values of the constants are those of their places
abbrev pub Fits : ℕ → List ℕ → Stack → Stack → Type 0
Fits constants order s t = (n k : ℕ) → n < constants → IsFirstPlaceOf order n k → get_or t k 0 ≡ get_or s n 0

pub free_placed : (free : Free) (constants : ℕ) (order : List ℕ) (s t : Stack) → ArePlaced free constants order
    → Fits constants order s t → AgreeFree free s t
free_placed (Known most) constants order s t is fits e n u i = absurd is
free_placed (Placed most ns) constants order s t is fits e n u i =
    let place = subst (λ l. IsFirstPlaceOf l n i.1.0) is.1 i.1.1 in
    ap (value t e) i.1.2 ∙ fits n i.1.0 (subst (λ m. n < m) is.0 i.0) place

pub fits_in_order : (constants : ℕ) (order : List ℕ) (s r : Stack)
    → ((n : ℕ) → n < constants → get_or r n 0 ≡ get_or s n 0) → Fits constants order s (in_order order r)
fits_in_order constants order s r same n k less first = in_order_at order r n k first ∙ same n less

pub fits_placed : (constants : ℕ) (order : List ℕ) (t : Stack) → Fits constants order (placed order t 0 constants) t
fits_placed constants order t n k less first =
    let e : n ≡ 0 + n = omega arith in
    placed_at order t 0 constants n k less (subst (λ m. IsFirstPlaceOf order m k) e first)

module _ (v : Variables) (q : ℕ) (s t : Stack) (free : AgreeFree v.free s t) where
  -- where the quantified variables come behind the constants
  pub agree_raised : (constants : ℕ) (order : List ℕ) (own e : Stack) → AreRaised v.quantified constants order
      → ((n k : ℕ) → n < q → IsFirstPlaceOf order (constants + n) k → get_or t k 0 ≡ get_or own n 0)
      → Agree v q s own t e
  agree_raised constants order own e is same =
      record { free = free e; bound = λ n u less i. by_places v.quantified is n u less i }
    where
      by_places : (w : Quantified) → AreRaised w constants order → (n : ℕ) (u : Term) → n < q → IsQuantified w n u
          → value t e u ≡ slice_index own n
      by_places (Raised most ns) is n u less i =
          let place = subst (λ l. IsFirstPlaceOf l (constants + n) i.0) is.1
          (subst (λ m. IsFirstPlaceOf ns.now (m + n) i.0) is.0 i.1) in
          ap (value t e) i.2 ∙ same n i.0 less place
      by_places (Local ns) is n u less i = absurd is

  -- the numbers of local variables
  abbrev order_of : Quantified → List ℕ
  order_of (Raised most ns) = []
  order_of (Local ns) = ns.now

  local_by : (own e : Stack) → AreLocal v.quantified
      → ((n k : ℕ) → n < q → IsFirstPlaceOf (order_of v.quantified) n k → get_or e k 0 ≡ get_or own n 0)
      → Agree v q s own t e
  local_by own e is same = record { free = free e; bound = λ n u less i. by_places v.quantified is same n u less i }
    where
      by_places : (w : Quantified) → AreLocal w
          → ((n k : ℕ) → n < q → IsFirstPlaceOf (order_of w) n k → get_or e k 0 ≡ get_or own n 0)
          → (n : ℕ) (u : Term) → n < q → IsQuantified w n u → value t e u ≡ slice_index own n
      by_places (Raised most ns) is same n u less i = absurd is
      by_places (Local ns) is same n u less i = ap (value t e) i.2 ∙ same n i.0 less i.1

  -- values of the case's own variables, and those of the problem's
  pub agree_to : AreLocal v.quantified → (own : Stack) → (e : Stack) × Agree v q s own t e
  agree_to is own =
      let order = order_of v.quantified in
      (in_order order own, local_by own (in_order order own) is (λ n k less first. in_order_at order own n k first))

  pub agree_back : AreLocal v.quantified → (e : Stack) → (own : Stack) × (length own ≡ q) × Agree v q s own t e
  agree_back is e =
      let order = order_of v.quantified in
      let own = placed order e 0 q in (
        own,
        length_placed order e 0 q,
        local_by own e is (λ n k less first.
            let same : n ≡ 0 + n = omega arith in
            placed_at order e 0 q n k less (subst (λ m. IsFirstPlaceOf order m k) same first)),
      )
