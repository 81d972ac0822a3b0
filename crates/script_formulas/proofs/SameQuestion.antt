-- What a script asks, its goal asks.
use Rattle.std.proofs.Common.{◌≡◌, ℕ, zero, suc, ◌+◌, ◌<◌, Bool, true, false, List, [], ◌∷◌, ◌++◌, map, length, get_or}
use Rattle.std.proofs.Common.{Some, refl, sym, ap, ◌∙◌, subst, arith, inl, inr}
use Rattle.std.specs.Prelude.{slice_get}
use Rattle.std.specs.List.{AllZip}
use Rattle.heap_formula.specs.declared.terms.Term.{Term}
use Rattle.heap_formula.specs.declared.terms.Term.TheVariants.{Univ}
use Rattle.heap_formula.specs.Symbolic.{SymbolicHeap}
use Rattle.heap_formula.specs.Definitions.{Definition}
use Rattle.heap_formula.specs.Cells.{Cells, no_cells, IsUnion}
use Rattle.heap_formula.specs.Values.{Stack, values}
use Rattle.heap_formula.specs.Meaning.{Family, PureHolds, Holds, CaseHolds as HeapCaseHolds, cases_of}
use Rattle.heap_formula.specs.Meaning.{at_stage, least, Satisfies}
use Rattle.heap_formula.proofs.StageLaws.{holds_within, one_stage, least-IsClosed, least-opens}
use Rattle.heap_formula.proofs.Unions.{union_empty, union_same}
use Rattle.heap_formula.specs.Words.{Each, OneOf}
use Rattle.script_formulas.specs.declared.goals.heaps.Numbers.{Numbers}
use Rattle.script_formulas.specs.declared.goals.heaps.Variables.{Variables}
use Rattle.script_formulas.specs.declared.goals.heaps.Free.{Free}
use Rattle.script_formulas.specs.declared.goals.heaps.Free.TheVariants.{Known}
use Rattle.script_formulas.specs.declared.script.Predicate.{Predicate}
use Rattle.script_formulas.specs.Formulas.{Formula, formula_of}
use Rattle.script_formulas.specs.Heaps.{SortedCells}
use Rattle.script_formulas.specs.Meaning.{SortedFamily, FormulaHolds, sorted_stage, sorted_least, body_of}
use Rattle.script_formulas.specs.Cases.{SymbolicCase}
use Rattle.script_formulas.specs.Holding.{AtomsHold, SeparateAtomsHold, CaseHolds, OneCaseHolds}
use Rattle.script_formulas.specs.Scope.{IsBound, IsFine, AreFine}
use Rattle.script_formulas.specs.Translating.{IsPlaceOf, AreTermsOf, ArePlaced, IsHeapOf, AreHeapsOf, impossible}
use Rattle.script_formulas.specs.Sides.{ClosedCases}
use Rattle.script_formulas.specs.Defining.{AreCasesOf, IsDefinedIn, AreDefinedIn, IsCallOf, call_of, IsAntecedent}
use Rattle.script_formulas.specs.Spread.{IsApart}
use Rattle.script_formulas.proofs.Transfer.{Agree, Encoded, IsTo, IsBack, pures_to, pures_back, atoms_to, atoms_back}
use Rattle.script_formulas.proofs.Transfer.{terms_agree, raised, raised_front, raised_behind, in_order, in_order_at}
use Rattle.script_formulas.proofs.Transfer.{placed, placed_at, length_placed, AgreeFree, free_known, Fits, free_placed}
use Rattle.script_formulas.proofs.Transfer.{fits_in_order, fits_placed, agree_raised, agree_to, agree_back}

-- ---- members of two lists, side by side

pub zip_at : {X Y : Type 0} (R : X → Y → Type 0) (xs : List X) (ys : List Y) (k : ℕ) (d : X) → AllZip R xs ys
    → k < length xs → (y : Y) × (slice_get ys k ≡ Some y) × R (get_or xs k d) y
zip_at R [] ys k d z less = absurd (omega arith)
zip_at R (x ∷ xs) [] k d z less = absurd z
zip_at R (x ∷ xs) (y ∷ ys) zero d z less = (y, refl, z.0)
zip_at R (x ∷ xs) (y ∷ ys) (suc k) d z less = zip_at R xs ys k d z.1 (omega arith)

pub body_found : (ps : List Predicate) (p : ℕ) (predicate : Predicate) → slice_get ps p ≡ Some predicate
    → body_of (map (λ q. formula_of q.body) ps) p ≡ formula_of predicate.body
body_found [] p predicate e = absurd cc
body_found (q ∷ ps) zero predicate e = let is : q ≡ predicate = cc in ap (λ r. formula_of r.body) is
body_found (q ∷ ps) (suc p) predicate e = body_found ps p predicate e

pub cases_found : (ds more : List Definition) (k : ℕ) (d : Definition) → slice_get ds k ≡ Some d
    → cases_of (ds ++ more) k ≡ d.cases
cases_found [] more k d e = absurd cc
cases_found (x ∷ ds) more zero d e = let is : x ≡ d = cc in ap (λ r. r.cases) is
cases_found (x ∷ ds) more (suc k) d e = cases_found ds more k d e

-- ---- one case

pub closed_to : (locations : List ℕ) (P : SortedFamily) (s e : Stack) (c : SymbolicCase) (h : SortedCells)
    → c.any_heap ≡ false → AtomsHold c.any_heap locations P s e c.atoms h
    → SeparateAtomsHold locations P s e c.atoms h
closed_to locations P s e c h closed = subst (λ b. AtomsHold b locations P s e c.atoms h
    → SeparateAtomsHold locations P s e c.atoms h) (sym closed) (λ x. x)

pub any_from : (any : Bool) (locations : List ℕ) (P : SortedFamily) (s e : Stack) (c : SymbolicCase) (h : SortedCells)
    → SeparateAtomsHold locations P s e c.atoms h → AtomsHold any locations P s e c.atoms h
any_from true locations P s e c h x = tt
any_from false locations P s e c h x = x

module _ (numbers : Numbers) (locations : List ℕ) where
  module _ (P : SortedFamily) (Q : Family) (v : Variables) (s t : Stack) where
    -- the values that stand for those of a case's own variables
    pub holds_to : (own e : Stack) (c : SymbolicCase) (b : SymbolicHeap) (H : SortedCells)
        → Agree v (0 + c.quantified) s own t e → IsTo numbers locations P Q → IsFine 0 c → IsHeapOf numbers v c b
        → IsApart H → Each (PureHolds s own) c.pure → SeparateAtomsHold locations P s own c.atoms H
        → (h : Cells) × Encoded numbers locations H h × Holds (λ _. Q) t e b h
    holds_to own e c b H agree to fine heap apart pures atoms =
        let q = 0 + c.quantified in
        let r = atoms_to numbers locations P Q v q s own t e agree to c.atoms b.spatial H fine.heap heap.1 apart
        atoms in
        (r.0, r.1, (pures_to v q s own t e agree c.pure b.pure fine.pures heap.0 pures, r.2))

    pub holds_back : (own e : Stack) (c : SymbolicCase) (b : SymbolicHeap) (h : Cells)
        → Agree v (0 + c.quantified) s own t e → length own ≡ c.quantified → IsBack numbers locations P Q → IsFine 0 c
        → IsHeapOf numbers v c b → Holds (λ _. Q) t e b h
        → (H : SortedCells) × Encoded numbers locations H h × CaseHolds locations P s [] c H
    holds_back own e c b h agree size back fine heap holds =
        let q = 0 + c.quantified in
        let r = atoms_back numbers locations P Q v q s own t e agree back c.atoms b.spatial h fine.heap heap.1
        holds.1 in (
          r.0,
          r.1,
          (
            own,
            size,
            pures_back v q s own t e agree c.pure b.pure fine.pures heap.0 holds.0,
            any_from c.any_heap locations P s own c r.0 r.2,
          ),
        )

  -- one of the cases holds, with atoms that have separate parts of the heap
  abbrev pub OneSeparate : SortedFamily → Stack → List SymbolicCase → SortedCells → Type 0
  OneSeparate P s cs H = OneOf (λ c. (own : List ℕ) × (length own ≡ c.quantified) × Each (PureHolds s own) c.pure
      × SeparateAtomsHold locations P s own c.atoms H) cs

  pub separate_closed : (P : SortedFamily) (s : Stack) (cs : List SymbolicCase) (H : SortedCells) → ClosedCases cs
      → OneCaseHolds locations P s [] cs H → OneSeparate P s cs H
  separate_closed P s [] H closed one = absurd one
  separate_closed P s (c ∷ cs) H closed (inl x) = inl (x.0, x.1, x.2, closed_to locations P s x.0 c H closed.0 x.3)
  separate_closed P s (c ∷ cs) H closed (inr x) = inr (separate_closed P s cs H closed.1 x)

  -- of cases one of which holds, some heap of them does
  module _ (P : SortedFamily) (Q : Family) (free : Free) (s t : Stack) (agrees : AgreeFree free s t) where
    agrees_in : (v : Variables) → v.free ≡ free → AgreeFree v.free s t
    agrees_in v is = subst (λ f. AgreeFree f s t) (sym is) agrees

    pub one_to : (cs : List SymbolicCase) (bs : List SymbolicHeap) (H : SortedCells) → IsTo numbers locations P Q
        → AreFine 0 cs → AreHeapsOf numbers free cs bs → IsApart H → OneSeparate P s cs H
        → (h : Cells) × Encoded numbers locations H h × OneOf (HeapCaseHolds Q t h) bs
    one_to [] bs H to fine heaps apart one = absurd one
    one_to (c ∷ cs) [] H to fine heaps apart one = absurd heaps
    one_to (c ∷ cs) (b ∷ bs) H to fine heaps apart (inl x) =
        let w = heaps.0 in
        let e = agree_to w.0 (0 + c.quantified) s t (agrees_in w.0 w.1) w.2 x.0 in
        let r = holds_to P Q w.0 s t x.0 e.0 c b H e.1 to fine.0 w.3 apart x.2 x.3 in
        (r.0, r.1, inl (e.0, r.2))
    one_to (c ∷ cs) (b ∷ bs) H to fine heaps apart (inr x) =
        let r = one_to cs bs H to fine.1 heaps.1 apart x in (r.0, r.1, inr r.2)

    pub one_back : (cs : List SymbolicCase) (bs : List SymbolicHeap) (h : Cells) → IsBack numbers locations P Q
        → AreFine 0 cs → AreHeapsOf numbers free cs bs → OneOf (HeapCaseHolds Q t h) bs
        → (H : SortedCells) × Encoded numbers locations H h × OneCaseHolds locations P s [] cs H
    one_back [] [] h back fine heaps one = absurd one
    one_back [] (b ∷ bs) h back fine heaps one = absurd heaps
    one_back (c ∷ cs) [] h back fine heaps one = absurd heaps
    one_back (c ∷ cs) (b ∷ bs) h back fine heaps (inl x) =
        let w = heaps.0 in
        let own = agree_back w.0 (0 + c.quantified) s t (agrees_in w.0 w.1) w.2 x.0 in
        let size : length own.0 ≡ c.quantified = own.1 ∙ omega arith in
        let r = holds_back P Q w.0 s t own.0 x.0 c b h own.2 size back fine.0 w.3 x.1 in
        (r.0, r.1, inl r.2)
    one_back (c ∷ cs) (b ∷ bs) h back fine heaps (inr x) =
        let r = one_back cs bs h back fine.1 heaps.1 x in (r.0, r.1, inr r.2)

-- ---- the cases of a definition

pub impossible_fails : (Q : Family) (vs : List ℕ) (h : Cells) → HeapCaseHolds Q vs h impossible → ⊥
impossible_fails Q vs h holds = holds.1.0.0 refl

taken_to : (F : SymbolicHeap → Type 0) (hs cases : List SymbolicHeap) → AreCasesOf hs cases → OneOf F hs
    → OneOf F cases
taken_to F [] cases taken one = absurd one
taken_to F (h ∷ hs) cases taken one = subst (OneOf F) (sym taken) one

taken_back : (F : SymbolicHeap → Type 0) (hs cases : List SymbolicHeap) → AreCasesOf hs cases → (F impossible → ⊥)
    → OneOf F cases → OneOf F hs
taken_back F [] cases taken none one =
    let o : OneOf F (impossible ∷ []) = subst (OneOf F) taken one in
    elim o [ inl x ↦ absurd (none x) | inr x ↦ absurd x ]
taken_back F (h ∷ hs) cases taken none one = subst (OneOf F) taken one

-- ---- the predicates

module _ (numbers : Numbers) (locations : List ℕ) (predicates : List Predicate) (own more : List Definition)
    (defined : AreDefinedIn predicates numbers numbers.predicates.items own) where
  abbrev pub all_bodies : List Formula
  all_bodies = map (λ q. formula_of q.body) predicates

  pub found : (p k : ℕ) → IsPlaceOf numbers.predicates.items p k
      → (d : Definition) × (slice_get own k ≡ Some d) × IsDefinedIn predicates numbers p d
  found p k place =
      let r = zip_at (IsDefinedIn predicates numbers) numbers.predicates.items own k 0 defined place.0 in
      (r.0, r.1, subst (λ m. IsDefinedIn predicates numbers m r.0) place.1 r.2)

  pub stage_to : (n : ℕ) → IsTo numbers locations (sorted_stage locations all_bodies n) (at_stage (own ++ more) n)
  stage_to zero p k vs H place apart holds = absurd holds
  stage_to (suc n) p k vs H place apart holds =
      let f = found p k place in
      let by = f.2.2 in
      let P = sorted_stage locations all_bodies n in
      let Q = at_stage (own ++ more) n in
      let body : FormulaHolds locations P vs [] (formula_of f.2.0.body) H =
      subst (λ g. FormulaHolds locations P vs [] g H) (body_found predicates p f.2.0 f.2.1) holds in
      let one = separate_closed numbers locations P vs by.cases H by.closed
      ((by.staged locations all_bodies n vs H).0 body) in
      let r = one_to numbers locations P Q (Known (length f.2.0.parameters.items)) vs vs
      (free_known (length f.2.0.parameters.items) vs) by.cases by.heaps H (stage_to n)
      by.fine by.translated apart one in
      let cases = taken_to (HeapCaseHolds Q vs r.0) by.heaps f.0.cases by.taken r.2 in
      (r.0, r.1, subst (OneOf (HeapCaseHolds Q vs r.0)) (sym (cases_found own more k f.0 f.1)) cases)

  pub stage_back : (n : ℕ) → IsBack numbers locations (sorted_stage locations all_bodies n) (at_stage (own ++ more) n)
  stage_back zero p k vs h place holds = absurd holds
  stage_back (suc n) p k vs h place holds =
      let f = found p k place in
      let by = f.2.2 in
      let P = sorted_stage locations all_bodies n in
      let Q = at_stage (own ++ more) n in
      let cases : OneOf (HeapCaseHolds Q vs h) f.0.cases =
      subst (OneOf (HeapCaseHolds Q vs h)) (cases_found own more k f.0 f.1) holds in
      let heaps = taken_back (HeapCaseHolds Q vs h) by.heaps f.0.cases by.taken
      (impossible_fails Q vs h) cases in
      let r = one_back numbers locations P Q (Known (length f.2.0.parameters.items)) vs vs
      (free_known (length f.2.0.parameters.items) vs) by.cases by.heaps h (stage_back n)
      by.fine by.translated heaps in
      let body : FormulaHolds locations P vs [] (formula_of f.2.0.body) r.0 =
      (by.staged locations all_bodies n vs r.0).1 r.2 in
      (r.0, r.1, subst (λ g. FormulaHolds locations P vs [] g r.0) (sym (body_found predicates p f.2.0 f.2.1)) body)

  pub least_to : IsTo numbers locations (sorted_least locations all_bodies) (least (own ++ more))
  least_to p k vs H place apart holds =
      let r = stage_to holds.0 p k vs H place apart holds.1 in (r.0, r.1, (holds.0, r.2))

  pub least_back : IsBack numbers locations (sorted_least locations all_bodies) (least (own ++ more))
  least_back p k vs h place holds =
      let r = stage_back holds.0 p k vs h place holds.1 in (r.0, r.1, (holds.0, r.2))

-- ---- stages

pub satisfies_of : (ds : List Definition) (t e : Stack) (h : Cells) (a : SymbolicHeap) → Holds (λ _. least ds) t e a h
    → Satisfies ds t h a
satisfies_of ds t e h a holds =
    let r = one_stage ds t e a.spatial h holds.1 in ((λ _. r.0), (e, (holds.0, r.1)))

pub holds_of : (ds : List Definition) (t : Stack) (h : Cells) (a : SymbolicHeap) → Satisfies ds t h a
    → HeapCaseHolds (least ds) t h a
holds_of ds t h a holds =
    let stages = holds.0 in (
      holds.1.0,
      holds_within (λ k. at_stage ds (stages k)) (λ _. least ds) (λ k p vs g x. (stages k, x)) t holds.1.0 a h
          holds.1.1,
    )

-- ---- the sides of the goal

univ_values : (t e : Stack) (ns : List ℕ) → values t e (map Univ ns) ≡ in_order ns t
univ_values t e [] = refl
univ_values t e (n ∷ ns) = λ i. get_or t n 0 ∷ univ_values t e ns i

-- constants are no quantified variables
constants_bound : (q : ℕ) (ns : List ℕ) → Each (IsBound q) (map Univ ns)
constants_bound q [] = tt
constants_bound q (n ∷ ns) = (tt, constants_bound q ns)

-- the arguments of a call have the values of the constants
arguments_agree : (v : Variables) (constants : ℕ) (order listed : List ℕ) (arguments : List Term) (s t e : Stack)
    → ArePlaced v.free constants order → AreTermsOf v (map Univ listed) arguments → Fits constants order s t
    → values t e arguments ≡ in_order listed s
arguments_agree v constants order listed arguments s t e placed are fits =
    let agree : Agree v 0 s [] t e = record {
      free = free_placed v.free constants order s t placed fits e;
      bound = λ n u less i. absurd (omega arith);
    } in
    terms_agree v 0 s [] t e agree (map Univ listed) arguments (constants_bound 0 listed) are
    ∙ univ_values s [] listed

last_cases : (before : List Definition) (d : Definition) → cases_of (before ++ d ∷ []) (length before) ≡ d.cases
last_cases [] d = refl
last_cases (x ∷ before) d = last_cases before d

-- nothing is right of a heap
empty_right : {l r h : Cells} → IsUnion l r h → r ≡ no_cells → l ≡ h
empty_right {l = l} {h = h} u e = union_same (union_empty l) (subst (λ g. IsUnion l g h) e u)

module _ (numbers : Numbers) (locations : List ℕ) (P : SortedFamily) (own ds : List Definition)
    (to : IsTo numbers locations P (least ds)) (back : IsBack numbers locations P (least ds))
    (constants : ℕ) (order : List ℕ) where
  -- values of the problem's variables that fit those of the constants, and a heap, satisfy the antecedent
  abbrev pub FitsAntecedent : Stack → SortedCells → SymbolicHeap → Type 0
  FitsAntecedent s H a = (t : Stack) × (h : Cells) × Fits constants order s t × Encoded numbers locations H h
      × Satisfies ds t h a

  called_to : (cs : List SymbolicCase) (a : SymbolicHeap) (s : Stack) (H : SortedCells) → AreFine 0 cs
      → IsCallOf numbers constants order cs a own ds → IsApart H → OneSeparate numbers locations P s cs H
      → FitsAntecedent s H a
  called_to cs a s H fine is apart one =
      let vs = in_order is.listed s in
      let k = length own in
      let same = fits_in_order constants is.listed s s (λ n less. refl) in
      let inner = free_placed is.inner constants is.listed s vs is.parameters same in
      let r = one_to numbers locations P (least ds) is.inner s vs inner cs is.heaps H to fine is.translated apart one in
      let cases = taken_to (HeapCaseHolds (least ds) vs r.0) is.heaps is.definition.cases is.taken r.2 in
      let there : cases_of ds k ≡ is.definition.cases = ap (λ l. cases_of l k) is.defined
      ∙ last_cases own is.definition in
      let holds = least-IsClosed ds k vs r.0 (subst (OneOf (HeapCaseHolds (least ds) vs r.0)) (sym there) cases) in
      let t = in_order order s in
      let fits = fits_in_order constants order s s (λ n less. refl) in
      let given = arguments_agree is.outer constants order is.listed is.arguments s t [] is.placed is.are_arguments
      fits in
      let call : Holds (λ _. least ds) t [] (call_of k is.arguments) r.0 = (
        tt,
        record {
          part = r.0;
          rest = no_cells;
          union = union_empty r.0;
          first = subst (λ l. least ds k l r.0) (sym given) holds;
          others = refl;
        },
      ) in (
        t,
        r.0,
        fits,
        r.1,
        subst (Satisfies ds t r.0) (sym is.called) (satisfies_of ds t [] r.0 (call_of k is.arguments) call),
      )

  called_back : (cs : List SymbolicCase) (a : SymbolicHeap) (s t : Stack) (h : Cells) → AreFine 0 cs
      → IsCallOf numbers constants order cs a own ds → Fits constants order s t → Satisfies ds t h a
      → (H : SortedCells) × Encoded numbers locations H h × OneCaseHolds locations P s [] cs H
  called_back cs a s t h fine is fits holds =
      let k = length own in
      let x = holds_of ds t h (call_of k is.arguments) (subst (Satisfies ds t h) is.called holds) in
      let vs = in_order is.listed s in
      let given = arguments_agree is.outer constants order is.listed is.arguments s t x.0 is.placed is.are_arguments
      fits in
      let star = x.1.1 in
      let all : star.part ≡ h = empty_right star.union star.others in
      let called : least ds k vs h = subst (λ g. least ds k vs g) all
      (subst (λ l. least ds k l star.part) given star.first) in
      let there : cases_of ds k ≡ is.definition.cases = ap (λ l. cases_of l k) is.defined
      ∙ last_cases own is.definition in
      let cases : OneOf (HeapCaseHolds (least ds) vs h) is.definition.cases =
      subst (OneOf (HeapCaseHolds (least ds) vs h)) there (least-opens ds k vs h called) in
      let heaps = taken_back (HeapCaseHolds (least ds) vs h) is.heaps is.definition.cases is.taken
      (impossible_fails (least ds) vs h) cases in
      let same = fits_in_order constants is.listed s s (λ n less. refl) in
      let inner = free_placed is.inner constants is.listed s vs is.parameters same in
      one_back numbers locations P (least ds) is.inner s vs inner cs is.heaps h back fine is.translated heaps

  pub antecedent_to : (cs : List SymbolicCase) (a : SymbolicHeap) (s : Stack) (H : SortedCells) → AreFine 0 cs
      → IsAntecedent numbers constants order cs a own ds → IsApart H → OneSeparate numbers locations P s cs H
      → FitsAntecedent s H a
  antecedent_to [] a s H fine is apart one = absurd one
  antecedent_to (c ∷ []) a s H fine is apart (inr x) = absurd x
  antecedent_to (c ∷ []) a s H fine is apart (inl x) =
      let v = is.0.0 in
      let all = raised constants s x.0 in
      let t = in_order order all in
      let fits = fits_in_order constants order s all (raised_front constants s x.0) in
      let agree = agree_raised v (0 + c.quantified) s t (free_placed v.free constants order s t is.0.1 fits) constants
      order x.0 [] is.0.2
      (λ n k less first. in_order_at order all (constants + n) k first ∙ raised_behind constants s x.0 n) in
      let r = holds_to numbers locations P (least ds) v s t x.0 [] c a H agree to fine.0 is.0.3 apart x.2 x.3 in
      (t, r.0, fits, r.1, satisfies_of ds t [] r.0 a r.2)
  antecedent_to (c ∷ d ∷ cs) a s H fine is apart one = called_to (c ∷ d ∷ cs) a s H fine is apart one

  -- values of the constants for those of the problem's variables
  abbrev pub constants_of : Stack → Stack
  constants_of t = placed order t 0 constants

  pub antecedent_back : (cs : List SymbolicCase) (a : SymbolicHeap) (t : Stack) (h : Cells) → AreFine 0 cs
      → IsAntecedent numbers constants order cs a own ds → Satisfies ds t h a
      → (H : SortedCells) × Encoded numbers locations H h × OneCaseHolds locations P (constants_of t) [] cs H
  antecedent_back [] a t h fine is holds =
      let none : Satisfies ds t h impossible = subst (Satisfies ds t h) is.0 holds in
      absurd (impossible_fails (least ds) t h (holds_of ds t h impossible none))
  antecedent_back (c ∷ []) a t h fine is holds =
      let v = is.0.0 in
      let q = 0 + c.quantified in
      let s = constants_of t in
      let own = placed order t constants q in
      let x = holds_of ds t h a holds in
      let size : length own ≡ c.quantified = length_placed order t constants q ∙ omega arith in
      let free = free_placed v.free constants order s t is.0.1 (fits_placed constants order t) in
      let agree = agree_raised v q s t free constants order own x.0 is.0.2
      (λ n k less first. placed_at order t constants q n k less first) in
      let r = holds_back numbers locations P (least ds) v s t own x.0 c a h agree size back fine.0 is.0.3 x.1 in
      (r.0, r.1, inl r.2)
  antecedent_back (c ∷ d ∷ cs) a t h fine is holds =
      called_back (c ∷ d ∷ cs) a (constants_of t) t h fine is (fits_placed constants order t) holds
