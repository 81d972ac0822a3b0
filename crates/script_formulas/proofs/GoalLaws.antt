-- A goal that asks what a script does holds where the script cannot be satisfied.
use Rattle.std.proofs.Common.{◌≡◌, ℕ, zero, suc, ◌<◌, Bool, true, false, List, [], ◌∷◌, map, length, Some}
use Rattle.std.proofs.Common.{◌++◌, refl, sym, ◌∙◌, subst, ◌⊎◌, inl, inr}
use Rattle.std.specs.Prelude.{nat_eq, slice_index}
use Rattle.std.specs.List.{AllZip}
use Rattle.std.specs.Ordering.{nat_cmp}
use Rattle.std.specs.FinMap.{get-empty}
use Rattle.std.proofs.lemmas.List.{append-nil}
use Rattle.heap_formula.specs.declared.atoms.Spatial.{Spatial}
use Rattle.heap_formula.specs.declared.commands.Command.{Command}
use Rattle.heap_formula.specs.declared.judgements.Judgement.{Judgement}
use Rattle.heap_formula.specs.declared.judgements.Judgement.TheVariants.{Entail}
use Rattle.heap_formula.specs.Symbolic.{SymbolicHeap}
use Rattle.heap_formula.specs.Definitions.{Definition}
use Rattle.heap_formula.specs.Cells.{Cells, cell_at}
use Rattle.heap_formula.specs.Judgements.{JudgementHolds, Concludes, antecedent}
use Rattle.heap_formula.specs.Values.{Stack, value, values}
use Rattle.heap_formula.specs.Meaning.{CaseHolds as HeapCaseHolds, least, Satisfies, SatisfiesOne}
use Rattle.heap_formula.specs.Words.{Each}
use Rattle.heap_formula.proofs.AllMembers.{each_mapped}
use Rattle.heap_formula.proofs.StageLaws.{OneOf-map}
use Rattle.script_formulas.specs.declared.formula.ScriptAtom.{ScriptAtom}
use Rattle.script_formulas.specs.declared.formula.ScriptAtom.TheVariants.{Cell, Call}
use Rattle.script_formulas.specs.declared.goals.heaps.Numbers.{Numbers}
use Rattle.script_formulas.specs.declared.goals.heaps.Variables.{Variables}
use Rattle.script_formulas.specs.declared.goals.heaps.Free.{Free}
use Rattle.script_formulas.specs.declared.goals.heaps.Free.TheVariants.{Known}
use Rattle.script_formulas.specs.declared.goals.question.Question.{Question}
use Rattle.script_formulas.specs.declared.goals.question.Question.TheVariants.{Entailment, Satisfiability}
use Rattle.script_formulas.specs.declared.script.Predicate.{Predicate}
use Rattle.script_formulas.specs.declared.script.Script.{Script}
use Rattle.script_formulas.specs.Formulas.{formula_of}
use Rattle.script_formulas.specs.Heaps.{SortedCells, no_sorted_cells}
use Rattle.script_formulas.specs.Meaning.{SortedFamily, FormulaHolds, sorted_stage}
use Rattle.script_formulas.specs.Meaning.{sorted_least, locations_of, bodies_of}
use Rattle.script_formulas.specs.Meaning.{IsModel, IsSatisfiable}
use Rattle.script_formulas.specs.Cases.{SymbolicCase}
use Rattle.script_formulas.specs.Holding.{SeparateAtomsHold, OneCaseHolds}
use Rattle.script_formulas.specs.Scope.{AreFine}
use Rattle.script_formulas.specs.Sides.{AreDenied}
use Rattle.script_formulas.specs.Translating.{IsPlaceOf, IsSpatialOf, AreHeapsOf, AreDisjuncts, impossible}
use Rattle.script_formulas.specs.Defining.{AreDefinedIn, IsAntecedent, IsAsked, IsGoalOf}
use Rattle.script_formulas.specs.Spread.{IsApart}
use Rattle.script_formulas.proofs.Encoding.{joined_from, one_sorted_is, encodes_apart, encodes_once, encodes_same}
use Rattle.script_formulas.proofs.Transfer.{Encoded, IsTo, IsBack, Fits, placed, free_placed, fits_placed}
use Rattle.script_formulas.proofs.SameQuestion.{body_found, found, closed_to, OneSeparate, separate_closed, one_to}
use Rattle.script_formulas.proofs.SameQuestion.{one_back, impossible_fails, least_to, least_back, satisfies_of}
use Rattle.script_formulas.proofs.MovedModels.{IsPositive, apart_model}
use Rattle.script_formulas.proofs.SameQuestion.{holds_of, antecedent_to, antecedent_back}

each_unmapped : {X Y : Type 0} (P : Y → Type 0) (f : X → Y) (xs : List X) → Each P (map f xs) → Each (λ x. P (f x)) xs
each_unmapped P f [] e = tt
each_unmapped P f (x ∷ xs) e = (e.0, each_unmapped P f xs e.1)

no_cell : {X : Type 0} (sort a : ℕ) (x : List ℕ) → cell_at (no_sorted_cells sort) a ≡ Some x → X
no_cell sort a x e = absurd (let g = get-empty {X = List ℕ} nat_cmp a in cc)

none_apart : IsApart no_sorted_cells
none_apart = record { same = λ sort other a x y e f. no_cell sort a x e }

-- ---- the disjuncts

module _ (numbers : Numbers) (locations : List ℕ) (P : SortedFamily) (ds : List Definition)
    (to : IsTo numbers locations P (least ds)) (back : IsBack numbers locations P (least ds)) (constants : ℕ)
    (order : List ℕ) where
  disjuncts_to : (cs : List SymbolicCase) (bs : List SymbolicHeap) (s t : Stack) (H : SortedCells)
      → Fits constants order s t → AreDenied cs → AreDisjuncts numbers constants order cs bs → IsApart H
      → OneCaseHolds locations P s [] cs H
      → (h : Cells) × Encoded numbers locations H h × SatisfiesOne ds t h bs
  disjuncts_to [] bs s t H fits denied is apart one = absurd one
  disjuncts_to (c ∷ cs) bs s t H fits denied is apart one =
      let r = one_to numbers locations P (least ds) is.0 s t (free_placed is.0 constants order s t is.1 fits) (c ∷ cs)
      bs H to denied.0 is.2 apart (separate_closed numbers locations P s (c ∷ cs) H denied.1 one) in (
        r.0,
        r.1,
        OneOf-map (HeapCaseHolds (least ds) t r.0) (Satisfies ds t r.0)
            (λ b x. satisfies_of ds t x.0 r.0 b x.1) bs r.2,
      )

  disjuncts_back : (cs : List SymbolicCase) (bs : List SymbolicHeap) (s t : Stack) (h : Cells)
      → Fits constants order s t → AreFine 0 cs → AreDisjuncts numbers constants order cs bs → SatisfiesOne ds t h bs
      → (H : SortedCells) × Encoded numbers locations H h × OneCaseHolds locations P s [] cs H
  disjuncts_back [] bs s t h fits fine is one =
      let o : SatisfiesOne ds t h (impossible ∷ []) = subst (SatisfiesOne ds t h) is one in
      elim o [
        | inl x ↦ absurd (impossible_fails (least ds) t h (holds_of ds t h impossible x))
        | inr x ↦ absurd x
      ]
  disjuncts_back (c ∷ cs) bs s t h fits fine is one =
      one_back numbers locations P (least ds) is.0 s t (free_placed is.0 constants order s t is.1 fits) (c ∷ cs) bs h
      back fine is.2 (OneOf-map (Satisfies ds t h) (HeapCaseHolds (least ds) t h) (holds_of ds t h) bs one)

-- a case that says nothing of the heap holds of the empty one, with atoms that have separate parts; so does any other of
-- its own
module _ (numbers : Numbers) (locations : List ℕ) (P : SortedFamily) (s : Stack) where
  separate_any : (cs : List SymbolicCase) (H : SortedCells) → AreFine 0 cs → OneCaseHolds locations P s [] cs H
      → OneSeparate numbers locations P s cs no_sorted_cells ⊎ OneSeparate numbers locations P s cs H
  separate_any [] H fine one = absurd one
  separate_any (c ∷ cs) H fine (inr x) =
      elim (separate_any cs H fine.1 x) [ inl o ↦ inl (inr o) | inr o ↦ inr (inr o) ]
  separate_any (c ∷ cs) H fine (inl x) = by_heap c.any_heap refl
    where
      by_heap : (any : Bool) → c.any_heap ≡ any → OneSeparate numbers locations P s (c ∷ cs) no_sorted_cells
          ⊎ OneSeparate numbers locations P s (c ∷ cs) H
      by_heap true says = inl (inl (
        x.0,
        x.1,
        x.2,
        subst (λ l. SeparateAtomsHold locations P s x.0 l no_sorted_cells)
            (sym (fine.0.open_heap says)) refl,
      ))
      by_heap false closed = inr (inl (x.0, x.1, x.2, closed_to locations P s x.0 c H closed x.3))

-- ---- cells away from nil

module _ (numbers : Numbers) (locations : List ℕ) where
  abbrev ArePositive : SortedFamily → Type 0
  ArePositive P = (p k : ℕ) (vs : List ℕ) (H : SortedCells) → IsPlaceOf numbers.predicates.items p k → P p vs H
      → IsPositive H

  positive_atoms : (P : SortedFamily) → ArePositive P → (v : Variables) (s own : Stack) (xs : List ScriptAtom)
      (ys : List Spatial) (H : SortedCells) → AllZip (IsSpatialOf numbers v) xs ys
      → SeparateAtomsHold locations P s own xs H → IsPositive H
  positive_atoms P positive v s own [] ys H z holds sort a x e =
      no_cell sort a x (subst (λ G. cell_at (G sort) a ≡ Some x) holds e)
  positive_atoms P positive v s own (b ∷ xs) [] H z holds sort a x e = absurd z
  positive_atoms P positive v s own (Cell t c ts ∷ xs) (y ∷ ys) H z holds sort a x e =
      elim (joined_from _ _ _ x ((holds.union.at sort).joins a) e) [
        | inl f ↦
            let g = subst (λ G. cell_at (G sort) a ≡ Some x) holds.first.1 f in
            let is = one_sorted_is locations numbers.fields.items numbers.widths.items (slice_index locations c)
            (value s own t)
            (c ∷ values s own ts) sort a x (nat_eq (slice_index locations c) sort) refl g in
            subst (λ n. 0 < n) (sym is.1) holds.first.0
        | inr f ↦ positive_atoms P positive v s own xs ys holds.rest z.1 holds.others sort a x f
      ]
  positive_atoms P positive v s own (Call p ts ∷ xs) (y ∷ ys) H z holds sort a x e =
      elim (joined_from _ _ _ x ((holds.union.at sort).joins a) e) [
        | inl f ↦ positive p z.0.0 (values s own ts) holds.part z.0.2 holds.first sort a x f
        | inr f ↦ positive_atoms P positive v s own xs ys holds.rest z.1 holds.others sort a x f
      ]

  positive_one : (P : SortedFamily) → ArePositive P → (free : Free) (s : Stack) (cs : List SymbolicCase)
      (bs : List SymbolicHeap) (H : SortedCells) → AreHeapsOf numbers free cs bs
      → OneSeparate numbers locations P s cs H → IsPositive H
  positive_one P positive free s [] bs H z one = absurd one
  positive_one P positive free s (c ∷ cs) [] H z one = absurd z
  positive_one P positive free s (c ∷ cs) (b ∷ bs) H z (inl x) =
      positive_atoms P positive z.0.0 s x.0 c.atoms b.spatial H z.0.3.1 x.3
  positive_one P positive free s (c ∷ cs) (b ∷ bs) H z (inr x) = positive_one P positive free s cs bs H z.1 x

  module _ (predicates : List Predicate) (own : List Definition)
      (defined : AreDefinedIn predicates numbers numbers.predicates.items own) where
    positive_stage : (n : ℕ) → ArePositive (sorted_stage locations (map (λ q. formula_of q.body) predicates) n)
    positive_stage zero p k vs H place holds = absurd holds
    positive_stage (suc n) p k vs H place holds =
        let bodies = map (λ q. formula_of q.body) predicates in
        let f = found numbers locations predicates own [] defined p k place in
        let by = f.2.2 in
        let P = sorted_stage locations bodies n in
        let body : FormulaHolds locations P vs [] (formula_of f.2.0.body) H =
        subst (λ g. FormulaHolds locations P vs [] g H) (body_found predicates p f.2.0 f.2.1) holds in
        let one = separate_closed numbers locations P vs by.cases H by.closed
        ((by.staged locations bodies n vs H).0 body) in
        positive_one P (positive_stage n) (Known (length f.2.0.parameters.items)) vs by.cases by.heaps H by.translated
        one

    positive_least : ArePositive (sorted_least locations (map (λ q. formula_of q.body) predicates))
    positive_least p k vs H place holds = positive_stage holds.0 p k vs H place holds.1

  positive_antecedent : (P : SortedFamily) → ArePositive P → (constants : ℕ) (order : List ℕ) (s : Stack)
      (cs : List SymbolicCase) (a : SymbolicHeap) (own ds : List Definition) (H : SortedCells)
      → IsAntecedent numbers constants order cs a own ds → OneSeparate numbers locations P s cs H → IsPositive H
  positive_antecedent P positive constants order s [] a own ds H is one = absurd one
  positive_antecedent P positive constants order s (c ∷ []) a own ds H is (inr x) = absurd x
  positive_antecedent P positive constants order s (c ∷ []) a own ds H is (inl x) =
      positive_atoms P positive is.0.0 s x.0 c.atoms a.spatial H is.0.3.1 x.3
  positive_antecedent P positive constants order s (c ∷ d ∷ cs) a own ds H is one =
      positive_one P positive is.inner s (c ∷ d ∷ cs) is.heaps H is.translated one

-- ---- a script and its goal

-- what the antecedent calls stands behind the others
called_behind : (numbers : Numbers) (constants : ℕ) (order : List ℕ) (cs : List SymbolicCase) (a : SymbolicHeap)
    (own ds : List Definition) → IsAntecedent numbers constants order cs a own ds
    → (more : List Definition) × (ds ≡ own ++ more)
called_behind numbers constants order [] a own ds is = ([], is.1 ∙ sym (append-nil own))
called_behind numbers constants order (c ∷ []) a own ds is = ([], is.1 ∙ sym (append-nil own))
called_behind numbers constants order (c ∷ d ∷ cs) a own ds is = (is.definition ∷ [], is.defined)

module _ (script : Script) (question : Question) (ds : List Definition) (goal : Judgement) (used : List ℕ)
    (g : IsGoalOf script question ds goal used) where
  abbrev the_locations : List ℕ
  the_locations = locations_of script

  abbrev the_family : SortedFamily
  the_family = sorted_least (locations_of script) (bodies_of script)

  abbrev the_constants : ℕ
  the_constants = length script.constants.items

  front : (more : List Definition) × (ds ≡ g.own ++ more)
  front = called_behind g.numbers the_constants g.order g.first g.judged.left g.own ds g.judged.antecedent

  to_problem : IsTo g.numbers the_locations the_family (least ds)
  to_problem = subst (λ l. IsTo g.numbers the_locations the_family (least l)) (sym front.1)
      (least_to g.numbers the_locations script.predicates.items g.own front.0 g.defined)

  from_problem : IsBack g.numbers the_locations the_family (least ds)
  from_problem = subst (λ l. IsBack g.numbers the_locations the_family (least l)) (sym front.1)
      (least_back g.numbers the_locations script.predicates.items g.own front.0 g.defined)

  -- what satisfies the antecedent and no disjunct shows that the script can be satisfied
  pub refuted_satisfiable : (t : Stack) (h : Cells) → Satisfies ds t h g.judged.left
      → (SatisfiesOne ds t h g.judged.right → ⊥) → IsSatisfiable script
  refuted_satisfiable t h holds not_one =
      let s = placed g.order t 0 the_constants in
      let r = antecedent_back g.numbers the_locations the_family g.own ds to_problem from_problem the_constants g.order
      g.first g.judged.left t h g.fine_first g.judged.antecedent holds in
      let apart = encodes_apart the_locations g.numbers.fields.items g.numbers.widths.items g.told r.0 h r.1 in
      let none : OneCaseHolds the_locations the_family s [] g.second r.0 → ⊥ = λ o.
      let d = disjuncts_to g.numbers the_locations the_family ds to_problem from_problem the_constants g.order
      g.second g.judged.right s t r.0 (fits_placed the_constants g.order t) g.fine_second g.judged.disjuncts apart o in
      not_one (subst (λ k. SatisfiesOne ds t k g.judged.right) (encodes_same the_locations g.numbers.fields.items
      g.numbers.widths.items r.0 d.0 h d.1 r.1) d.2) in
      let sides = (g.sides the_locations (bodies_of script) s r.0).1 (r.2, none) in (
        s,
        r.0,
        (
          each_unmapped (λ f. FormulaHolds the_locations the_family s [] f r.0) formula_of script.asserted.items
              sides.0,
          each_unmapped (λ f. FormulaHolds the_locations the_family s [] f r.0
              → ⊥) formula_of script.denied.items sides.1,
        ),
      )

  says_sides : (s : Stack) (H : SortedCells) → IsModel script s H
      → OneCaseHolds the_locations the_family s [] g.first H
      × (OneCaseHolds the_locations the_family s [] g.second H → ⊥)
  says_sides s H model = (g.sides the_locations (bodies_of script) s H).0 (
    each_mapped (λ f. FormulaHolds the_locations the_family s [] f H) formula_of script.asserted.items model.0,
    each_mapped (λ f. FormulaHolds the_locations the_family s [] f H → ⊥) formula_of script.denied.items model.1,
  )

  -- some values and a heap satisfy the antecedent and no disjunct
  abbrev pub IsRefuted : Type 0
  IsRefuted = (t : Stack) × (h : Cells) × Satisfies ds t h g.judged.left × (SatisfiesOne ds t h g.judged.right → ⊥)

  refuted_by : (s : Stack) (H : SortedCells) → IsApart H → OneSeparate g.numbers the_locations the_family s g.first H
      → (OneCaseHolds the_locations the_family s [] g.second H → ⊥) → IsRefuted
  refuted_by s H apart one none =
      let r = antecedent_to g.numbers the_locations the_family g.own ds to_problem from_problem the_constants g.order
      g.first g.judged.left s H g.fine_first g.judged.antecedent apart one in (
        r.0,
        r.1,
        r.4,
        λ o.
            let d = disjuncts_back g.numbers the_locations the_family ds to_problem from_problem the_constants g.order
            g.second g.judged.right s r.0 r.1 r.2 g.fine_second.0 g.judged.disjuncts o in
            let same = encodes_once the_locations g.numbers.fields.items g.numbers.widths.items g.told d.0 H r.1 d.1 r.3
            in
            none (subst (OneCaseHolds the_locations the_family s [] g.second) same d.2),
      )

  -- ---- whatever locations the sorts have in common

  positive : ArePositive g.numbers the_locations the_family
  positive = positive_least g.numbers the_locations script.predicates.items g.own g.defined

  separate_positive : (s : Stack) (H : SortedCells) → OneSeparate g.numbers the_locations the_family s g.first H
      → IsPositive H
  separate_positive s H one = positive_antecedent g.numbers the_locations the_family positive the_constants g.order s
      g.first g.judged.left g.own ds H g.judged.antecedent one

  -- atoms of one of the first cases have separate parts of the heap, unless a case says nothing of it
  separate_or_refuted : (asks : Question) → IsAsked asks g.first g.second → (s : Stack) (H : SortedCells)
      → IsModel script s H → OneSeparate g.numbers the_locations the_family s g.first H ⊎ IsRefuted
  separate_or_refuted Entailment asked s H model =
      inl (separate_closed g.numbers the_locations the_family s g.first H asked.1 (says_sides s H model).0)
  separate_or_refuted Satisfiability asked s H model =
      elim (separate_any g.numbers the_locations the_family s g.first H g.fine_first (says_sides s H model).0) [
        | inl one ↦
            let none : OneCaseHolds the_locations the_family s [] g.second no_sorted_cells → ⊥ = λ o.
            subst (λ l. OneCaseHolds the_locations the_family s [] l no_sorted_cells) asked o in
            inr (refuted_by s no_sorted_cells none_apart one none)
        | inr one ↦ inl one
      ]

  apart_refuted : (s : Stack) (H : SortedCells) → IsApart H → IsModel script s H → IsRefuted
  apart_refuted s H apart model =
      elim (separate_or_refuted question g.asked s H model) [
        | inl one ↦ refuted_by s H apart one (says_sides s H model).1
        | inr refuted ↦ refuted
      ]

  model_refuted : (s : Stack) (H : SortedCells) → IsModel script s H → IsRefuted
  model_refuted s H model =
      elim (separate_or_refuted question g.asked s H model) [
        | inl one ↦
            let m = apart_model script g.sorted s H (separate_positive s H one) model in
            apart_refuted m.0 m.1 m.2 m.3
        | inr refuted ↦ refuted
      ]

  pub satisfiable_refuted : IsSatisfiable script → IsRefuted
  satisfiable_refuted x = model_refuted x.0 x.1 x.2

  -- ---- in terms of the goal

  -- where the goal holds, nothing satisfies its antecedent and no disjunct
  pub holds_unrefuted : (lines : List Command) → JudgementHolds ds lines goal → IsRefuted → ⊥
  holds_unrefuted lines holds r =
      let h : JudgementHolds ds lines (Entail g.judged.left g.judged.right) = subst (JudgementHolds ds lines) g.judged.is
      holds in
      r.3 (h r.0 r.1 r.2)

  pub failing_satisfiable : (lines : List Command) (t : Stack) (h : Cells) → Satisfies ds t h (antecedent goal)
      → (Concludes ds lines goal t h → ⊥) → IsSatisfiable script
  failing_satisfiable lines t h holds none =
      refuted_satisfiable t h (subst (λ j. Satisfies ds t h (antecedent j)) g.judged.is holds)
      (λ o. none (subst (λ j. Concludes ds lines j t h) (sym g.judged.is) o))

  -- a script that denies nothing over the heap
  pub possible_satisfiable : question ≡ Satisfiability → (t : Stack) (h : Cells) → Satisfies ds t h (antecedent goal)
      → IsSatisfiable script
  possible_satisfiable e t h holds =
      let asked : g.second ≡ [] = subst (λ q. IsAsked q g.first g.second) e g.asked in
      refuted_satisfiable t h (subst (λ j. Satisfies ds t h (antecedent j)) g.judged.is holds)
      (λ o.
      let s = placed g.order t 0 the_constants in
      let d = disjuncts_back g.numbers the_locations the_family ds to_problem from_problem the_constants g.order
      g.second g.judged.right s t h (fits_placed the_constants g.order t) g.fine_second.0 g.judged.disjuncts o in
      let none : OneCaseHolds the_locations the_family s [] [] d.0 =
      subst (λ l. OneCaseHolds the_locations the_family s [] l d.0) asked d.2 in
      none)
