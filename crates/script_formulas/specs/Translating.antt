-- Cases of a script as symbolic heaps of its problem.
use Rattle.std.specs.Prelude.{◌≡◌, ◌≢◌, ℕ, ◌+◌, ◌<◌, List, [], ◌∷◌, ◌++◌, length, slice_index, slice_index_or, replicate}
use Rattle.std.specs.Prelude.{Bool, true, false}
use Rattle.std.specs.List.{AllZip}
use Rattle.heap_formula.specs.declared.terms.Term.{Term}
use Rattle.heap_formula.specs.declared.terms.Term.TheVariants.{Nil, Univ, Exist}
use Rattle.heap_formula.specs.declared.atoms.Pure.{Pure}
use Rattle.heap_formula.specs.declared.atoms.Pure.TheVariants.{Eq, Neq}
use Rattle.heap_formula.specs.declared.atoms.Spatial.{Spatial}
use Rattle.heap_formula.specs.declared.atoms.Spatial.TheVariants.{Cell as CellAtom, Pred}
use Rattle.heap_formula.specs.Symbolic.{SymbolicHeap}
use Rattle.script_formulas.specs.declared.formula.ScriptAtom.{ScriptAtom}
use Rattle.script_formulas.specs.declared.formula.ScriptAtom.TheVariants.{Cell, Call}
use Rattle.script_formulas.specs.declared.goals.heaps.Numbers.{Numbers}
use Rattle.script_formulas.specs.declared.goals.heaps.Variables.{Variables}
use Rattle.script_formulas.specs.declared.goals.heaps.Free.{Free}
use Rattle.script_formulas.specs.declared.goals.heaps.Free.TheVariants.{Known, Placed}
use Rattle.script_formulas.specs.declared.goals.heaps.Quantified.{Quantified}
use Rattle.script_formulas.specs.declared.goals.heaps.Quantified.TheVariants.{Raised, Local}
use Rattle.script_formulas.specs.Cases.{SymbolicCase}

-- n stands at place k of the list
abbrev pub IsPlaceOf : List ℕ → ℕ → ℕ → Type 0
IsPlaceOf ns n k = (k < length ns) × (slice_index ns k ≡ n)

-- and at no place before
pub record IsFirstPlaceOf (ns : List ℕ) (n k : ℕ) : Type 0 where
  pub place : IsPlaceOf ns n k
  pub first : (i : ℕ) → i < k → slice_index ns i ≢ n

-- a variable that is not quantified, as a term of the problem
abbrev pub IsFree : Free → ℕ → Term → Type 0
IsFree (Known most) n u = (n < most) × (u ≡ Univ n)
IsFree (Placed most ns) n u = (n < most) × ((k : ℕ) × IsFirstPlaceOf ns.now n k × (u ≡ Univ k))

-- a quantified one
abbrev pub IsQuantified : Quantified → ℕ → Term → Type 0
IsQuantified (Raised most ns) n u = (k : ℕ) × IsFirstPlaceOf ns.now (most + n) k × (u ≡ Univ k)
IsQuantified (Local ns) n u = (k : ℕ) × IsFirstPlaceOf ns.now n k × (u ≡ Exist k)

abbrev pub IsTermOf : Variables → Term → Term → Type 0
IsTermOf v Nil u = u ≡ Nil
IsTermOf v (Univ n) u = IsFree v.free n u
IsTermOf v (Exist n) u = IsQuantified v.quantified n u

abbrev pub AreTermsOf : Variables → List Term → List Term → Type 0
AreTermsOf v ts us = AllZip (IsTermOf v) ts us

-- the terms, and `nil` behind them
abbrev pub AreFilled : Variables → List Term → List Term → Type 0
AreFilled v ts us = (front : List Term) × (more : ℕ) × AreTermsOf v ts front × (us ≡ front ++ replicate more Nil)

abbrev pub IsPureOf : Variables → Pure → Pure → Type 0
IsPureOf v (Eq t u) q = (x : Term) × (y : Term) × IsTermOf v t x × IsTermOf v u y × (q ≡ Eq x y)
IsPureOf v (Neq t u) q = (x : Term) × (y : Term) × IsTermOf v t x × IsTermOf v u y × (q ≡ Neq x y)

-- a cell gets the number of fields that tells its constructor, those that it lacks are `nil`; a predicate gets its
-- number in the problem
abbrev pub IsSpatialOf : Numbers → Variables → ScriptAtom → Spatial → Type 0
IsSpatialOf numbers v (Cell t c ts) y = (x : Term) × (xs : List Term) × IsTermOf v t x × AreFilled v ts xs
    × (length ts ≡ slice_index numbers.fields.items c) × (length xs ≡ slice_index numbers.widths.items c)
    × (0 < length xs) × (y ≡ CellAtom x xs) × (c < length numbers.fields.items)
IsSpatialOf numbers v (Call p ts) y = (k : ℕ) × (xs : List Term) × IsPlaceOf numbers.predicates.items p k
    × AreTermsOf v ts xs × (y ≡ Pred k xs)

abbrev pub IsHeapOf : Numbers → Variables → SymbolicCase → SymbolicHeap → Type 0
IsHeapOf numbers v c h = AllZip (IsPureOf v) c.pure h.pure × AllZip (IsSpatialOf numbers v) c.atoms h.spatial

-- the quantified variables stay ones
abbrev pub AreLocal : Quantified → Type 0
AreLocal (Raised most ns) = ⊥
AreLocal (Local ns) = Unit {0}

-- each case as a heap, with numbers of its own for its quantified variables
abbrev pub IsCaseOf : Numbers → Free → SymbolicCase → SymbolicHeap → Type 0
IsCaseOf numbers free c h = (v : Variables) × (v.free ≡ free) × AreLocal v.quantified × IsHeapOf numbers v c h

abbrev pub AreHeapsOf : Numbers → Free → List SymbolicCase → List SymbolicHeap → Type 0
AreHeapsOf numbers free cs hs = AllZip (IsCaseOf numbers free) cs hs

-- the heap of nothing
abbrev pub impossible : SymbolicHeap
impossible = record { pure = Neq Nil Nil ∷ []; spatial = [] }

-- the constants below a number have their places in this list for numbers
abbrev pub ArePlaced : Free → ℕ → List ℕ → Type 0
ArePlaced (Known most) constants order = ⊥
ArePlaced (Placed most ns) constants order = (most ≡ constants) × (ns.now ≡ order)

-- so do the quantified variables, whose numbers begin behind them
abbrev pub AreRaised : Quantified → ℕ → List ℕ → Type 0
AreRaised (Raised most ns) constants order = (most ≡ constants) × (ns.now ≡ order)
AreRaised (Local ns) constants order = ⊥

-- a disjunct for each case, or one that never holds
abbrev pub AreDisjuncts : Numbers → ℕ → List ℕ → List SymbolicCase → List SymbolicHeap → Type 0
AreDisjuncts numbers constants order [] hs = hs ≡ impossible ∷ []
AreDisjuncts numbers constants order (c ∷ cs) hs = (free : Free) × ArePlaced free constants order
    × AreHeapsOf numbers free (c ∷ cs) hs

-- no two constructors have one width, but for 0, that of those that do not occur
abbrev pub AreToldApart : List ℕ → Type 0
AreToldApart widths = (i j : ℕ) → 0 < slice_index widths i → slice_index widths i ≡ slice_index widths j → i ≡ j

-- so it is with these, and of each that occurs it is marked that it is taken
abbrev pub AreGiven : List ℕ → List Bool → Type 0
AreGiven widths taken = AreToldApart widths
    × ((i : ℕ) → 0 < slice_index widths i → slice_index_or taken (slice_index widths i) false ≡ true)
