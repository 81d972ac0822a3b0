-- The first counter-model of a size may stand in a model file.
use Rattle.std.proofs.Common.{◌≡◌, ℕ, ◌<◌, ◌≤◌, ◌^◌, List, [], ◌∷◌, length, Some, subst, inl, inr, arith}
use Rattle.std.specs.FinMap.{entries, len, len-entries}
use Rattle.cyc_basics.specs.declared.limits.Limits.{Limits}
use Rattle.heap_formula.specs.declared.judgements.Judgement.{Judgement}
use Rattle.heap_formula.specs.declared.judgements.Judgement.TheVariants.{Entail}
use Rattle.heap_formula.specs.declared.atoms.Spatial.{Spatial}
use Rattle.heap_formula.specs.declared.atoms.Spatial.TheVariants.{Cell as CellAtom, Pred}
use Rattle.heap_formula.specs.Definitions.{Definition}
use Rattle.heap_formula.specs.Symbolic.{SymbolicHeap}
use Rattle.heap_formula.specs.Fresh.{judgement_bound}
use Rattle.heap_formula.specs.Words.{Each, OneOf}
use Rattle.heap_formula.specs.Values.{Stack}
use Rattle.heap_formula.specs.Cells.{Cells, cell_at}
use Rattle.rule_book.specs.Limits.{HasFields, IsHeapWithin, IsJudgementWithin, IsCaseWithin, IsDefinitionWithin}
use Rattle.model_file.specs.Small.{IsShortNumber}
use Rattle.model_file.specs.Versions.{version_for}
use Rattle.model_file.proofs.Parts.{eight_fields, sixteen_cells}
use Rattle.counter_model.proofs.ModelTrees.{file_limits}
use Rattle.formula_reader.proofs.Within.{problem_keeps}
use Rattle.formula_reader.specs.declared.problem.Problem.{Problem}
use Rattle.counter_model.specs.States.{IsPlainCell, IsPlainState}
use Rattle.counter_model.proofs.PlainCells.{all_entries}
use Rattle.counter_model.specs.Sizes as sizes
use Rattle.counter_model.specs.Sizes.{IsWidth, IsWidthIn}
use Rattle.counter_model.specs.FirstCounter.{HasSize}
use Rattle.command_answers.proofs.FewCells.{few_cells}
use Rattle.heap_formula.proofs.AllMembers.{each_imply}

-- ---- cells have at most eight fields

atom_few : (k : ℕ) (x : Spatial) → HasFields x → sizes.HasFields k x → k ≤ 8
atom_few k (CellAtom t ts) f e = let l : length ts ≤ 8 = f.1 in let g : length ts ≡ k = e in omega arith
atom_few k (Pred p ts) f e = absurd e

one_few : {X : Type 0} (P Q : X → Type 0) (A : Type 0) → ((x : X) → P x → Q x → A) → (xs : List X) → Each P xs
    → OneOf Q xs → A
one_few P Q A f [] a o = absurd o
one_few P Q A f (x ∷ xs) a (inl q) = f x a.0 q
one_few P Q A f (x ∷ xs) a (inr o) = one_few P Q A f xs a.1 o

heap_few : (most : Limits) (ds : List Definition) (k : ℕ) (a : SymbolicHeap) → IsHeapWithin most ds a → IsWidthIn k a
    → k ≤ 8
heap_few most ds k a w o = one_few HasFields (sizes.HasFields k) (k ≤ 8) (atom_few k) a.spatial w.fields o

width_few : (most : Limits) (count : ℕ) (ds : List Definition) (a : SymbolicHeap) (bs : List SymbolicHeap) (k : ℕ)
    → Each (IsDefinitionWithin most ds) ds → IsJudgementWithin most ds count (Entail a bs) → IsWidth ds a bs k → k ≤ 8
width_few most count ds a bs k w j (inl o) =
    one_few (IsDefinitionWithin most ds) (λ d. OneOf (IsWidthIn k) d.cases) (k ≤ 8)
    (λ d x p. one_few (IsCaseWithin most ds d.arity) (IsWidthIn k) (k ≤ 8) (λ c y q. heap_few most ds k c y.heap q)
    d.cases x.cases p) ds w o
width_few most count ds a bs k w j (inr o) = one_few (IsHeapWithin most ds) (IsWidthIn k) (k ≤ 8) (heap_few most ds k)
    (a ∷ bs) j.heaps o

-- ---- the state

short : (n : ℕ) → n ≤ 4 → IsShortNumber n
short n l = omega arith

module _ (n : ℕ) (p : Problem) (a : SymbolicHeap) (bs : List SymbolicHeap) (s : Stack) (h : Cells) (size : n ≤ 4)
    (goal : p.goal ≡ Entail a bs) (few : judgement_bound (Entail a bs) ≤ 8) (z : HasSize p.defs.list a bs n s h) where
  judged : IsJudgementWithin p.defs.most p.defs.list (length p.program) (Entail a bs)
  judged = subst (λ (g : Judgement). IsJudgementWithin p.defs.most p.defs.list (length p.program) g) goal
      (problem_keeps p).goal

  plain : (q : ℕ) (vs : List ℕ) → cell_at h q ≡ Some vs → IsPlainCell (file_limits p) (q, vs)
  plain q vs e =
      let c = z.cells q vs e in
      let k = z.addresses q vs e in
      let l : q ≤ n = k.1 in
      let narrow : length vs ≤ 8 = width_few p.defs.most (length p.program) p.defs.list a bs (length vs)
      (problem_keeps p).definitions judged c.count in
      let room = eight_fields (version_for p.version) in
      record {
        positive = k.0;
        address = short q (omega arith);
        some = c.positive;
        few = omega arith;
        fields = each_imply (λ v. v ≤ n) IsShortNumber (λ v m. short v (omega arith)) vs c.fields;
      }

  pub plain_state : IsPlainState (file_limits p) s h
  plain_state = record {
    short = let l : length s ≡ judgement_bound (Entail a bs) = z.stack in omega arith;
    values = each_imply (λ v. v ≤ n) IsShortNumber (λ v m. short v (omega arith)) s z.entries;
    few = let f : len h ≤ n = few_cells n h (record {
      addresses = z.addresses;
      fields = λ q vs e. (z.cells q vs e).fields;
    }) in let k : len h ≡ length (entries h) = len-entries h in
        let room = sixteen_cells (version_for p.version) in
        omega arith;
    cells = all_entries (IsPlainCell (file_limits p)) h plain;
  }
