-- The first stack that was found, with its first heap, is the first counter-model.
use Rattle.std.proofs.Common.{◌≡◌, ◌≢◌, ◌⊎◌, inl, inr, Bool, true, false, ℕ, List, Option, Some, None, sym, ◌∙◌, subst}
use Rattle.std.specs.declared.cmp.Ordering.TheVariants.{Greater}
use Rattle.std.specs.Ordering.{nat_cmp}
use Rattle.std.specs.Cmp.Lexicographic.{slice_cmp}
use Rattle.heap_formula.specs.declared.judgements.Judgement.TheVariants.{Entail}
use Rattle.heap_formula.specs.Symbolic.{SymbolicHeap}
use Rattle.heap_formula.specs.Definitions.{Definition}
use Rattle.heap_formula.specs.Fresh.{judgement_bound}
use Rattle.heap_formula.specs.Values.{Stack}
use Rattle.heap_formula.specs.Cells.{Cells}
use Rattle.heap_formula.proofs.HeapLaws.{satisfied_IsHeap}
use Rattle.counter_model.specs.Bounds.{IsWithin}
use Rattle.counter_model.specs.declared.first_stacks.CounterModel.{CounterModel}
use Rattle.counter_model.specs.Sizes.{IsWidth, IsOfSize}
use Rattle.counter_model.specs.FirstCounter.{HasSize, IsCounter, IsFirstCounter}
use Rattle.counter_model.specs.Tightness.{IsStack}
use Rattle.std.specs.Prelude.{IsTrue}
use Rattle.counter_model.specs.Sizes.{heap_cmp}
use Rattle.counter_model.specs.Leading.{IsLed}
use Rattle.counter_model.specs.Leaders.{IsStackLed, IsLeader}
use Rattle.counter_model.proofs.OrderLaws.{heap_first, heap_itself, stack_first, stack_itself}
use Rattle.counter_model.proofs.TightFirst.{tight_first, tight_none}
use Rattle.counter_model.proofs.TwoLevels.{first_pair}
use Rattle.counter_model.proofs.Widths.{satisfied_width}

module _ (ds : List Definition) (a : SymbolicHeap) (bs : List SymbolicHeap) (n : ℕ) where
  sized : (long : ℕ) (s : Stack) (h : Cells) → IsStack n long s → IsWithin n h → IsCounter ds a bs s h
      → IsOfSize n long (IsWidth ds a bs) s h
  sized long s h i w c = record {
    stack = i.count;
    entries = i.entries;
    addresses = w.addresses;
    cells = λ q vs e. record {
      count = satisfied_width ds a bs s h c.antecedent q vs e;
      positive = (satisfied_IsHeap ds s h a c.antecedent).fields q vs e;
      fields = w.fields q vs e;
    };
  }

  stack_of : (long : ℕ) (s : Stack) (h : Cells) → IsOfSize n long (IsWidth ds a bs) s h → IsStack n long s
  stack_of long s h z = record { count = z.stack; entries = z.entries }

  within : (long : ℕ) (s : Stack) (h : Cells) → IsOfSize n long (IsWidth ds a bs) s h → IsWithin n h
  within long s h z = record { addresses = z.addresses; fields = λ q vs e. (z.cells q vs e).fields }

  pub found_first : (m : CounterModel) → IsLeader n (judgement_bound (Entail a bs)) ds a bs (Some m)
      → IsFirstCounter ds a bs n m.stack m.heap
  found_first m l =
      let long = judgement_bound (Entail a bs) in
      let c = l.pair.1.counter.1 in
      let z = sized long m.stack m.heap l.pair.0 l.pair.1.counter.0 c in
      first_pair ds a bs n m.stack m.heap z c (tight_first ds a bs n long (IsWidth ds a bs) m.stack
      (λ t g b y d. l.first t g (stack_of long t g y) b (within long t g y) d))
      (λ g y d. l.pair.1.first g (within long m.stack g y) d)

  pub none_found : IsLeader n (judgement_bound (Entail a bs)) ds a bs None → (s : Stack) (h : Cells)
      → HasSize ds a bs n s h → IsCounter ds a bs s h → ⊥
  none_found l =
      let long = judgement_bound (Entail a bs) in
      tight_none ds a bs n long (IsWidth ds a bs) (λ t g b y d.
      l.first t g (stack_of long t g y) b (within long t g y) d)

-- the number of entries, as it was computed
pub same_bound : (n j k : ℕ) (ds : List Definition) (a : SymbolicHeap) (bs : List SymbolicHeap)
    (o : Option CounterModel) → j ≡ k → IsLeader n j ds a bs o → IsLeader n k ds a bs o
same_bound n j k ds a bs o e l = subst (λ i. IsLeader n i ds a bs o) e l

-- ---- what leads

pub heap_leads : (n : ℕ) (o : Option Cells) (x y g : Cells) (b : Bool)
    → (IsTrue b → IsLed n o x) × (IsLed n o x → IsTrue b) → b ≡ false → y ≡ x → (IsLed n o g ⊎ (x ≡ g))
    → heap_cmp n y g ≢ Greater
heap_leads n o x y g b f e same k =
    subst (λ z. heap_cmp n z g ≢ Greater) (sym same) (elim k as (λ z. heap_cmp n x g ≢ Greater) [
      | inl l ↦ from o (λ i. let t : b ≡ true = f.1 i in let z : true ≡ false = sym t ∙ e in cc) l
      | inr s ↦ subst (λ z. heap_cmp n x z ≢ Greater) s (heap_itself n x)
    ])
  where
    from : (o : Option Cells) → (IsLed n o x → ⊥) → IsLed n o g → heap_cmp n x g ≢ Greater
    from None a l = absurd l
    from (Some h) a l = heap_first n h x g a l

pub stack_leads : (o : Option CounterModel) (x y t : Stack) (b : Bool)
    → (IsTrue b → IsStackLed o x) × (IsStackLed o x → IsTrue b) → b ≡ false → y ≡ x → (IsStackLed o t ⊎ (x ≡ t))
    → slice_cmp nat_cmp y t ≢ Greater
stack_leads o x y t b f e same k =
    subst (λ z. slice_cmp nat_cmp z t ≢ Greater) (sym same) (elim k as (λ z. slice_cmp nat_cmp x t ≢ Greater) [
      | inl l ↦ from o (λ i. let r : b ≡ true = f.1 i in let z : true ≡ false = sym r ∙ e in cc) l
      | inr s ↦ subst (λ z. slice_cmp nat_cmp x z ≢ Greater) s (stack_itself x)
    ])
  where
    from : (o : Option CounterModel) → (IsStackLed o x → ⊥) → IsStackLed o t → slice_cmp nat_cmp x t ≢ Greater
    from None a l = absurd l
    from (Some m) a l = stack_first m.stack x t a l
