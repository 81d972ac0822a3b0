-- When the search is refused.
use Rattle.std.proofs.Common.{◌≡◌, ℕ, ◌≤◌, max, map, List, Option, Some, None, refl, ap, ◌∙◌, subst}
use Rattle.std.specs.Prelude.{◌↔◌}
use Rattle.heap_formula.specs.declared.judgements.Judgement.TheVariants.{Entail}
use Rattle.heap_formula.specs.Symbolic.{SymbolicHeap}
use Rattle.heap_formula.specs.Definitions.{Definition}
use Rattle.heap_formula.specs.Words.{Each, max_of}
use Rattle.heap_formula.specs.Fresh.{heap_bound, judgement_bound}
use Rattle.heap_formula.specs.Values.{Stack}
use Rattle.heap_formula.specs.Cells.{Cells}
use Rattle.model_check.specs.declared.places.Place.{Place}
use Rattle.model_check.specs.Constructive.{IsConstructive}
use Rattle.model_check.specs.FirstPlaces.{IsPlace, IsFirstPlace}
use Rattle.counter_model.specs.declared.refuting.Refuted.{Refuted}
use Rattle.counter_model.specs.declared.refuting.Refuted.TheVariants.{Found, NotFound, NotConstructive}
use Rattle.counter_model.proofs.OnePlace.{one_place, no_place}

pub bound_is : (a : SymbolicHeap) (bs hs : List SymbolicHeap) (b x y : ℕ) → b ≡ max x y → x ≡ heap_bound a
    → y ≡ max_of (map heap_bound hs) → hs ≡ bs → b ≡ judgement_bound (Entail a bs)
bound_is a bs hs b x y e f g h =
    e ∙ ap (λ i. max i y) f ∙ ap (max (heap_bound a)) g ∙ ap (λ cs. max (heap_bound a) (max_of (map heap_bound cs))) h

same_place : (x p : Place) → ◌≡◌ {A = Refuted} (NotConstructive x) (NotConstructive p) → x ≡ p
same_place x p e = cc

pub place_named : (ds : List Definition) (a : SymbolicHeap) (bs hs : List SymbolicHeap) (b : ℕ) (x : Place)
    → b ≡ judgement_bound (Entail a bs) → b ≤ 8 → hs ≡ bs → IsFirstPlace ds hs (Some x) → (p : Place)
    → (◌≡◌ {A = Refuted} (NotConstructive x) (NotConstructive p))
    ↔ ((judgement_bound (Entail a bs) ≤ 8) × IsPlace ds bs p)
place_named ds a bs hs b x e l h k p =
    let k' : IsPlace ds bs x = subst (λ cs. IsPlace ds cs x) h k in (
      λ q. (subst (λ i. i ≤ 8) e l, subst (IsPlace ds bs) (same_place x p q) k'),
      λ q. ap NotConstructive (one_place ds bs x p k' q.1),
    )

pub no_place_named : (ds : List Definition) (a : SymbolicHeap) (bs hs : List SymbolicHeap) (r : Refuted)
    → ((p : Place) → ◌≡◌ {A = Refuted} r (NotConstructive p) → ⊥) → hs ≡ bs → IsFirstPlace ds hs None → (p : Place)
    → (r ≡ NotConstructive p) ↔ ((judgement_bound (Entail a bs) ≤ 8) × IsPlace ds bs p)
no_place_named ds a bs hs r n h k p = (
  λ q. absurd (n p q),
  λ q. absurd (no_place ds bs p k.0 (subst (λ cs. Each IsConstructive cs) h k.1) q.1),
)

pub not_found_other : (p : Place) → ◌≡◌ {A = Refuted} NotFound (NotConstructive p) → ⊥
not_found_other p e = cc

pub found_other : (s : Stack) (h : Cells) (p : Place) → ◌≡◌ {A = Refuted} (Found s h) (NotConstructive p) → ⊥
found_other s h p e = cc

pub found_stack : (s t : Stack) (h g : Cells) → ◌≡◌ {A = Refuted} (Found s h) (Found t g) → s ≡ t
found_stack s t h g e = cc

pub found_heap : (s t : Stack) (h g : Cells) → ◌≡◌ {A = Refuted} (Found s h) (Found t g) → h ≡ g
found_heap s t h g e = cc

pub none_left : (o : Option Place) → ((x : Place) → o ≡ Some x → ⊥) → o ≡ None
none_left None n = refl
none_left (Some x) n = absurd (n x refl)
