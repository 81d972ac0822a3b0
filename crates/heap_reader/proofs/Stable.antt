-- Definitions that follow change no first flaw but that of a name without a definition.
use Rattle.std.proofs.Common.{◌≡◌, ◌⊎◌, inl, inr, ℕ, zero, suc, ◌+◌, ◌≤◌, Bool, true, false, List, [], ◌∷◌, ◌++◌}
use Rattle.std.proofs.Common.{length, take, Some, None, refl, sym, ap, ◌∙◌, arith}
use Rattle.std.specs.Prelude.{if◌then◌else◌, is_some, nat_le, nat_lt}
use Rattle.std.specs.Str.{bytes_eq}
use Rattle.cyc_basics.specs.declared.limits.Limits.{Limits}
use Rattle.cyc_lex.specs.declared.fault.What.{What}
use Rattle.cyc_lex.specs.declared.fault.What.TheVariants.{Spatial as SpatialAtoms, Cases, Predicates, Arguments}
use Rattle.cyc_lex.specs.declared.fault.IllFault.TheVariants.{Duplicate}
use Rattle.heap_reader.specs.declared.flaw.Flaw.{Flaw}
use Rattle.heap_reader.specs.Trees.{Heading}
use Rattle.heap_reader.specs.Spans.{pure_span, pures_span, spatial_span, heap_span}
use Rattle.heap_reader.specs.Flaws.{Found, ill_if, over_if, or_later, listed_flaw, arguments_flaw, pure_flaw, arity_in}
use Rattle.heap_reader.specs.Flaws.{use_flaw, spatial_flaw, heap_flaw, heap_limit, counted_flaw, heaps_flaw}
use Rattle.heap_syntax.specs.Trees.{Spatial, Cell, Predicate, Heap}
use Rattle.heap_syntax.specs.DefinitionTrees.{Definition}
use Rattle.heap_reader.specs.declared.definitions.scope.Scope.TheVariants.{Case as InCase}
use Rattle.heap_reader.specs.DefinitionSpans.{term_span}
use Rattle.heap_reader.specs.DefinitionFlaws.{term_flaw, head_flaw, definition_flaw}
use Rattle.heap_reader.specs.Items.{is_unknown}

-- the same, or the first is a name without a definition
abbrev pub Stable : Found → Found → Type 0
Stable a b = (a ≡ b) ⊎ ((f : Flaw) × (a ≡ Some f) × (is_unknown f.item ≡ true))

later : (a c d : Found) → Stable c d → Stable (or_later a c) (or_later a d)
later None c d s = s
later (Some f) c d s = inl refl

pub both : (a b c d : Found) → Stable a b → Stable c d → Stable (or_later a c) (or_later b d)
both a b c d (inl same) s = shift (later a c d s)
  where
    shift : Stable (or_later a c) (or_later a d) → Stable (or_later a c) (or_later b d)
    shift (inl e) = inl (e ∙ ap (λ (x : Found). or_later x d) same)
    shift (inr u) = inr u
both a b c d (inr u) s = inr (u.0, ap (λ (x : Found). or_later x c) u.1, u.2)

listed_stable : {X : Type 0} (flaw other : ℕ → ℕ → X → Found) (span : X → ℕ)
    → ((n k : ℕ) (x : X) → Stable (flaw n k x) (other n k x)) → (n k : ℕ) (xs : List X)
    → Stable (listed_flaw flaw span n k xs) (listed_flaw other span n k xs)
listed_stable flaw other span one n k [] = inl refl
listed_stable flaw other span one n k (x ∷ xs) =
    both (flaw n k x) (other n k x) (listed_flaw flaw span (suc n) (k + span x) xs)
    (listed_flaw other span (suc n) (k + span x) xs) (one n k x)
    (listed_stable flaw other span one (suc n) (k + span x) xs)

use_stable : (hs more : List Heading) (name : List ℕ) (n k : ℕ)
    → Stable (use_flaw (arity_in hs name) n k) (use_flaw (arity_in (hs ++ more) name) n k)
use_stable [] more name n k = inr (_, refl, refl)
use_stable (h ∷ hs) more name n k = by_first (bytes_eq h.name name) (use_stable hs more name n k)
  where
    by_first : (b : Bool) → Stable (use_flaw (arity_in hs name) n k) (use_flaw (arity_in (hs ++ more) name) n k)
        → Stable (use_flaw (if b then Some h.arity else arity_in hs name) n k)
        (use_flaw (if b then Some h.arity else arity_in (hs ++ more) name) n k)
    by_first true s = inl refl
    by_first false s = s

module _ {T : Type 0} (flaw : ℕ → T → Found) (span : T → ℕ) (most : Limits) (hs more : List Heading) where
  spatial_stable : (n k : ℕ) (x : Spatial T) → Stable (spatial_flaw flaw span most hs n k x)
      (spatial_flaw flaw span most (hs ++ more) n k x)
  spatial_stable n k (Cell t ts) = inl refl
  spatial_stable n k (Predicate name ts) =
      let rest = or_later (over_if (nat_le most.spatial n) SpatialAtoms k) (arguments_flaw flaw span most (k + 2) ts) in
      both (use_flaw (arity_in hs name) (length ts) k) (use_flaw (arity_in (hs ++ more) name) (length ts) k) rest rest
      (use_stable hs more name (length ts) k) (inl refl)

  pub heap_stable : (k : ℕ) (h : Heap T) → Stable (heap_flaw flaw span most hs k h)
      (heap_flaw flaw span most (hs ++ more) k h)
  heap_stable k h =
      later (listed_flaw (pure_flaw flaw span most) (pure_span span) 0 k h.pure) _ _
      (listed_stable (spatial_flaw flaw span most hs) (spatial_flaw flaw span most (hs ++ more)) (spatial_span span)
      spatial_stable 0 (k + pures_span span h.pure) h.spatial)

  pub heaps_stable : (what : What) (k : ℕ) (heaps : List (Heap T))
      → Stable (heaps_flaw flaw span most hs what k heaps) (heaps_flaw flaw span most (hs ++ more) what k heaps)
  heaps_stable what k heaps =
      listed_stable (counted_flaw flaw span most hs what) (counted_flaw flaw span most (hs ++ more) what)
      (heap_span span) (λ n j h. later (over_if (nat_le (heap_limit most what) n) what j) _ _ (heap_stable j h)) 0 k
      heaps

-- a flaw that is none stays none, and one of another kind stays
pub stays_none : (a b : Found) → a ≡ None → Stable a b → b ≡ None
stays_none a b e (inl same) = sym same ∙ e
stays_none a b e (inr u) = absurd (let clash : Some u.0 ≡ None = sym u.1 ∙ e in cc)

pub stays : (a b : Found) (f : Flaw) → a ≡ Some f → is_unknown f.item ≡ false → Stable a b → b ≡ Some f
stays a b f e known (inl same) = sym same ∙ e
stays a b f e known (inr u) =
    let own : Some u.0 ≡ Some f = sym u.1 ∙ e in
    let same : u.0 ≡ f = cc in
    absurd (let clash : true ≡ false = sym u.2 ∙ ap (λ (g : Flaw). is_unknown g.item) same ∙ known in cc)

-- ---- definitions

front_kept : (hs more : List Heading) (n : ℕ) → n ≤ length hs → take n (hs ++ more) ≡ take n hs
front_kept hs more zero le = refl
front_kept [] more (suc n) le = absurd (omega arith)
front_kept (h ∷ hs) more (suc n) le = ap (λ (xs : List Heading). h ∷ xs) (front_kept hs more n (omega arith))

pub definition_stable : (most : Limits) (hs more : List Heading) (n k : ℕ) (d : Definition) → n ≤ length hs
    → Stable (definition_flaw most hs n k d) (definition_flaw most (hs ++ more) n k d)
definition_stable most hs more n k d le =
    both (head_flaw most hs n k d) (head_flaw most (hs ++ more) n k d)
    (heaps_flaw (term_flaw (InCase d.arity most.locals)) term_span most hs Cases (k + 6) d.cases)
    (heaps_flaw (term_flaw (InCase d.arity most.locals)) term_span most (hs ++ more) Cases (k + 6) d.cases)
    (inl (ap (λ (front : List Heading). or_later (over_if (nat_le 4096 n) Predicates k)
    (or_later (ill_if (is_some (arity_in front d.name)) Duplicate (k + 1))
    (over_if (nat_lt most.arguments d.arity) Arguments (k + 3)))) (sym (front_kept hs more n le))))
    (heaps_stable (term_flaw (InCase d.arity most.locals)) term_span most hs more Cases (k + 6) d.cases)
