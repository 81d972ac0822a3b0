-- The first flaw of a text that the grammar has: what is ill-formed or passes a limit, and at which token.
use Rattle.std.specs.Prelude.{◌≡◌, ℕ, suc, ◌+◌, Bool, true, false, not, nat_eq, nat_le, if◌then◌else◌, List, [], ◌∷◌}
use Rattle.std.specs.Prelude.{length, Option, Some, None, Result, Ok, Err}
use Rattle.std.specs.Str.{bytes_eq}
use Rattle.cyc_basics.specs.declared.limits.Limits.{Limits}
use Rattle.cyc_basics.specs.declared.limits.TheConstants.{MOST_DISJUNCTS}
use Rattle.cyc_lex.specs.declared.fault.IllFault.{IllFault}
use Rattle.cyc_lex.specs.declared.fault.IllFault.TheVariants.{Unknown, Arity}
use Rattle.cyc_lex.specs.declared.fault.What.{What}
use Rattle.cyc_lex.specs.declared.fault.What.TheVariants.{Arguments, Cases, Pure, Spatial as SpatialAtoms}
use Rattle.heap_syntax.specs.declared.tree.PureTree.{PureTree}
use Rattle.heap_syntax.specs.Trees.{Spatial, Cell, Predicate, Heap}
use Rattle.heap_reader.specs.declared.flaw.Item.TheVariants.{Ill, Over}
use Rattle.heap_reader.specs.declared.flaw.Flaw.{Flaw}
use Rattle.heap_reader.specs.Trees.{Heading}
use Rattle.heap_reader.specs.Spans.{pure_span, pures_span, spatial_span, heap_span}

-- a flaw, or none
abbrev pub Found : Type 0
Found = Option Flaw

abbrev pub ill_if : Bool → IllFault → ℕ → Found
ill_if true fault k = Some (record { item = Ill fault; token = k })
ill_if false fault k = None

abbrev pub over_if : Bool → What → ℕ → Found
over_if true what k = Some (record { item = Over what; token = k })
over_if false what k = None

-- the first of two
abbrev pub or_later : Found → Found → Found
or_later (Some flaw) later = Some flaw
or_later None later = later

-- the first flaw of the members, of which n stand before and the first begins at token k
abbrev pub listed_flaw : {X : Type 0} → (ℕ → ℕ → X → Found) → (X → ℕ) → ℕ → ℕ → List X → Found
listed_flaw flaw span n k [] = None
listed_flaw flaw span n k (x ∷ xs) = or_later (flaw n k x) (listed_flaw flaw span (suc n) (k + span x) xs)

-- ---- predicates

-- the arity of the first predicate with a name
abbrev pub arity_in : List Heading → List ℕ → Option ℕ
arity_in [] name = None
arity_in (h ∷ hs) name = if bytes_eq h.name name then Some h.arity else arity_in hs name

-- a predicate of this arity, if there is one, is used with n arguments
abbrev pub use_flaw : Option ℕ → ℕ → ℕ → Found
use_flaw None n k = ill_if true Unknown k
use_flaw (Some arity) n k = ill_if (not (nat_eq n arity)) Arity k

-- how many heaps may stand together
abbrev pub heap_limit : Limits → What → ℕ
heap_limit most Cases = most.cases
heap_limit most what = MOST_DISJUNCTS

-- ---- heaps, over the flaw and the span of a term and what the version allows; each part begins at token k, and n
-- ---- members stand before it

module _ {T : Type 0} (flaw : ℕ → T → Found) (span : T → ℕ) (most : Limits) where
  abbrev pub argument_flaw : ℕ → ℕ → T → Found
  argument_flaw n k t = or_later (over_if (nat_le most.arguments n) Arguments k) (flaw k t)

  abbrev pub arguments_flaw : ℕ → List T → Found
  arguments_flaw k ts = listed_flaw argument_flaw span 0 k ts

  abbrev pub pure_flaw : ℕ → ℕ → PureTree T → Found
  pure_flaw n k x = or_later (over_if (nat_le most.pure n) Pure k)
      (or_later (flaw k x.left) (flaw (k + span x.left) x.right))

  abbrev pub cell_flaw : ℕ → ℕ → T → List T → Found
  cell_flaw n k t ts = or_later (over_if (nat_le most.spatial n) SpatialAtoms k)
      (or_later (flaw k t) (arguments_flaw (k + span t + 1) ts))

  module _ (hs : List Heading) where
    -- the name's flaws stand at the same token as the limit's, and go first
    abbrev pub spatial_flaw : ℕ → ℕ → Spatial T → Found
    spatial_flaw n k (Cell t ts) = cell_flaw n k t ts
    spatial_flaw n k (Predicate name ts) =
        or_later (use_flaw (arity_in hs name) (length ts) k)
        (or_later (over_if (nat_le most.spatial n) SpatialAtoms k) (arguments_flaw (k + 2) ts))

    abbrev pub heap_flaw : ℕ → Heap T → Found
    heap_flaw k h =
        or_later (listed_flaw pure_flaw (pure_span span) 0 k h.pure)
        (listed_flaw spatial_flaw (spatial_span span) 0 (k + pures_span span h.pure) h.spatial)

    abbrev pub counted_flaw : What → ℕ → ℕ → Heap T → Found
    counted_flaw what n k h = or_later (over_if (nat_le (heap_limit most what) n) what k) (heap_flaw k h)

    abbrev pub heaps_flaw : What → ℕ → List (Heap T) → Found
    heaps_flaw what k heaps = listed_flaw (counted_flaw what) (heap_span span) 0 k heaps

-- ---- answers

-- the walk ends after the part where it has no flaw, and else names the first
abbrev pub IsWalk : Result ℕ Flaw → Found → ℕ → Type 0
IsWalk (Ok next) found behind = (found ≡ None) × (next ≡ behind)
IsWalk (Err flaw) found behind = found ≡ Some flaw

-- there is no flaw, or this one
abbrev pub IsName : Result (Unit {0}) Flaw → Found → Type 0
IsName (Ok _) found = found ≡ None
IsName (Err flaw) found = found ≡ Some flaw
