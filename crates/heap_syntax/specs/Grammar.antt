-- The grammar of symbolic heaps over terms of any form.
use Rattle.std.specs.Prelude.{ℕ, ◌<◌, Bool, true, false, List, [], ◌∷◌, ◌⊎◌, length}
use Rattle.std.proofs.Common.{inl, inr}
use Rattle.cyc_grammar.specs.Syntax.{Syntax, Class, one, seq, alt, many, shaped, after, before, is_one, uncons, list1}
use Rattle.cyc_grammar.specs.Syntax.{join_empty, split_empty, or_empty}
use Rattle.heap_syntax.specs.declared.keep.Keep.{Keep}
use Rattle.heap_syntax.specs.declared.tree.PureTree.{PureTree}
use Rattle.heap_syntax.specs.Keeping.{others_kept}
use Rattle.heap_syntax.specs.Trees.{Spatial, Cell, Predicate, Heap}
use Rattle.heap_syntax.specs.Words.{true_word, emp, equal, unequal, comma, colon, star, arrow, opening, closing}
use Rattle.heap_syntax.specs.Words.{free_name}

-- every value has a text
abbrev pub Any : {A : Type 0} → A → Type 0
Any x = Unit {0}

abbrev pub cons : {A : Type 0} → A × List A → List A
cons p = p.0 ∷ p.1

abbrev pub IsSome : {A : Type 0} → List A → Type 0
IsSome xs = 0 < length xs

-- a, and a list of others
abbrev pub first_and : {A : Type 0} → A → Syntax A → Syntax (List A) → Syntax (List A)
first_and {A = A} default a others = shaped {A = A × List A} cons (uncons default) IsSome (seq a others)

-- one a or more, with a word between neighbours, and a word after the last
abbrev pub more_listed : {A : Type 0} → Class (Unit {0}) → Syntax A → Syntax (List A)
more_listed between a = many (is_one between) (after between a)

unfoldable pub listed : {A : Type 0} → A → Class (Unit {0}) → Class (Unit {0}) → Syntax A → Syntax (List A)
listed default between behind a = first_and default a (before (more_listed between a) behind)

-- the same, of which so much is kept
unfoldable pub kept_listed : {A : Type 0} → Keep → A → Class (Unit {0}) → Class (Unit {0}) → Syntax A → Syntax (List A)
kept_listed k default between behind a = first_and default a (before (others_kept k (more_listed between a)) behind)

-- the terms of a format: one of them, and their texts
pub record Terms (T : Type 0) : Type 1 where
  pub some : T
  pub syntax : Syntax T

-- ---- pure = term ( "=" | "!=" ) term

abbrev pub to_sign : Unit {0} ⊎ Unit {0} → Bool
to_sign (inl u) = true
to_sign (inr u) = false

abbrev pub from_sign : Bool → Unit {0} ⊎ Unit {0}
from_sign true = inl tt
from_sign false = inr tt

unfoldable pub sign : Syntax Bool
sign = shaped {A = Unit {0} ⊎ Unit {0}} to_sign from_sign Any (alt (is_one equal) (one equal) (one unequal))

abbrev pub to_pure : {T : Type 0} → T × (Bool × T) → PureTree T
to_pure p = record { left = p.0; is_equation = p.1.0; right = p.1.1 }

abbrev pub from_pure : {T : Type 0} → PureTree T → T × (Bool × T)
from_pure p = (p.left, (p.is_equation, p.right))

unfoldable pub pure : {T : Type 0} → Syntax T → Syntax (PureTree T)
pure {T = T} t = shaped {A = T × (Bool × T)} to_pure from_pure Any (seq t (seq sign t))

-- ---- pures = "true" | pure { "," pure }, and ":" after it

abbrev pub some_pure : {T : Type 0} → Terms T → PureTree T
some_pure t = record { left = t.some; is_equation = true; right = t.some }

unfoldable pub pures1 : {T : Type 0} → Terms T → Syntax (List (PureTree T))
pures1 t = listed (some_pure t) comma colon (pure t.syntax)

abbrev pub pures_over : {T : Type 0} → Syntax (List (PureTree T)) → Syntax (List (PureTree T))
pures_over {T = T} some = shaped {A = Unit {0} ⊎ List (PureTree T)} join_empty split_empty Any
    (alt (is_one true_word) (after true_word (one colon)) some)

unfoldable pub pures : {T : Type 0} → Terms T → Syntax (List (PureTree T))
pures t = pures_over (pures1 t)

unfoldable pub kept_pures : {T : Type 0} → Keep → Terms T → Syntax (List (PureTree T))
kept_pures k t = pures_over (kept_listed k (some_pure t) comma colon (pure t.syntax))

-- ---- spat = term "->" "(" term { "," term } ")" | name "(" [ term { "," term } ] ")"

-- what stands after the opening parenthesis
unfoldable pub fields : {T : Type 0} → Terms T → Syntax (List T)
fields t = listed t.some comma closing t.syntax

unfoldable pub arguments : {T : Type 0} → Terms T → Syntax (List T)
arguments t = or_empty closing (fields t)

abbrev pub to_spatial : {T : Type 0} → (List ℕ × List T) ⊎ (T × List T) → Spatial T
to_spatial (inl p) = Predicate p.0 p.1
to_spatial (inr c) = Cell c.0 c.1

abbrev pub from_spatial : {T : Type 0} → Spatial T → (List ℕ × List T) ⊎ (T × List T)
from_spatial (Predicate s ts) = inl (s, ts)
from_spatial (Cell t ts) = inr (t, ts)

unfoldable pub predicate : {T : Type 0} → Terms T → Syntax (List ℕ × List T)
predicate t = seq (one free_name) (after opening (arguments t))

unfoldable pub cell : {T : Type 0} → Terms T → Syntax (T × List T)
cell t = seq t.syntax (after arrow (after opening (fields t)))

-- the spatial atoms where no term begins with a name
unfoldable pub spatial : {T : Type 0} → Terms T → Syntax (Spatial T)
spatial {T = T} t = shaped {A = (List ℕ × List T) ⊎ (T × List T)} to_spatial from_spatial Any
    (alt (is_one free_name) (predicate t) (cell t))

-- ---- spats = "emp" | spat { "*" spat }, with spat as the format has it

abbrev pub some_spatial : {T : Type 0} → Terms T → Spatial T
some_spatial t = Cell t.some (t.some ∷ [])

unfoldable pub spatials1 : {T : Type 0} → Terms T → Syntax (Spatial T) → Syntax (List (Spatial T))
spatials1 t atom = list1 (some_spatial t) star atom

unfoldable pub spatials : {T : Type 0} → Terms T → Syntax (Spatial T) → Syntax (List (Spatial T))
spatials t atom = or_empty emp (spatials1 t atom)

unfoldable pub kept_spatials : {T : Type 0} → Keep → Terms T → Syntax (Spatial T) → Syntax (List (Spatial T))
kept_spatials k t atom = or_empty emp (first_and (some_spatial t) atom (others_kept k (more_listed star atom)))

-- ---- heap = pures ":" spats

abbrev pub to_heap : {T : Type 0} → List (PureTree T) × List (Spatial T) → Heap T
to_heap p = record { pure = p.0; spatial = p.1 }

abbrev pub from_heap : {T : Type 0} → Heap T → List (PureTree T) × List (Spatial T)
from_heap h = (h.pure, h.spatial)

abbrev pub heap_over : {T : Type 0} → Syntax (List (PureTree T)) → Syntax (List (Spatial T)) → Syntax (Heap T)
heap_over {T = T} pures spatials = shaped {A = List (PureTree T) × List (Spatial T)} to_heap from_heap Any
    (seq pures spatials)

unfoldable pub heap : {T : Type 0} → Terms T → Syntax (Spatial T) → Syntax (Heap T)
heap t atom = heap_over (pures t) (spatials t atom)

unfoldable pub kept_heap : {T : Type 0} → Keep → Terms T → Syntax (Spatial T) → Syntax (Heap T)
kept_heap k t atom = heap_over (kept_pures k t) (kept_spatials k t atom)

-- ---- one heap or more, with a word between neighbours, and a word after the last

abbrev pub some_heap : {T : Type 0} → Heap T
some_heap = record { pure = []; spatial = [] }

abbrev pub heaps : {T : Type 0} → Class (Unit {0}) → Class (Unit {0}) → Syntax (Heap T) → Syntax (List (Heap T))
heaps between behind h = listed some_heap between behind h

abbrev pub kept_heaps : {T : Type 0} → Keep → Class (Unit {0}) → Class (Unit {0}) → Syntax (Heap T)
    → Syntax (List (Heap T))
kept_heaps k between behind h = kept_listed k some_heap between behind h
