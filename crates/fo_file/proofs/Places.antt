-- In a text without a flaw a number's name has that number as its place.
use Rattle.std.proofs.Common.{◌≡◌, ℕ, zero, suc, ◌+◌, Bool, true, false, List, [], ◌∷◌, length, take, map, Option, Some}
use Rattle.std.proofs.Common.{None, refl, ap, subst, ◌∙◌, arith}
use Rattle.std.specs.Prelude.{not, ◌&&◌, ◌||◌, is_some, if◌then◌else◌, slice_get, nat_le}
use Rattle.std.specs.List.{list_any}
use Rattle.std.specs.Str.{bytes_eq, chars, is_utf8}
use Rattle.std.proofs.lemmas.Bool.{false≢true}
use Rattle.std.proofs.lemmas.Slice.Eq.{bytes_eq-Decides}
use Rattle.cyc_lex.specs.Word.{is_name_text, is_identifier}
use Rattle.cyc_lex.proofs.BoolParts.{and-parts}
use Rattle.cyc_lex.specs.declared.fault.IllFault.TheVariants.{Duplicate}
use Rattle.cyc_lex.specs.declared.fault.What.TheVariants.{Constructors, Predicates}
use Rattle.cyc_grammar.specs.Classes.{is_free_name}
use Rattle.heap_reader.specs.Trees.{Heading}
use Rattle.heap_reader.specs.Flaws.{ill_if, over_if, or_later, listed_flaw, arity_in}
use Rattle.heap_reader.specs.Values.{place_of}
use Rattle.heap_reader.proofs.NoFlaw.{neither, not_ill}
use Rattle.fo_formula.specs.declared.theory.Constructor.{Constructor as ConstructorValue}
use Rattle.fo_formula.specs.declared.theory.FoDefinition.{FoDefinition}
use Rattle.fo_formula.specs.declared.theory.FoTheory.{FoTheory}
use Rattle.fo_formula.specs.Values.{IsConstructor}
use Rattle.fo_syntax.specs.Words.{reserved, free_name}
use Rattle.fo_syntax.specs.ProblemTrees.{Constructor, Definition}
use Rattle.fo_file.specs.Spans.{constructor_span, definition_span}
use Rattle.fo_file.specs.Flaws.{constructor_heading, predicate_heading, constructor_heads, predicate_heads}
use Rattle.fo_file.specs.Flaws.{arguments_flaw, constant_flaw, constructor_flaw, definition_head_flaw, cases_flaw}
use Rattle.fo_file.specs.Flaws.{definition_flaw, constructors_flaw}
use Rattle.fo_file.specs.Written.{constructor_tree, definition_tree, constructor_name_in, predicate_name_in}
use Rattle.cyc_basics.proofs.Options.{not_some}
use Rattle.cyc_basics.proofs.Places.{get_map}
use Rattle.heap_reader.proofs.FirstPlaces.{flaw_at, place_first}

pub get-unmap : {X Y : Type 0} (f : X → Y) (xs : List X) (n : ℕ) (y : Y) → slice_get (map f xs) n ≡ Some y
    → (x : X) × (slice_get xs n ≡ Some x) × (f x ≡ y)
get-unmap f [] n y e = absurd cc
get-unmap f (x ∷ xs) zero y e = let same : f x ≡ y = cc in (x, refl, same)
get-unmap f (x ∷ xs) (suc n) y e = get-unmap f xs n y e

-- ---- the first with a name

own-arity : (y : Heading) (ys : List Heading) (name : List ℕ) (b : Bool) → y.name ≡ name → bytes_eq y.name name ≡ b
    → (if b then Some y.arity else arity_in ys name) ≡ Some y.arity
own-arity y ys name true same e = refl
own-arity y ys name false same e = let yes = (bytes_eq-Decides y.name name).1 same in absurd cc

later-arity : (y : Heading) (front ys : List Heading) (name : List ℕ) (n : ℕ) (b : Bool)
    → (arity_in front name ≡ None → arity_in ys name ≡ Some n)
    → (if b then Some y.arity else arity_in front name) ≡ None
    → (if b then Some y.arity else arity_in ys name) ≡ Some n
later-arity y front ys name n true rest e = absurd cc
later-arity y front ys name n false rest e = rest e

arity-first : (ys : List Heading) (p : ℕ) (x : Heading) → slice_get ys p ≡ Some x → arity_in (take p ys) x.name ≡ None
    → arity_in ys x.name ≡ Some x.arity
arity-first [] p x e none = absurd cc
arity-first (y ∷ ys) zero x e none =
    let same : y ≡ x = cc in own-arity y ys x.name (bytes_eq y.name x.name) (ap (λ (d : Heading). d.name) same) refl
    ∙ ap (λ (d : Heading). Some d.arity) same
arity-first (y ∷ ys) (suc p) x e none =
    later-arity y (take p ys) ys x.name x.arity (bytes_eq y.name x.name) (arity-first ys p x e) none

-- the heading stands at this place, and none with its name before it
record IsFirst (hs : List Heading) (p : ℕ) (x : Heading) : Type 0 where
  there : slice_get hs p ≡ Some x
  alone : arity_in (take p hs) x.name ≡ None

neither-true : (a b : Bool) → a || b ≡ false → b ≡ false
neither-true true b e = absurd cc
neither-true false b e = e

-- the empty text is no name
no-name : is_free_name reserved [] ≡ true → ⊥
unfolding is_free_name is_name_text chars
no-name e =
    let named = and-parts (is_name_text []) (not (list_any (bytes_eq []) reserved)) e in
    let short = and-parts (is_utf8 []) (nat_le (length {A = ℕ} []) 64 && is_identifier (chars [])) named.0 in
    let letters = and-parts (nat_le (length {A = ℕ} []) 64) (is_identifier (chars [])) short.1 in
    false≢true letters.1

-- ---- constructors

constructor-there : (o : Option ConstructorValue) → is_free_name reserved (constructor_name_in o) ≡ true
    → (c : ConstructorValue) × (o ≡ Some c)
constructor-there None e = absurd (no-name e)
constructor-there (Some c) e = (c, refl)

constructor-alone : (hs : List Heading) (n k : ℕ) (c : Constructor) → constructor_flaw hs n k c ≡ None
    → arity_in (take n hs) c.name ≡ None
constructor-alone hs n k c e =
    let duplicate = ill_if (is_some (arity_in (take n hs) c.name)) Duplicate (k + 1) in
    let rest = or_later (constant_flaw n (k + 2) c.arguments) (arguments_flaw (k + 2) c.arguments) in
    let a = neither (over_if (nat_le 64 n) Constructors k) (or_later duplicate rest) e in
    let b = neither duplicate rest a.1 in
    not_some (arity_in (take n hs) c.name) (not_ill _ Duplicate (k + 1) b.0)

-- a constructor's heading stands at its place, and none with its name before it
constructor-first : (cs : List ConstructorValue) → constructors_flaw (map constructor_tree cs) ≡ None
    → (p : ℕ) (c : ConstructorValue) → slice_get cs p ≡ Some c
    → IsFirst (constructor_heads (map constructor_tree cs)) p (constructor_heading (constructor_tree c))
constructor-first cs none p c is =
    let hs = constructor_heads (map constructor_tree cs) in
    let tree = constructor_tree c in
    let there = get_map constructor_tree cs p c is in
    let known = get_map constructor_heading (map constructor_tree cs) p tree there in
    let at = flaw_at (constructor_flaw hs) constructor_span 0 4 (map constructor_tree cs) p tree there none in
    let here : 0 + p ≡ p = omega arith in record {
      there = known;
      alone = constructor-alone hs p at.0 tree (subst (λ n. constructor_flaw hs n at.0 tree ≡ None) here at.1);
    }

pub constructor-placed : (cs : List ConstructorValue) → constructors_flaw (map constructor_tree cs) ≡ None → (p : ℕ)
    → free_name.fits (constructor_name_in (slice_get cs p))
    → place_of (constructor_heads (map constructor_tree cs)) (constructor_name_in (slice_get cs p)) ≡ p
constructor-placed cs none p free =
    let hs = constructor_heads (map constructor_tree cs) in
    let c = constructor-there (slice_get cs p) free in
    let first = constructor-first cs none p c.0 c.1 in
    ap (λ o. place_of hs (constructor_name_in o)) c.1
    ∙ place_first hs p (constructor_heading (constructor_tree c.0)) first.there first.alone

-- the name of a constructor is known with its number of arguments
pub constructor-arity : (cs : List ConstructorValue) → constructors_flaw (map constructor_tree cs) ≡ None → (p k : ℕ)
    → IsConstructor cs p k
    → arity_in (constructor_heads (map constructor_tree cs)) (constructor_name_in (slice_get cs p)) ≡ Some k
constructor-arity cs none p k is =
    let hs = constructor_heads (map constructor_tree cs) in
    let c = get-unmap (λ (x : ConstructorValue). x.arguments) cs p k is in
    let first = constructor-first cs none p c.0 c.1 in
    ap (λ o. arity_in hs (constructor_name_in o)) c.1
    ∙ arity-first hs p (constructor_heading (constructor_tree c.0)) first.there first.alone
    ∙ ap (λ (n : ℕ). Some n) c.2

-- ---- predicates

predicate-there : (o : Option FoDefinition) → is_free_name reserved (predicate_name_in o) ≡ true
    → (d : FoDefinition) × (o ≡ Some d)
predicate-there None e = absurd (no-name e)
predicate-there (Some d) e = (d, refl)

predicate-alone : (hs ps : List Heading) (n k : ℕ) (d : Definition) → definition_flaw hs ps n k d ≡ None
    → arity_in (take n ps) d.name ≡ None
predicate-alone hs ps n k d e =
    let taken = is_some (arity_in hs d.name) || is_some (arity_in (take n ps) d.name) in
    let a = neither (definition_head_flaw hs ps n k d) (cases_flaw hs ps d.arity (k + 6) d.cases) e in
    let b = neither (over_if (nat_le 4096 n) Predicates k)
    (or_later (ill_if taken Duplicate (k + 1)) (arguments_flaw (k + 3) d.arity)) a.0 in
    let c = neither (ill_if taken Duplicate (k + 1)) (arguments_flaw (k + 3) d.arity) b.1 in
    not_some (arity_in (take n ps) d.name) (neither-true (is_some (arity_in hs d.name))
    (is_some (arity_in (take n ps) d.name)) (not_ill _ Duplicate (k + 1) c.0))

predicate-first : (hs : List Heading) (k : ℕ) (t : FoTheory) (ds : List FoDefinition)
    → listed_flaw (definition_flaw hs (predicate_heads (map (definition_tree t) ds))) definition_span 0 k
    (map (definition_tree t) ds) ≡ None
    → (p : ℕ) (d : FoDefinition) → slice_get ds p ≡ Some d
    → IsFirst (predicate_heads (map (definition_tree t) ds)) p (predicate_heading (definition_tree t d))
predicate-first hs k t ds none p d is =
    let ps = predicate_heads (map (definition_tree t) ds) in
    let tree = definition_tree t d in
    let there = get_map (definition_tree t) ds p d is in
    let known = get_map predicate_heading (map (definition_tree t) ds) p tree there in
    let at = flaw_at (definition_flaw hs ps) definition_span 0 k (map (definition_tree t) ds) p tree there none in
    let here : 0 + p ≡ p = omega arith in record {
      there = known;
      alone = predicate-alone hs ps p at.0 tree (subst (λ n. definition_flaw hs ps n at.0 tree ≡ None) here at.1);
    }

pub predicate-placed : (hs : List Heading) (k : ℕ) (t : FoTheory) (ds : List FoDefinition)
    → listed_flaw (definition_flaw hs (predicate_heads (map (definition_tree t) ds))) definition_span 0 k
    (map (definition_tree t) ds) ≡ None
    → (p : ℕ) → free_name.fits (predicate_name_in (slice_get ds p))
    → place_of (predicate_heads (map (definition_tree t) ds)) (predicate_name_in (slice_get ds p)) ≡ p
predicate-placed hs k t ds none p free =
    let ps = predicate_heads (map (definition_tree t) ds) in
    let d = predicate-there (slice_get ds p) free in
    let first = predicate-first hs k t ds none p d.0 d.1 in
    ap (λ o. place_of ps (predicate_name_in o)) d.1
    ∙ place_first ps p (predicate_heading (definition_tree t d.0)) first.there first.alone

-- the name of a predicate is known with its number of arguments
pub predicate-arity : (hs : List Heading) (k : ℕ) (t : FoTheory) (ds : List FoDefinition)
    → listed_flaw (definition_flaw hs (predicate_heads (map (definition_tree t) ds))) definition_span 0 k
    (map (definition_tree t) ds) ≡ None
    → (p n : ℕ) → slice_get (map (λ (d : FoDefinition). d.arity) ds) p ≡ Some n
    → arity_in (predicate_heads (map (definition_tree t) ds)) (predicate_name_in (slice_get ds p)) ≡ Some n
predicate-arity hs k t ds none p n is =
    let ps = predicate_heads (map (definition_tree t) ds) in
    let d = get-unmap (λ (x : FoDefinition). x.arity) ds p n is in
    let first = predicate-first hs k t ds none p d.0 d.1 in
    ap (λ o. arity_in ps (predicate_name_in o)) d.1
    ∙ arity-first ps p (predicate_heading (definition_tree t d.0)) first.there first.alone
    ∙ ap (λ (m : ℕ). Some m) d.2
