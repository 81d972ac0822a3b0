-- The predicates of a problem without a flaw have names of their own.
use Rattle.std.proofs.Common.{◌≡◌, ℕ, zero, suc, ◌+◌, ◌<◌, Bool, true, false, List, [], ◌∷◌, length, map, take, Some}
use Rattle.std.proofs.Common.{None, refl, sym, ap, ◌∙◌, subst, arith}
use Rattle.std.specs.Prelude.{nat_le, is_some, slice_get, if◌then◌else◌}
use Rattle.std.specs.Str.{bytes_eq}
use Rattle.std.proofs.lemmas.Slice.Eq.{bytes_eq-Decides}
use Rattle.cyc_basics.specs.declared.limits.Limits.{Limits}
use Rattle.heap_formula.specs.Definitions.{Definition as DefinitionValue}
use Rattle.cyc_lex.specs.declared.fault.What.TheVariants.{Predicates}
use Rattle.cyc_lex.specs.declared.fault.IllFault.TheVariants.{Duplicate}
use Rattle.heap_reader.specs.Trees.{Heading}
use Rattle.heap_reader.specs.Flaws.{ill_if, over_if, or_later, arity_in}
use Rattle.heap_reader.proofs.NoFlaw.{neither, not_ill}
use Rattle.problem_syntax.specs.Numbered.{Definition}
use Rattle.formula_reader.specs.Spans.{parameters_span, definition_span}
use Rattle.formula_reader.specs.Flaws.{headings, parameters_flaw, head_flaw, cases_flaw, definition_flaw}
use Rattle.formula_reader.specs.Flaws.{definitions_flaw}
use Rattle.formula_reader.specs.Values.{definition_value}
use Rattle.formula_reader.specs.Within.{HaveOwnNames}
use Rattle.heap_reader.proofs.FirstPlaces.{flaw_at as flawless_at}
use Rattle.cyc_basics.proofs.Options.{not_some as is_none}

-- a member of a mapped list is the value of one
of_member : {X Y : Type 0} (f : X → Y) (xs : List X) (n : ℕ) (y : Y) → slice_get (map f xs) n ≡ Some y
    → (x : X) × (slice_get xs n ≡ Some x) × (f x ≡ y)
of_member f [] n y e = absurd cc
of_member f (x ∷ xs) zero y e = let same : f x ≡ y = cc in (x, refl, same)
of_member f (x ∷ xs) (suc n) y e = of_member f xs n y e

-- no definition before has the name
is_new : (limit : Limits) (hs : List Heading) (n k : ℕ) (d : Definition) → definition_flaw limit hs n k d ≡ None
    → arity_in (take n hs) d.name ≡ None
is_new limit hs n k d e =
    let taken = is_some (arity_in (take n hs) d.name) in
    let a = neither (head_flaw limit hs n k d) (cases_flaw limit hs (length d.parameters)
    (k + 3 + parameters_span d.parameters + 1) d.cases) e in
    let b = neither (over_if (nat_le 4096 n) Predicates k)
    (or_later (ill_if taken Duplicate (k + 1)) (parameters_flaw limit (k + 3) d.parameters)) a.0 in
    let c = neither (ill_if taken Duplicate (k + 1)) (parameters_flaw limit (k + 3) d.parameters) b.1 in
    is_none (arity_in (take n hs) d.name) (not_ill taken Duplicate (k + 1) c.0)

-- a definition before that has the name gives its arity
not_new : (xs : List Definition) (p q : ℕ) (x : Definition) (name : List ℕ) → slice_get xs p ≡ Some x → x.name ≡ name
    → p < q → arity_in (take q (headings xs)) name ≡ None → ⊥
not_new [] p q x name at same less none = cc
not_new (y ∷ ys) p zero x name at same less none = omega arith
not_new (y ∷ ys) zero (suc q) x name at same less none =
    let here : y ≡ x = cc in
    let named = (bytes_eq-Decides y.name name).1 (ap (λ (d : Definition). d.name) here ∙ same) in
    let found = ap (λ (b : Bool). if b then Some (length y.parameters) else arity_in (take q (headings ys)) name)
    (sym named) ∙ none in
    cc
not_new (y ∷ ys) (suc p) (suc q) x name at same less none = by_test (bytes_eq y.name name) none
    (not_new ys p q x name at same (omega arith))
  where
    by_test : (b : Bool) → (if b then Some (length y.parameters) else arity_in (take q (headings ys)) name) ≡ None
        → (arity_in (take q (headings ys)) name ≡ None → ⊥) → ⊥
    by_test true e later = cc
    by_test false e later = later e

equal_unless_apart : (p q : ℕ) → (p < q → ⊥) → (q < p → ⊥) → p ≡ q
equal_unless_apart p q f g = omega arith

module _ (limit : Limits) (xs : List Definition) (hs : List Heading)
    (right : definitions_flaw limit (headings xs) 4 xs ≡ None) where
  apart : (p q : ℕ) (d e : Definition) → slice_get xs p ≡ Some d → slice_get xs q ≡ Some e → d.name ≡ e.name → p < q → ⊥
  apart p q d e at_p at_q same less =
      let at = flawless_at (definition_flaw limit (headings xs)) definition_span 0 4 xs q e at_q right in
      let here : 0 + q ≡ q = omega arith in
      let new = is_new limit (headings xs) q at.0 e
      (subst (λ (n : ℕ). definition_flaw limit (headings xs) n at.0 e ≡ None) here at.1) in
      not_new xs p q d e.name at_p same less new

  pub own_names : HaveOwnNames (map (definition_value hs) xs)
  own_names p q d e at_p at_q same =
      let x = of_member (definition_value hs) xs p d at_p in
      let y = of_member (definition_value hs) xs q e at_q in
      let name = (λ (v : DefinitionValue). v.name) in
      let names = ap name x.2 ∙ same ∙ sym (ap name y.2) in
      equal_unless_apart p q (apart p q x.0 y.0 x.1 y.1 names) (apart q p y.0 x.0 y.1 x.1 (sym names))
