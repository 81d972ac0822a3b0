-- The test of heaps with universal terms alone says what it means, both ways.
use Rattle.std.proofs.Common.{◌≡◌, true, List, [], ◌∷◌, refl}
use Rattle.std.specs.List.{list_all}
use Rattle.std.proofs.lemmas.Bool.{and_from, and_parts}
use Rattle.heap_formula.specs.declared.terms.Term.{Term}
use Rattle.heap_formula.specs.declared.terms.Term.TheVariants.{Nil, Univ, Exist}
use Rattle.heap_formula.specs.declared.atoms.Pure.{Pure}
use Rattle.heap_formula.specs.declared.atoms.Pure.TheVariants.{Eq, Neq}
use Rattle.heap_formula.specs.declared.atoms.Spatial.{Spatial}
use Rattle.heap_formula.specs.declared.atoms.Spatial.TheVariants.{Cell, Pred}
use Rattle.heap_formula.specs.Closedness.{InPure, InSpatial, IsUniversal, IsUniversalHeap}
use Rattle.heap_formula.specs.Symbolic.{SymbolicHeap}
use Rattle.heap_formula.specs.Words.{Each}
use Rattle.rule_table.specs.Tests.{is_universal, are_universal, is_universal_pure, is_universal_spatial}
use Rattle.rule_table.specs.Tests.{is_universal_heap}
use Rattle.rule_table.proofs.Reflects.{universal_pure_is, universal_spatial_is}
use Rattle.heap_formula.proofs.AllMembers.{each_imply}
use Rattle.formula_reader.proofs.Firsts.{each_passes, all_pass}

pub universal_heap : (a : SymbolicHeap) → is_universal_heap a ≡ true → IsUniversalHeap a
universal_heap a e =
    let b = and_parts (list_all is_universal_pure a.pure) (list_all is_universal_spatial a.spatial) e in (
      each_passes is_universal_pure (InPure IsUniversal) universal_pure_is a.pure b.0,
      each_passes is_universal_spatial (InSpatial IsUniversal) universal_spatial_is a.spatial b.1,
    )

pub universal_term_passes : (t : Term) → IsUniversal t → is_universal t ≡ true
universal_term_passes Nil u = refl
universal_term_passes (Univ n) u = refl
universal_term_passes (Exist n) u = absurd u

terms_pass : (ts : List Term) → Each IsUniversal ts → are_universal ts ≡ true
terms_pass [] u = refl
terms_pass (t ∷ ts) u = and_from (is_universal t) (are_universal ts) (universal_term_passes t u.0) (terms_pass ts u.1)

pure_passes : (x : Pure) → InPure IsUniversal x → is_universal_pure x ≡ true
pure_passes (Eq t u) q = and_from (is_universal t) (is_universal u) (universal_term_passes t q.0)
    (universal_term_passes u q.1)
pure_passes (Neq t u) q = and_from (is_universal t) (is_universal u) (universal_term_passes t q.0)
    (universal_term_passes u q.1)

spatial_passes : (x : Spatial) → InSpatial IsUniversal x → is_universal_spatial x ≡ true
spatial_passes (Cell t ts) q = and_from (is_universal t) (are_universal ts) (universal_term_passes t q.0)
    (terms_pass ts q.1)
spatial_passes (Pred k ts) q = terms_pass ts q

pub universal_heap_passes : (a : SymbolicHeap) → IsUniversalHeap a → is_universal_heap a ≡ true
universal_heap_passes a u =
    and_from (list_all is_universal_pure a.pure) (list_all is_universal_spatial a.spatial)
    (all_pass is_universal_pure a.pure (each_imply (InPure IsUniversal) (λ x. is_universal_pure x ≡ true)
    pure_passes a.pure u.0)) (all_pass is_universal_spatial a.spatial
    (each_imply (InSpatial IsUniversal) (λ x. is_universal_spatial x ≡ true) spatial_passes a.spatial u.1))
