-- The instances of existentials that an entailment within the limits is offered are within them.
use Rattle.std.proofs.Common.{◌≤◌, Bool, true, false, ◌&&◌, List, [], ◌∷◌, ◌++◌, map, length, Option, Some, None}
use Rattle.std.proofs.Common.{arith}
use Rattle.std.specs.Prelude.{IfSome, nat_eq, if◌then◌else◌}
use Rattle.std.specs.List.{list_any}
use Rattle.cyc_basics.specs.declared.limits.Limits.{Limits}
use Rattle.heap_formula.specs.declared.terms.Term.{Term}
use Rattle.heap_formula.specs.declared.terms.Term.TheVariants.{Nil, Univ, Exist}
use Rattle.heap_formula.specs.declared.atoms.Pure.{Pure}
use Rattle.heap_formula.specs.declared.atoms.Pure.TheVariants.{Eq}
use Rattle.heap_formula.specs.declared.atoms.Spatial.{Spatial}
use Rattle.heap_formula.specs.declared.atoms.Spatial.TheVariants.{Cell, Pred}
use Rattle.heap_formula.specs.Closedness.{InPure, InSpatial}
use Rattle.heap_formula.specs.Definitions.{Definition}
use Rattle.heap_formula.specs.Words.{Each}
use Rattle.rule_table.specs.Tests.{same_term}
use Rattle.search_moves.specs.declared.instances.Instance.{Instance}
use Rattle.search_moves.specs.Entailments.{equation_instance, equation_instances, instance_at, first_instance}
use Rattle.search_moves.specs.Entailments.{field_instance, fields_with, field_instances, agree, argument_instance}
use Rattle.search_moves.specs.Entailments.{same_instance, once, arguments_with, argument_instances, instance_rule}
use Rattle.search_moves.specs.Places.{each_of, if_some}
use Rattle.rule_book.specs.Limits.{IsTermWithin, IsRuleWithin}
use Rattle.proof_search.proofs.Members.{each_each_of, each_if_some, some_if}
use Rattle.heap_formula.proofs.AllMembers.{each_append, each_mapped}
use Rattle.proof_search.proofs.HeapTerms.{HasTerms}
use Rattle.rule_book.proofs.Heaps.{IsLow}
use Rattle.std.specs.Option.{option_or}

abbrev pub IsInstanceWithin : Instance → Type 0
IsInstanceWithin i = (i.variable ≤ 65534) × IsTermWithin i.term

pub instance_rules : (most : Limits) (ds : List Definition) (is : List Instance) → Each IsInstanceWithin is
    → Each (IsRuleWithin most ds) (map instance_rule is)
instance_rules most ds is a = each_mapped (IsRuleWithin most ds) instance_rule is a

-- ---- by equations

equation_within : (x : Pure) → InPure IsLow x → IfSome (equation_instance x) IsInstanceWithin
equation_within (Eq Nil (Exist v)) h = (omega arith, (tt, h.0))
equation_within (Eq (Univ n) (Exist v)) h = (omega arith, (tt, h.0))
equation_within (Eq (Exist v) Nil) h = (omega arith, (tt, h.1))
equation_within (Eq (Exist v) (Univ m)) h = (omega arith, (tt, h.1))
equation_within x h = tt

pub equations_within : (xs : List Pure) → Each (InPure IsLow) xs → Each IsInstanceWithin (equation_instances xs)
equations_within xs h =
    each_each_of IsInstanceWithin (InPure IsLow) (λ x. if_some (equation_instance x)) xs h
    (λ x p. each_if_some IsInstanceWithin (equation_instance x) (equation_within x p))

-- ---- by terms of the antecedent

at_within : (t u : Term) → IsTermWithin t → IsLow u → IfSome (instance_at t u) IsInstanceWithin
at_within t (Exist v) p q = (omega arith, p)
at_within t u p q = tt

or_within : (a b : Option Instance) → IfSome a IsInstanceWithin → IfSome b IsInstanceWithin
    → IfSome (option_or a b) IsInstanceWithin
or_within None b p q = q
or_within (Some x) b p q = p

first_within : (ts us : List Term) → Each IsTermWithin ts → Each IsLow us
    → IfSome (first_instance ts us) IsInstanceWithin
first_within [] us p q = tt
first_within (t ∷ ts) [] p q = tt
first_within (t ∷ ts) (u ∷ us) p q = or_within (instance_at t u) (first_instance ts us) (at_within t u p.0 q.0)
    (first_within ts us p.1 q.1)

field_within : (x y : Spatial) → HasTerms x → InSpatial IsLow y → IfSome (field_instance x y) IsInstanceWithin
field_within (Cell t ts) (Cell u us) p q = some_if IsInstanceWithin (same_term t u && nat_eq (length ts) (length us))
    (first_instance ts us) (first_within ts us p.1 q.1)
field_within (Pred p ts) (Cell u us) h q = tt
field_within x y p q = tt

pub fields_within : (xs ys : List Spatial) → Each HasTerms xs → Each (InSpatial IsLow) ys
    → Each IsInstanceWithin (field_instances xs ys)
fields_within xs ys p q =
    each_each_of IsInstanceWithin HasTerms (fields_with ys) xs p
    (λ x h. each_each_of IsInstanceWithin (InSpatial IsLow) (λ y. if_some (field_instance x y)) ys q
    (λ y r. each_if_some IsInstanceWithin (field_instance x y) (field_within x y h r)))

argument_within : (x y : Spatial) → HasTerms x → InSpatial IsLow y → IfSome (argument_instance x y) IsInstanceWithin
argument_within (Pred p ts) (Pred q us) h r = some_if IsInstanceWithin (nat_eq p q && agree ts us)
    (first_instance ts us) (first_within ts us h r)
argument_within (Cell t ts) (Pred q us) h r = tt
argument_within x y h r = tt

once_within : (done is : List Instance) → Each IsInstanceWithin done → Each IsInstanceWithin is
    → Each IsInstanceWithin (once done is)
once_within done [] d a = d
once_within done (i ∷ is) d a =
    step (list_any (same_instance i) done) (once done is) (once (done ++ i ∷ []) is) (once_within done is d a.1)
    (once_within (done ++ i ∷ []) is (each_append IsInstanceWithin done (i ∷ []) d (a.0, tt)) a.1)
  where
    step : (b : Bool) (xs ys : List Instance) → Each IsInstanceWithin xs → Each IsInstanceWithin ys
        → Each IsInstanceWithin (if b then xs else ys)
    step true xs ys p q = p
    step false xs ys p q = q

pub arguments_within : (xs ys : List Spatial) → Each HasTerms xs → Each (InSpatial IsLow) ys
    → Each IsInstanceWithin (argument_instances xs ys)
arguments_within xs ys p q =
    once_within [] (each_of (arguments_with xs) ys) tt
    (each_each_of IsInstanceWithin (InSpatial IsLow) (arguments_with xs) ys q
    (λ y r. each_each_of IsInstanceWithin HasTerms (λ x. if_some (argument_instance x y)) xs p
    (λ x h. each_if_some IsInstanceWithin (argument_instance x y) (argument_within x y h r))))
