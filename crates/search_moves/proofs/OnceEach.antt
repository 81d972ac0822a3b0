-- One turn of a loop over atoms that gives instances, or rules of them.
use Rattle.std.proofs.Common.{◌≡◌, ℕ, Bool, true, false, ◌+◌, ◌<◌, ◌≤◌, ◌||◌, List, [], ◌∷◌, ◌++◌, append_assoc, map}
use Rattle.std.proofs.Common.{drop, get_or, length, refl, sym, ap, ◌∙◌}
use Rattle.std.proofs.lemmas.List.{at_drop_more, drop_all, map-append}
use Rattle.std.specs.Prelude.{if◌then◌else◌}
use Rattle.std.specs.List.{list_any}
use Rattle.search_moves.specs.Places.{each_of}
use Rattle.heap_formula.specs.declared.proof_rules.Rule.{Rule}
use Rattle.search_moves.specs.declared.instances.Instance.{Instance}
use Rattle.search_moves.specs.Entailments.{same_instance, once, instance_rule}
use Rattle.search_moves.specs.Instances.{is_rule_by, rules_once}

-- of each member some are appended, under g
pub ruled : {X Y Z : Type 0} (g : Y → Z) (f : X → List Y) (xs : List X) (i : ℕ) (d : X) (old new whole : List Z)
    → i < length xs → new ≡ old ++ map g (f (get_or xs i d)) → old ++ map g (each_of f (drop i xs)) ≡ whole
    → new ++ map g (each_of f (drop (i + 1) xs)) ≡ whole
ruled g f xs i d old new whole l e was =
    let x = get_or xs i d in
    let rest = each_of f (drop (i + 1) xs) in
    ap (λ ys. ys ++ map g rest) e ∙ append_assoc old (map g (f x)) (map g rest)
    ∙ ap (λ ys. old ++ ys) (sym (map-append g (f x) rest))
    ∙ ap (λ ys. old ++ map g ys) (sym (at_drop_more (each_of f) xs i d l)) ∙ was

-- each once, of two lists one after the other
once_more : (done : List Rule) (is js : List Instance) → rules_once done (is ++ js) ≡ rules_once (rules_once done is) js
once_more done [] js = refl
once_more done (i ∷ is) js = by (list_any (is_rule_by i) done) (once_more done is js)
    (once_more (done ++ instance_rule i ∷ []) is js)
  where
    by : (b : Bool) → rules_once done (is ++ js) ≡ rules_once (rules_once done is) js
        → rules_once (done ++ instance_rule i ∷ []) (is ++ js)
        ≡ rules_once (rules_once (done ++ instance_rule i ∷ []) is) js
        → (if b then rules_once done (is ++ js) else rules_once (done ++ instance_rule i ∷ []) (is ++ js))
        ≡ rules_once (if b then rules_once done is else rules_once (done ++ instance_rule i ∷ []) is) js
    by true e f = e
    by false e f = f

-- by one more member
pub once_by : {X : Type 0} (f : X → List Instance) (xs : List X) (i : ℕ) (d : X) (old new whole : List Rule)
    → i < length xs → new ≡ rules_once old (f (get_or xs i d)) → rules_once old (each_of f (drop i xs)) ≡ whole
    → rules_once new (each_of f (drop (i + 1) xs)) ≡ whole
once_by f xs i d old new whole l e was =
    let x = get_or xs i d in
    let rest = each_of f (drop (i + 1) xs) in
    ap (λ ys. rules_once ys rest) e ∙ sym (once_more old (f x) rest)
    ∙ ap (rules_once old) (sym (at_drop_more (each_of f) xs i d l)) ∙ was

-- by all members
pub ended : {X : Type 0} (f : X → List Instance) (xs : List X) (i : ℕ) (done whole : List Rule) → length xs ≤ i
    → rules_once done (each_of f (drop i xs)) ≡ whole → done ≡ whole
ended f xs i done whole le was = ap (λ rest. rules_once done (each_of f rest)) (sym (drop_all i xs le)) ∙ was

among : (i : Instance) (done : List Instance) → list_any (is_rule_by i) (map instance_rule done)
    ≡ list_any (same_instance i) done
among i [] = refl
among i (k ∷ done) = ap (λ b. same_instance i k || b) (among i done)

ruled_once : (done is : List Instance) → rules_once (map instance_rule done) is ≡ map instance_rule (once done is)
ruled_once done [] = refl
ruled_once done (i ∷ is) =
    ap (λ b. if b then rules_once (map instance_rule done) is else rules_once
    (map instance_rule done ++ instance_rule i ∷ []) is) (among i done)
    ∙ by (list_any (same_instance i) done) (ruled_once done is)
    (ap (λ rules. rules_once rules is) (sym (map-append instance_rule done (i ∷ [])))
    ∙ ruled_once (done ++ i ∷ []) is)
  where
    by : (b : Bool) → rules_once (map instance_rule done) is ≡ map instance_rule (once done is)
        → rules_once (map instance_rule done ++ instance_rule i ∷ []) is ≡ map instance_rule (once (done ++ i ∷ []) is)
        → (if b then rules_once (map instance_rule done) is else rules_once
        (map instance_rule done ++ instance_rule i ∷ []) is)
        ≡ map instance_rule (if b then once done is else once (done ++ i ∷ []) is)
    by true e f = e
    by false e f = f

-- the rules are those of the instances
pub once_ruled : (is : List Instance) → rules_once [] is ≡ map instance_rule (once [] is)
once_ruled is = ruled_once [] is
