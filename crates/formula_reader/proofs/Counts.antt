-- How many tokens a definition's parameters take at least.
use Rattle.std.proofs.Common.{ℕ, zero, suc, ◌<◌, ◌≤◌, ◌^◌, List, [], ◌∷◌, length, map, get_or, drop, arith}
use Rattle.std.proofs.lemmas.List.{length-map}
use Rattle.heap_reader.specs.Spans.{total}
use Rattle.problem_syntax.specs.declared.numbering.tree.NumberedDefinition.{NumberedDefinition}
use Rattle.problem_syntax.specs.Trees.{text_of}
use Rattle.problem_syntax.specs.Numbered.{definition_of}
use Rattle.formula_reader.specs.Spans.{parameter_span, parameters_span, definitions_span}

some_two : (ps : List (List ℕ)) → length ps ≤ total parameter_span ps
some_two [] = omega arith
some_two (p ∷ ps) = let h = some_two ps in omega arith

pub parameters_within : (ps : List (List ℕ)) → length ps ≤ parameters_span ps
parameters_within [] = omega arith
parameters_within (p ∷ ps) = some_two (p ∷ ps)

pub arity_fits : (ds : List NumberedDefinition) (i : ℕ) (d : NumberedDefinition) → i < length ds
    → definitions_span (map definition_of (drop i ds)) < 2 ^ 32 → length (get_or ds i d).parameters.items < 2 ^ 32
arity_fits [] i d h e = absurd (omega arith)
arity_fits (x ∷ xs) zero d h e =
    let k = parameters_within (map text_of x.parameters.items) in
    let l = length-map x.parameters.items text_of in
    omega arith
arity_fits (x ∷ xs) (suc i) d h e = arity_fits xs i d (omega arith) e
