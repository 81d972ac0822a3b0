-- What is tried at an entailment with one disjunct, line by line.
use Rattle.std.specs.Prelude.{List, [], ◌∷◌, map}
use Rattle.heap_formula.specs.declared.judgements.Judgement.{Judgement}
use Rattle.heap_formula.specs.declared.proof_rules.Rule.{Rule}
use Rattle.heap_formula.specs.declared.proof_rules.Rule.TheVariants.{Done}
use Rattle.heap_formula.specs.Symbolic.{SymbolicHeap}
use Rattle.search_moves.specs.Places.{first_that}
use Rattle.cyc_basics.specs.Words.{or_else}
use Rattle.search_moves.specs.declared.entailments.Line.{Line}
use Rattle.search_moves.specs.declared.entailments.Line.TheVariants.{End, PureRights, Distincts, CellFrames, Equations}
use Rattle.search_moves.specs.declared.entailments.Line.TheVariants.{Fields, PredicateFrames}
use Rattle.search_moves.specs.Trying.{Theory, is_applicable}
use Rattle.search_moves.specs.Entailments.{pure_rights, distincts, cell_frames, predicate_frames, equation_instances}
use Rattle.search_moves.specs.Entailments.{field_instances, instance_rule, last_line}

-- the rules of a line, with and without a fault
abbrev pub rules_on : SymbolicHeap → SymbolicHeap → Line → List Rule
rules_on a b End = Done ∷ []
rules_on a b PureRights = pure_rights b.pure
rules_on a b Distincts = distincts a.spatial b.pure
rules_on a b CellFrames = cell_frames a.spatial b.spatial
rules_on a b Equations = map instance_rule (equation_instances b.pure)
rules_on a b Fields = map instance_rule (field_instances a.spatial b.spatial)
rules_on a b PredicateFrames = predicate_frames a.spatial b.spatial

-- the first of these lines that applies, and where none does the last line
abbrev pub offered_from : Theory → Judgement → SymbolicHeap → SymbolicHeap → List Line → List Rule
offered_from t j a b [] = last_line t j a b
offered_from t j a b (line ∷ lines) = or_else (first_that (is_applicable t j) (rules_on a b line))
    (offered_from t j a b lines)
