use Rattle.std.proofs.Common.{List, refl}
use Rattle.heap_reader.specs.Trees.{Heading}
use Rattle.fo_syntax.specs.ProblemTrees.{problem_of}
use Rattle.fo_file.specs.Flaws.{constructor_heads, predicate_heads}
use Rattle.fo_file.specs.Known.{IsKnownProblem}
use Rattle.fo_file.specs.Questions.{IsFoQuestion}
use Rattle.fo_file.specs.Reading.{IsProblemOf, IsWritableProblem}
use Rattle.fo_file.proofs.Said.{problem-known, said-question, said-writable-problem, made-problem, with-names}
use Rattle.fo_file.proofs.problem_reading.problem_of_tree.Goals as goal

pub problem_value-requires : goal.problem_value-requires
problem_value-requires c =
    let p = problem_of c.args.tree.now in
    let text = with-names (λ (cs ps : List Heading). IsKnownProblem cs ps p)
    c.args.names.now.constructors c.args.names.now.predicates (constructor_heads p.constructors)
    (predicate_heads p.definitions) c.requires.constructors c.requires.predicates
    (problem-known p c.requires.fits c.requires.right) in
    record { known = text.known; few = text.constructors; few_predicates = text.predicates }

pub returns : goal.returns
returns c =
    let p = problem_of c.args.tree.now in
    let cs = c.args.names.now.constructors in
    let ps = c.args.names.now.predicates in
    record {
      says = made-problem (IsProblemOf p)
          cs ps p c.problem_value.result c.requires.constructors c.requires.predicates refl c.problem_value.ensures;
      question = made-problem IsFoQuestion cs ps p c.problem_value.result c.requires.constructors c.requires.predicates
          (said-question p c.requires.fits c.requires.right) c.problem_value.ensures;
      writable = made-problem IsWritableProblem cs ps p c.problem_value.result c.requires.constructors
          c.requires.predicates (said-writable-problem p c.requires.fits c.requires.right) c.problem_value.ensures;
    }
