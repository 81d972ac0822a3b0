use Rattle.std.proofs.Common.{◌≡◌, [], Some, map, sym, ◌∙◌, arith}
use Rattle.proof_syntax.specs.Trees.{definition_of, end_of}
use Rattle.proof_file.specs.Building.{front_of}
use Rattle.proof_file.specs.Flaws.{file_flaw}
use Rattle.file_reader.specs.Steps.{tree_of}
use Rattle.file_reader.specs.Fronts.{front_defs, front_ends}
use Rattle.file_reader.proofs.BeginLaws.{front-within}
use Rattle.file_reader.proofs.first_node.open.Goals as goal

pub flaw-requires-clause-within : goal.flaw-requires-clause-within
flaw-requires-clause-within c =
    let f = c.args.front.now in
    let same : c.front_flaw.result ≡ file_flaw (tree_of f.version (front_defs f) f.lines.items (front_ends f) [])
    = c.front_flaw.ensures ∙ (λ i. file_flaw (front_of f.version (map definition_of (c.deref.ensures.value i))
    (c.deref-2.ensures.value i) (map end_of (c.deref-3.ensures.value i)))) in
    let is : file_flaw (tree_of f.version (front_defs f) f.lines.items (front_ends f) []) ≡ Some c.in-Some.flaw = sym same
    ∙ c.in-Some.is in
    omega (
      arith,
      front-within f.version (front_defs f) f.lines.items (front_ends f) c.in-Some.flaw is,
      c.requires.within,
      c.requires.before,
    )
