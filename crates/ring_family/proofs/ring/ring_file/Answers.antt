-- The file's lists are the family's, and what is true of these is true of the file.
use Rattle.std.proofs.Common.{◌≡◌, ◌+◌, ◌*◌, ◌<◌, ◌≤◌, ℕ, true, List, [], None, length, arith, refl, ap, sym, ◌∙◌}
use Rattle.std.proofs.Common.{subst}
use Rattle.heap_formula.specs.declared.commands.Command.{Command}
use Rattle.heap_formula.specs.Definitions.{Definition}
use Rattle.heap_syntax.specs.Versions.{limits}
use Rattle.rule_book.specs.Graphs.{Node}
use Rattle.pred_defs.specs.Book.{DefinitionBook}
use Rattle.trace_pairs.specs.Lasso.{AllProgress}
use Rattle.buchi_inclusion.specs.Answers.{HasAtMost, HasMoreThan}
use Rattle.proof_syntax.specs.Grammar.{file}
use Rattle.proof_file.specs.FileNodes.{FileNode}
use Rattle.proof_file.specs.Readable.{are_readable, are_universal_commands, are_at_lines, all_have_few_cases}
use Rattle.proof_file.specs.Flaws.{file_flaw}
use Rattle.heap_syntax.specs.declared.version.Version.TheVariants.{One}
use Rattle.proof_file.specs.Written.{tree_of, text_of_file}
use Rattle.proof_check.specs.Files.{AreRight, graph_of}
use Rattle.ring_family.specs.Ring.{ring_definitions, ring_nodes, file_nodes}
use Rattle.ring_family.proofs.Correct.{definitions_long, nodes_long, right, paths, states_at_most, states_at_least}
use Rattle.ring_family.proofs.Correct.{moved}
use Rattle.ring_family.proofs.Readable.{readable, at_lines, few_cases, nodes_again}
use Rattle.ring_family.proofs.Flawless.{no_flaw}
use Rattle.ring_family.proofs.Fitting.{file_fits}
use Rattle.ring_family.proofs.Short.{ring_text_short}
use Rattle.ring_family.proofs.ring.ring_file.Goals as goal

-- what holds of the family's lists
kept : (P : DefinitionBook → List Command → List FileNode → Type 0) (k : ℕ) (book : DefinitionBook)
    (program : List Command) (nodes : List FileNode) →
    book ≡ record { most = limits One; list = ring_definitions k } → program ≡ [] → nodes ≡ file_nodes (ring_nodes k)
    → P (record { most = limits One; list = ring_definitions k }) [] (file_nodes (ring_nodes k)) → P book program nodes
kept P k book program nodes d p n x =
    subst (λ (y : DefinitionBook). P y program nodes) (sym d)
    (subst (λ (y : List Command). P (record { most = limits One; list = ring_definitions k }) y nodes) (sym p)
    (subst (λ (y : List FileNode). P (record { most = limits One; list = ring_definitions k }) [] y) (sym n) x))

pub from_vec-defs-requires-clause-few : goal.from_vec-defs-requires-clause-few
from_vec-defs-requires-clause-few c =
    let same = ap (λ (l : List Definition). length l) c.in_ok-definitions.ensures in
    omega (arith, same, definitions_long c.args.k, c.requires.most)

pub invariant_of-result : goal.invariant_of-result
invariant_of-result c =
    let k = c.args.k in
    let one = c.requires.from_one in
    let few = c.requires.most in
    let d = c.from_vec-defs.ensures ∙ (λ i. record {
      most = c.limits.ensures.value i;
      list = c.in_ok-definitions.ensures i;
    }) in
    let p = c.in_ok-program.ensures in
    let n = c.from_vec-nodes.ensures ∙ c.in_ok-nodes.ensures in
    let all' = (λ (P : DefinitionBook → List Command → List FileNode
    → Type 0). kept P k c.from_vec-defs.result c.in_ok-program.program c.from_vec-nodes.result d p n) in
    record {
      some = all' (λ book program nodes. 0 < length nodes) (omega (arith, nodes_long k));
      few = all' (λ book program nodes. length nodes ≤ 20000) (omega (arith, nodes_long k, few));
      readable = all' (λ book program nodes. are_readable nodes ≡ true) (readable k);
      universal = all' (λ book program nodes. are_universal_commands program ≡ true) refl;
      at_lines = all' (λ book program nodes. are_at_lines (length program) nodes ≡ true) (at_lines k);
      cases = all' (λ book program nodes. all_have_few_cases book.list ≡ true) (few_cases k);
      limit = all' (λ book program nodes. book.most ≡ limits One) refl;
      fits = all' (λ book program nodes. file.fits (tree_of One book.list program nodes)) (file_fits k one few);
      flawless = all' (λ book program nodes. file_flaw (tree_of One book.list program nodes) ≡ None)
          (no_flaw k one few);
    }

pub returns-clause-nodes : goal.returns-clause-nodes
returns-clause-nodes c = (c.from_vec-nodes.ensures ∙ c.in_ok-nodes.ensures) ∙ nodes_again (ring_nodes c.args.k)

pub returns-clause-file_form : goal.returns-clause-file_form
returns-clause-file_form c = c.from_vec-nodes.ensures ∙ c.in_ok-nodes.ensures

pub returns-clause-short : goal.returns-clause-short
returns-clause-short c =
    let k = c.args.k in
    let d = c.from_vec-defs.ensures ∙ (λ i. record {
      most = c.limits.ensures.value i;
      list = c.in_ok-definitions.ensures i;
    }) in
    let n = c.from_vec-nodes.ensures ∙ c.in_ok-nodes.ensures in
    kept (λ book program nodes. length (text_of_file One book.list program nodes) < 16777216)
    k c.from_vec-defs.result c.in_ok-program.program c.from_vec-nodes.result d c.in_ok-program.ensures n
    (ring_text_short k c.requires.from_one c.requires.most)

pub returns-clause-correct : goal.returns-clause-correct
returns-clause-correct c =
    let k = c.args.k in
    let d = c.from_vec-defs.ensures ∙ (λ i. record {
      most = c.limits.ensures.value i;
      list = c.in_ok-definitions.ensures i;
    }) in
    let n = (c.from_vec-nodes.ensures ∙ c.in_ok-nodes.ensures) ∙ nodes_again (ring_nodes k) in
    let all' = (λ (P : DefinitionBook → List Command → List Node
    → Type 0). moved P k c.from_vec-defs.result c.in_ok-program.program c.from_vec-nodes.result d
    c.in_ok-program.ensures n) in
    record {
      nodes = all' (λ book program nodes. AreRight book.most book.list program nodes)
          (right k c.requires.from_one c.requires.most);
      paths = all' (λ book program nodes. AllProgress (graph_of book.most book.list program nodes))
          (paths k c.requires.from_one c.requires.most);
    }

pub returns-clause-at_most : goal.returns-clause-at_most
returns-clause-at_most c =
    let k = c.args.k in
    let d = c.from_vec-defs.ensures ∙ (λ i. record {
      most = c.limits.ensures.value i;
      list = c.in_ok-definitions.ensures i;
    }) in
    let n = (c.from_vec-nodes.ensures ∙ c.in_ok-nodes.ensures) ∙ nodes_again (ring_nodes k) in
    moved (λ book program nodes. HasAtMost (graph_of book.most book.list program nodes) (8 * k + 1))
    k c.from_vec-defs.result c.in_ok-program.program c.from_vec-nodes.result d c.in_ok-program.ensures n
    (states_at_most k c.requires.from_one c.requires.most)

pub returns-clause-at_least : goal.returns-clause-at_least
returns-clause-at_least c =
    let k = c.args.k in
    let d = c.from_vec-defs.ensures ∙ (λ i. record {
      most = c.limits.ensures.value i;
      list = c.in_ok-definitions.ensures i;
    }) in
    let n = (c.from_vec-nodes.ensures ∙ c.in_ok-nodes.ensures) ∙ nodes_again (ring_nodes k) in
    moved (λ book program nodes. HasMoreThan (graph_of book.most book.list program nodes) (8 * k))
    k c.from_vec-defs.result c.in_ok-program.program c.from_vec-nodes.result d c.in_ok-program.ensures n
    (states_at_least k c.requires.from_one c.requires.most)
