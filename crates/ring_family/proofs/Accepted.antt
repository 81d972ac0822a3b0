-- What a check can say of the ring's file: that it is accepted, an entailment's proof of 8 k + 1 nodes with one link.
use Rattle.std.proofs.Common.{◌≡◌, ℕ, zero, suc, ◌+◌, ◌*◌, ◌≤◌, List, [], ◌∷◌, Bool, true, false, cond, Some, arith, ap}
use Rattle.std.proofs.Common.{◌∙◌}
use Rattle.std.specs.Prelude.{slice_get, count_by}
use Rattle.std.proofs.lemmas.List.{map-append}
use Rattle.std.proofs.lemmas.List.Sums.{sum_by-append}
use Rattle.heap_formula.specs.declared.terms.Term.TheVariants.{Univ}
use Rattle.heap_formula.specs.declared.commands.Command.{Command}
use Rattle.heap_formula.specs.declared.judgements.Judgement.TheVariants.{Entail}
use Rattle.heap_formula.specs.declared.proof_rules.Reason.{Reason}
use Rattle.heap_formula.specs.declared.proof_rules.Reason.TheVariants.{Step, Back}
use Rattle.heap_formula.specs.declared.proof_rules.Rule.{Rule}
use Rattle.heap_formula.specs.declared.proof_rules.Link.{Link}
use Rattle.heap_syntax.specs.Versions.{limits}
use Rattle.heap_syntax.specs.declared.version.Version.TheVariants.{One}
use Rattle.rule_book.specs.Graphs.{Node}
use Rattle.pred_defs.specs.Book.{DefinitionBook}
use Rattle.trace_pairs.specs.Lasso.{AllProgress}
use Rattle.buchi_inclusion.specs.Answers.{HasAtMost}
use Rattle.proof_file.specs.FileNodes.{FileNode}
use Rattle.proof_file.specs.declared.file.ProofFile.{ProofFile}
use Rattle.proof_check.specs.Verdicts.{Verdict}
use Rattle.logics.specs.declared.verdict.Verdict.TheVariants.{Accepted}
use Rattle.proof_check.specs.Files.{AreRight, graph_of}
use Rattle.proof_check.specs.Verdicts.{file_graph, state_limit, IsCorrect, IsVerdict}
use Rattle.proof_check.proofs.OneAnswer.{at_most_more, correct_is_accepted}
use Rattle.ring_family.specs.Ring.{holds, ring_definitions, ring_block, ring_bud, ring_nodes, in_blocks, file_node}
use Rattle.ring_family.specs.Ring.{file_nodes}
use Rattle.ring_family.proofs.Correct.{right, paths, states_at_most, moved}

-- ---- the root

some_judgement : (x y : FileNode) → Some x ≡ Some y → y.judgement ≡ x.judgement
some_judgement x y e = let same : y ≡ x = cc in ap (λ (n : FileNode). n.judgement) same

pub ring_root : (k : ℕ) (root : FileNode) → slice_get (file_nodes (ring_nodes k)) 0 ≡ Some root
    → root.judgement ≡ Entail (holds 0 (Univ 0)) (holds k (Univ 0) ∷ [])
ring_root zero root h = some_judgement _ root h
ring_root (suc n) root h = some_judgement _ root h

-- ---- the nodes and the links

module _ (is_link : Reason → Bool) (step : (rule : Rule) → is_link (Step rule) ≡ false)
    (back : (link : Link) → is_link (Back link) ≡ true) where
  abbrev links : List FileNode → ℕ
  links ns = count_by (λ (n : FileNode). is_link n.reason) ns

  block_links : (k i : ℕ) → links (file_nodes (ring_block k i)) ≡ 0
  block_links k i = simp step

  links_from : (k i n : ℕ) → links (file_nodes (in_blocks (ring_block k) (ring_bud k) i n)) ≡ 1
  links_from k i zero = simp back
  links_from k i (suc n) =
      let rest = in_blocks (ring_block k) (ring_bud k) (suc i) n in
      ap links (map-append file_node (ring_block k i) rest) ∙
      omega (
        arith,
        sum_by-append (λ (n : FileNode). cond (is_link n.reason) 1 0) (file_nodes (ring_block k i))
            (file_nodes rest),
        block_links k i,
        links_from k (suc i) n,
      )

  pub ring_links : (k : ℕ) → links (file_nodes (ring_nodes k)) ≡ 1
  ring_links k = links_from k 0 k

-- ---- the verdict

pub few_are_accepted : (k : ℕ) (f : ProofFile) (v : Verdict) → IsVerdict f v → IsCorrect f
    → HasAtMost (file_graph f) (8 * k + 1) → k ≤ 2000 → v ≡ Accepted
few_are_accepted k f v is correct states few = correct_is_accepted f v is correct
    (at_most_more (file_graph f) (8 * k + 1) state_limit (omega arith) states)

module _ (k : ℕ) (one : 1 ≤ k) (few : k ≤ 2000) (f : ProofFile) (most : f.defs.most ≡ limits One)
    (list : f.defs.list ≡ ring_definitions k) (program : f.program ≡ []) (nodes : f.nodes ≡ ring_nodes k) where
  move : (P : DefinitionBook → List Command → List Node → Type 0)
      → P (record { most = limits One; list = ring_definitions k }) [] (ring_nodes k) → P f.defs f.program f.nodes
  move P x = moved P k f.defs f.program f.nodes (λ i. record { most = most i; list = list i }) program nodes x

  file_correct : IsCorrect f
  file_correct =
      record {
        nodes = move (λ book lines xs. AreRight book.most book.list lines xs) (right k one few);
        paths = move (λ book lines xs. AllProgress (graph_of book.most book.list lines xs)) (paths k one few);
      }

  file_states : HasAtMost (file_graph f) (8 * k + 1)
  file_states = move (λ book lines xs. HasAtMost (graph_of book.most book.list lines xs) (8 * k + 1))
      (states_at_most k one few)

  pub ring_is_accepted : (v : Verdict) → IsVerdict f v → v ≡ Accepted
  ring_is_accepted v is = few_are_accepted k f v is file_correct file_states few
