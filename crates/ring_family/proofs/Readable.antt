-- What the reader of a file sees to holds of the ring's file.
use Rattle.std.proofs.Common.{◌≡◌, ℕ, zero, suc, List, [], ◌∷◌, Bool, true, Some, refl, ap}
use Rattle.std.specs.Prelude.{slice_get}
use Rattle.std.specs.List.{list_all}
use Rattle.std.proofs.lemmas.Bool.{and_from}
use Rattle.rule_book.specs.Graphs.{Node}
use Rattle.proof_file.specs.FileNodes.{FileNode}
use Rattle.proof_file.specs.Readable.{is_readable, is_at_line, are_readable, are_at_lines, all_have_few_cases}
use Rattle.ring_family.specs.Ring.{definitions_from, ring_definitions, ring_nodes, file_node, file_nodes}
use Rattle.ring_family.proofs.Members.{each_node}

all_true : (test : FileNode → Bool) (xs : List Node)
    → ((v : ℕ) (x : Node) → slice_get xs v ≡ Some x → test (file_node x) ≡ true) → list_all test (file_nodes xs) ≡ true
all_true test [] h = refl
all_true test (x ∷ xs) h = and_from (test (file_node x)) (list_all test (file_nodes xs)) (h 0 x refl)
    (all_true test xs (λ v y is. h (suc v) y is))

pub readable : (k : ℕ) → are_readable (file_nodes (ring_nodes k)) ≡ true
readable k =
    all_true is_readable (ring_nodes k) (each_node (λ x. is_readable (file_node x) ≡ true) k
    (λ m _. (refl, (refl, (refl, (refl, (refl, (refl, (refl, (refl, tt))))))))) refl)

pub at_lines : (k : ℕ) → are_at_lines 0 (file_nodes (ring_nodes k)) ≡ true
at_lines k =
    all_true (λ n. is_at_line 0 n.judgement) (ring_nodes k)
    (each_node (λ x. is_at_line 0 x.judgement ≡ true) k (λ m _.
    (refl, (refl, (refl, (refl, (refl, (refl, (refl, (refl, tt))))))))) refl)

few_from : (k i n : ℕ) → all_have_few_cases (definitions_from k i n) ≡ true
few_from k i zero = refl
few_from k i (suc n) = few_from k (suc i) n

pub few_cases : (k : ℕ) → all_have_few_cases (ring_definitions k) ≡ true
few_cases k = few_from k 0 k

pub nodes_again : (xs : List Node) → file_nodes xs ≡ xs
nodes_again [] = refl
nodes_again (x ∷ xs) = ap (λ ys. x ∷ ys) (nodes_again xs)
