-- The labels of nodes in the words of a problem.
use Rattle.std.specs.Prelude.{ℕ, suc, Bool, List, [], ◌∷◌, ◌++◌, map, Option, Some, None, option_and_then}
use Rattle.cyc_lex.specs.Word.{Word}
use Rattle.heap_formula.specs.Programs.{counted_from_one}
use Rattle.problem_syntax.specs.Names.{Name}
use Rattle.proof_syntax.specs.Trees.{Judgement, Entails, From, Reason, Link, Node}
use Rattle.proof_file.specs.declared.file.ProofFile.{ProofFile}
use Rattle.proof_file.specs.Written.{node_tree}
use Rattle.proof_picture.specs.Labels.{flags_at, statement}
use Rattle.proof_picture.specs.Layout.{label}
use Rattle.proof_picture.specs.Pieces.{LabelPart, Line}
use Rattle.proof_picture.specs.Naming.{Called}
use Rattle.proof_picture.specs.Words.{NameScope, named_words}

-- the number of the line from which a judgement starts
abbrev pub line_number : Judgement → Option ℕ
line_number (Entails e) = None
line_number (From n h) = Some n

-- the number of the companion of a link
abbrev pub target_number : Reason → Option ℕ
target_number (Link l) = Some l.target
target_number _ = None

abbrev pub keys_at : List (List Bool) → Option ℕ → List Bool
keys_at shown None = []
keys_at shown (Some u) = flags_at shown u

-- the names that node v shows, and those of the companion of its link
abbrev pub scope_at : List Name → List (List Bool) → ℕ → Option ℕ → NameScope
scope_at names shown v target = record { names = names; own = flags_at shown v; keys = keys_at shown target }

-- a statement in lines of its own, if there is one
abbrev pub line_part : Option (List Word) → List LabelPart
line_part None = []
line_part (Some ws) = label [] ws ++ Line ∷ []

-- the line of the program from which the judgement starts, if it does from one, and the node's words with names; the
-- flags say of each spatial atom of the antecedent whether it stands out
abbrev pub named_label : Called → List (List Bool) → List Bool → ℕ → Node → List LabelPart
named_label called shown flags v n =
    line_part (option_and_then (λ i. counted_from_one called.lines i) (line_number n.judgement))
    ++ label flags (named_words (scope_at called.names shown v (target_number n.reason)) (statement n))

-- the labels of the nodes from v on
abbrev pub named_labels_from : Called → List (List Bool) → List (List Bool) → ℕ → List Node → List (List LabelPart)
named_labels_from called shown flags v [] = []
named_labels_from called shown flags v (n ∷ ns) =
    named_label called shown (flags_at flags v) v n ∷ named_labels_from called shown flags (suc v) ns

-- the labels of a file's nodes, where each shows these names
abbrev pub named_labels : Called → ProofFile → List (List Bool) → List (List Bool) → List (List LabelPart)
named_labels called f shown flags = named_labels_from called shown flags 0 (map (node_tree f.defs.list) f.nodes)
