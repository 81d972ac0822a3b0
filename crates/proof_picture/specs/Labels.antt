-- The labels of the nodes of a file.
use Rattle.std.specs.Prelude.{◌≡◌, ◌<◌, ◌^◌, ℕ, suc, Bool, List, [], ◌∷◌, ◌++◌, map, length, Option, Some, None}
use Rattle.std.specs.Prelude.{slice_get, Ok}
use Rattle.cyc_lex.specs.Lexing.{tokens_of}
use Rattle.cyc_lex.specs.Placed.{Placed}
use Rattle.cyc_lex.specs.Word.{Word, word_of, EndsOnce}
use Rattle.heap_syntax.specs.declared.version.Version.TheVariants.{One}
use Rattle.proof_syntax.specs.Trees.{Node, File}
use Rattle.proof_syntax.specs.Grammar.{judgement, reason, node}
use Rattle.proof_file.specs.declared.file.ProofFile.{ProofFile}
use Rattle.proof_file.specs.Written.{node_tree}
use Rattle.proof_picture.specs.Layout.{label}
use Rattle.proof_picture.specs.Pieces.{LabelPart}

-- the words of a node's judgement, then `by`, with which they end, and those of its reason
abbrev pub statement : Node → List Word
statement n = judgement.words n.judgement ++ reason.words n.reason

abbrev pub label_of_node : List Bool → Node → List LabelPart
label_of_node flags n = label flags (statement n)

-- the flags of a node, none past the end
abbrev pub flags_in : Option (List Bool) → List Bool
flags_in (Some flags) = flags
flags_in None = []

abbrev pub flags_at : List (List Bool) → ℕ → List Bool
flags_at flags v = flags_in (slice_get flags v)

-- the labels of the nodes from v on
abbrev pub labels_of : List (List Bool) → ℕ → List Node → List (List LabelPart)
labels_of flags v [] = []
labels_of flags v (n ∷ ns) = label_of_node (flags_at flags v) n ∷ labels_of flags (suc v) ns

-- the labels of a file's nodes; the flags say of each node, and of each spatial atom of its antecedent, whether it
-- stands out
abbrev pub labels_with : ProofFile → List (List Bool) → List (List LabelPart)
labels_with f flags = labels_of flags 0 (map (node_tree f.defs.list) f.nodes)

-- ---- how they are made

-- the node without the numbers of its premises, alone in a file
abbrev pub alone : Node → File
alone n = record {
  version = One;
  definitions = [];
  lines = [];
  ends = [];
  nodes = record { judgement = n.judgement; reason = n.reason; premises = [] } ∷ [];
}

-- the tokens of a text, fewer than 2^32
abbrev pub IsTokensOf : List ℕ → List Placed → Type 0
IsTokensOf bytes ts = (tokens_of bytes ≡ Ok ts) × EndsOnce (map word_of ts) × (length ts < 2 ^ 32)

abbrev pub AllFit : List Node → Type 0
AllFit [] = Unit {0}
AllFit (n ∷ ns) = node.fits n × AllFit ns
