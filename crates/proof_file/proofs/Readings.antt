-- What a tree says is one file.
use Rattle.std.proofs.Common.{sym, ◌∙◌}
use Rattle.proof_syntax.specs.Trees.{File}
use Rattle.proof_file.specs.declared.file.ProofFile.{ProofFile}
use Rattle.proof_file.specs.Reading.{AreSame, IsFileOf}

-- a tree says one file
pub one_file : (t : File) (f g : ProofFile) → IsFileOf t f → IsFileOf t g → AreSame f g
one_file t f g first second = record {
  version = first.version ∙ sym second.version;
  most = first.most ∙ sym second.most;
  definitions = first.definitions ∙ sym second.definitions;
  program = first.program ∙ sym second.program;
  nodes = first.nodes ∙ sym second.nodes;
}
