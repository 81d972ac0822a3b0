-- What a ring's file says.
use Rattle.std.specs.Prelude.{◌≡◌, ℕ, []}
use Rattle.heap_syntax.specs.Versions.{limits}
use Rattle.heap_syntax.specs.declared.version.Version.TheVariants.{One}
use Rattle.proof_file.specs.declared.file.ProofFile.{ProofFile}
use Rattle.ring_family.specs.Ring.{ring_definitions, ring_nodes, file_nodes}

-- the file says what the family's file of this size says
pub record IsRing (k : ℕ) (f : ProofFile) : Type 0 where
  pub most : f.defs.most ≡ limits One
  pub definitions : f.defs.list ≡ ring_definitions k
  pub program : f.program ≡ []
  pub nodes : f.nodes ≡ file_nodes (ring_nodes k)
