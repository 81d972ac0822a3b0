-- Files of a wider version that say what another file says.
use Rattle.std.specs.Prelude.{◌≡◌}
use Rattle.cyc_basics.specs.Limits.{AreWithin}
use Rattle.proof_file.specs.declared.file.ProofFile.{ProofFile}

-- a file of a version that allows as much, with the other's definitions, program and nodes
pub record IsWidened (f g : ProofFile) : Type 0 where
  pub within : AreWithin f.defs.most g.defs.most
  pub definitions : g.defs.list ≡ f.defs.list
  pub program : g.program ≡ f.program
  pub nodes : g.nodes ≡ f.nodes
