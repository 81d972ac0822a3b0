-- Files of a later version that say what another file says.
use Rattle.std.specs.Prelude.{◌≡◌}
use Rattle.heap_syntax.specs.declared.version.Version.{Version}
use Rattle.heap_syntax.specs.declared.version.Version.TheVariants.{One, Two, Three}
use Rattle.proof_file.specs.declared.file.ProofFile.{ProofFile}

-- version 1 becomes version 2, and the later versions stay
abbrev pub upgraded : Version → Version
upgraded One = Two
upgraded Two = Two
upgraded Three = Three

-- a file of the upgraded version with the other's definitions, program and nodes
pub record IsUpgrade (f g : ProofFile) : Type 0 where
  pub version : g.version ≡ upgraded f.version
  pub definitions : g.defs.list ≡ f.defs.list
  pub program : g.program ≡ f.program
  pub nodes : g.nodes ≡ f.nodes
