use Rattle.std.proofs.Common.{List, refl}
use Rattle.heap_reader.specs.Trees.{Heading}
use Rattle.fo_logic.specs.Files.{IsFoProof}
use Rattle.fo_syntax.specs.ProofTrees.{file_of}
use Rattle.fo_file.specs.Flaws.{constructor_heads, predicate_heads}
use Rattle.fo_file.specs.Known.{IsKnownFile}
use Rattle.fo_file.specs.Reading.{IsFileOf, IsWritable}
use Rattle.fo_file.proofs.Said.{file-known, said-proof, said-writable, made-file, with-names}
use Rattle.fo_file.proofs.reading.file_of_tree.Goals as goal

pub file_value-requires : goal.file_value-requires
file_value-requires c =
    let f = file_of c.args.tree.now in
    let text = with-names (λ (cs ps : List Heading). IsKnownFile cs ps f)
    c.args.names.now.constructors c.args.names.now.predicates (constructor_heads f.constructors)
    (predicate_heads f.definitions) c.requires.constructors c.requires.predicates
    (file-known f c.requires.fits c.requires.right) in
    record { known = text.known; few = text.constructors; few_predicates = text.predicates }

pub returns : goal.returns
returns c =
    let f = file_of c.args.tree.now in
    let cs = c.args.names.now.constructors in
    let ps = c.args.names.now.predicates in
    record {
      says = made-file (IsFileOf f)
          cs ps f c.file_value.result c.requires.constructors c.requires.predicates refl c.file_value.ensures;
      proof = made-file IsFoProof cs ps f c.file_value.result c.requires.constructors c.requires.predicates
          (said-proof f c.requires.fits c.requires.right) c.file_value.ensures;
      writable = made-file IsWritable cs ps f c.file_value.result c.requires.constructors c.requires.predicates
          (said-writable f c.requires.fits c.requires.right) c.file_value.ensures;
    }
