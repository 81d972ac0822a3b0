-- What stands before the nodes of a file.
use Rattle.std.proofs.Common.{◌≡◌, None, refl}
use Rattle.proof_syntax.specs.Trees.{File}
use Rattle.heap_syntax.specs.Versions.{limits}
use Rattle.heap_reader.specs.Flaws.{or_later, listed_flaw}
use Rattle.heap_reader.proofs.NoFlaw.{none_later}
use Rattle.proof_file.specs.Spans.{definition_span}
use Rattle.proof_file.specs.Building.{front_of}
use Rattle.proof_file.specs.Flaws.{headings, program_flaw, definition_flaw, first_line, file_ends_flaw, file_flaw}
use Rattle.proof_file.proofs.Fitting.{file_parts}

-- what stands before the nodes of a file without a flaw has none
pub front_right : (f : File) → file_flaw f ≡ None → file_flaw (front_of f.version f.definitions f.lines f.ends) ≡ None
front_right f e =
    let definitions = listed_flaw (definition_flaw (limits f.version) (headings f.definitions))
    definition_span 0 4 f.definitions in
    let program = program_flaw (limits f.version) (first_line f) f.lines in
    let parts = file_parts f e in
    let ends = file_ends_flaw f in
    none_later definitions (or_later program (or_later ends None)) parts.0
    (none_later program (or_later ends None) parts.1 (none_later ends None parts.2 refl))
