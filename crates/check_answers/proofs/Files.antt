-- Proof files are read in one way.
use Rattle.std.proofs.Common.{ℕ, List, Result}
use Rattle.cyc_lex.specs.declared.fault.ReadFault.{ReadFault}
use Rattle.proof_syntax.proofs.GrammarLaws.{file-law}
use Rattle.proof_file.specs.declared.file.ProofFile.{ProofFile}
use Rattle.proof_file.specs.Reading.{AreSame, IsRead, proof_files}
use Rattle.proof_file.proofs.Readings.{one_file}
use Rattle.check_answers.specs.Alike.{AreAlike}
use Rattle.check_answers.proofs.OneReading.{one_reading}

pub one_file_reading : (bytes : List ℕ) (r s : Result ProofFile ReadFault) → IsRead bytes r → IsRead bytes s
    → AreAlike AreSame r s
one_file_reading = one_reading proof_files file-law AreSame one_file
