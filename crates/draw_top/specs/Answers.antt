-- What `draw` answers.
use Rattle.std.specs.Prelude.{◌≡◌, ◌≢◌, ℕ, Bool, List, ◌++◌, map, Option, Some, None, Result, Ok, Err, codes}
use Rattle.cyc_lex.specs.declared.fault.ReadFault.{ReadFault}
use Rattle.cyc_lex.specs.declared.fault.ReadFault.TheVariants as faults
use Rattle.cyc_lex.specs.Lexing.{tokens_of}
use Rattle.cyc_lex.specs.Placed.{Placed}
use Rattle.cyc_lex.specs.Word.{Word, word_of}
use Rattle.cyc_runs.specs.declared.endings.Status.{Status}
use Rattle.cyc_runs.specs.declared.endings.Status.TheVariants as status
use Rattle.cyc_runs.specs.Faults.{IsFaultAnswer, fault_status, fault_text}
use Rattle.cyc_runs.specs.Runs.{Answering, IsAnswerOf}
use Rattle.cyc_runs.specs.Runs as runs
use Rattle.draw_top.specs.declared.inputs.fits.Misfit.{Misfit}
use Rattle.draw_top.specs.declared.inputs.fits.Misfit.TheVariants as misfits
use Rattle.draw_top.specs.Fits.{IsMisfit}
use Rattle.draw_top.specs.Parts.{parts_in}
use Rattle.formula_reader.specs.declared.problem.Problem.{Problem}
use Rattle.formula_reader.specs.Reading as problems
use Rattle.problem_syntax.specs.Numbering.{universals}
use Rattle.proof_picture.specs.Naming.{Called}
use Rattle.proof_picture.specs.NamedPictures.{named_boxes}
use Rattle.proof_picture.specs.Titles.{lines_in, statements_in, title}
use Rattle.proof_picture.specs.Folding.{folded_trees}
use Rattle.problem_syntax.specs.Trees as named
use Rattle.proof_file.specs.declared.file.ProofFile.{ProofFile}
use Rattle.proof_file.specs.Reading.{IsRead}
use Rattle.proof_check.specs.Verdicts.{Verdict}
use Rattle.proof_check.specs.Verdicts.{IsVerdict}
use Rattle.proof_picture.specs.Pictures.{Box, boxes_of, is_large}
use Rattle.proof_picture.specs.Pieces.{LabelPart}
use Rattle.draw_top.specs.declared.words.View.{View}
use Rattle.draw_top.specs.declared.words.View.TheVariants.{Whole, Folded}
use Rattle.draw_top.specs.Drawings.{drawing}
use Rattle.draw_top.specs.Folds.{folded_drawing}
use Rattle.draw_top.specs.Graphs.{Drawing}
use Rattle.draw_top.specs.Texts.{graph_text}
use Rattle.draw_top.specs.Titles.{titled}
use Rattle.draw_top.specs.Words.{view_of}

-- the drawing of these boxes in a view
abbrev pub drawing_in : View → List Box → Bool → Drawing
drawing_in Whole boxes is_large = drawing boxes is_large
drawing_in Folded boxes is_large = folded_drawing (folded_trees boxes) is_large

-- the text of the picture of a file, with what its verdict names in red
abbrev pub IsTextOf : View → ProofFile → List ℕ → Type 0
IsTextOf view f text =
    (verdict : Verdict) × IsVerdict f verdict × (text ≡ graph_text
    (drawing_in view (boxes_of f verdict) (is_large verdict)))

-- a file is drawn; a fault of the input is told as the check tells it
abbrev pub IsReadAnswer : View → Result ProofFile ReadFault → Status → List ℕ → Type 0
IsReadAnswer view (Ok f) ending text = (ending ≡ status.Success) × IsTextOf view f text
IsReadAnswer view (Err fault) ending text = IsFaultAnswer fault ending text

-- an input that is a proof alone is read, and answered so
abbrev pub IsAloneAnswer : View → List ℕ → Status → List ℕ → Type 0
IsAloneAnswer view input ending text = (read : Result ProofFile ReadFault) × IsRead input read
    × IsReadAnswer view read ending text

-- ---- a proof, and behind it the problem that was proved

-- the text of the picture of a file in these names, with a title, and with what its verdict names in red
abbrev pub IsTitledText : View → ProofFile → Called → List LabelPart → List ℕ → Type 0
IsTitledText view f called parts text =
    (verdict : Verdict) × IsVerdict f verdict × (text ≡ graph_text
    (titled parts (is_large verdict) (drawing_in view (named_boxes called f verdict) (is_large verdict))))

-- the names of the variables of a problem's goal by their numbers, and the lines of its program, one of these
-- statements each
abbrev pub called_in : named.Problem → List (List Word) → Called
called_in tree statements = record { names = universals tree; lines = lines_in statements }

-- the same in the words of the problem with this tree
abbrev pub IsTextIn : View → ProofFile → named.Problem → List Word → List ℕ → Type 0
IsTextIn view f tree words text =
    let statements = statements_in words in IsTitledText view f (called_in tree statements) (title statements) text

-- the same in the words of the problem that these bytes spell
abbrev pub IsNamedTextOf : View → ProofFile → List ℕ → List ℕ → Type 0
IsNamedTextOf view f problem text =
    (tokens : List Placed) × (tree : named.Problem) × (tokens_of problem ≡ Ok tokens) × problems.SpellsTree tokens tree
    × IsTextIn view f tree (map word_of tokens) text

-- what is said of a problem that is none of the proof
abbrev pub misfit_text : Misfit → List ℕ
misfit_text misfits.Definitions = codes "ill-formed problem definitions\n"
misfit_text misfits.Program = codes "ill-formed problem program\n"
misfit_text misfits.Goal = codes "ill-formed problem goal\n"

-- a proof of the problem's goal is drawn in the problem's words; of any other it is told what differs
abbrev pub IsFitAnswer : View → ProofFile → List ℕ → Option Misfit → Status → List ℕ → Type 0
IsFitAnswer view f problem None ending text = (ending ≡ status.Success) × IsNamedTextOf view f problem text
IsFitAnswer view f problem (Some misfit) ending text = (ending ≡ status.IllFormed) × (text ≡ misfit_text misfit)

-- a fault of a problem is told as the check tells one of its input, behind a word
abbrev pub IsProblemFault : ReadFault → Status → List ℕ → Type 0
IsProblemFault fault ending text =
    (ending ≡ fault_status fault) × (text ≡ codes "problem " ++ fault_text fault) × (fault ≢ faults.OutOfMemory)

abbrev pub IsReadProblemAnswer : View → ProofFile → List ℕ → Result Problem ReadFault → Status → List ℕ → Type 0
IsReadProblemAnswer view f problem (Ok p) ending text = (misfit : Option Misfit) × IsMisfit f p misfit
    × IsFitAnswer view f problem misfit ending text
IsReadProblemAnswer view f problem (Err fault) ending text = IsProblemFault fault ending text

-- the problem behind a file is read, and answered so
abbrev pub IsProblemAnswer : View → ProofFile → List ℕ → Status → List ℕ → Type 0
IsProblemAnswer view f problem ending text =
    (read : Result Problem ReadFault) × problems.IsRead problem read
    × IsReadProblemAnswer view f problem read ending text

abbrev pub IsReadWithAnswer : View → List ℕ → Result ProofFile ReadFault → Status → List ℕ → Type 0
IsReadWithAnswer view problem (Ok f) ending text = IsProblemAnswer view f problem ending text
IsReadWithAnswer view problem (Err fault) ending text = IsFaultAnswer fault ending text

-- a proof and the problem behind it are read, and answered so
abbrev pub IsWithAnswer : View → List ℕ → List ℕ → Status → List ℕ → Type 0
IsWithAnswer view proof problem ending text =
    (read : Result ProofFile ReadFault) × IsRead proof read × IsReadWithAnswer view problem read ending text

-- ---- any input

abbrev pub IsPartsAnswer : View → List ℕ → Option (List ℕ × List ℕ) → Status → List ℕ → Type 0
IsPartsAnswer view input None ending text = IsAloneAnswer view input ending text
IsPartsAnswer view input (Some parts) ending text = IsWithAnswer view parts.0 parts.1 ending text

-- an input in which no problem begins behind a proof is answered as a proof alone
abbrev pub IsDrawn : View → List ℕ → Status → List ℕ → Type 0
IsDrawn view input ending text = IsPartsAnswer view input (parts_in input) ending text

-- the line that says which words have a meaning
abbrev pub usage_text : List ℕ
usage_text = codes "usage: draw [--fold]\n"

-- words that ask for a view have the input drawn; all others give the usage
abbrev pub IsAnswerIn : Option View → Answering
IsAnswerIn (Some view) = IsAnswerOf (IsDrawn view)
IsAnswerIn None = λ input ending text. (ending ≡ status.Usage) × (text ≡ usage_text)

abbrev pub IsAnswer : List (List ℕ) → Answering
IsAnswer words = IsAnswerIn (view_of words)

abbrev pub WroteDrawing : List (List ℕ) → Option (List ℕ) → Option (List ℕ) → Option (List ℕ) → Status → Type 0
WroteDrawing words told old new ending = runs.WroteAnswer (IsAnswer words) told old new ending

abbrev pub WrotePartOfDrawing : List (List ℕ) → Option (List ℕ) → Option (List ℕ) → Option (List ℕ) → Type 0
WrotePartOfDrawing words told old new = runs.WrotePart (IsAnswer words) told old new
