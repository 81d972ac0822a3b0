-- The words of the language of scripts.
use Rattle.std.specs.Prelude.{ℕ, Bool, List, [], ◌∷◌, Option, Some, None, codes, if◌then◌else◌}
use Rattle.std.specs.List.{list_any}
use Rattle.std.specs.Str.{bytes_eq}
use Rattle.script_reader.specs.declared.words.Command.{Command}
use Rattle.script_reader.specs.declared.words.Command.TheVariants as command
use Rattle.script_reader.specs.declared.words.CommandWord.{CommandWord}
use Rattle.script_reader.specs.declared.words.Head.{Head}
use Rattle.script_reader.specs.declared.words.Head.TheVariants as head
use Rattle.script_reader.specs.declared.words.HeadWord.{HeadWord}

-- what a word stands for in a list of words
abbrev pub named : {V : Type 0} → List ℕ → List (List ℕ × V) → Option V
named text [] = None
named text (w ∷ ws) = if bytes_eq w.0 text then Some w.1 else named text ws

-- a word of the list, and what it stands for
abbrev pub command_word : CommandWord → List ℕ × Command
command_word w = (w.text.now, w.command)

-- the commands
unfoldable pub command_words : List (List ℕ × Command)
command_words =
    (codes "set-logic", command.Aside) ∷ (codes "set-info", command.Aside) ∷ (codes "set-option", command.Aside)
    ∷ (codes "echo", command.Aside) ∷ (codes "get-info", command.Aside) ∷ (codes "get-option", command.Aside)
    ∷ (codes "get-model", command.Aside) ∷ (codes "get-value", command.Aside) ∷ (codes "get-proof", command.Aside)
    ∷ (codes "get-assertions", command.Aside) ∷ (codes "get-unsat-core", command.Aside)
    ∷ (codes "get-assignment", command.Aside) ∷ (codes "exit", command.Exit)
    ∷ (codes "declare-sort", command.DeclareSort) ∷ (codes "declare-datatype", command.DeclareDatatype)
    ∷ (codes "declare-datatypes", command.DeclareDatatypes) ∷ (codes "declare-heap", command.DeclareHeap)
    ∷ (codes "declare-const", command.DeclareConst) ∷ (codes "declare-fun", command.DeclareFun)
    ∷ (codes "define-fun", command.DefineFun) ∷ (codes "define-fun-rec", command.DefineFunRec)
    ∷ (codes "define-funs-rec", command.DefineFunsRec) ∷ (codes "assert", command.Assert)
    ∷ (codes "check-sat", command.Check) ∷ (codes "check-unsat", command.Check) ∷ (codes "push", command.Unsupported)
    ∷ (codes "pop", command.Unsupported) ∷ (codes "reset", command.Unsupported)
    ∷ (codes "reset-assertions", command.Unsupported) ∷ (codes "check-sat-assuming", command.Unsupported)
    ∷ (codes "define-sort", command.Unsupported) ∷ (codes "define-const", command.Unsupported)
    ∷ (codes "declare-sort-parameter", command.Unsupported) ∷ (codes "declare-codatatype", command.Unsupported)
    ∷ (codes "declare-codatatypes", command.Unsupported) ∷ (codes "declare-pool", command.Unsupported)
    ∷ (codes "simplify", command.Unsupported) ∷ (codes "get-abduct", command.Unsupported) ∷ []

abbrev pub command_of : List ℕ → Option Command
command_of text = named text command_words

-- a word of the list, and what it begins
abbrev pub head_word : HeadWord → List ℕ × Head
head_word w = (w.text.now, w.head)

-- the words that formulas and terms begin with, beside the names that a script declares
unfoldable pub head_words : List (List ℕ × Head)
head_words =
    (codes "true", head.True) ∷ (codes "false", head.False) ∷ (codes "emp", head.Empty)
    ∷ (codes "sep.emp", head.Empty) ∷ (codes "=", head.Equal) ∷ (codes "distinct", head.Distinct)
    ∷ (codes "not", head.Not) ∷ (codes "and", head.And) ∷ (codes "or", head.Or) ∷ (codes "=>", head.Implies)
    ∷ (codes "ite", head.IfThenElse) ∷ (codes "sep", head.Sep) ∷ (codes "pto", head.PointsTo)
    ∷ (codes "exists", head.Exists) ∷ (codes "let", head.Let) ∷ (codes "!", head.Annotated)
    ∷ (codes "_", head.Indexed) ∷ (codes "forall", head.ForAll) ∷ (codes "wand", head.Wand)
    ∷ (codes "septraction", head.Wand) ∷ (codes "-*", head.Wand) ∷ (codes "xor", head.Connective)
    ∷ (codes "loop", head.Connective) ∷ (codes "tobool", head.Connective) ∷ (codes "tospace", head.Connective)
    ∷ (codes "ssep", head.Connective) ∷ (codes "index", head.Connective) ∷ (codes "match", head.Connective)
    ∷ (codes "nil", head.Nil) ∷ (codes "sep.nil", head.Nil) ∷ (codes "as", head.Cast) ∷ (codes "<", head.Theory)
    ∷ (codes "<=", head.Theory) ∷ (codes ">", head.Theory) ∷ (codes ">=", head.Theory)
    ∷ (codes "+", head.Theory) ∷ (codes "-", head.Theory) ∷ []

abbrev pub head_of : List ℕ → Option Head
head_of text = named text head_words

-- the sorts of other theories, and that of truth values
unfoldable pub theory_sorts : List (List ℕ)
theory_sorts = codes "Bool" ∷ codes "Int" ∷ codes "Real" ∷ codes "String" ∷ codes "RegLan" ∷ codes "Set"
    ∷ codes "Array" ∷ codes "BitVec" ∷ codes "Bag" ∷ []

-- whether a word is one of a list
abbrev pub is_among : List ℕ → List (List ℕ) → Bool
is_among text words = list_any (λ w. bytes_eq w text) words
