-- The commands of a script, and which may stand where.
use Rattle.std.specs.Prelude.{◌≡◌, ℕ, Bool, true, false, List, [], ◌∷◌, Option, Some, None}
use Rattle.script_reader.specs.declared.words.Command.{Command}
use Rattle.script_reader.specs.declared.words.Command.TheVariants.{Exit, Assert, Check, Unsupported}
use Rattle.script_reader.specs.declared.commands.After.{After}
use Rattle.script_reader.specs.declared.commands.After.TheVariants.{Goes, Asks, Ends}
use Rattle.script_reader.specs.Tokens.{tokens_of}
use Rattle.script_reader.specs.Atoms.{atom_text}
use Rattle.script_reader.specs.Forests.{Forest, atom, list, none, tokens_in}
use Rattle.script_reader.specs.Words.{command_of}

-- the command that trees begin with
abbrev pub word_in : List ℕ → Forest → Option Command
word_in bytes none = None
word_in bytes (atom kind from to rest) = command_of (atom_text bytes kind from to)
word_in bytes (list from behind inner last to rest) = None

-- the commands that lists beside each other begin with
abbrev pub commands_in : List ℕ → Forest → List (Option Command)
commands_in bytes none = []
commands_in bytes (atom kind from to rest) = None ∷ commands_in bytes rest
commands_in bytes (list from behind inner last to rest) = word_in bytes inner ∷ commands_in bytes rest

-- what a command does to the script where its question was asked already, or not; None where it may not stand there:
-- an assert and a second question behind the question, and nowhere what is unsupported or no command
abbrev pub ruled : Option Command → Bool → Option After
ruled None asked = None
ruled (Some Exit) asked = Some Ends
ruled (Some Assert) true = None
ruled (Some Assert) false = Some Goes
ruled (Some Check) true = None
ruled (Some Check) false = Some Asks
ruled (Some Unsupported) asked = None
ruled (Some other) asked = Some Goes

abbrev pub asks_after : Option After → Bool → (Bool → Bool) → Bool
asks_after None asked later = false
asks_after (Some Goes) asked later = later asked
asks_after (Some Asks) asked later = later true
asks_after (Some Ends) asked later = asked

-- commands, up to the first exit, that may all stand there, and after which a question was asked
unfoldable pub asks_from : Bool → List (Option Command) → Bool
asks_from asked [] = asked
asks_from asked (c ∷ cs) = asks_after (ruled c asked) asked (λ a. asks_from a cs)

-- the text is a script that asks one question before its first exit, and asserts nothing behind it
pub record IsAsked (bytes : List ℕ) : Type 0 where
  pub forest : Forest
  pub is_tokens : tokens_in forest ≡ tokens_of bytes
  pub asks : asks_from false (commands_in bytes forest) ≡ true
