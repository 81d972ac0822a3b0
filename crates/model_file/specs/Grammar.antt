-- The grammar of model files.
use Rattle.std.specs.Prelude.{ℕ, false, List, [], ◌∷◌, codes}
use Rattle.cyc_grammar.specs.Syntax.{Syntax, Class, one, seq, shaped, after, before, headed, or_empty}
use Rattle.cyc_grammar.specs.Classes.{keyword, the_end, number}
use Rattle.heap_syntax.specs.Words.{cyclist_word, comma, semicolon, arrow, opening, closing, last_word}
unfoldable pub use Rattle.heap_syntax.specs.Grammar.{listed}
use Rattle.heap_syntax.specs.Grammar.{Any}
use Rattle.heap_syntax.specs.DefinitionGrammar.{terms, heap, definitions}
use Rattle.heap_syntax.specs.DefinitionTrees.{Heap, Definition}
use Rattle.model_file.specs.declared.version.ModelVersion.{ModelVersion}
use Rattle.model_file.specs.Trees.{Cell, Model}
use Rattle.model_file.specs.Versions.{model_version}

-- ---- words

abbrev pub model_word : Class (Unit {0})
model_word = keyword (codes "model")

abbrev pub stack_word : Class (Unit {0})
stack_word = keyword (codes "stack")

abbrev pub heap_word : Class (Unit {0})
heap_word = keyword (codes "heap")

abbrev pub ask_word : Class (Unit {0})
ask_word = keyword (codes "ask")

-- ---- number { "," number }, and a word after it

unfoldable pub numbers : Class (Unit {0}) → Syntax (List ℕ)
numbers behind = listed 0 comma behind (one number)

-- [ number { "," number } ] ";"
unfoldable pub values : Syntax (List ℕ)
values = or_empty semicolon (numbers semicolon)

-- ---- hcell = number "->" "(" number { "," number } ")"

abbrev pub to_cell : ℕ × List ℕ → Cell
to_cell p = record { address = p.0; fields = p.1 }

abbrev pub from_cell : Cell → ℕ × List ℕ
from_cell c = (c.address, c.fields)

unfoldable pub cell : Syntax Cell
cell = shaped {A = ℕ × List ℕ} to_cell from_cell Any (seq (one number) (after arrow (after opening (numbers closing))))

abbrev pub some_cell : Cell
some_cell = record { address = 0; fields = 0 ∷ [] }

-- hcell { "," hcell } ";"
unfoldable pub cells1 : Syntax (List Cell)
cells1 = listed some_cell comma semicolon cell

-- [ hcell { "," hcell } ] ";"
unfoldable pub cells : Syntax (List Cell)
cells = or_empty semicolon cells1

-- ---- model = "cyclist" "model" version ";" { pred } "stack" values "heap" cells "ask" heap ";" "end" ";", and the end of the text

-- "ask" heap ";" "end"
unfoldable pub question : Syntax Heap
question = after ask_word (before (before (heap (terms false)) semicolon) last_word)

-- "stack" values "heap" cells
unfoldable pub state : Syntax (List ℕ × List Cell)
state = after stack_word (seq values (after heap_word cells))

abbrev pub to_model : (v : ModelVersion) × (List Definition × ((List ℕ × List Cell) × Heap)) → Model
to_model p = record { version = p.0; definitions = p.1.0; stack = p.1.1.0.0; cells = p.1.1.0.1; ask = p.1.1.1 }

abbrev pub from_model : Model → (v : ModelVersion) × (List Definition × ((List ℕ × List Cell) × Heap))
from_model m = (m.version, (m.definitions, ((m.stack, m.cells), m.ask)))

-- what stands after the version
abbrev pub contents : ModelVersion → Syntax (List Definition × ((List ℕ × List Cell) × Heap))
contents v = after semicolon (seq definitions (seq state (before question semicolon)))

unfoldable pub body : Syntax Model
body = shaped {A = (v : ModelVersion) × (List Definition × ((List ℕ × List Cell) × Heap))} to_model from_model Any
    (after cyclist_word (after model_word (headed model_version contents)))

unfoldable pub model : Syntax Model
model = before body the_end
