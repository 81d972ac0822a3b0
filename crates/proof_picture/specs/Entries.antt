-- How the nodes of a picture are entered: how many edges lead to a node, and whether it is a premise.
use Rattle.std.specs.Prelude.{ℕ, Bool, true, false, not, ◌||◌, List, [], ◌∷◌, Option, Some, None, slice_get, slice_set}
use Rattle.proof_picture.specs.Arrows.{Drawn}
use Rattle.proof_picture.specs.Pictures.{Box}
use Rattle.proof_picture.specs.declared.folds.entries.Entered.{Entered}
use Rattle.proof_picture.specs.declared.folds.entries.Entered.TheVariants.{Never, Once, Again}
use Rattle.proof_picture.specs.declared.folds.entries.Entry.{Entry}

abbrev pub more : Entered → Entered
more Never = Once
more Once = Again
more Again = Again

abbrev pub is_once : Entered → Bool
is_once Never = false
is_once Once = true
is_once Again = false

abbrev pub no_entry : Entry
no_entry = record { entered = Never; is_premise = false }

abbrev pub no_entries : List Box → List Entry
no_entries [] = []
no_entries (b ∷ bs) = no_entry ∷ no_entries bs

-- one more edge leads to the node
abbrev pub entry_by : Entry → Drawn → Entry
entry_by e a = record { entered = more e.entered; is_premise = e.is_premise || not a.is_link }

abbrev pub entry_put : List Entry → Drawn → Option Entry → List Entry
entry_put es a None = es
entry_put es a (Some e) = slice_set es a.target (entry_by e a)

abbrev pub enter : List Entry → Drawn → List Entry
enter es a = entry_put es a (slice_get es a.target)

abbrev pub enter_all : List Entry → List Drawn → List Entry
enter_all es [] = es
enter_all es (a ∷ others) = enter_all (enter es a) others

-- how each node is entered, where some edges were counted, and those of these boxes are to be
abbrev pub enter_boxes : List Entry → List Box → List Entry
enter_boxes es [] = es
enter_boxes es (b ∷ bs) = enter_boxes (enter_all es b.arrows) bs

-- how each node of these boxes is entered
abbrev pub entries_in : List Box → List Entry
entries_in bs = enter_boxes (no_entries bs) bs

abbrev pub once_at : Option Entry → Bool
once_at None = false
once_at (Some e) = is_once e.entered

abbrev pub root_at : Option Entry → Bool
root_at None = false
root_at (Some e) = not e.is_premise

-- exactly one edge leads to node v
abbrev pub once_in : List Entry → ℕ → Bool
once_in es v = once_at (slice_get es v)

-- node v is no premise, so that a tree begins with it
abbrev pub root_in : List Entry → ℕ → Bool
root_in es v = root_at (slice_get es v)
