-- What is answered to the question whether the stack and the heap of a model file satisfy its formula.
use Rattle.std.specs.Prelude.{◌≡◌, ◌≤◌, ◌⊎◌, ℕ, List, [], ◌∷◌, ◌++◌, length, codes, decimal, None, Some, Result, Ok}
use Rattle.std.specs.Prelude.{Err}
use Rattle.heap_formula.specs.Meaning.{Satisfies}
use Rattle.cyc_lex.specs.declared.fault.ReadFault.{ReadFault}
use Rattle.model_check.specs.declared.places.Place.{Place}
use Rattle.model_check.specs.declared.places.Place.TheVariants.{Case, Ask}
use Rattle.model_check.specs.FirstPlaces.{IsFirstPlace}
use Rattle.model_file.specs.declared.file.Model.{Model}
use Rattle.model_file.specs.Reading as models
use Rattle.cyc_runs.specs.declared.endings.Status.{Status}
use Rattle.cyc_runs.specs.declared.endings.Status.TheVariants.{Success, Refused, IllFormed}
use Rattle.cyc_runs.specs.Faults.{IsFaultAnswer}
use Rattle.cyc_runs.specs.Runs.{Answering, input_limit}

-- the stack and the heap satisfy the formula
abbrev pub IsSatisfying : Model → Type 0
IsSatisfying m = Satisfies m.defs.list m.stack m.heap m.ask

-- ---- the lines

abbrev pub holds_text : List ℕ
holds_text = codes "holds\n"

abbrev pub fails_text : List ℕ
fails_text = codes "fails\n"

-- some variable is not known at this place
abbrev pub place_text : Place → List ℕ
place_text (Case p c) = codes "ill-formed constructive case " ++ decimal p ++ codes " " ++ decimal c ++ codes "\n"
place_text (Ask d) = codes "ill-formed constructive ask " ++ decimal d ++ codes "\n"

-- ---- the answers

-- that they satisfy it, or that they do not, is said
abbrev pub IsSaid : Model → Status → List ℕ → Type 0
IsSaid m ending text =
    (IsSatisfying m × (ending ≡ Success) × (text ≡ holds_text))
    ⊎ ((¬ IsSatisfying m) × (ending ≡ Refused) × (text ≡ fails_text))

-- the first place that is not constructive is named, or, where there is none, the question is answered
abbrev pub IsModelAnswer : Model → Status → List ℕ → Type 0
IsModelAnswer m ending text =
    ((place : Place) × IsFirstPlace m.defs.list (m.ask ∷ []) (Some place) × (ending ≡ IllFormed)
    × (text ≡ place_text place)) ⊎ (IsFirstPlace m.defs.list (m.ask ∷ []) None × IsSaid m ending text)

-- a reader that answered so is answered so
abbrev pub IsReadAnswer : Result Model ReadFault → Status → List ℕ → Type 0
IsReadAnswer (Ok m) ending text = IsModelAnswer m ending text
IsReadAnswer (Err fault) ending text = IsFaultAnswer fault ending text

-- the input is read as a model, and answered so
abbrev pub IsModelled : Answering
IsModelled input ending text =
    (length input ≤ input_limit) × (read : Result Model ReadFault) × models.IsRead input read
    × IsReadAnswer read ending text
