-- The edges that stand in a picture.
use Rattle.std.specs.Prelude.{ℕ, suc, Bool, nat_lt, List, [], ◌∷◌, map, length, Option, Some, None, Ok, Err, slice_get}
use Rattle.std.specs.Prelude.{if◌then◌else◌}
use Rattle.heap_formula.specs.declared.judgements.Pair.{Pair}
use Rattle.heap_formula.specs.declared.judgements.Premise.{Premise}
use Rattle.heap_formula.specs.Judgements.{antecedent}
use Rattle.rule_table.specs.Answer.{Answer}
use Rattle.rule_book.specs.Graphs.{Node}
use Rattle.rule_book.specs.Answers.{companion_in, reason_answer, targets_of}
use Rattle.proof_file.specs.declared.file.ProofFile.{ProofFile}
use Rattle.proof_file.specs.FileNodes.{FileNode}
use Rattle.proof_file.specs.Links.{is_link}
use Rattle.proof_picture.specs.declared.arrows.Arrow.{Arrow}
use Rattle.proof_picture.specs.declared.arrows.Row.{Row}

-- an edge: its number among those of its node, where it leads, whether it is a link, whether a refused path takes it,
-- and its trace pairs
pub record Drawn : Type 0 where
  pub place : ℕ
  pub target : ℕ
  pub is_link : Bool
  pub is_refused : Bool
  pub pairs : List Pair

abbrev pub drawn_of : Arrow → Drawn
drawn_of a = record {
  place = a.place;
  target = a.target;
  is_link = a.is_link;
  is_refused = a.is_refused;
  pairs = a.pairs;
}

-- the edges of a node, how many spatial atoms its antecedent has, and how many premises its reason leaves
pub record DrawnRow : Type 0 where
  pub atoms : ℕ
  pub premises : ℕ
  pub arrows : List Drawn

abbrev pub row_of : Row → DrawnRow
row_of r = record { atoms = r.atoms; premises = r.premises; arrows = map drawn_of r.arrows.items }

-- the premises of an answer, none of a fault
abbrev pub premises_in : Answer → List Premise
premises_in (Ok ps) = ps
premises_in (Err fault) = []

-- what the reason of a node leaves to be shown, with trace pairs: the premises of its rule, or the companion of its
-- link
abbrev pub premises_at : ProofFile → FileNode → List Premise
premises_at f n =
    premises_in (reason_answer f.defs.most f.defs.list f.program n.judgement n.reason
    (companion_in (λ (m : Node). m.judgement) f.nodes n.reason))

abbrev pub pairs_in : Option Premise → List Pair
pairs_in (Some p) = p.pairs
pairs_in None = []

-- the trace pairs to the premise of this number, none where there is none
abbrev pub pairs_at : List Premise → ℕ → List Pair
pairs_at ps i = pairs_in (slice_get ps i)

-- an edge to each of the numbers that is below the count of nodes; the first of the numbers has place i
abbrev pub arrows_from : ℕ → Bool → (ℕ → Bool) → List Premise → ℕ → List ℕ → List Drawn
arrows_from count link refused ps i [] = []
arrows_from count link refused ps i (u ∷ us) =
    if nat_lt u count
    then record { place = i; target = u; is_link = link; is_refused = refused i; pairs = pairs_at ps i }
    ∷ arrows_from count link refused ps (suc i) us
    else arrows_from count link refused ps (suc i) us

-- the edges of node v, whose reason leaves these premises: to the nodes of its premises in order, or to its companion
abbrev pub arrows_with : ProofFile → (ℕ → ℕ → Bool) → ℕ → FileNode → List Premise → List Drawn
arrows_with f refused v n ps =
    arrows_from (length f.nodes) (is_link n.reason) (refused v) ps 0 (targets_of n.premises n.reason)

abbrev pub row_at : ProofFile → (ℕ → ℕ → Bool) → ℕ → FileNode → DrawnRow
row_at f refused v n =
    let ps = premises_at f n in
    record {
      atoms = length (antecedent n.judgement).spatial;
      premises = length ps;
      arrows = arrows_with f refused v n ps;
    }

-- the edges of the nodes from v on
abbrev pub rows_from : ProofFile → (ℕ → ℕ → Bool) → ℕ → List FileNode → List DrawnRow
rows_from f refused v [] = []
rows_from f refused v (n ∷ ns) = row_at f refused v n ∷ rows_from f refused (suc v) ns

abbrev pub rows_of : ProofFile → (ℕ → ℕ → Bool) → List DrawnRow
rows_of f refused = rows_from f refused 0 f.nodes
