-- The boxes of a folded picture: a node, a closed subtree, or a chain.
use Rattle.std.specs.Prelude.{ℕ, Bool, false, ◌&&◌, not, nat_eq, nat_lt, List, [], ◌∷◌, ◌++◌, Option, Some, None}
use Rattle.std.specs.Prelude.{slice_get, unwrap_or, option_map, if◌then◌else◌}
use Rattle.proof_picture.specs.Arrows.{Drawn}
use Rattle.proof_picture.specs.Pieces.{LabelPart, Line}
use Rattle.proof_picture.specs.Pictures.{Box}
use Rattle.proof_picture.specs.declared.folds.entries.Entry.{Entry}
use Rattle.proof_picture.specs.declared.folds.fates.Fate.{Fate}
use Rattle.proof_picture.specs.Entries.{root_in}
use Rattle.proof_picture.specs.Fates.{count_at, next_of}
use Rattle.proof_picture.specs.Shown.{Shown}
use Rattle.proof_picture.specs.Texts.{judgement_in, reason_from}

-- a bud uses a lemma where its companion is the root of another tree than the one that begins with `root`
abbrev pub uses : List Entry → ℕ → List Drawn → Bool
uses entries root [] = false
uses entries root (a ∷ others) = a.is_link && (root_in entries a.target && not (nat_eq a.target root))

-- a closed subtree of more than one node
abbrev pub closed_box : ℕ → ℕ → Box → Shown
closed_box v count b = record {
  first = v;
  last = v;
  count = Some count;
  uses_lemma = false;
  label = judgement_in b.label;
  fault = None;
  arrows = [];
}

-- the box that began with node v, and ends with node `at`
abbrev pub ended_box : List Entry → ℕ → ℕ → List LabelPart → ℕ → Box → Shown
ended_box entries root v text at b = record {
  first = v;
  last = at;
  count = None;
  uses_lemma = uses entries root b.arrows;
  label = text ++ b.label;
  fault = b.fault;
  arrows = b.arrows;
}

-- the text of a node in a chain, before the last: of the first the whole, of the others the reason
abbrev pub link_text : ℕ → ℕ → Box → List LabelPart
link_text v at b = reason_from (nat_eq v at) b.label ++ Line ∷ []

abbrev pub paired : ℕ → Option Box → Option (ℕ × Box)
paired w None = None
paired w (Some b) = Some (w, b)

-- the node that a chain goes on to: its number and its box
abbrev pub next_box : List Box → Option ℕ → Option (ℕ × Box)
next_box bs None = None
next_box bs (Some w) = paired w (slice_get bs w)

-- the box that began with node v, has this text, and has come to node `at`; the first list has as many boxes as nodes
-- may still be taken in
abbrev pub chain : List Box → List Box → List Entry → List Fate → ℕ → ℕ → List LabelPart → ℕ → Box → Shown
chain [] bs entries fates root v text at b = ended_box entries root v text at b
chain (more ∷ others) bs entries fates root v text at b =
    unwrap_or
    (option_map (λ next. chain others bs entries fates root v (text ++ link_text v at b) next.0 next.1)
    (next_box bs (next_of fates at b.arrows)))
    (ended_box entries root v text at b)

abbrev pub chain_at : List Box → List Entry → List Fate → ℕ → ℕ → Box → Shown
chain_at bs entries fates root v b = chain bs bs entries fates root v [] v b

abbrev pub by_count : Option ℕ → List Box → List Entry → List Fate → ℕ → ℕ → Box → Shown
by_count None bs entries fates root v b = chain_at bs entries fates root v b
by_count (Some count) bs entries fates root v b =
    if nat_lt 1 count then closed_box v count b else chain_at bs entries fates root v b

-- the box that begins with node v
abbrev pub shown_at : List Box → List Entry → List Fate → ℕ → ℕ → Box → Shown
shown_at bs entries fates root v b = by_count (count_at (slice_get fates v)) bs entries fates root v b
