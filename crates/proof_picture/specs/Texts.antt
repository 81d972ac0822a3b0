-- The judgement and the reason in the text of a box.
use Rattle.std.specs.Prelude.{Bool, true, false, ◌||◌, nat_eq, List, [], ◌∷◌, codes, if◌then◌else◌}
use Rattle.std.specs.List.{starts_with}
use Rattle.proof_picture.specs.Pieces.{LabelPart, Words, Space, Line}

-- the reason begins with the word `by`, which is reserved, so no name, and goes on in the same piece
abbrev pub begins_reason : LabelPart → Bool
begins_reason (Words bold text) = starts_with nat_eq text (codes "by ")
begins_reason Space = false
begins_reason Line = false

-- the text before the reason, with the end of its last line
abbrev pub judgement_in : List LabelPart → List LabelPart
judgement_in [] = []
judgement_in (p ∷ ps) = if begins_reason p then [] else p ∷ judgement_in ps

-- the reason, or the whole text where it has begun already
abbrev pub reason_from : Bool → List LabelPart → List LabelPart
reason_from began [] = []
reason_from began (p ∷ ps) = if began || begins_reason p then p ∷ reason_from true ps else reason_from false ps
