-- One depth of the search, member by member.
use Rattle.std.proofs.Common.{ℕ, ◌≡◌, ◌<◌, Bool, true, false, List, [], ◌∷◌, ◌++◌, refl, sym, ap, subst, ◌∙◌}
use Rattle.std.specs.Prelude.{flat_map}
use Rattle.derivations.specs.System.{System, after, chosen, partial, events_of, Event, Going, status_after, stream}
use Rattle.derivations.specs.System.{offers}
use Rattle.derivations.specs.Stack.{front, tree, later, rest}
use Rattle.derivations.specs.declared.search.Stop.{Stop}
use Rattle.derivations.specs.declared.search.Stop.TheVariants as stop
use Rattle.derivations.specs.declared.search.Visit.{Visit}
use Rattle.derivations.specs.declared.search.Visit.TheVariants as visit
use Rattle.derivations.specs.Engine.{IsVisited, IsNext, HasMore, status_of}
use Rattle.derivations.proofs.Going.{resumed, status_append}
use Rattle.derivations.proofs.Members.{tree_is, tree_open, rest_push}

-- at depth e, with the member d still to visit and then the stack, `c` counts were made
abbrev pub IsAt : {R : Type 0} → System R → ℕ → ℕ → List R → List (List R) → ℕ → Type 0
IsAt s most e d frames c = status_after s most 0 (stream s (partial s e))
    ≡ status_after s most c (stream s (tree s e d ++ rest s e (front d) frames))

member_first : {R : Type 0} (s : System R) (most e c : ℕ) (d : List R) (more : List (List R)) (frames : List (List R))
    → tree s e d ≡ d ∷ more →
    status_after s most c (stream s (tree s e d ++ rest s e (front d) frames))
    ≡ resumed s most (status_after s most c (events_of s d)) (stream s (more ++ rest s e (front d) frames))
member_first s most e c d more frames h =
    ap (λ ds. status_after s most c (stream s (ds ++ rest s e (front d) frames))) h
    ∙ status_append s most c (events_of s d) (stream s (more ++ rest s e (front d) frames))

stays : {R : Type 0} (s : System R) (most : ℕ) (why : Stop) (d : List R) (es : List (Event R))
    → resumed s most (status_of why d) es ≡ status_of why d
stays s most stop.Found d es = refl
stays s most stop.TooManyDerivations d es = refl
stays s most stop.TooManyStates d es = refl

pub stops : {R : Type 0} (s : System R) (most e c : ℕ) (d d' : List R) (frames frames' : List (List R)) (v : Visit)
    (why : Stop) → IsAt s most e d frames c → IsVisited s most e c d frames frames' v → v ≡ visit.Stopped why → d' ≡ d →
    status_after s most 0 (stream s (partial s e)) ≡ status_of why d'
stops s most e c d d' frames frames' v why at visited vv dd =
    let more = flat_map (λ r. tree s e (after d r)) (offers s e d) in
    let w : status_after s most c (events_of s d) ≡ status_of why d = subst (IsVisited s most e c d frames frames')
    vv visited in
    at ∙ (member_first s most e c d more frames (tree_is s e d)
    ∙ (ap (λ st. resumed s most st (stream s (more ++ rest s e (front d) frames))) w
    ∙ (stays s most why d (stream s (more ++ rest s e (front d) frames)) ∙ ap (status_of why) (sym dd))))

-- after the member, the stack is left
goes_on : {R : Type 0} (s : System R) (most e c c' : ℕ) (d : List R) (frames frames' : List (List R))
    → IsAt s most e d frames c → IsVisited s most e c d frames frames' (visit.On c') →
    status_after s most 0 (stream s (partial s e)) ≡ status_after s most c' (stream s (rest s e d frames'))
goes_on s most e c c' d frames frames' at v =
    let pushed : rest s e d frames' ≡ later s e d (chosen s d) ++ rest s e (front d) frames =
    ap (rest s e d) v.3.1 ∙ (rest_push s e d frames v.3.0 ∙ ap
    (λ rs. flat_map (λ r. tree s e (after d r)) rs ++ rest s e (front d) frames) v.3.2) in
    at ∙ (member_first s most e c d (later s e d (chosen s d)) frames (tree_open s e d v.2)
    ∙ (ap (λ st. resumed s most st (stream s (later s e d (chosen s d) ++ rest s e (front d) frames))) v.0
    ∙ ap (λ ds. status_after s most c' (stream s ds)) (sym pushed)))

pub next_member : {R : Type 0} (s : System R) (most e c c' : ℕ) (d d' : List R)
    (frames frames' frames'' : List (List R)) (v : Visit) (dv : List R) (more : Bool) → IsAt s most e d frames c
    → IsVisited s most e c d frames frames' v → v ≡ visit.On c' →
    dv ≡ d → IsNext s e dv frames' d' frames'' more → more ≡ true → IsAt s most e d' frames'' c'
next_member s most e c c' d d' frames frames' frames'' v dv more at visited vv dd next mm =
    let n : rest s e d frames' ≡ tree s e d' ++ rest s e (front d') frames'' = subst
    (λ x. IsNext s e x frames' d' frames'' true) dd (subst (IsNext s e dv frames' d' frames'') mm next) in
    goes_on s most e c c' d frames frames' at (subst (IsVisited s most e c d frames frames') vv visited)
    ∙ ap (λ ds. status_after s most c' (stream s ds)) n

pub none_next : {R : Type 0} (s : System R) (most e c c' : ℕ) (d d' : List R) (frames frames' frames'' : List (List R))
    (v : Visit) (dv : List R) (more : Bool) → IsAt s most e d frames c → IsVisited s most e c d frames frames' v
    → v ≡ visit.On c' →
    dv ≡ d → IsNext s e dv frames' d' frames'' more → more ≡ false
    → status_after s most 0 (stream s (partial s e)) ≡ Going c'
none_next s most e c c' d d' frames frames' frames'' v dv more at visited vv dd next mm =
    let n : rest s e d frames' ≡ [] = subst (λ x. IsNext s e x frames' d' frames'' false) dd
    (subst (IsNext s e dv frames' d' frames'') mm next) in
    goes_on s most e c c' d frames frames' at (subst (IsVisited s most e c d frames frames') vv visited)
    ∙ ap (λ ds. status_after s most c' (stream s ds)) n

pub more_is : (count most c : ℕ) (v : Visit) → HasMore count most v → v ≡ visit.On c → (count < c) × (c < most)
more_is count most c v h vv = subst (HasMore count most) vv h
