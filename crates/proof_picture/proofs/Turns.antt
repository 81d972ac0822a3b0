-- One turn of the loops.
use Rattle.std.proofs.Common.{◌≡◌, ◌<◌, ℕ, suc, ◌+◌, ◌-◌, List, [], ◌∷◌, ◌++◌, map, length, drop, get_or, Option, Some}
use Rattle.std.proofs.Common.{None, true, refl, sym, ap, ◌∙◌, append_assoc, add-one, arith}
use Rattle.std.specs.Prelude.{slice_get, unwrap_or, option_map}
use Rattle.std.proofs.Math.Seq.{drop-cons}
use Rattle.std.proofs.lemmas.List.{map-append}
use Rattle.std.proofs.lemmas.Option.{slice_get-map}
use Rattle.proof_picture.specs.declared.arrows.Arrow.{Arrow}
use Rattle.proof_picture.specs.declared.picture.NodeBox.{NodeBox}
use Rattle.proof_picture.specs.Arrows.{drawn_of}
use Rattle.proof_picture.specs.Pieces.{LabelPart}
use Rattle.proof_picture.specs.Pictures.{Box, box_of}
use Rattle.proof_picture.specs.declared.folds.entries.Entry.{Entry}
use Rattle.proof_picture.specs.declared.folds.fates.Fate.{Fate}
use Rattle.proof_picture.specs.Boxes.{chain, ended_box, link_text, next_box, paired}
use Rattle.proof_picture.specs.Fates.{fate, fates_from, next_of}
use Rattle.proof_picture.specs.Shown.{Shown}
use Rattle.proof_picture.specs.Texts.{reason_from}

-- what is left begins with the element at hand
pub dropped : {A : Type 0} (xs : List A) (i : ℕ) (x : A) → i < length xs → x ≡ get_or xs i x
    → drop i xs ≡ x ∷ drop (i + 1) xs
dropped xs i x within is =
    drop-cons xs i x within ∙ ap (λ y. y ∷ drop (suc i) xs) (sym is) ∙ ap (λ k. x ∷ drop k xs) (sym (add-one i))

-- the fate of one more node
pub one_fate : (entries : List Entry) (place : ℕ) (boxes : List NodeBox) (done v : ℕ) (b : NodeBox)
    (behind new : List Fate) (f : Fate) →
    v + suc done ≡ length boxes → b ≡ get_or boxes (length boxes - 1 - done) b → new ≡ f ∷ behind
    → f ≡ fate entries place behind (length boxes - 1 - done) (box_of b).arrows
    → behind ≡ fates_from entries place (length boxes - done) (map box_of (drop (length boxes - done) boxes))
    → new ≡ fates_from entries place v (map box_of (drop v boxes))
one_fate entries place boxes done v b behind new f at is pushed made so_far =
    let here : length boxes - 1 - done ≡ v = omega arith in
    let next : length boxes - done ≡ suc v = omega arith in
    let known : behind ≡ fates_from entries place (suc v) (map box_of (drop (suc v) boxes)) =
    so_far ∙ ap (λ k. fates_from entries place k (map box_of (drop k boxes))) next in
    let left : drop v boxes ≡ b ∷ drop (suc v) boxes =
    drop-cons boxes v b (omega arith) ∙ ap (λ (y : NodeBox). y ∷ drop (suc v) boxes)
    (sym (is ∙ ap (λ k. get_or boxes k b) here)) in
    pushed
    ∙ ap (λ (g : Fate). g ∷ behind) made
    ∙ (λ i. fate entries place (known i) (here i) (box_of b).arrows ∷ known i)
    ∙ ap (λ (bs : List NodeBox). fates_from entries place v (map box_of bs)) (sym left)

-- one more edge was copied
pub one_arrow : (copy pushed arrows : List Arrow) (i : ℕ) (a b : Arrow) → i < length arrows → a ≡ get_or arrows i a
    → pushed ≡ copy ++ b ∷ [] → drawn_of b ≡ drawn_of a
    → map drawn_of copy ++ map drawn_of (drop i arrows) ≡ map drawn_of arrows
    → map drawn_of pushed ++ map drawn_of (drop (i + 1) arrows) ≡ map drawn_of arrows
one_arrow copy pushed arrows i a b within is more same so_far =
    ap (λ (p : List Arrow). map drawn_of p ++ map drawn_of (drop (i + 1) arrows)) more
    ∙ ap (λ m. m ++ map drawn_of (drop (i + 1) arrows)) (map-append drawn_of copy (b ∷ []))
    ∙ append_assoc (map drawn_of copy) (drawn_of b ∷ []) (map drawn_of (drop (i + 1) arrows))
    ∙ (λ j. map drawn_of copy ++ same j ∷ map drawn_of (drop (i + 1) arrows))
    ∙ ap (λ (bs : List Arrow). map drawn_of copy ++ map drawn_of bs) (sym (dropped arrows i a within is))
    ∙ so_far

-- the whole text is a reason that has begun
pub whole : (ps : List LabelPart) → reason_from true ps ≡ ps
whole [] = refl
whole (p ∷ ps) = ap (λ qs. p ∷ qs) (whole ps)

-- a chain ends where no node comes next, and else goes on
pub chain_ends : (more : Box) (others bs : List Box) (entries : List Entry) (fates : List Fate) (root v : ℕ)
    (text : List LabelPart) (at : ℕ) (b : Box) →
    next_box bs (next_of fates at b.arrows) ≡ None
    → chain (more ∷ others) bs entries fates root v text at b ≡ ended_box entries root v text at b
chain_ends more others bs entries fates root v text at b none =
    ap (λ (o : Option (ℕ × Box)). unwrap_or (option_map (λ next.
    chain others bs entries fates root v (text ++ link_text v at b) next.0 next.1) o)
    (ended_box entries root v text at b)) none

pub chain_goes : (more : Box) (others bs : List Box) (entries : List Entry) (fates : List Fate) (root v : ℕ)
    (text : List LabelPart) (at : ℕ) (b : Box) (w : ℕ) (next : Box) →
    next_box bs (next_of fates at b.arrows) ≡ Some (w, next)
    → chain (more ∷ others) bs entries fates root v text at b
    ≡ chain others bs entries fates root v (text ++ link_text v at b) w next
chain_goes more others bs entries fates root v text at b w next some =
    ap (λ (o : Option (ℕ × Box)). unwrap_or (option_map (λ next.
    chain others bs entries fates root v (text ++ link_text v at b) next.0 next.1) o)
    (ended_box entries root v text at b)) some

-- the box that comes next, where a number is known
pub next_is : (boxes : List NodeBox) (o : Option ℕ) (w : ℕ) (found : Option NodeBox) → Some w ≡ o
    → slice_get boxes w ≡ found → next_box (map box_of boxes) o ≡ paired w (option_map box_of found)
next_is boxes o w found is got =
    ap (next_box (map box_of boxes)) (sym is) ∙ ap (paired w)
    (slice_get-map box_of boxes w ∙ ap (option_map box_of) got)
