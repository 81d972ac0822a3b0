-- Words that are added once each.
use Rattle.std.proofs.Common.{◌≡◌, ℕ, suc, ◌+◌, ◌<◌, Bool, true, false, cond, List, [], ◌∷◌, ◌++◌, length, drop, get_or}
use Rattle.std.proofs.Common.{drop-cons, refl, sym, ap, ◌∙◌, add-one}
use Rattle.std.specs.List.{list_any, flat_map}
use Rattle.std.proofs.lemmas.List.{append-nil}
use Rattle.std.proofs.lemmas.List.Concat.{flat_map-append}
use Rattle.fo_formula.specs.declared.terms.Sign.{Sign}
use Rattle.fo_formula.specs.declared.terms.Sign.TheVariants.{Constructor}
use Rattle.fo_formula.specs.declared.atoms.FoAtom.{FoAtom}
use Rattle.fo_formula.specs.declared.sequents.FoSequent.{FoSequent}
use Rattle.fo_formula.specs.Words.{Word, first_term}
use Rattle.fo_formula.specs.Tests.{same_word}
use Rattle.fo_search.specs.Subterms.{terms_of_atom, terms_of, parts_of, once, subterms}

pub once-append : (done xs ys : List Word) → once done (xs ++ ys) ≡ once (once done xs) ys
once-append done [] ys = refl
once-append done (x ∷ xs) ys = branch (list_any (same_word x) done) (once-append done xs ys)
    (once-append (done ++ x ∷ []) xs ys)
  where
    branch : (b : Bool) → once done (xs ++ ys) ≡ once (once done xs) ys
        → once (done ++ x ∷ []) (xs ++ ys) ≡ once (once (done ++ x ∷ []) xs) ys
        → cond b (once done (xs ++ ys)) (once (done ++ x ∷ []) (xs ++ ys))
        ≡ once (cond b (once done xs) (once (done ++ x ∷ []) xs)) ys
    branch true there new = there
    branch false there new = new

-- some words are added, and then the rest
pub once_step : (done next part rest whole : List Word) → next ≡ once done part → once done (part ++ rest) ≡ whole
    → once next rest ≡ whole
once_step done next part rest whole e h = ap (λ (ws : List Word). once ws rest) e ∙ sym (once-append done part rest) ∙ h

pub parts_step : (w : Word) (k : ℕ) (s : Sign) → k < length w
    → parts_of (drop k w) ≡ first_term (drop k w) ∷ parts_of (drop (k + 1) w)
parts_step w k s lt =
    let e : drop k w ≡ get_or w k s ∷ drop (suc k) w = drop-cons w k s lt in
    rw add-one (ap parts_of e ∙ ap (λ (u : Word). first_term u ∷ parts_of (drop (suc k) w)) (sym e))

-- the term at place k is added
pub part_added : (done next : List Word) (w at : Word) (k : ℕ) (whole : List Word) → k < length w → at ≡ drop k w
    → next ≡ once done (first_term at ∷ []) → once done (parts_of (drop k w)) ≡ whole
    → once next (parts_of (drop (k + 1) w)) ≡ whole
part_added done next w at k whole lt is e h =
    once_step done next (first_term (drop k w) ∷ []) (parts_of (drop (k + 1) w)) whole
    (e ∙ ap (λ (u : Word). once done (first_term u ∷ [])) is)
    (ap (once done) (sym (parts_step w k (get_or w k (Constructor 0 0)) lt)) ∙ h)

-- what a member gives is added
pub item_added : {X : Type 0} (f : X → List Word) (done next : List Word) (xs : List X) (i : ℕ) (d : X)
    (whole : List Word) → i < length xs → next ≡ once done (f (get_or xs i d))
    → once done (flat_map f (drop i xs)) ≡ whole → once next (flat_map f (drop (i + 1) xs)) ≡ whole
item_added {X} f done next xs i d whole lt e h =
    rw add-one (once_step done next (f (get_or xs i d)) (flat_map f (drop (suc i) xs)) whole e
    (ap (λ (ys : List X). once done (flat_map f ys)) (sym (drop-cons xs i d lt)) ∙ h))

pub atom_added : (done next : List Word) (xs : List FoAtom) (i : ℕ) (d : FoAtom) (whole : List Word) → i < length xs
    → next ≡ once done (flat_map parts_of (terms_of_atom (get_or xs i d)))
    → once done (flat_map parts_of (flat_map terms_of_atom (drop i xs))) ≡ whole
    → once next (flat_map parts_of (flat_map terms_of_atom (drop (i + 1) xs))) ≡ whole
atom_added done next xs i d whole lt e h =
    let x = get_or xs i d in
    let rest = flat_map terms_of_atom (drop (suc i) xs) in
    rw add-one (once_step done next (flat_map parts_of (terms_of_atom x)) (flat_map parts_of rest) whole e
    (ap (once done) (sym (flat_map-append parts_of (terms_of_atom x) rest))
    ∙ ap (λ (ys : List FoAtom). once done (flat_map parts_of (flat_map terms_of_atom ys)))
    (sym (drop-cons xs i d lt)) ∙ h))

-- the parts of both sides of an equation are added
pub sides_added : (done one two l r : List Word) → one ≡ once done l → two ≡ once one r
    → two ≡ once done (l ++ (r ++ []))
sides_added done one two l r a b = b ∙ (λ i. once (a i) (sym (append-nil r) i)) ∙ sym (once-append done l (r ++ []))

-- the parts of the left atoms, and then those of the right, are added
pub both_added : (s : FoSequent) (new one two : List Word) (left right : List FoAtom) → new ≡ [] → left ≡ s.left
    → right ≡ s.right → one ≡ once new (flat_map parts_of (flat_map terms_of_atom left))
    → two ≡ once one (flat_map parts_of (flat_map terms_of_atom right)) → two ≡ subterms s
both_added s new one two left right none l r a b =
    let given : List FoAtom → List Word = λ xs. flat_map parts_of (flat_map terms_of_atom xs) in
    let all : given s.left ++ given s.right ≡ flat_map parts_of (terms_of s) = sym
    (flat_map-append parts_of (flat_map terms_of_atom s.left) (flat_map terms_of_atom s.right))
    ∙ ap (flat_map parts_of) (sym (flat_map-append terms_of_atom s.left s.right)) in
    b
    ∙ (λ i. once (a i) (given (r i)))
    ∙ (λ i. once (once (none i) (given (l i))) (given s.right))
    ∙ sym (once-append [] (given s.left) (given s.right))
    ∙ ap (once []) all
