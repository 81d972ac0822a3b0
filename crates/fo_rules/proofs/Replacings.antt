-- The premise of Replace, as it is made and measured.
use Rattle.std.proofs.Common.{◌≡◌, ℕ, ◌+◌, ◌<◌, ◌≤◌, Bool, true, List, [], ◌∷◌, map, length, Some, slice_get, sym, ap}
use Rattle.std.proofs.Common.{◌∙◌, arith}
use Rattle.std.specs.Prelude.{nat_le}
use Rattle.std.proofs.lemmas.List.{length-map}
use Rattle.heap_formula.specs.declared.judgements.Pair.{Pair}
use Rattle.heap_formula.specs.Positions.{without, before}
use Rattle.heap_formula.proofs.Places.{length-without}
use Rattle.fo_formula.specs.declared.atoms.FoAtom.{FoAtom}
use Rattle.fo_formula.specs.declared.sequents.FoSequent.{FoSequent}
use Rattle.fo_formula.specs.Words.{Word, in_atom}
use Rattle.fo_formula.specs.Sizes.{atoms_size}
use Rattle.fo_formula.specs.declared.table.premises.FoPremise.{FoPremise}
use Rattle.fo_formula.specs.declared.table.faults.FoFault.TheVariants.{NoSuchAtom, NotVariable}
use Rattle.fo_formula.specs.Tests.{only_variable}
use Rattle.fo_formula.specs.Answers.{is_short, is_small, finds, equation, limited}
use Rattle.heap_formula.specs.declared.proof_rules.Side.{Side}
use Rattle.fo_formula.specs.declared.atoms.FoAtom.TheVariants.{Equation}
use Rattle.fo_formula.specs.Traces.{pairs_from}
use Rattle.fo_formula.specs.Table.{image_sign, with_term, named, unnamed, replace_answer}
use Rattle.fo_rules.specs.Putting.{put}
use Rattle.fo_rules.specs.declared.parts.changes.Change.{Change}
use Rattle.fo_rules.specs.declared.parts.changes.Change.TheVariants.{Substitution}
use Rattle.fo_rules.proofs.Bounding.{all_short, all_small, short_is}
use Rattle.std.proofs.Math.Bool.{and-true}

module _ (s : FoSequent) (i n : ℕ) (w : Word) (change : Change) (kept right : List FoAtom)
    (kept_is : kept ≡ without i s.left) (right_is : right ≡ s.right) (change_is : change ≡ Substitution ((n, w) ∷ []))
  where
    left_made : map (in_atom (put change)) kept ≡ map (in_atom (image_sign ((n, w) ∷ []))) (without i s.left)
    left_made = λ j. map (in_atom (put (change_is j))) (kept_is j)

    right_made : map (in_atom (put change)) right ≡ map (in_atom (image_sign ((n, w) ∷ []))) s.right
    right_made = λ j. map (in_atom (put (change_is j))) (right_is j)

    pub premise_made : (left' right' : List FoAtom) (pairs : List Pair) → pairs ≡ pairs_from (before i) 0 kept
        → left' ≡ map (in_atom (put change)) kept → right' ≡ map (in_atom (put change)) right
        → ◌≡◌ {A = FoPremise} (record { sequent = record { left = left'; right = right' }; pairs = pairs })
        (with_term s i n w)
    premise_made left' right' pairs p l r =
        let a = l ∙ left_made in
        let b = r ∙ right_made in
        let c = p ∙ ap (pairs_from (before i) 0) kept_is in
        λ j. record { sequent = record { left = a j; right = b j }; pairs = c j }

    pub premise_small : (small : Bool) → small ≡ nat_le (atoms_size (map (in_atom (put change)) kept) + atoms_size
        (map (in_atom (put change)) right)) 4096 → all_small (with_term s i n w ∷ []) ≡ small
    premise_small small e =
        and-true (is_small (with_term s i n w).sequent)
        ∙ sym (e ∙ (λ j. nat_le (atoms_size (left_made j) + atoms_size (right_made j)) 4096))

pub premise_short : (s : FoSequent) (i n : ℕ) (w : Word) → i < length s.left → length s.left ≤ 32 → length s.right ≤ 16
    → all_short (with_term s i n w ∷ []) ≡ true
premise_short s i n w at l r =
    let a = length-map (without i s.left) (in_atom (image_sign ((n, w) ∷ []))) in
    let b = length-map s.right (in_atom (image_sign ((n, w) ∷ []))) in
    let c = length-without s.left i at in
    and-true (is_short (with_term s i n w).sequent) ∙ short_is (with_term s i n w).sequent (omega arith) (omega arith)

pub replace_is : (s : FoSequent) (i : ℕ) (side : Side) (xs : List FoAtom) (x : FoAtom) (l r : Word) → xs ≡ s.left
    → slice_get xs i ≡ Some x → x ≡ Equation l r → replace_answer s i side
    ≡ finds (only_variable (named side l r)) NotVariable (λ n. limited s 0 (with_term s i n (unnamed side l r) ∷ []))
replace_is s i side xs x l r e at is =
    let there : slice_get s.left i ≡ Some (Equation l r) = ap (λ ys. slice_get ys i) (sym e) ∙ at ∙ ap Some is in
    ap (λ o. finds o NoSuchAtom (λ y. equation y (λ a b. finds (only_variable (named side a b)) NotVariable
    (λ n. limited s 0 (with_term s i n (unnamed side a b) ∷ []))))) there
