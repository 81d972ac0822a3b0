-- The lines that are tried where there is one disjunct.
use Rattle.std.proofs.Common.{◌≡◌, ◌<◌, ◌≤◌, List, [], ◌∷◌, length, get_or, refl, ap, sym, ◌∙◌, arith}
use Rattle.heap_formula.specs.declared.judgements.Judgement.{Judgement}
use Rattle.heap_formula.specs.Symbolic.{SymbolicHeap}
use Rattle.heap_formula.specs.declared.proof_rules.Rule.{Rule}
use Rattle.search_moves.specs.Places.{first_that}
use Rattle.cyc_basics.specs.Words.{or_else}
use Rattle.search_moves.specs.declared.entailments.Line.{Line}
use Rattle.search_moves.specs.declared.entailments.Line.TheVariants.{End, PureRights, Distincts, CellFrames, Equations}
use Rattle.search_moves.specs.declared.entailments.Line.TheVariants.{Fields, PredicateFrames}
use Rattle.search_moves.specs.Trying.{Theory, is_applicable}
use Rattle.search_moves.specs.Entailments.{last_line, single_line, entailment_after}
use Rattle.search_moves.specs.Lines.{rules_on, offered_from}

or_none : {X : Type 0} (xs : List X) → or_else xs [] ≡ xs
or_none [] = refl
or_none (x ∷ xs) = refl

in_order : (t : Theory) (j : Judgement) (a b : SymbolicHeap)
    → offered_from t j a b (End ∷ PureRights ∷ Distincts ∷ CellFrames ∷ Equations ∷ Fields ∷ PredicateFrames ∷ [])
    ≡ single_line t j a b
in_order t j a b = after End (after PureRights (after Distincts
    (after CellFrames (after Equations (after Fields (after PredicateFrames (sym (or_none (last_line t j a b)))))))))
  where
    after : (line : Line) {rest rest' : List Rule} → rest ≡ rest'
        → or_else (first_that (is_applicable t j) (rules_on a b line)) rest
        ≡ or_else (first_that (is_applicable t j) (rules_on a b line)) rest'
    after line same = ap (or_else (first_that (is_applicable t j) (rules_on a b line))) same

pub one_disjunct : (t : Theory) (j : Judgement) (a : SymbolicHeap) (bs : List SymbolicHeap) (b : SymbolicHeap)
    → 1 ≤ length bs → length bs < 2 → b ≡ get_or bs 0 b → offered_from t j a b
    (End ∷ PureRights ∷ Distincts ∷ CellFrames ∷ Equations ∷ Fields ∷ PredicateFrames ∷ []) ≡ entailment_after t j a bs
one_disjunct t j a [] b some few is = absurd (omega arith)
one_disjunct t j a (x ∷ []) b some few is = in_order t j a b ∙ ap (single_line t j a) is
one_disjunct t j a (x ∷ y ∷ bs) b some few is = absurd (omega arith)
