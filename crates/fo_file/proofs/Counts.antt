-- Parts of a text have no more terms than tokens.
use Rattle.std.proofs.Common.{ℕ, ◌+◌, ◌≤◌, List, [], ◌∷◌, length, length-append, arith}
use Rattle.heap_formula.specs.Words.{Each}
use Rattle.heap_reader.specs.Spans.{total, total_or}
use Rattle.fo_syntax.specs.declared.terms.bracket.Awaited.{Awaited}
use Rattle.fo_syntax.specs.declared.terms.bracket.Awaited.TheVariants.{First}
use Rattle.fo_syntax.specs.Trees.{Sign, Variable, Local, Apply, Atom, Equation, Predicate}
use Rattle.fo_syntax.specs.Brackets.{Mark, Leaf, Opening, Closing, brackets}
use Rattle.fo_syntax.specs.Grammar.{behind_mark, IsTerm}
use Rattle.fo_syntax.specs.Places.{commas, marks_end, marks_at, tokens_in}
use Rattle.fo_syntax.proofs.PlaceLaws.{places-count}
use Rattle.fo_syntax.specs.ProblemTrees.{Sequent}
use Rattle.fo_syntax.specs.ProofTrees.{Reason, Axiom, Refl, Clash, Decompose, Replace, WeakenLeft, WeakenRight}
use Rattle.fo_syntax.specs.ProofTrees.{Contract, Unfold, Cut, Right, Link, Node}
use Rattle.fo_file.specs.AtomSpans.{atom_span, atoms_span, terms_in, total_terms, IsAtom, AreAtoms}
use Rattle.fo_file.proofs.Walks.{one-term}
use Rattle.fo_file.specs.Parts.{IsSequent, IsEntry, IsReason, IsNode}
use Rattle.fo_file.specs.Spans.{sequent_span, sequent_terms, term_span, entry_span, entry_terms, reason_span}
use Rattle.fo_file.specs.Spans.{reason_terms, node_span}

-- each mark has a token
marks_fewer : (k : ℕ) (a : Awaited) (ms : List Mark) → k + length (marks_at k a ms) ≤ marks_end k a ms
marks_fewer k a [] = omega arith
marks_fewer k a (Closing ∷ ms) = omega (arith, marks_fewer (k + commas a Closing + 1) (behind_mark a Closing) ms)
marks_fewer k a (Leaf s ∷ ms) = omega (arith, marks_fewer (k + commas a (Leaf s) + 2) (behind_mark a (Leaf s)) ms)
marks_fewer k a (Opening name ∷ ms) = omega (
  arith,
  marks_fewer (k + commas a (Opening name) + 2)
      (behind_mark a (Opening name)) ms,
)

pub term_fewer : (t : List Sign) → IsTerm t → length t ≤ tokens_in t
term_fewer [] h = absurd h
term_fewer (Variable n ∷ []) h = omega arith
term_fewer (Variable n ∷ s ∷ ss) h = absurd h
term_fewer (Local n ∷ []) h = omega arith
term_fewer (Local n ∷ s ∷ ss) h = absurd h
term_fewer (Apply name n ∷ ss) h =
    let ms = brackets (n ∷ []) ss in
    omega (
      arith,
      places-count (Apply name n ∷ ss) h,
      length-append (marks_at 2 (First 0) ms) (marks_end 2 (First 0) ms ∷ []),
      marks_fewer 2 (First 0) ms,
    )

atom_fewer : (a : Atom) → IsAtom a → terms_in a ≤ atom_span a
atom_fewer (Equation t u) h = omega (arith, term_fewer t h.0, term_fewer u h.1)
atom_fewer (Predicate []) h = absurd h
atom_fewer (Predicate (Variable n ∷ ss)) h = absurd h
atom_fewer (Predicate (Local n ∷ ss)) h = absurd h
atom_fewer (Predicate (Apply name n ∷ ss)) h = omega (arith, term_fewer (Apply name n ∷ ss) (one-term name n ss h))

total_fewer : {X : Type 0} (P : X → Type 0) (count span : X → ℕ) → ((x : X) → P x → count x ≤ span x) → (xs : List X)
    → Each P xs → total count xs ≤ total span xs
total_fewer P count span fewer [] h = omega arith
total_fewer P count span fewer (x ∷ xs) h = omega (arith, fewer x h.0, total_fewer P count span fewer xs h.1)

total_or_fewer : {X : Type 0} (P : X → Type 0) (count span : X → ℕ) → ((x : X) → P x → count x ≤ span x)
    → (empty : ℕ) (xs : List X) → Each P xs → total count xs ≤ total_or empty span xs
total_or_fewer P count span fewer empty [] h = omega arith
total_or_fewer P count span fewer empty (x ∷ xs) h = total_fewer P count span fewer (x ∷ xs) h

pub atoms_fewer : (xs : List Atom) → AreAtoms xs → total_terms xs ≤ atoms_span xs
atoms_fewer xs h = total_or_fewer IsAtom terms_in atom_span atom_fewer 2 xs h

pub sequent_fewer : (s : Sequent) → IsSequent s → sequent_terms s ≤ sequent_span s
sequent_fewer s h = omega (arith, atoms_fewer s.left h.0, atoms_fewer s.right h.1)

reason_fewer : (r : Reason) → IsReason r → reason_terms r ≤ reason_span r
reason_fewer (Axiom i j) h = omega arith
reason_fewer (Refl j) h = omega arith
reason_fewer (Clash i) h = omega arith
reason_fewer (Decompose i) h = omega arith
reason_fewer (Replace i side) h = omega arith
reason_fewer (WeakenLeft i) h = omega arith
reason_fewer (WeakenRight j) h = omega arith
reason_fewer (Contract i) h = omega arith
reason_fewer (Unfold i) h = omega arith
reason_fewer (Cut a) h = omega (arith, atom_fewer a h)
reason_fewer (Right j k ts) h = omega (
  arith,
  total_or_fewer IsTerm length term_span
      (λ u g. omega (arith, term_fewer u g)) 1 ts h,
)
reason_fewer (Link l) h =
    omega (
      arith,
      total_or_fewer IsEntry entry_terms entry_span (λ e g. omega (arith, term_fewer e.value g))
          1 l.substitution h,
    )

pub node_fewer : (n : Node) → IsNode n → sequent_terms n.sequent + reason_terms n.reason ≤ node_span n
node_fewer n h = omega (arith, sequent_fewer n.sequent h.0, reason_fewer n.reason h.1)
