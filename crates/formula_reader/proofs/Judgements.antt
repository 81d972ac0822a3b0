-- A judgement's tree fits the grammar, and has no flaw.
use Rattle.std.proofs.Common.{◌≡◌, ℕ, ◌+◌, ◌≤◌, true, false, List, None, refl, arith}
use Rattle.std.specs.Prelude.{◌||◌, nat_eq, nat_lt, nat_le}
use Rattle.std.proofs.lemmas.Bool.{and_from, le-leb, lt-ltb, le-ltb, ne_eqb}
use Rattle.cyc_basics.specs.declared.limits.Limits.{Limits}
use Rattle.heap_formula.specs.declared.judgements.Judgement.{Judgement}
use Rattle.heap_formula.specs.declared.judgements.Judgement.TheVariants.{Entail, Term as Runs}
use Rattle.heap_formula.specs.Closedness.{InHeap}
use Rattle.heap_formula.specs.Definitions.{Definition}
use Rattle.heap_formula.specs.Symbolic.{SymbolicHeap}
use Rattle.goto_lang.specs.Lines.{IsLineOf}
use Rattle.rule_book.specs.Limits.{IsHeapWithin, IsJudgementWithin}
use Rattle.rule_book.proofs.Heaps.{IsLow, small}
use Rattle.cyc_lex.specs.declared.fault.IllFault.TheVariants.{NoLine}
use Rattle.cyc_lex.specs.declared.fault.What.TheVariants.{Disjuncts}
use Rattle.proof_syntax.specs.Grammar as grammar
use Rattle.heap_reader.specs.Spans.{heap_span}
use Rattle.heap_reader.specs.Flaws.{ill_if, heap_flaw}
use Rattle.heap_reader.specs.declared.definitions.scope.Scope.TheVariants.{Outside as InNode}
use Rattle.proof_file.specs.Spans.{term_span}
use Rattle.proof_file.specs.Flaws.{term_flaw, judgement_flaw}
use Rattle.proof_file.specs.Readable.{is_at_line}
use Rattle.proof_file.specs.Written.{heap_tree, judgement_tree}
use Rattle.formula_reader.proofs.Lists.{none_later}
use Rattle.formula_reader.proofs.Names.{HaveFewParameters, heads_of}
use Rattle.formula_reader.specs.Within.{HaveFreeNames, HaveOwnNames}
use Rattle.formula_reader.proofs.FileTerms.{IsFlawless, term_flawless}
use Rattle.formula_reader.proofs.Heaps.{in_heap_both, heap_fits, heaps_fit, heap_flawless, heaps_flawless}
use Rattle.heap_formula.proofs.AllMembers.{each_imply}

-- ---- heaps outside definitions

-- no term of the heap has a flaw
low_flawless : (limit : Limits) (ds : List Definition) (a : SymbolicHeap) → IsHeapWithin limit ds a
    → InHeap (IsFlawless (term_flaw InNode)) a
low_flawless limit ds a w =
    let low = (small limit ds a w).low in
    in_heap_both IsLow IsLow (IsFlawless (term_flaw InNode)) (λ t b _. term_flawless t b) a low low

pub node_heap_flawless : (limit : Limits) (ds : List Definition) → 8 ≤ limit.arguments → HaveOwnNames ds
    → HaveFewParameters limit ds
    → (a : SymbolicHeap) → IsHeapWithin limit ds a → (k : ℕ)
    → heap_flaw (term_flaw InNode) term_span limit (heads_of ds ds) k (heap_tree ds a) ≡ None
node_heap_flawless limit ds wide own few a w = heap_flawless (term_flaw InNode) term_span limit wide ds own few a w
    (low_flawless limit ds a w)

-- ---- judgements

module _ (limit : Limits) (ds : List Definition) (count : ℕ) where
  pub judgement_fits : HaveFreeNames ds → count ≤ 4096 → (j : Judgement) → IsJudgementWithin limit ds count j
      → grammar.judgement.fits (judgement_tree ds j)
  unfolding grammar.judgement grammar.entailment grammar.state grammar.disjuncts
  judgement_fits free most (Entail a bs) w = (
    tt,
    (
      tt,
      (
        heap_fits limit ds free true a w.heaps.0 w.universal,
        heaps_fit limit ds free grammar.or_word grammar.by_word bs w.form.0 w.heaps.1,
      ),
    ),
  )
  judgement_fits free most (Runs i a) w =
      let last = w.form.1 in (tt, (omega arith, heap_fits limit ds free true a w.heaps.0 w.universal))

  line_there : (i k : ℕ) → IsLineOf count i → ill_if (nat_eq i 0 || nat_lt count i) NoLine k ≡ None
  line_there i k l =
      let first = l.0 in
      let positive : nat_eq i 0 ≡ false = ne_eqb i 0 (λ e. omega (arith, e)) in
      rw (positive, le-ltb count i l.1) refl

  pub judgement_flawless : 8 ≤ limit.arguments → HaveOwnNames ds → HaveFewParameters limit ds → (j : Judgement)
      → IsJudgementWithin limit ds count j
      → (k : ℕ) → judgement_flaw limit (heads_of ds ds) count k (judgement_tree ds j) ≡ None
  judgement_flawless wide own few (Entail a bs) w k =
      none_later _ _ (node_heap_flawless limit ds wide own few a w.heaps.0 k)
      (heaps_flawless (term_flaw InNode) term_span limit wide ds own few Disjuncts bs w.form.1 w.heaps.1
      (each_imply (IsHeapWithin limit ds) (InHeap (IsFlawless (term_flaw InNode))) (low_flawless limit ds)
      bs w.heaps.1) (k + heap_span term_span (heap_tree ds a)))
  judgement_flawless wide own few (Runs i a) w k =
      none_later _ _ (line_there i (k + 1) w.form) (node_heap_flawless limit ds wide own few a w.heaps.0 (k + 3))

  pub judgement_at_line : (j : Judgement) → IsJudgementWithin limit ds count j → is_at_line count j ≡ true
  judgement_at_line (Entail a bs) w = refl
  judgement_at_line (Runs i a) w =
      and_from (nat_lt 0 i) (nat_le i count) (lt-ltb 0 i w.form.0) (le-leb i count w.form.1)
