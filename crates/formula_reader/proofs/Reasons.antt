-- A reason's tree fits the grammar, and has no flaw.
use Rattle.std.proofs.Common.{◌≡◌, ℕ, ◌+◌, ◌≤◌, true, List, [], ◌∷◌, map, length, None, refl, ap, arith}
use Rattle.std.specs.Prelude.{nat_lt}
use Rattle.std.proofs.lemmas.Bool.{and_from, le-ltb}
use Rattle.cyc_basics.specs.declared.limits.Limits.{Limits}
use Rattle.heap_formula.specs.declared.terms.Term.{Term}
use Rattle.heap_formula.specs.declared.proof_rules.Rule.TheVariants.{Absurd, Rewrite, Split, Distinct, Weaken, Unfold}
use Rattle.heap_formula.specs.declared.proof_rules.Rule.TheVariants.{Cut, Done, Choose, PureRight, Instantiate, Frame}
use Rattle.heap_formula.specs.declared.proof_rules.Rule.TheVariants.{UnfoldRight, Exec, Drop}
use Rattle.heap_formula.specs.declared.proof_rules.Reason.{Reason}
use Rattle.heap_formula.specs.declared.proof_rules.Reason.TheVariants.{Step, Back}
use Rattle.heap_formula.specs.Definitions.{Definition}
use Rattle.heap_formula.specs.Words.{Each}
use Rattle.rule_table.specs.Tests.{is_universal}
use Rattle.rule_book.specs.Limits.{IsPairWithin, IsReasonWithin, IsShortNumber, HasShortNumbers}
use Rattle.cyc_lex.specs.declared.fault.What.TheVariants.{Variable}
use Rattle.cyc_grammar.specs.Syntax.{one, fits_many}
use Rattle.cyc_grammar.specs.Classes.{number}
use Rattle.proof_syntax.specs.Grammar as grammar
use Rattle.heap_reader.specs.Flaws.{over_if}
use Rattle.proof_file.specs.Spans.{term_span, pair_span}
use Rattle.proof_file.specs.Flaws.{pair_flaw, reason_flaw}
use Rattle.proof_file.specs.Readable.{is_universal_reason}
use Rattle.proof_file.specs.Written.{term_tree, pair_tree, reason_tree}
use Rattle.formula_reader.proofs.Lists.{list_fits, none_later, none_listed}
use Rattle.formula_reader.proofs.Firsts.{all_pass}
use Rattle.formula_reader.proofs.Names.{HaveFewParameters, heads_of}
use Rattle.formula_reader.specs.Within.{HaveFreeNames, HaveOwnNames}
use Rattle.formula_reader.proofs.FileTerms.{uterm_fits, term_flawless}
use Rattle.formula_reader.proofs.Universal.{universal_term_passes}
use Rattle.formula_reader.proofs.Heaps.{any_heap_fits}
use Rattle.formula_reader.proofs.Judgements.{node_heap_flawless}
use Rattle.heap_formula.proofs.AllMembers.{each_imply}

-- ---- the parts of a reason

numbers_fit : (ns : List ℕ) → Each IsShortNumber ns → fits_many (one number) ns
numbers_fit [] e = tt
numbers_fit (n ∷ ns) e = (e.0, numbers_fit ns e.1)

bracketed_fits : (ns : List ℕ) → Each IsShortNumber ns → grammar.bracketed.fits ns
unfolding grammar.bracketed grammar.numbers
bracketed_fits ns e = numbers_fit ns e

pub premises_fit : (ns : List ℕ) → Each IsShortNumber ns → grammar.premises.fits ns
unfolding grammar.premises grammar.numbers
premises_fit [] e = (tt, tt)
premises_fit (n ∷ ns) e = (tt, (e.0, numbers_fit ns e.1))

pair_fits : (p : ℕ × Term) → IsPairWithin p → grammar.pair.fits (pair_tree p)
unfolding grammar.pair
pair_fits p w = let most = w.0 in (tt, (omega arith, uterm_fits p.1 w.1))

pairs_fit : (ps : List (ℕ × Term)) → Each IsPairWithin ps → grammar.pairs.fits (map pair_tree ps)
unfolding grammar.pairs grammar.pairs1
pairs_fit [] w = (tt, tt)
pairs_fit (p ∷ ps) w = (
  tt,
  list_fits grammar.pair pair_tree grammar.some_pair grammar.comma (p ∷ ps) (omega arith)
      (each_imply IsPairWithin (λ x. grammar.pair.fits (pair_tree x)) pair_fits (p ∷ ps) w),
)

-- ---- reasons

module _ (limit : Limits) (ds : List Definition) where
  pub reason_fits : HaveFreeNames ds → (r : Reason) → IsReasonWithin limit ds r → HasShortNumbers r
      → grammar.reason.fits (reason_tree ds r)
  unfolding grammar.reason grammar.parts grammar.rewrite grammar.side grammar.split grammar.two_numbers grammar.cut
      grammar.instantiate grammar.link
  reason_fits free (Step Absurd) w s = (tt, (tt, tt))
  reason_fits free (Step (Rewrite k side)) w s = (tt, (tt, (s, tt)))
  reason_fits free (Step (Split t u)) w s = (tt, (tt, (uterm_fits t w.0, uterm_fits u w.1)))
  reason_fits free (Step (Distinct i k)) w s = (tt, (tt, (s.0, s.1)))
  reason_fits free (Step (Weaken k)) w s = (tt, (tt, s))
  reason_fits free (Step (Unfold k)) w s = (tt, (tt, s))
  reason_fits free (Step (Cut places f)) w s = (tt, (tt, (bracketed_fits places s, any_heap_fits limit ds free f w)))
  reason_fits free (Step Done) w s = (tt, (tt, tt))
  reason_fits free (Step (Choose k)) w s = (tt, (tt, s))
  reason_fits free (Step (PureRight k)) w s = (tt, (tt, s))
  reason_fits free (Step (Instantiate v t)) w s = let most = w.0 in (tt, (tt, (omega arith, uterm_fits t w.1)))
  reason_fits free (Step (Frame i k)) w s = (tt, (tt, (s.0, s.1)))
  reason_fits free (Step (UnfoldRight k c)) w s = (tt, (tt, (s.0, s.1)))
  reason_fits free (Step Exec) w s = (tt, (tt, tt))
  reason_fits free (Step (Drop k)) w s = (tt, (tt, s))
  reason_fits free (Back link) w s = (
    tt,
    (
      tt,
      (
        tt,
        (
          s.target,
          (
            pairs_fit link.subst w,
            (
              bracketed_fits link.map s.map,
              bracketed_fits link.disjuncts s.disjuncts,
            ),
          ),
        ),
      ),
    ),
  )

  variable_low : (v k : ℕ) → v ≤ 65534 → over_if (nat_lt 65534 v) Variable k ≡ None
  variable_low v k most = ap (λ b. over_if b Variable k) (le-ltb 65534 v most)

  pair_flawless : (n k : ℕ) (p : ℕ × Term) → IsPairWithin p → pair_flaw k (pair_tree p) ≡ None
  pair_flawless n k p w = none_later _ _ (variable_low p.0 (k + 1) w.0) (term_flawless p.1 w.1.1 (k + 3))

  pub reason_flawless : 8 ≤ limit.arguments → HaveOwnNames ds → HaveFewParameters limit ds → (r : Reason)
      → IsReasonWithin limit ds r
      → (k : ℕ)
      → reason_flaw limit (heads_of ds ds) k (reason_tree ds r) ≡ None
  reason_flawless wide own few (Step Absurd) w k = refl
  reason_flawless wide own few (Step (Rewrite i side)) w k = refl
  reason_flawless wide own few (Step (Split t u)) w k =
      none_later _ _ (term_flawless t w.0.1 (k + 1)) (term_flawless u w.1.1 (k + term_span (term_tree t)))
  reason_flawless wide own few (Step (Distinct i j)) w k = refl
  reason_flawless wide own few (Step (Weaken i)) w k = refl
  reason_flawless wide own few (Step (Unfold i)) w k = refl
  reason_flawless wide own few (Step (Cut places f)) w k = node_heap_flawless limit ds wide own few f w
      (k + 3 + length places)
  reason_flawless wide own few (Step Done) w k = refl
  reason_flawless wide own few (Step (Choose j)) w k = refl
  reason_flawless wide own few (Step (PureRight i)) w k = refl
  reason_flawless wide own few (Step (Instantiate v t)) w k = none_later _ _ (variable_low v (k + 2) w.0)
      (term_flawless t w.1.1 (k + 3))
  reason_flawless wide own few (Step (Frame i j)) w k = refl
  reason_flawless wide own few (Step (UnfoldRight j c)) w k = refl
  reason_flawless wide own few (Step Exec) w k = refl
  reason_flawless wide own few (Step (Drop i)) w k = refl
  reason_flawless wide own few (Back link) w k =
      none_listed (λ n. pair_flaw) pair_span pair_tree IsPairWithin (length link.subst)
      (λ n j p below q. pair_flawless n j p q) 0 (k + 3) link.subst (omega arith) w

  pub reason_readable : (r : Reason) → IsReasonWithin limit ds r → is_universal_reason r ≡ true
  reason_readable (Step Absurd) w = refl
  reason_readable (Step (Rewrite i side)) w = refl
  reason_readable (Step (Split t u)) w = and_from (is_universal t) (is_universal u) (universal_term_passes t w.0.0)
      (universal_term_passes u w.1.0)
  reason_readable (Step (Distinct i j)) w = refl
  reason_readable (Step (Weaken i)) w = refl
  reason_readable (Step (Unfold i)) w = refl
  reason_readable (Step (Cut places f)) w = refl
  reason_readable (Step Done) w = refl
  reason_readable (Step (Choose j)) w = refl
  reason_readable (Step (PureRight i)) w = refl
  reason_readable (Step (Instantiate v t)) w = universal_term_passes t w.1.0
  reason_readable (Step (Frame i j)) w = refl
  reason_readable (Step (UnfoldRight j c)) w = refl
  reason_readable (Step Exec) w = refl
  reason_readable (Step (Drop i)) w = refl
  reason_readable (Back link) w =
      all_pass (λ pair. is_universal pair.1) link.subst
      (each_imply IsPairWithin (λ p. is_universal p.1 ≡ true) (λ p q. universal_term_passes p.1 q.1.0) link.subst w)
