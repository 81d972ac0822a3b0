-- The ends of a program, as a proof file has them, fit the grammar and have no flaw.
use Rattle.std.proofs.Common.{◌≡◌, ◌⊎◌, inl, inr, ℕ, zero, suc, ◌+◌, ◌^◌, ◌<◌, ◌≤◌, Bool, true, false, List, [], ◌∷◌}
use Rattle.std.proofs.Common.{length, map, Some, None, refl, sym, ap, subst, ◌∙◌, arith}
use Rattle.std.specs.Prelude.{not, nat_lt, nat_le, slice_get}
use Rattle.std.proofs.lemmas.Bool.{le-ltb, lt-leb}
use Rattle.cyc_basics.specs.declared.limits.Limits.{Limits}
use Rattle.cyc_lex.specs.declared.fault.IllFault.TheVariants.{NoLine, Numbering}
use Rattle.cyc_lex.specs.declared.fault.What.TheVariants.{Disjuncts, ProgramVariables, Variable}
use Rattle.cyc_grammar.specs.Syntax.{fits_many}
use Rattle.heap_formula.specs.declared.terms.Term.{Term}
use Rattle.heap_formula.specs.declared.terms.Term.TheVariants.{Nil, Univ, Exist}
use Rattle.heap_formula.specs.declared.commands.Command.{Command}
use Rattle.heap_formula.specs.declared.commands.Command.TheVariants as commands
use Rattle.heap_formula.specs.Closedness.{InHeap}
use Rattle.heap_formula.specs.Definitions.{Definition}
use Rattle.heap_formula.specs.Fresh.{heap_bound}
use Rattle.heap_formula.specs.Programs.{command_bound}
use Rattle.heap_formula.specs.Symbolic.{SymbolicHeap}
use Rattle.heap_formula.specs.Words.{Each}
use Rattle.heap_formula.proofs.AllMembers.{each_imply}
use Rattle.heap_formula.proofs.Greatest.{each_below}
use Rattle.goto_lang.specs.Lines.{IsProgram}
use Rattle.rule_table.specs.Answer.{number_bound}
use Rattle.rule_table.proofs.Agreement.{IsBelow, heap_below}
use Rattle.rule_book.specs.Limits.{IsHeapWithin, IsCommandWithin, AreEndsWithin}
use Rattle.rule_book.proofs.Heaps.{IsLow, small}
use Rattle.heap_syntax.specs.declared.version.Version.{Version}
use Rattle.heap_syntax.specs.Words.{or_word, semicolon}
use Rattle.heap_syntax.specs.DefinitionGrammar.{terms, terms_of, spatial}
use Rattle.heap_syntax.specs.LineGrammar.{has_ends}
use Rattle.heap_syntax.specs.EndGrammar as grammar
use Rattle.heap_syntax.specs.NumberedEnds.{end, ends}
use Rattle.heap_reader.specs.EndSpans.{end_span}
use Rattle.heap_reader.specs.EndFlaws.{is_stop, stops_there, stops_at, end_head_flaw, ends_flaw}
use Rattle.heap_reader.specs.EndValues.{LineEnd, with_end, ends_behind}
use Rattle.heap_reader.specs.Flaws.{ill_if, over_if, heaps_flaw}
use Rattle.heap_reader.specs.declared.definitions.scope.Scope.TheVariants.{End as InEnd}
use Rattle.heap_reader.proofs.EndsAgain.{IsBare, parted}
use Rattle.proof_file.specs.Spans.{term_span}
use Rattle.proof_file.specs.Flaws.{term_flaw, program_ends_flaw}
use Rattle.proof_file.specs.Written.{heap_tree, lines_behind, lines_tree, end_tree, ends_tree}
use Rattle.formula_reader.specs.Within.{HaveFreeNames, HaveOwnNames, IsCommandOf}
use Rattle.formula_reader.proofs.FileTerms.{IsFlawless}
use Rattle.formula_reader.proofs.Heaps.{in_heap_both, heaps_fit, heaps_flawless}
use Rattle.formula_reader.proofs.Lists.{none_later}
use Rattle.formula_reader.proofs.Names.{HaveFewParameters, heads_of}

-- ---- the ends fit

-- a version without ends has no end of a program
no_end : (version : Version) (limit : Limits) (n : ℕ) (cs : List Command) → has_ends version ≡ false
    → Each (IsCommandOf version limit) cs → ends_behind n cs ≡ []
no_end version limit n [] none known = refl
no_end version limit n (c ∷ cs) none known =
    by_kind (parted c) (no_end version limit (n + 1) cs none known.1)
  where
    by_kind : ((bs : List SymbolicHeap) × (c ≡ commands.Ends bs)) ⊎ IsBare c → ends_behind (n + 1) cs ≡ []
        → with_end (n + 1) c (ends_behind (n + 1) cs) ≡ []
    by_kind (inl here) rest =
        let has = subst (IsCommandOf version limit) here.1 known.0 in
        absurd (let clash : true ≡ false = sym has ∙ none in cc)
    by_kind (inr own) rest = own.1 (n + 1) (ends_behind (n + 1) cs) ∙ rest

module _ (limit : Limits) (ds : List Definition) (free : HaveFreeNames ds) (count : ℕ) (most : count ≤ 4096) where
  end_fits : (n : ℕ) (bs : List SymbolicHeap) → n < count → IsCommandWithin limit ds (commands.Ends bs)
      → end.fits (end_tree ds (n + 1, bs))
  unfolding grammar.end
  end_fits n bs there w =
      (tt, (omega arith, heaps_fit limit ds free or_word semicolon bs w.1 w.0))

  all_fit : (n : ℕ) (cs : List Command) → n + length cs ≤ count → AreEndsWithin limit ds cs
      → fits_many end (map (end_tree ds) (ends_behind n cs))
  all_fit n [] within w = tt
  all_fit n (c ∷ cs) within w = by_kind (parted c) (all_fit (n + 1) cs (omega (arith, within)) w.1)
    where
      by_kind : ((bs : List SymbolicHeap) × (c ≡ commands.Ends bs)) ⊎ IsBare c
          → fits_many end (map (end_tree ds) (ends_behind (n + 1) cs))
          → fits_many end (map (end_tree ds) (with_end (n + 1) c (ends_behind (n + 1) cs)))
      by_kind (inl here) rest =
          subst (λ (d : Command). fits_many end (map (end_tree ds) (with_end (n + 1) d (ends_behind (n + 1) cs))))
          (sym here.1)
          (end_fits n here.0 (omega (arith, within)) (subst (IsCommandWithin limit ds) here.1 w.0), rest)
      by_kind (inr own) rest =
          subst (λ (es : List LineEnd). fits_many end (map (end_tree ds) es))
          (sym (own.1 (n + 1) (ends_behind (n + 1) cs))) rest

  fit_where : (b : Bool) (version : Version) (cs : List Command) → has_ends version ≡ b → length cs ≤ count
      → AreEndsWithin limit ds cs → Each (IsCommandOf version limit) cs
      → (grammar.ends_where b (terms_of (terms false)) (spatial (terms false))).fits (ends_tree ds cs)
  fit_where true version cs has within w known = all_fit 0 cs (omega (arith, within)) w
  fit_where false version cs has within w known =
      subst (λ (es : List LineEnd). (grammar.ends_where false (terms_of (terms false)) (spatial (terms false))).fits
      (map (end_tree ds) es)) (sym (no_end version limit 0 cs has known)) (tt, tt)

pub ends_fit : (version : Version) (limit : Limits) (ds : List Definition) (cs : List Command) → HaveFreeNames ds
    → IsProgram cs → AreEndsWithin limit ds cs → Each (IsCommandOf version limit) cs
    → (ends version).fits (ends_tree ds cs)
unfolding grammar.ends
ends_fit version limit ds cs free program w known =
    fit_where limit ds free (length cs) program.few_lines (has_ends version) version cs refl (omega arith) w known

-- ---- the ends have no flaw

-- a term whose number is low, and a program's variable where it is universal
term_flawless : (t : Term) → number_bound t ≤ 65535 → IsBelow 64 t → IsFlawless (term_flaw InEnd) t
term_flawless Nil low below k = refl
term_flawless (Univ n) low below k = ap (λ b. over_if b ProgramVariables (k + 1)) (le-ltb 63 n (omega (arith, below)))
term_flawless (Exist n) low below k = ap (λ b. over_if b Variable (k + 1)) (le-ltb 65534 n (omega (arith, low)))

heap_terms : (limit : Limits) (ds : List Definition) (a : SymbolicHeap) → IsHeapWithin limit ds a → heap_bound a ≤ 64
    → InHeap (IsFlawless (term_flaw InEnd)) a
heap_terms limit ds a w few =
    in_heap_both IsLow (IsBelow 64) (IsFlawless (term_flaw InEnd)) term_flawless a (small limit ds a w).low
    (heap_below 64 a few)

heaps_terms : (limit : Limits) (ds : List Definition) (bs : List SymbolicHeap) → Each (IsHeapWithin limit ds) bs
    → Each (λ a. heap_bound a ≤ 64) bs → Each (InHeap (IsFlawless (term_flaw InEnd))) bs
heaps_terms limit ds [] w few = tt
heaps_terms limit ds (b ∷ bs) w few = (heap_terms limit ds b w.0 few.0, heaps_terms limit ds bs w.1 few.1)

module _ (limit : Limits) (wide : 8 ≤ limit.arguments) (ds : List Definition) (own : HaveOwnNames ds)
    (few : HaveFewParameters limit ds) (stops : ℕ → Bool) where
  abbrev found : ℕ → ℕ → List LineEnd → Type 0
  found before k es = ends_flaw (term_flaw InEnd) term_span limit (heads_of ds ds) stops before k
      (map (end_tree ds) es) ≡ None

  disjuncts_good : (bs : List SymbolicHeap) → IsCommandWithin limit ds (commands.Ends bs)
      → command_bound (commands.Ends bs) ≤ 64 → (k : ℕ)
      → heaps_flaw (term_flaw InEnd) term_span limit (heads_of ds ds) Disjuncts k (map (heap_tree ds) bs) ≡ None
  disjuncts_good bs w low =
      heaps_flawless (term_flaw InEnd) term_span limit wide ds own few Disjuncts bs w.2 w.0
      (heaps_terms limit ds bs w.0 (each_below heap_bound 64 bs low))

  end_good : (n before k : ℕ) (bs : List SymbolicHeap) (rest : List LineEnd) → before < n → stops n ≡ true
      → IsCommandWithin limit ds (commands.Ends bs) → command_bound (commands.Ends bs) ≤ 64
      → found n (k + end_span term_span (end_tree ds (n, bs))) rest → found before k ((n, bs) ∷ rest)
  end_good n before k bs rest below stop w low later =
      let number = none_later (ill_if (not (stops n)) NoLine (k + 1)) (ill_if (nat_le n before) Numbering (k + 1))
      (ap (λ (b : Bool). ill_if (not b) NoLine (k + 1)) stop)
      (ap (λ (b : Bool). ill_if b Numbering (k + 1)) (lt-leb n before below)) in
      let first = none_later (end_head_flaw stops before k n) _ number (disjuncts_good bs w low (k + 3)) in
      none_later _ _ first later

  -- each end stands at a stop, n lines standing before
  abbrev AreEndStops : ℕ → List Command → Type 0
  AreEndStops n cs = (d : ℕ) (bs : List SymbolicHeap) → slice_get cs d ≡ Some (commands.Ends bs)
      → stops (n + suc d) ≡ true

  line_good : (n before k : ℕ) (c : Command) (cs : List Command) → before ≤ n → AreEndStops n (c ∷ cs)
      → IsCommandWithin limit ds c → command_bound c ≤ 64
      → ((at k' : ℕ) → at ≤ n + 1 → found at k' (ends_behind (n + 1) cs))
      → found before k (with_end (n + 1) c (ends_behind (n + 1) cs))
  line_good n before k c cs below are w low later = by_kind (parted c)
    where
      by_kind : ((bs : List SymbolicHeap) × (c ≡ commands.Ends bs)) ⊎ IsBare c
          → found before k (with_end (n + 1) c (ends_behind (n + 1) cs))
      by_kind (inl here) =
          let one : n + suc 0 ≡ n + 1 = omega arith in
          subst (λ (d : Command). found before k (with_end (n + 1) d (ends_behind (n + 1) cs))) (sym here.1)
          (end_good (n + 1) before k here.0 (ends_behind (n + 1) cs) (omega (arith, below))
          (subst (λ (m : ℕ). stops m ≡ true) one (are 0 here.0 (ap Some here.1)))
          (subst (IsCommandWithin limit ds) here.1 w)
          (subst (λ (d : Command). command_bound d ≤ 64) here.1 low)
          (later (n + 1) _ (omega arith)))
      by_kind (inr own) =
          subst (found before k) (sym (own.1 (n + 1) (ends_behind (n + 1) cs)))
          (later before k (omega (arith, below)))

  lines_good : (n before k : ℕ) (cs : List Command) → before ≤ n → AreEndStops n cs → AreEndsWithin limit ds cs
      → Each (λ (c : Command). command_bound c ≤ 64) cs → found before k (ends_behind n cs)
  lines_good n before k [] below are w low = refl
  lines_good n before k (c ∷ cs) below are w low =
      line_good n before k c cs below are w.0 low.0
      (λ at j within. lines_good (n + 1) at j cs within (λ d bs here. (
      let next : n + suc (suc d) ≡ n + 1 + suc d = omega arith in
      subst (λ (m : ℕ). stops m ≡ true) next (are (suc d) bs here))) w.1 low.1)

-- an end's line is written as a stop
end_stops : (n : ℕ) (cs : List Command) (d : ℕ) (bs : List SymbolicHeap) → slice_get cs d ≡ Some (commands.Ends bs)
    → stops_there (slice_get (lines_behind n cs) d) ≡ true
end_stops n [] d bs here = absurd cc
end_stops n (c ∷ cs) zero bs here =
    let same : c ≡ commands.Ends bs = cc in
    subst (λ (x : Command). stops_there (slice_get (lines_behind n (x ∷ cs)) 0) ≡ true) (sym same) refl
end_stops n (c ∷ cs) (suc d) bs here = end_stops (n + 1) cs d bs here

pub ends_flawless : (limit : Limits) → 8 ≤ limit.arguments → (ds : List Definition) → HaveOwnNames ds
    → HaveFewParameters limit ds → (cs : List Command) → IsProgram cs → AreEndsWithin limit ds cs → (k : ℕ)
    → program_ends_flaw limit (heads_of ds ds) (lines_tree cs) k (ends_tree ds cs) ≡ None
ends_flawless limit wide ds own few cs program w k =
    lines_good limit wide ds own few (stops_at (lines_tree cs)) 0 0 k cs (omega arith) (λ d bs here. (
    let one : suc d ≡ 0 + suc d = omega arith in
    subst (λ (m : ℕ). stops_at (lines_tree cs) m ≡ true) one (end_stops 0 cs d bs here))) w
    (each_below command_bound 64 cs program.few_variables)
