-- Programs come apart into lines and ends and together again, and so do lines and ends whose trees have no flaw.
use Rattle.std.proofs.Common.{◌≡◌, ℕ, zero, suc, ◌+◌, ◌-◌, ◌<◌, Bool, true, false, List, [], ◌∷◌, map, Some, None, refl}
use Rattle.std.proofs.Common.{sym, ap, subst, ◌∙◌, arith, ◌⊎◌, inl, inr}
use Rattle.std.specs.Prelude.{not, nat_eq, nat_le, slice_get}
use Rattle.std.proofs.lemmas.Bool.{eqb-true, eqb-false, eq-eqb, ne_eqb, leb-true, leb-false}
use Rattle.cyc_basics.specs.declared.limits.Limits.{Limits}
use Rattle.cyc_lex.specs.declared.fault.IllFault.TheVariants.{NoLine, Numbering}
use Rattle.cyc_lex.specs.declared.fault.What.TheVariants.{Disjuncts}
use Rattle.heap_formula.specs.declared.terms.Term.{Term}
use Rattle.heap_formula.specs.declared.commands.Command.{Command}
use Rattle.heap_formula.specs.declared.commands.Command.TheVariants as commands
use Rattle.heap_formula.specs.Symbolic.{SymbolicHeap}
use Rattle.heap_formula.specs.Words.{Each}
use Rattle.goto_lang.specs.Lines.{commands_of}
use Rattle.heap_syntax.specs.declared.lines.tree.ChangeTree.{ChangeTree}
use Rattle.heap_syntax.specs.declared.lines.tree.ChangeTree.TheVariants.{New, Assign, Load, Store}
use Rattle.heap_syntax.specs.declared.lines.tree.CommandTree.{CommandTree}
use Rattle.heap_syntax.specs.declared.lines.tree.CommandTree.TheVariants.{Stop, Goto, Free, IfAny, If, StoreAtNil}
use Rattle.heap_syntax.specs.declared.lines.tree.CommandTree.TheVariants.{Change}
use Rattle.heap_syntax.specs.declared.lines.tree.LineTree.{LineTree}
use Rattle.heap_syntax.specs.EndTrees.{End}
use Rattle.heap_reader.specs.Trees.{Heading}
use Rattle.heap_reader.specs.EndSpans.{end_span}
use Rattle.heap_reader.specs.Flaws.{Found, ill_if, heaps_flaw}
use Rattle.heap_reader.specs.EndFlaws.{is_stop, stops_at, end_head_flaw, end_flaw, ends_flaw}
use Rattle.heap_reader.specs.LineValues.{change_value, command_value, line_value}
use Rattle.heap_reader.specs.EndValues.{LineEnd, end_value, line_with_end, with_ends_behind, with_ends, with_end}
use Rattle.heap_reader.specs.EndValues.{ends_behind, ends_of, bare}
use Rattle.heap_reader.proofs.NoFlaw.{neither, not_ill, below}
use Rattle.heap_reader.proofs.EndLoops.{chosen}

-- ---- a command is an end, or stays as it is without one

abbrev pub IsBare : Command → Type 0
IsBare c = (bare c ≡ c) × ((n : ℕ) (es : List LineEnd) → with_end n c es ≡ es)

pub parted : (c : Command) → ((bs : List SymbolicHeap) × (c ≡ commands.Ends bs)) ⊎ IsBare c
parted (commands.Assign x t) = inr (refl, λ n es. refl)
parted (commands.Load x t k) = inr (refl, λ n es. refl)
parted (commands.Store t k u) = inr (refl, λ n es. refl)
parted (commands.New x k) = inr (refl, λ n es. refl)
parted (commands.Free t) = inr (refl, λ n es. refl)
parted (commands.IfEq t u j) = inr (refl, λ n es. refl)
parted (commands.IfNeq t u j) = inr (refl, λ n es. refl)
parted (commands.IfAny j) = inr (refl, λ n es. refl)
parted (commands.Goto j) = inr (refl, λ n es. refl)
parted commands.Stop = inr (refl, λ n es. refl)
parted (commands.Ends bs) = inl (bs, refl)

-- ---- a program comes together again

-- the first end, if there is one, is that of a later line than n
abbrev pub BeginAbove : ℕ → List LineEnd → Type 0
BeginAbove n [] = Unit {0}
BeginAbove n (e ∷ es) = n < e.0

later_still : (n : ℕ) (es : List LineEnd) → BeginAbove (n + 1) es → BeginAbove n es
later_still n [] h = tt
later_still n (e ∷ es) h = omega (arith, h)

ends_above : (n : ℕ) (cs : List Command) → BeginAbove n (ends_behind n cs)
ends_above n [] = tt
ends_above n (c ∷ cs) = by_kind (parted c) (ends_above (n + 1) cs)
  where
    by_kind : ((bs : List SymbolicHeap) × (c ≡ commands.Ends bs)) ⊎ IsBare c
        → BeginAbove (n + 1) (ends_behind (n + 1) cs) → BeginAbove n (with_end (n + 1) c (ends_behind (n + 1) cs))
    by_kind (inl end) above = subst (λ (d : Command). BeginAbove n (with_end (n + 1) d (ends_behind (n + 1) cs)))
        (sym end.1) (omega arith)
    by_kind (inr own) above = subst (BeginAbove n) (sym (own.1 (n + 1) (ends_behind (n + 1) cs)))
        (later_still n (ends_behind (n + 1) cs) above)

-- the ends of later lines leave a command as it is
no_end_here : (i : ℕ) (c : Command) (es : List LineEnd) → BeginAbove i es → line_with_end i c es ≡ (c, es)
no_end_here i c [] above = refl
no_end_here i c (e ∷ es) above =
    ap (λ (b : Bool). chosen b c e es) (ne_eqb e.0 i (λ same. omega (arith, same, above)))

own_end_here : (i : ℕ) (c : Command) (bs : List SymbolicHeap) (es : List LineEnd)
    → line_with_end i c ((i, bs) ∷ es) ≡ (commands.Ends bs, es)
own_end_here i c bs es =
    ap (λ (b : Bool). chosen b c (i, bs) es) (eq-eqb i i refl)

-- the command of a line, and the ends behind it, which are put to the later commands
made_together : (i : ℕ) (c d : Command) (cs ds : List Command) (es rest : List LineEnd)
    → line_with_end i d es ≡ (c, rest) → with_ends_behind i ds rest ≡ cs
    → (line_with_end i d es).0 ∷ with_ends_behind i ds (line_with_end i d es).1 ≡ c ∷ cs
made_together i c d cs ds es rest same later =
    (λ j. (same j).0 ∷ with_ends_behind i ds (same j).1) ∙ ap (λ (xs : List Command). c ∷ xs) later

together_here : (i : ℕ) (c : Command) (rest : List LineEnd) → BeginAbove i rest
    → line_with_end i (bare c) (with_end i c rest) ≡ (c, rest)
together_here i c rest above = by_kind (parted c)
  where
    by_kind : ((bs : List SymbolicHeap) × (c ≡ commands.Ends bs)) ⊎ IsBare c
        → line_with_end i (bare c) (with_end i c rest) ≡ (c, rest)
    by_kind (inl end) =
        ap (λ (d : Command). line_with_end i (bare c) (with_end i d rest)) end.1
        ∙ own_end_here i (bare c) end.0 rest ∙ ap (λ (d : Command). (d, rest)) (sym end.1)
    by_kind (inr own) = (λ j. line_with_end i (own.0 j) (own.1 i rest j)) ∙ no_end_here i c rest above

pub together : (n : ℕ) (cs : List Command) → with_ends_behind n (map bare cs) (ends_behind n cs) ≡ cs
together n [] = refl
together n (c ∷ cs) =
    let rest = ends_behind (n + 1) cs in
    made_together (n + 1) c (bare c) cs (map bare cs) (with_end (n + 1) c rest) rest
    (together_here (n + 1) c rest (ends_above (n + 1) cs)) (together (n + 1) cs)

-- ---- commands and ends stay what they are where each end is that of a stop

-- the first end, if it is that of line i, ends a stop
abbrev pub IsAt : ℕ → Command → List LineEnd → Type 0
IsAt i c [] = Unit {0}
IsAt i c (e ∷ es) = nat_eq e.0 i ≡ true → c ≡ commands.Stop

-- the ends are those of lines that are stops, in their order, n lines standing before
abbrev pub AreAt : ℕ → List Command → List LineEnd → Type 0
AreAt n [] es = es ≡ []
AreAt n (c ∷ cs) es = IsAt (n + 1) c es × AreAt (n + 1) cs (line_with_end (n + 1) c es).1

bare_here : (i : ℕ) (c : Command) (es : List LineEnd) → IsBare c → IsAt i c es → bare (line_with_end i c es).0 ≡ c
bare_here i c [] own at = own.0
bare_here i c (e ∷ es) own at = by_number (nat_eq e.0 i) refl
  where
    by_number : (b : Bool) → nat_eq e.0 i ≡ b → bare (chosen b c e es).0 ≡ c
    by_number true same = sym (at same)
    by_number false other = own.0

end_here : (i : ℕ) (c : Command) (es : List LineEnd) → IsBare c
    → with_end i (line_with_end i c es).0 (line_with_end i c es).1 ≡ es
end_here i c [] own = own.1 i []
end_here i c (e ∷ es) own = by_number (nat_eq e.0 i) refl
  where
    by_number : (b : Bool) → nat_eq e.0 i ≡ b
        → with_end i (chosen b c e es).0 (chosen b c e es).1 ≡ e ∷ es
    by_number true same = let number = eqb-true e.0 i same in λ j. (sym number j, e.1) ∷ es
    by_number false other = own.1 i (e ∷ es)

pub bare_again : (n : ℕ) (cs : List Command) (es : List LineEnd) → Each IsBare cs → AreAt n cs es
    → map bare (with_ends_behind n cs es) ≡ cs
bare_again n [] es own at = refl
bare_again n (c ∷ cs) es own at =
    let first = bare_here (n + 1) c es own.0 at.0 in
    let rest = bare_again (n + 1) cs (line_with_end (n + 1) c es).1 own.1 at.1 in
    λ i. first i ∷ rest i

pub ends_again : (n : ℕ) (cs : List Command) (es : List LineEnd) → Each IsBare cs → AreAt n cs es
    → ends_behind n (with_ends_behind n cs es) ≡ es
ends_again n [] es own at = sym at
ends_again n (c ∷ cs) es own at =
    ap (with_end (n + 1) (line_with_end (n + 1) c es).0)
    (ends_again (n + 1) cs (line_with_end (n + 1) c es).1 own.1 at.1)
    ∙ end_here (n + 1) c es own.0

-- ---- ends without a flaw are those of stops

not_false : (b : Bool) → not b ≡ false → b ≡ true
not_false true e = refl
not_false false e = absurd cc

later_number : (n m : ℕ) → n < m → (m ≡ n + 1 → ⊥) → n + 1 < m
later_number n m above apart = by_order (nat_le m (n + 1)) refl
  where
    by_order : (b : Bool) → nat_le m (n + 1) ≡ b → n + 1 < m
    by_order true most = let h = leb-true m (n + 1) most in absurd (apart (omega (arith, h, above)))
    by_order false less = leb-false m (n + 1) less

module _ {T : Type 0} (flaw : ℕ → T → Found) (span : T → ℕ) (value : T → Term) (most : Limits) (hs : List Heading)
    (stops : ℕ → Bool) where
  -- what no flaw says of an end's number
  number_of : (before k : ℕ) (e : End T) → end_flaw flaw span most hs stops before k e ≡ None
      → (stops e.number ≡ true) × (before < e.number)
  number_of before k e none =
      let head = (neither (end_head_flaw stops before k e.number)
      (heaps_flaw flaw span most hs Disjuncts (k + 3) e.disjuncts) none).0 in
      let both = neither (ill_if (not (stops e.number)) NoLine (k + 1))
      (ill_if (nat_le e.number before) Numbering (k + 1)) head in (
        not_false (stops e.number) (not_ill (not (stops e.number)) NoLine (k + 1) both.0),
        below e.number before (not_ill (nat_le e.number before) Numbering (k + 1) both.1),
      )

  begin_above : (before k : ℕ) (es : List (End T)) → ends_flaw flaw span most hs stops before k es ≡ None
      → BeginAbove before (map (end_value value hs) es)
  begin_above before k [] none = tt
  begin_above before k (e ∷ es) none =
      (number_of before k e (neither (end_flaw flaw span most hs stops before k e)
      (ends_flaw flaw span most hs stops e.number (k + end_span span e) es) none).0).1

  -- each line at which an end may stand is a stop of these commands, n lines standing before
  abbrev AreStops : ℕ → List Command → Type 0
  AreStops n cs = (d : ℕ) → stops (n + suc d) ≡ true → slice_get cs d ≡ Some commands.Stop

  later_stops : (n : ℕ) (c : Command) (cs : List Command) → AreStops n (c ∷ cs) → AreStops (n + 1) cs
  later_stops n c cs are d stop =
      let same : n + 1 + suc d ≡ n + suc (suc d) = omega arith in
      are (suc d) (subst (λ (m : ℕ). stops m ≡ true) same stop)

  stands : (n : ℕ) (cs : List Command) → AreStops n cs → (m : ℕ) → n < m → stops m ≡ true
      → (d : ℕ) × (m ≡ n + suc d) × (slice_get cs d ≡ Some commands.Stop)
  stands n cs are m above stop =
      let d = m - n - 1 in
      let same : m ≡ n + suc d = omega (arith, above) in
      (d, same, are d (subst (λ (j : ℕ). stops j ≡ true) same stop))

  -- the first end is that of the first command, which is a stop then, or of a later one
  at_first : (n before k : ℕ) (c : Command) (cs : List Command) (e : End T) (es : List (End T)) → AreStops n (c ∷ cs)
      → BeginAbove n (map (end_value value hs) (e ∷ es))
      → ends_flaw flaw span most hs stops before k (e ∷ es) ≡ None
      → (BeginAbove (n + 1) (map (end_value value hs) es) → AreAt (n + 1) cs (map (end_value value hs) es))
      → (BeginAbove (n + 1) (map (end_value value hs) (e ∷ es))
      → AreAt (n + 1) cs (map (end_value value hs) (e ∷ es)))
      → AreAt n (c ∷ cs) (map (end_value value hs) (e ∷ es))
  at_first n before k c cs e es are above none rest all = (at, by_number (nat_eq e.number (n + 1)) refl)
    where
      both : (end_flaw flaw span most hs stops before k e ≡ None)
          × (ends_flaw flaw span most hs stops e.number (k + end_span span e) es ≡ None)
      both = neither (end_flaw flaw span most hs stops before k e)
          (ends_flaw flaw span most hs stops e.number (k + end_span span e) es) none

      at : nat_eq e.number (n + 1) ≡ true → c ≡ commands.Stop
      at same =
          let number = eqb-true e.number (n + 1) same in
          let here : e.number ≡ n + suc 0 = omega (arith, number) in
          let there = are 0 (subst (λ (j : ℕ). stops j ≡ true) here (number_of before k e both.0).0) in
          cc

      by_number : (b : Bool) → nat_eq e.number (n + 1) ≡ b → AreAt (n + 1) cs
          (chosen b c (end_value value hs e) (map (end_value value hs) es)).1
      by_number true same = rest (subst (λ (m : ℕ). BeginAbove m (map (end_value value hs) es))
          (eqb-true e.number (n + 1) same) (begin_above e.number (k + end_span span e) es both.1))
      by_number false other = all (let apart = eqb-false e.number (n + 1) other in later_number n e.number above apart)

  pub are_at : (n before k : ℕ) (cs : List Command) (es : List (End T)) → AreStops n cs
      → BeginAbove n (map (end_value value hs) es) → ends_flaw flaw span most hs stops before k es ≡ None
      → AreAt n cs (map (end_value value hs) es)
  are_at n before k [] [] are above none = refl
  are_at n before k [] (e ∷ es) are above none =
      let own = number_of before k e (neither (end_flaw flaw span most hs stops before k e)
      (ends_flaw flaw span most hs stops e.number (k + end_span span e) es) none).0 in
      let there = stands n [] are e.number above own.0 in
      absurd (let gone = there.2 in cc)
  are_at n before k (c ∷ cs) [] are above none = (tt, are_at (n + 1) before k cs [] (later_stops n c cs are) tt refl)
  are_at n before k (c ∷ cs) (e ∷ es) are above none =
      let behind = k + end_span span e in
      let both = neither (end_flaw flaw span most hs stops before k e)
      (ends_flaw flaw span most hs stops e.number behind es) none in
      at_first n before k c cs e es are above none
      (λ later. are_at (n + 1) e.number behind cs es (later_stops n c cs are) later both.1)
      (λ later. are_at (n + 1) before k cs (e ∷ es) (later_stops n c cs are) later none)

-- ---- the lines of a program

module _ {V : Type 0} (value : V → ℕ) where
  change_bare : (x : ℕ) (c : ChangeTree V) → IsBare (change_value value x c)
  change_bare x (New n) = (refl, λ n es. refl)
  change_bare x (Assign t) = (refl, λ n es. refl)
  change_bare x (Load t n) = (refl, λ n es. refl)
  change_bare x (Store n t) = (refl, λ n es. refl)

  command_bare : (c : CommandTree V) → IsBare (command_value value c)
  command_bare Stop = (refl, λ n es. refl)
  command_bare (IfAny n) = (refl, λ n es. refl)
  command_bare (Goto n) = (refl, λ n es. refl)
  command_bare (Free t) = (refl, λ n es. refl)
  command_bare (If t true u n) = (refl, λ n es. refl)
  command_bare (If t false u n) = (refl, λ n es. refl)
  command_bare (StoreAtNil n t) = (refl, λ n es. refl)
  command_bare (Change v c) = change_bare (value v) c

  pub lines_bare : (ls : List (LineTree V)) → Each IsBare (commands_of (map (line_value value) ls))
  lines_bare [] = tt
  lines_bare (l ∷ ls) = (command_bare l.command, lines_bare ls)

  stop_value : (c : CommandTree V) → is_stop c ≡ true → command_value value c ≡ commands.Stop
  stop_value Stop e = refl
  stop_value (IfAny n) e = cc
  stop_value (Goto n) e = cc
  stop_value (Free t) e = cc
  stop_value (If t b u n) e = cc
  stop_value (StoreAtNil n t) e = cc
  stop_value (Change v c) e = cc

  pub stops_are : (ls : List (LineTree V)) (d : ℕ) → stops_at ls (suc d) ≡ true
      → slice_get (commands_of (map (line_value value) ls)) d ≡ Some commands.Stop
  stops_are [] d e = cc
  stops_are (l ∷ ls) zero e = ap Some (stop_value l.command e)
  stops_are (l ∷ ls) (suc d) e = stops_are ls d e

  module _ {T : Type 0} (flaw : ℕ → T → Found) (span : T → ℕ) (term : T → Term) (most : Limits) (hs : List Heading)
      (ls : List (LineTree V)) (k : ℕ) (es : List (End T))
      (none : ends_flaw flaw span most hs (stops_at ls) 0 k es ≡ None) where
    standing : AreAt 0 (commands_of (map (line_value value) ls)) (map (end_value term hs) es)
    standing =
        are_at flaw span term most hs (stops_at ls) 0 0 k (commands_of (map (line_value value) ls)) es
        (λ d stop. stops_are ls d (let same : 0 + suc d ≡ suc d = omega arith in
        subst (λ (m : ℕ). stops_at ls m ≡ true) same stop))
        (begin_above flaw span term most hs (stops_at ls) 0 k es none) none

    -- the lines of a text, and its ends, are those of the program that it says
    pub own_lines : map bare (with_ends (commands_of (map (line_value value) ls)) (map (end_value term hs) es))
        ≡ commands_of (map (line_value value) ls)
    own_lines = bare_again 0 (commands_of (map (line_value value) ls)) (map (end_value term hs) es) (lines_bare ls)
        standing

    pub own_ends : ends_of (with_ends (commands_of (map (line_value value) ls)) (map (end_value term hs) es))
        ≡ map (end_value term hs) es
    own_ends = ends_again 0 (commands_of (map (line_value value) ls)) (map (end_value term hs) es) (lines_bare ls)
        standing
