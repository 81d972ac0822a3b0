-- Ends without a flaw fit the values' types, and with lines that are a program they are one.
use Rattle.std.proofs.Common.{◌≡◌, ℕ, suc, ◌+◌, ◌<◌, ◌≤◌, Bool, true, false, List, [], ◌∷◌, length, Option, Some, None}
use Rattle.std.proofs.Common.{refl, ap, ◌∙◌}
use Rattle.std.specs.Prelude.{map, not, ◌&&◌, nat_eq, nat_lt, if◌then◌else◌}
use Rattle.std.proofs.lemmas.Bool.{le-ltb, and_right}
use Rattle.cyc_basics.specs.Limits.{AreLimits}
use Rattle.cyc_basics.specs.declared.limits.Limits.{Limits}
use Rattle.cyc_lex.specs.declared.fault.What.TheVariants.{Disjuncts}
use Rattle.heap_formula.specs.declared.terms.Term.{Term}
use Rattle.heap_formula.specs.declared.commands.Command.{Command}
use Rattle.heap_formula.specs.declared.commands.Command.TheVariants.{Ends}
use Rattle.heap_formula.specs.Closedness.{InHeap}
use Rattle.heap_formula.specs.Fresh.{univ_bound, heap_bound}
use Rattle.heap_formula.specs.Symbolic.{SymbolicHeap}
use Rattle.heap_formula.specs.Words.{Each, max_of}
use Rattle.heap_formula.proofs.AllMembers.{each_any, each_imply}
use Rattle.heap_formula.proofs.Greatest.{below_each}
use Rattle.goto_lang.specs.Faults.{ends_fault, goes_on as may_go_on, line_fault, lines_fault}
use Rattle.goto_lang.specs.Faults.{program_fault}
use Rattle.goto_lang.specs.Lines.{IsUniversalCommand, commands_of}
use Rattle.heap_syntax.specs.EndTrees.{End}
use Rattle.heap_reader.specs.Trees.{Heading}
use Rattle.heap_reader.specs.EndSpans.{end_span}
use Rattle.heap_reader.specs.Flaws.{Found, heaps_flaw}
use Rattle.heap_reader.specs.EndFlaws.{end_head_flaw, end_flaw, ends_flaw}
use Rattle.heap_reader.specs.EndSmall.{IsSmallEnd}
use Rattle.heap_reader.specs.EndValues.{LineEnd, end_value, line_with_end, with_ends_behind, lines_with_ends}
use Rattle.heap_reader.specs.Small.{IsSmall}
use Rattle.heap_reader.specs.Values.{heap_value}
use Rattle.heap_reader.proofs.NoFlaw.{neither}
use Rattle.heap_reader.proofs.Fitting.{heaps_small}
use Rattle.heap_reader.proofs.EndLoops.{chosen}
use Rattle.heap_reader.proofs.HeapTerms.{heaps_keep, heap_bounded}
use Rattle.heap_reader.proofs.Programs.{past, passes, both_none}
use Rattle.cyc_basics.proofs.Options.{neither_some}

-- ---- ends fit

module _ {T : Type 0} (flaw : ℕ → T → Found) (span : T → ℕ) (most : Limits) (hs : List Heading) (stops : ℕ → Bool) where
  -- what no flaw says of the disjuncts of each end
  pub end_heaps : (before k : ℕ) (e : End T) → end_flaw flaw span most hs stops before k e ≡ None
      → heaps_flaw flaw span most hs Disjuncts (k + 3) e.disjuncts ≡ None
  end_heaps before k e none =
      (neither (end_head_flaw stops before k e.number) (heaps_flaw flaw span most hs Disjuncts (k + 3) e.disjuncts)
      none).1

  -- what a fact of the disjuncts' having no flaw says of each end
  pub each_end : (Q : End T → Type 0)
      → ((k : ℕ) (e : End T) → heaps_flaw flaw span most hs Disjuncts k e.disjuncts ≡ None → Q e) → (before k : ℕ)
      (es : List (End T)) → ends_flaw flaw span most hs stops before k es ≡ None → Each Q es
  each_end Q one before k [] none = tt
  each_end Q one before k (e ∷ es) none =
      let both = neither (end_flaw flaw span most hs stops before k e)
      (ends_flaw flaw span most hs stops e.number (k + end_span span e) es) none in
      (one (k + 3) e (end_heaps before k e both.0), each_end Q one e.number (k + end_span span e) es both.1)

-- an end has a disjunct
abbrev pub HasDisjunct : {T : Type 0} → End T → Type 0
HasDisjunct e = 0 < length e.disjuncts

module _ {T : Type 0} (flaw : ℕ → T → Found) (span : T → ℕ) (value : T → Term)
    (small : (k : ℕ) (t : T) → flaw k t ≡ None → IsSmall value t) (most : Limits) (few : AreLimits most)
    (hs : List Heading) (stops : ℕ → Bool) where
  pub ends_small : (before k : ℕ) (es : List (End T)) → Each HasDisjunct es
      → ends_flaw flaw span most hs stops before k es ≡ None → Each (IsSmallEnd value) es
  ends_small before k [] some none = tt
  ends_small before k (e ∷ es) some none =
      let both = neither (end_flaw flaw span most hs stops before k e)
      (ends_flaw flaw span most hs stops e.number (k + end_span span e) es) none in
      let heaps = heaps_small flaw span value small most few hs Disjuncts (k + 3) e.disjuncts
      (end_heaps flaw span most hs stops before k e both.0) in (
        record { heaps = heaps.0; some = some.0; few = heaps.1 },
        ends_small e.number (k + end_span span e) es some.1 both.1,
      )

-- ---- their universal variables are the program's

module _ {T : Type 0} (flaw : ℕ → T → Found) (span : T → ℕ) (value : T → Term)
    (bounded : (k : ℕ) (t : T) → flaw k t ≡ None → univ_bound (value t) ≤ 64) (most : Limits) (hs : List Heading)
    (stops : ℕ → Bool) where
  end_passes : (k : ℕ) (e : End T) → heaps_flaw flaw span most hs Disjuncts k e.disjuncts ≡ None
      → ends_fault (end_value value hs e).1 ≡ None
  end_passes k e none =
      let heaps = map (heap_value value hs) e.disjuncts in
      let low = each_imply (InHeap (λ t. univ_bound t ≤ 64)) (λ a. heap_bound a ≤ 64) (heap_bounded 64) heaps
      (heaps_keep flaw span value (λ t. univ_bound t ≤ 64) bounded most hs Disjuncts k e.disjuncts none) in
      passes (nat_lt 64 (max_of (map heap_bound heaps))) _ None
      (le-ltb 64 (max_of (map heap_bound heaps)) (below_each heap_bound 64 heaps low)) refl

  pub ends_pass : (before k : ℕ) (es : List (End T)) → ends_flaw flaw span most hs stops before k es ≡ None
      → Each (λ (e : LineEnd). ends_fault e.1 ≡ None) (map (end_value value hs) es)
  ends_pass before k [] none = tt
  ends_pass before k (e ∷ es) none =
      let both = neither (end_flaw flaw span most hs stops before k e)
      (ends_flaw flaw span most hs stops e.number (k + end_span span e) es) none in (
        end_passes (k + 3) e (end_heaps flaw span most hs stops before k e both.0),
        ends_pass e.number (k + end_span span e) es both.1,
      )

-- ---- lines that are a program are one with their ends

-- the command of line i, and what holds of it and of the ends that are left
command_and_rest : (P : Command → Type 0) (Q : LineEnd → Type 0) (i : ℕ) (c : Command) (es : List LineEnd) → P c
    → ((e : LineEnd) → Q e → P (Ends e.1)) → Each Q es
    → P (line_with_end i c es).0 × Each Q (line_with_end i c es).1
command_and_rest P Q i c [] p of_end q = (p, tt)
command_and_rest P Q i c (e ∷ es) p of_end q = by_number (nat_eq e.0 i)
  where
    by_number : (b : Bool) → P (chosen b c e es).0 × Each Q (chosen b c e es).1
    by_number true = (of_end e q.0, q.1)
    by_number false = (p, q)

-- a choice that is none has not its first part
first_none : {X : Type 0} (b : Bool) (x : X) (y : Option X) → (if b then Some x else y) ≡ None → b ≡ false
first_none true x y e = absurd cc
first_none false x y e = refl

-- the last line may be one with an end
line_passes : (count i number : ℕ) (c : Command) (bs : List SymbolicHeap) → ends_fault bs ≡ None
    → line_fault count i (number, c) ≡ None → line_fault count i (number, Ends bs) ≡ None
line_passes count i number c bs fits none =
    let few = past (nat_eq i count && may_go_on c) _ _ none in
    let own = past (nat_lt 4096 i) _ _ few in
    passes (nat_eq i count && false) _ _ (and_right (nat_eq i count) false refl)
    (passes (nat_lt 4096 i) _ _ (first_none (nat_lt 4096 i) _ _ few)
    (passes (not (nat_eq number i)) _ _ (first_none (not (nat_eq number i)) _ _ own)
    fits))

pub lines_pass : (count n : ℕ) (ls : List (ℕ × Command)) (es : List LineEnd)
    → Each (λ (e : LineEnd). ends_fault e.1 ≡ None) es → lines_fault count (n + 1) ls ≡ None
    → lines_fault count (n + 1) (lines_with_ends n ls es) ≡ None
lines_pass count n [] es fits none = refl
lines_pass count n (l ∷ ls) es fits none =
    let both = neither_some (line_fault count (n + 1) l) (lines_fault count (n + 1 + 1) ls) none in
    let first = command_and_rest (λ c. line_fault count (n + 1) (l.0, c) ≡ None)
    (λ (e : LineEnd). ends_fault e.1 ≡ None) (n + 1) l.1 es both.0
    (λ e f. line_passes count (n + 1) l.0 l.1 e.1 f both.0) fits in
    both_none (line_fault count (n + 1) (l.0, (line_with_end (n + 1) l.1 es).0))
    (lines_fault count (n + 1 + 1) (lines_with_ends (n + 1) ls (line_with_end (n + 1) l.1 es).1)) first.0
    (lines_pass count (n + 1) ls (line_with_end (n + 1) l.1 es).1 first.1 both.1)

pub as_many_lines : (n : ℕ) (ls : List (ℕ × Command)) (es : List LineEnd)
    → length (lines_with_ends n ls es) ≡ length ls
as_many_lines n [] es = refl
as_many_lines n (l ∷ ls) es = ap (λ m. suc m) (as_many_lines (n + 1) ls (line_with_end (n + 1) l.1 es).1)

pub ended_program : (ls : List (ℕ × Command)) (es : List LineEnd)
    → Each (λ (e : LineEnd). ends_fault e.1 ≡ None) es → program_fault ls ≡ None
    → program_fault (lines_with_ends 0 ls es) ≡ None
ended_program ls es fits none =
    ap (λ count. lines_fault count 1 (lines_with_ends 0 ls es)) (as_many_lines 0 ls es)
    ∙ lines_pass (length ls) 0 ls es fits none

pub as_many_commands : (n : ℕ) (cs : List Command) (es : List LineEnd) → length (with_ends_behind n cs es) ≡ length cs
as_many_commands n [] es = refl
as_many_commands n (c ∷ cs) es = ap (λ m. suc m) (as_many_commands (n + 1) cs (line_with_end (n + 1) c es).1)

-- the commands of lines with their ends
pub ended_commands : (n : ℕ) (ls : List (ℕ × Command)) (es : List LineEnd)
    → commands_of (lines_with_ends n ls es) ≡ with_ends_behind n (commands_of ls) es
ended_commands n [] es = refl
ended_commands n (l ∷ ls) es = ap (λ (cs : List Command). (line_with_end (n + 1) l.1 es).0 ∷ cs)
    (ended_commands (n + 1) ls (line_with_end (n + 1) l.1 es).1)

-- what holds of the commands and of each end holds of the commands with the ends
pub ended_each : (P : Command → Type 0) (n : ℕ) (cs : List Command) (es : List LineEnd) → Each P cs
    → Each (λ (e : LineEnd). P (Ends e.1)) es → Each P (with_ends_behind n cs es)
ended_each P n [] es all ends = tt
ended_each P n (c ∷ cs) es all ends =
    let first = command_and_rest P (λ (e : LineEnd). P (Ends e.1)) (n + 1) c es all.0 (λ e p. p) ends in
    (first.0, ended_each P (n + 1) cs (line_with_end (n + 1) c es).1 all.1 first.1)

pub ended_universal : (n : ℕ) (cs : List Command) (es : List LineEnd) → Each IsUniversalCommand cs
    → Each IsUniversalCommand (with_ends_behind n cs es)
ended_universal n cs es all = ended_each IsUniversalCommand n cs es all
    (each_any (λ (e : LineEnd). IsUniversalCommand (Ends e.1)) (λ e. tt) es)
