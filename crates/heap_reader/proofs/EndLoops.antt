-- One turn of a loop over ends, and over lines with their ends.
use Rattle.std.specs.Prelude.{None, if◌then◌else◌}
use Rattle.std.proofs.Common.{◌≡◌, ℕ, zero, suc, ◌+◌, Bool, List, [], ◌∷◌, ◌++◌, drop, map, sym, ap, subst}
use Rattle.std.proofs.Common.{◌∙◌, arith}
use Rattle.std.proofs.lemmas.List.{append_assoc}
use Rattle.cyc_basics.specs.declared.limits.Limits.{Limits}
use Rattle.heap_formula.specs.declared.commands.Command.{Command}
use Rattle.heap_formula.specs.declared.commands.Command.TheVariants.{Ends}
use Rattle.heap_formula.specs.Words.{Each}
use Rattle.heap_syntax.specs.EndTrees.{End}
use Rattle.heap_reader.specs.Trees.{Heading}
use Rattle.heap_reader.specs.Spans.{total}
use Rattle.heap_reader.specs.EndSpans.{end_span}
use Rattle.heap_reader.specs.Flaws.{Found, or_later}
use Rattle.heap_reader.specs.EndFlaws.{end_flaw, ends_flaw}
use Rattle.heap_reader.specs.EndValues.{LineEnd, line_with_end, lines_with_ends}

module _ {T : Type 0} (flaw : ℕ → T → Found) (span : T → ℕ) (most : Limits) (hs : List Heading) (stops : ℕ → Bool) where
  -- an end without a flaw is passed over
  pub passed_end : (before k next : ℕ) (e : End T) (here rest : List (End T)) (found : Found) (behind : ℕ)
      → here ≡ e ∷ rest
      → (end_flaw flaw span most hs stops before k e ≡ None) × (next ≡ k + end_span span e)
      → (ends_flaw flaw span most hs stops before k here ≡ found) × (k + total (end_span span) here ≡ behind)
      → (ends_flaw flaw span most hs stops e.number next rest ≡ found) × (next + total (end_span span) rest ≡ behind)
  passed_end before k next e here rest found behind item none was =
      let behind_it = ends_flaw flaw span most hs stops e.number (k + end_span span e) rest in
      let one = subst (λ es. ends_flaw flaw span most hs stops before k es ≡ found) item was.0 in
      let later : behind_it ≡ found = subst (λ r. or_later r behind_it ≡ found) none.0 one in
      let all : k + (end_span span e + total (end_span span) rest) ≡ behind
      = subst (λ es. k + total (end_span span) es ≡ behind) item was.1 in (
        subst (λ m. ends_flaw flaw span most hs stops e.number m rest ≡ found) (sym none.1) later,
        omega (arith, all, none.1),
      )

-- what is left of a list has what each member has
pub each_dropped : {X Y : Type 0} (g : X → Y) (P : Y → Type 0) (i : ℕ) (xs : List X) → Each P (map g xs)
    → Each P (map g (drop i xs))
each_dropped g P zero xs all = all
each_dropped g P (suc i) [] all = tt
each_dropped g P (suc i) (x ∷ xs) all = each_dropped g P i xs all.1

-- an end in place of a command, where it is that of its line, and the ends behind it
abbrev pub chosen : Bool → Command → LineEnd → List LineEnd → Command × List LineEnd
chosen b c e es = if b then (Ends e.1, es) else (c, e ∷ es)

-- a line was made, with its end if it has one
pub made_line : (n : ℕ) (l : ℕ × Command) (here rest : List (ℕ × Command)) (es left : List LineEnd) (c : Command)
    (old new whole : List (ℕ × Command)) → here ≡ l ∷ rest → c ≡ (line_with_end (n + 1) l.1 es).0
    → left ≡ (line_with_end (n + 1) l.1 es).1 → new ≡ old ++ (l.0, c) ∷ []
    → old ++ lines_with_ends n here es ≡ whole → new ++ lines_with_ends (n + 1) rest left ≡ whole
made_line n l here rest es left c old new whole item command after now was =
    ap (λ made. made ++ lines_with_ends (n + 1) rest left) now
    ∙ append_assoc old ((l.0, c) ∷ []) (lines_with_ends (n + 1) rest left)
    ∙ (λ i. old ++ ((l.0, command i) ∷ lines_with_ends (n + 1) rest (after i)))
    ∙ sym (ap (λ ls. old ++ lines_with_ends n ls es) item) ∙ was
