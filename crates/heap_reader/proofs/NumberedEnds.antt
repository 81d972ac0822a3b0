-- Ends with numbered variables: their texts, what they say, and their trees again.
use Rattle.std.proofs.Common.{◌≡◌, ℕ, ◌+◌, ◌≤◌, Bool, true, false, List, [], ◌∷◌, length, map, None, refl, arith}
use Rattle.std.specs.Prelude.{nat_lt}
use Rattle.cyc_basics.specs.declared.limits.Limits.{Limits}
use Rattle.cyc_lex.specs.declared.fault.What.TheVariants.{Disjuncts, ProgramVariables}
use Rattle.cyc_grammar.specs.Classes.{is_free_name}
use Rattle.cyc_grammar.specs.Syntax.{Syntax}
use Rattle.heap_formula.specs.Definitions.{Definition as DefinitionValue}
use Rattle.heap_formula.specs.Fresh.{univ_bound}
use Rattle.heap_formula.specs.Words.{Each}
use Rattle.heap_syntax.specs.declared.version.Version.{Version}
use Rattle.heap_syntax.specs.Words.{reserved, or_word, semicolon}
use Rattle.heap_syntax.specs.Grammar as shared
use Rattle.heap_syntax.specs.Trees.{Spatial}
use Rattle.heap_syntax.specs.LineGrammar.{has_ends}
use Rattle.heap_syntax.specs.EndTrees.{End}
use Rattle.heap_syntax.specs.NumberedEnds.{end as numbered_end, ends as numbered_ends}
use Rattle.heap_syntax.specs.EndGrammar.{end, ends_where, ends}
use Rattle.heap_syntax.specs.declared.definitions.tree.TermTree.{TermTree}
use Rattle.heap_syntax.specs.declared.definitions.tree.TermTree.TheVariants.{Nil, Univ, Exist}
use Rattle.heap_syntax.specs.DefinitionGrammar.{terms, terms_of, spatial}
use Rattle.heap_reader.specs.Trees.{Heading}
use Rattle.heap_reader.specs.Spans.{total}
use Rattle.heap_reader.specs.EndSpans.{end_span}
use Rattle.heap_reader.specs.Flaws.{arity_in, use_flaw}
use Rattle.heap_reader.specs.EndFlaws.{end_flaw, ends_flaw}
use Rattle.heap_reader.specs.Values.{place_of}
use Rattle.heap_reader.specs.EndValues.{LineEnd, end_value}
use Rattle.heap_reader.specs.Written.{name_of, end_tree}
use Rattle.heap_reader.specs.declared.definitions.scope.Scope.TheVariants.{End as InEnd}
use Rattle.heap_reader.specs.DefinitionSpans.{term_span}
use Rattle.heap_reader.specs.DefinitionFlaws.{term_flaw}
use Rattle.heap_reader.specs.DefinitionValues.{term_value}
use Rattle.heap_reader.proofs.NoFlaw.{neither, not_over, at_most}
use Rattle.heap_reader.proofs.SpanLaws.{spatial_words}
use Rattle.heap_reader.proofs.DefinitionSpanLaws.{terms_words}
use Rattle.heap_reader.proofs.EndSpanLaws.{ends_words}
use Rattle.heap_reader.proofs.EndFitting.{HasDisjunct, end_heaps}
use Rattle.heap_reader.proofs.ValuesAgain.{heaps_known}
use Rattle.heap_reader.proofs.TreesAgain.{heaps_again}

-- ---- texts

-- an end of a text has a disjunct
module _ {T : Type 0} (t : shared.Terms T) (atom : Syntax (Spatial T)) where
  end_some : (e : End T) → (end t atom).fits e → HasDisjunct e
  unfolding end shared.listed
  end_some e f = let some = f.1.1.0 in omega arith

  some_where : (b : Bool) (es : List (End T)) → (ends_where b t atom).fits es → Each HasDisjunct es
  some_where false [] f = tt
  some_where false (e ∷ es) f = absurd f.0
  some_where true [] f = tt
  some_where true (e ∷ es) f = (end_some e f.0, some_where true es f.1)

  pub ends_some : (version : Version) (es : List (End T)) → (ends version t atom).fits es → Each HasDisjunct es
  unfolding ends
  ends_some version es f = some_where (has_ends version) es f

pub numbered_ends_some : (version : Version) (es : List (End TermTree)) → (numbered_ends version).fits es
    → Each HasDisjunct es
numbered_ends_some version es f = ends_some (terms_of (terms false)) (spatial (terms false)) version es f

pub ends_words_are : (version : Version) (es : List (End TermTree)) → (numbered_ends version).fits es
    → length ((numbered_ends version).words es) ≡ total (end_span term_span) es
ends_words_are version es f =
    ends_words (terms_of (terms false)) term_span (terms_words false) (spatial (terms false))
    (spatial_words (terms_of (terms false)) term_span (terms_words false)) version es f

-- ---- universal variables are the program's

pub end_bounded : (k : ℕ) (t : TermTree) → term_flaw InEnd k t ≡ None → univ_bound (term_value t) ≤ 64
end_bounded k Nil e = omega arith
end_bounded k (Univ n) e = let h = at_most 63 n (not_over (nat_lt 63 n) ProgramVariables (k + 1) e) in omega arith
end_bounded k (Exist n) e = omega arith

-- ---- values that have a text are what their tree says

module _ (ds : List DefinitionValue) (hs : List Heading)
    (placed : (p : ℕ) → is_free_name reserved (name_of ds p) ≡ true → place_of hs (name_of ds p) ≡ p) where
  end_known : (e : LineEnd) → numbered_end.fits (end_tree ds e)
      → end_value term_value hs (end_tree ds e) ≡ e
  unfolding end
  end_known e f = let heaps = heaps_known ds hs placed or_word semicolon e.1 f.1.1 in λ i. (e.0, heaps i)

  known_where : (b : Bool) (es : List LineEnd)
      → (ends_where b (terms_of (terms false)) (spatial (terms false))).fits (map (end_tree ds) es)
      → map (end_value term_value hs) (map (end_tree ds) es) ≡ es
  known_where false [] f = refl
  known_where false (e ∷ es) f = absurd f.0
  known_where true [] f = refl
  known_where true (e ∷ es) f =
      let first = end_known e f.0 in
      let rest = known_where true es f.1 in
      λ i. first i ∷ rest i

  pub ends_known : (version : Version) (es : List LineEnd) → (numbered_ends version).fits (map (end_tree ds) es)
      → map (end_value term_value hs) (map (end_tree ds) es) ≡ es
  unfolding ends
  ends_known version es f = known_where (has_ends version) es f

-- ---- what trees without a flaw say is written as those trees

module _ (most : Limits) (hs : List Heading) (vs : List DefinitionValue)
    (named : (name : List ℕ) (n k : ℕ) → use_flaw (arity_in hs name) n k ≡ None → name_of vs (place_of hs name) ≡ name)
    (stops : ℕ → Bool) where
  pub end_trees_again : (before k : ℕ) (es : List (End TermTree))
      → ends_flaw (term_flaw InEnd) term_span most hs stops before k es ≡ None
      → map (end_tree vs) (map (end_value term_value hs) es) ≡ es
  end_trees_again before k [] none = refl
  end_trees_again before k (e ∷ es) none =
      let both = neither (end_flaw (term_flaw InEnd) term_span most hs stops before k e)
      (ends_flaw (term_flaw InEnd) term_span most hs stops e.number (k + end_span term_span e) es) none in
      let heaps = heaps_again most hs vs named InEnd Disjuncts (k + 3) e.disjuncts
      (end_heaps (term_flaw InEnd) term_span most hs stops before k e both.0) in
      let rest = end_trees_again e.number (k + end_span term_span e) es both.1 in
      λ i. record { number = e.number; disjuncts = heaps i } ∷ rest i
