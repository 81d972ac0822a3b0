-- The spans count the words of the grammar, so each flaw's number is that of the token at which it stands.
use Rattle.std.proofs.Common.{◌≡◌, ℕ, ◌+◌, Bool, true, false, List, [], ◌∷◌, ◌++◌, length, refl, arith, length-append}
use Rattle.std.proofs.Common.{inl, inr}
use Rattle.cyc_grammar.specs.Syntax.{Syntax, is_one}
use Rattle.heap_syntax.specs.declared.version.Version.{Version}
use Rattle.heap_syntax.specs.Words.{semicolon}
use Rattle.heap_syntax.specs.Grammar.{sign}
use Rattle.heap_syntax.specs.declared.lines.tree.OperandTree.{OperandTree}
use Rattle.heap_syntax.specs.declared.lines.tree.OperandTree.TheVariants.{Nil, Variable}
use Rattle.heap_syntax.specs.declared.lines.tree.ChangeTree.{ChangeTree}
use Rattle.heap_syntax.specs.declared.lines.tree.ChangeTree.TheVariants.{New, Assign, Load, Store}
use Rattle.heap_syntax.specs.declared.lines.tree.CommandTree.{CommandTree}
use Rattle.heap_syntax.specs.declared.lines.tree.CommandTree.TheVariants.{Stop, Goto, Free, IfAny, If, StoreAtNil}
use Rattle.heap_syntax.specs.declared.lines.tree.CommandTree.TheVariants.{Change}
use Rattle.heap_syntax.specs.declared.lines.tree.LineTree.{LineTree}
use Rattle.heap_syntax.specs.LineGrammar.{line_word, goto_word, operand, last_number, store, field, source, change}
use Rattle.heap_syntax.specs.LineGrammar.{Branch, branch, free_branch, has_free_branches, behind_if, update, command}
use Rattle.heap_syntax.specs.LineGrammar.{line, lines}
use Rattle.heap_reader.specs.Spans.{total}
use Rattle.heap_reader.proofs.SpanLaws.{alone, sign_words}
use Rattle.heap_reader.specs.LineSpans.{operand_span, change_span, command_span, line_span}

module _ {V : Type 0} (v : Syntax V) (span : V → ℕ)
    (variable_words : (x : V) → v.fits x → length (v.words x) + 1 ≡ span x) where
  operand_words : (t : OperandTree V) → (operand v).fits t → length ((operand v).words t) + 1 ≡ operand_span span t
  unfolding operand
  operand_words Nil f = refl
  operand_words (Variable x) f = variable_words x f.1

  -- the word after the variable, and what follows it
  change_words : (c : ChangeTree V) → (change v).fits c → length ((change v).words c) ≡ 1 + change_span span c
  unfolding change store source field last_number
  change_words (New n) f = refl
  change_words (Assign t) f =
      let a = operand_words t f.1.0 in
      let l = length-append ((operand v).words t) (field.words (inr tt)) in
      omega arith
  change_words (Load t n) f =
      let a = operand_words t f.1.0 in
      let l = length-append ((operand v).words t) (field.words (inl n)) in
      omega arith
  change_words (Store n t) f =
      let a = operand_words t f.1.1 in
      let l = length-append ((operand v).words t) (semicolon.word tt ∷ []) in
      omega arith

  -- the word "if" and what stands after it
  branch_words : (p : Branch V) → (branch v).fits p
      → 1 + length ((branch v).words p) ≡ command_span span (If p.0 p.1.0 p.1.1.0 p.1.1.1)
  unfolding branch last_number
  branch_words p f =
      let a = operand_words p.0 f.0 in
      let s = sign_words p.1.0 in
      let c = operand_words p.1.1.0 f.1.1.0 in
      let goes = goto_word.word tt ∷ last_number.words p.1.1.1 in
      let l = length-append ((operand v).words p.1.1.0) goes in
      let m = length-append (sign.words p.1.0) ((operand v).words p.1.1.0 ++ goes) in
      let o = length-append ((operand v).words p.0) (sign.words p.1.0 ++ ((operand v).words p.1.1.0 ++ goes)) in
      omega arith

  test_words : (free : Bool) (p : Branch V) → (behind_if free v).fits (inr p)
      → 1 + length ((behind_if free v).words (inr p)) ≡ command_span span (If p.0 p.1.0 p.1.1.0 p.1.1.1)
  unfolding behind_if
  test_words true p f = branch_words p f
  test_words false p f = branch_words p f.1

  free_words : (free : Bool) (n : ℕ) → (behind_if free v).fits (inl n)
      → 1 + length ((behind_if free v).words (inl n)) ≡ 5
  unfolding behind_if free_branch last_number
  free_words true n f = refl
  free_words false n f = absurd f.0

  command_words : (version : Version) (c : CommandTree V) → (command version v).fits c
      → length ((command version v).words c) ≡ command_span span c
  unfolding command update store last_number
  command_words version Stop f = refl
  command_words version (IfAny n) f = let a = free_words (has_free_branches version) n f.1 in omega arith
  command_words version (Goto n) f = refl
  command_words version (Free t) f =
      let a = operand_words t f.1 in
      let l = length-append ((operand v).words t) (semicolon.word tt ∷ []) in
      omega arith
  command_words version (If t b u n) f = let a = test_words (has_free_branches version) (t, (b, (u, n))) f.1 in
      omega arith
  command_words version (StoreAtNil n t) f =
      let a = operand_words t f.1.1 in
      let l = length-append ((operand v).words t) (semicolon.word tt ∷ []) in
      omega arith
  command_words version (Change x c) f =
      let a = variable_words x f.1.0 in
      let b = change_words c f.1.1 in
      let l = length-append (v.words x) ((change v).words c) in
      omega arith

  line_words : (version : Version) (l : LineTree V) → (line version v).fits l
      → length ((line version v).words l) ≡ line_span span l
  unfolding line
  line_words version l f = let a = command_words version l.command f.1.1 in omega arith

  pub lines_words : (version : Version) (ls : List (LineTree V)) → (lines version v).fits ls
      → length ((lines version v).words ls) ≡ total (line_span span) ls
  unfolding lines
  lines_words version ls f = alone (is_one line_word) (line version v) (line_span span) (line_words version) ls f
