-- How many tokens a statement has, and what the end of the text comes to.
use Rattle.std.proofs.Common.{◌≡◌, ℕ, Bool, true, false, ◌⊎◌, List, [], ◌∷◌, length, Option, Some, None, Result, Ok, refl, ap, ◌∙◌}
use Rattle.std.proofs.Common.{arith, length-append, inl, inr}
use Rattle.std.proofs.lemmas.List.{append-nil}
use Rattle.cyc_lex.specs.declared.fault.ReadFault.{ReadFault}
use Rattle.cyc_lex.specs.Placed.{Placed}
use Rattle.cyc_lex.specs.Word.{Word, word_of}
use Rattle.cyc_grammar.specs.Syntax.{◌>>=◌, read_one, all_taken}
use Rattle.cyc_grammar.specs.Classes.{the_end}
use Rattle.heap_syntax.specs.LineGrammar as commands
use Rattle.heap_syntax.specs.declared.version.Version.{Version}
use Rattle.heap_syntax.specs.declared.version.Version.TheVariants.{Three}
use Rattle.heap_syntax.specs.EndGrammar as grammar
use Rattle.heap_reader.specs.LineSpans.{line_span}
use Rattle.heap_reader.specs.EndSpans.{end_span}
use Rattle.heap_reader.proofs.NumberedEnds.{ends_words_are}
use Rattle.heap_reader.proofs.LineSpanLaws.{lines_words}
use Rattle.heap_reader.proofs.DefinitionSpanLaws.{definition_words}
use Rattle.proof_syntax.specs.Trees.{Line, End, Node}
use Rattle.proof_syntax.specs.Grammar.{variable, end, node}
use Rattle.proof_syntax.specs.Left.{Part, First, Preds, Lines, Ends, Nodes as Among, Statement, statement_of}
use Rattle.proof_syntax.specs.Left.{first_statement, last_statement, end_or_node_over, end_or_node, line_or_later}
use Rattle.proof_syntax.proofs.LeftLaws.{statement-law}
use Rattle.proof_file.specs.Spans.{variable_span, term_span}
use Rattle.proof_file.proofs.SpanLaws.{node_words, variable_words}
use Rattle.file_reader.specs.Outcomes.{or_else, settled}
use Rattle.file_reader.specs.Stages.{Begun, Nodes, said_with, nodes_left, nodes_outcome, ahead}
use Rattle.file_reader.specs.Steps.{end_or_node_span, later_span, span_of}

line-words : (v : Version) (l : Line) → (commands.line v variable).fits l
    → length ((commands.line v variable).words l) ≡ line_span variable_span l
unfolding commands.lines
line-words v l f =
    let one = lines_words variable variable_span variable_words v (l ∷ []) (f, tt) in
    omega (arith, one, length-append ((commands.line v variable).words l) [])

end-words : (e : End) → end.fits e → length (end.words e) ≡ end_span term_span e
unfolding grammar.ends
end-words e f =
    let one = ends_words_are Three (e ∷ []) (f, tt) in
    omega (arith, one, length-append (end.words e) [])

where-words : (b : Bool) (s : End ⊎ Node) → (end_or_node_over b end node).fits s
    → length ((end_or_node_over b end node).words s) ≡ end_or_node_span s
where-words true (inl e) f = end-words e f
where-words true (inr n) f = node_words n f
where-words false (inl e) f = absurd f.0
where-words false (inr n) f = node_words n f.1

later-words : (v : Version) (s : End ⊎ Node) → (end_or_node v).fits s
    → length ((end_or_node v).words s) ≡ end_or_node_span s
unfolding end_or_node
later-words v s f = where-words (commands.has_ends v) s f

line-or-later-words : (v : Version) (s : Line ⊎ (End ⊎ Node)) → (line_or_later v).fits s
    → length ((line_or_later v).words s) ≡ later_span s
unfolding line_or_later
line-or-later-words v (inl l) f = line-words v l f
line-or-later-words v (inr s) f = later-words v s f

pub statement-words : (p : Part) (t : Statement p) → (statement_of p).fits t
    → length ((statement_of p).words t) ≡ span_of p t
unfolding first_statement last_statement
statement-words First v f = refl
statement-words (Preds v) (inl d) f = definition_words d f
statement-words (Preds v) (inr s) f = line-or-later-words v s f
statement-words (Lines v) s f = line-or-later-words v s f
statement-words (Ends v) s f = later-words v s f
statement-words Among (inl n) f = node_words n f
statement-words Among (inr u) f = refl

-- what is read as a statement has its words
pub statement-span : (p : Part) (ws : List Word) (t : Statement p) → (statement_of p).read ws ≡ Ok (t, [])
    → length ws ≡ span_of p t
statement-span p ws t e =
    let h = (statement-law p).takes ws (t, []) e in
    ap length (h.0 ∙ append-nil ((statement_of p).words t)) ∙ statement-words p t h.2

none-later : (o : Option ReadFault) → or_else o None ≡ o
none-later (Some f) = refl
none-later None = refl

-- after "end;" the end of the text is all that may come
pub end-says : (b : Begun) (t : Placed) → b.ended ≡ true → the_end.value (word_of t) ≡ Some tt
    → ahead (Nodes b) (t ∷ []) ≡ settled b.flaw (said_with b [])
end-says b t ended last =
    ap (λ (q : Result (List Node) ℕ). nodes_outcome b (t ∷ []) q) (
    ap (λ (k : Bool). nodes_left k (word_of t ∷ [])) ended
    ∙ ap (λ (o : Option (Unit {0})). (read_one o (word_of t) [] >>= λ y. all_taken y.0 y.1) >>= λ u. Ok []) last)
    ∙ ap (λ (o : Option ReadFault). settled o (said_with b [])) (none-later b.flaw)
