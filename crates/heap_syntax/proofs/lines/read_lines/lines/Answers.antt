use Rattle.std.proofs.Common.{List, ◌≡◌, ◌∙◌, ap, subst}
use Rattle.std.specs.Prelude.{map}
use Rattle.cyc_grammar.specs.Giving.{Gives, with_front}
use Rattle.cyc_grammar.specs.Syntax.{Reading}
use Rattle.cyc_grammar.proofs.Loop.{with_front-nil}
use Rattle.heap_syntax.specs.LineTrees.{line_of}
use Rattle.heap_syntax.specs.declared.lines.tree.LineTree.{LineTree}
use Rattle.heap_syntax.specs.LineGrammar.{lines}
use Rattle.heap_syntax.proofs.lines.read_lines.lines.Goals as goal

pub returns : goal.returns
returns g c =
    let read = (lines c.args.version (g.F.VariableForm.variables c.args.form.now)).read c.args.cursor.now in
    let same : with_front (map (line_of g.F.VariableForm.seen) c.new-items.result.items) read
    ≡ read = ap (λ (front : List (LineTree _)). with_front front read)
    (ap (map (line_of g.F.VariableForm.seen)) c.new-items.ensures.items) ∙ with_front-nil read in
    subst (λ (r : Reading (List (LineTree _))). Gives
    (λ x. (map (line_of g.F.VariableForm.seen) x.items, c.more_lines.new.cursor)) c.more_lines.result r)
    same c.more_lines.ensures
