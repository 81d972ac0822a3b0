use Rattle.std.proofs.Common.{◌≡◌, ◌-◌, length, sym, true, ◌<◌}
use Rattle.std.proofs.lemmas.Result.{err_from_is_err_and}
use Rattle.std.proofs.lemmas.List.{map_push}
use Rattle.std.specs.Prelude.{Ok, map}
use Rattle.cyc_grammar.specs.Syntax.{begins, is_one, read_many}
use Rattle.cyc_grammar.specs.Giving.{with_front}
use Rattle.cyc_grammar.proofs.Loop.{goes_on, ends}
use Rattle.heap_syntax.proofs.Loops.{stops}
use Rattle.heap_syntax.specs.EndTrees.{end_of}
use Rattle.heap_syntax.specs.EndGrammar.{ends_word, end}
use Rattle.heap_syntax.proofs.ends.read_ends.more_ends.Goals as goal

pub loop-preserved : goal.loop-preserved
loop-preserved g c =
    let item = (end (g.F.TermForm.terms c.args.form.now) (g.F.TermForm.atoms c.args.form.now)) in
    let total = (with_front (map (end_of g.F.TermForm.seen) c.args.items.items)
    (read_many (is_one ends_word) (end (g.F.TermForm.terms c.args.form.now) (g.F.TermForm.atoms c.args.form.now))
    (length c.args.cursor.now) c.args.cursor.now)) in
    let begin : begins (is_one ends_word) c.loop.cursor ≡ true = sym c.if-not-is_keyword_next.ensures in
    let read : item.read c.loop.cursor ≡ Ok ((end_of g.F.TermForm.seen) c.in_ok-end.field-0, c.end.new.cursor)
    = c.in_ok-end.ensures in
    let lt : c.loop.counter < length c.args.cursor.now = rw (← c.left-end.ensures) c.loop-test.true in
    rw (c.in_ok-push.ensures.items, map_push) (goes_on (is_one ends_word) item
    (map (end_of g.F.TermForm.seen) c.loop.items.items) (length c.args.cursor.now) c.loop.counter c.loop.cursor
    ((end_of g.F.TermForm.seen) c.in_ok-end.field-0) c.end.new.cursor total lt begin read c.loop.invariant)

pub returns-then-not-is_keyword_next : goal.returns-then-not-is_keyword_next
returns-then-not-is_keyword_next g c = stops (is_one ends_word)
    (end (g.F.TermForm.terms c.args.form.now) (g.F.TermForm.atoms c.args.form.now))
    (map (end_of g.F.TermForm.seen) c.loop.items.items) ((length c.args.cursor.now) - c.loop.counter) c.loop.cursor
    (with_front (map (end_of g.F.TermForm.seen) c.args.items.items)
    (read_many (is_one ends_word) (end (g.F.TermForm.terms c.args.form.now) (g.F.TermForm.atoms c.args.form.now))
    (length c.args.cursor.now) c.args.cursor.now)) (sym c.if-not-is_keyword_next.ensures) c.loop.invariant

pub returns-in_err-end : goal.returns-in_err-end
returns-in_err-end g c =
    let lt : c.loop.counter < length c.args.cursor.now = rw (← c.left-end.ensures) c.loop-test.true in
    let p = err_from_is_err_and c.from_residual.result c.from_residual.ensures.1 in
    rw (p.1, p.2) (ends (is_one ends_word) (end (g.F.TermForm.terms c.args.form.now) (g.F.TermForm.atoms c.args.form.now))
    c.in_err-end.field-0.0 (map (end_of g.F.TermForm.seen) c.loop.items.items) (length c.args.cursor.now)
    c.loop.counter c.loop.cursor (with_front (map (end_of g.F.TermForm.seen) c.args.items.items)
    (read_many (is_one ends_word) (end (g.F.TermForm.terms c.args.form.now) (g.F.TermForm.atoms c.args.form.now))
    (length c.args.cursor.now) c.args.cursor.now)) lt (sym c.if-not-is_keyword_next.ensures)
    c.in_err-end.ensures c.loop.invariant)

pub returns : goal.returns
returns g c = stops (is_one ends_word) (end (g.F.TermForm.terms c.args.form.now) (g.F.TermForm.atoms c.args.form.now))
    (map (end_of g.F.TermForm.seen) c.loop.items.items) ((length c.args.cursor.now) - c.loop.counter) c.loop.cursor
    (with_front (map (end_of g.F.TermForm.seen) c.args.items.items)
    (read_many (is_one ends_word) (end (g.F.TermForm.terms c.args.form.now) (g.F.TermForm.atoms c.args.form.now))
    (length c.args.cursor.now) c.args.cursor.now)) (sym c.if-is_keyword_next.ensures) c.loop.invariant
