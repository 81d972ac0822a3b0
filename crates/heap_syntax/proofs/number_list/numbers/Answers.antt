use Rattle.std.proofs.Common.{List, ℕ, ◌≡◌, ◌∙◌, ap, subst}
use Rattle.cyc_grammar.specs.Giving.{Gives, with_front}
use Rattle.cyc_grammar.specs.Syntax.{Reading}
use Rattle.cyc_grammar.proofs.Loop.{with_front-nil}
use Rattle.heap_syntax.specs.Numbers.{numbers}
use Rattle.heap_syntax.proofs.number_list.numbers.Goals as goal

pub returns : goal.returns
returns c =
    let read = numbers.read c.args.cursor.now in
    let same : with_front c.new.result.items read ≡ read = ap (λ (front : List ℕ). with_front front read)
    c.new.ensures.items ∙ with_front-nil read in
    subst (λ (r : Reading (List ℕ)). Gives (λ x. (x.items, c.more_numbers.new.cursor)) c.more_numbers.result r)
    same c.more_numbers.ensures
