use Rattle.std.proofs.Common.{ap, sym, ◌∙◌, List, ℕ}
use Rattle.std.specs.List.{list_any}
use Rattle.std.specs.Str.{bytes_eq}
use Rattle.std.proofs.lemmas.List.{take-map}
use Rattle.problem_syntax.specs.Trees.{text_of}
use Rattle.formula_reader.proofs.walk.is_before.Goals as goal

pub returns : goal.returns
returns c = c.is_among.ensures ∙ ap (λ (ts : List (List ℕ)). list_any (bytes_eq c.args.text.now) ts)
    (sym (take-map text_of c.args.n c.args.texts.now))
