use Rattle.std.proofs.Common.{◌≡◌, ◌∙◌, Ok, Err, refl}
use Rattle.cyc_grammar.specs.Syntax.{Reading, ◌>>=◌}
use Rattle.heap_syntax.proofs.Fronts.{mapped}
use Rattle.proof_syntax.specs.Left.{joined, statement_of, statement_front}
use Rattle.proof_syntax.proofs.StatementFronts.{kept-front, next-front}
use Rattle.proof_syntax.proofs.statements.fronts_of_statements_are_read.Goals as goal

as-joined : {A B : Type 0} (f : A → B) (r : Reading A) → (r >>= mapped f) ≡ joined f r
as-joined f (Ok x) = refl
as-joined f (Err left) = refl

pub returns-clause-front : goal.returns-clause-front
returns-clause-front c = λ k p ws. (kept-front k p).reads ws
    ∙ as-joined (statement_front k p) ((statement_of p).read ws)

pub returns-clause-part : goal.returns-clause-part
returns-clause-part c = next-front
