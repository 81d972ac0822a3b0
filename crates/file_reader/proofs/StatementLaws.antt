-- One statement after others.
use Rattle.std.proofs.Common.{◌≡◌, ℕ, ◌+◌, List, length, Ok, Err, ap, ◌∙◌, arith, length-append}
use Rattle.cyc_lex.specs.Word.{Word}
use Rattle.cyc_grammar.specs.Syntax.{Reading, ◌>>=◌}
use Rattle.proof_syntax.specs.Left.{Part, At, left_of, Statement, statement_of, next, join, joined}
use Rattle.proof_syntax.proofs.LeftLaws.{begins-with, statement-law}
use Rattle.file_reader.specs.Steps.{span_of}
use Rattle.file_reader.proofs.Sizes.{statement-words}

-- a statement that is not read
pub left-dead : (p : Part) (vs : List Word) (left : ℕ) → (statement_of p).read vs ≡ Err left
    → (left_of (At p)).read vs ≡ Err left
left-dead p vs left e = begins-with p vs ∙ ap (λ (q : Reading (Statement p)). q >>= λ x.
    joined (join p x.0) ((left_of (next p x.0)).read x.1)) e

-- its words
pub statement-size : (p : Part) (vs rest : List Word) (t : Statement p) → (statement_of p).read vs ≡ Ok (t, rest)
    → length vs ≡ span_of p t + length rest
statement-size p vs rest t e =
    let h = (statement-law p).takes vs (t, rest) e in
    omega (arith, ap length h.0, length-append ((statement_of p).words t) rest, statement-words p t h.2)
