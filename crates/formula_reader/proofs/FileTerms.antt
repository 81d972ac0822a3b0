-- Terms' trees that fit the grammar, and have no flaw.
use Rattle.std.proofs.Common.{◌≡◌, ℕ, ◌≤◌, Bool, true, false, None, refl, arith}
use Rattle.std.proofs.lemmas.Bool.{le-ltb}
use Rattle.heap_formula.specs.declared.terms.Term.{Term}
use Rattle.heap_formula.specs.declared.terms.Term.TheVariants.{Nil, Univ, Exist}
use Rattle.heap_formula.specs.Closedness.{IsUniversal}
use Rattle.rule_table.specs.Answer.{number_bound}
use Rattle.rule_book.specs.Limits.{IsTermWithin}
use Rattle.heap_syntax.specs.declared.definitions.tree.TermTree.{TermTree}
use Rattle.proof_syntax.specs.Grammar as grammar
use Rattle.heap_reader.specs.Flaws.{Found}
use Rattle.heap_reader.specs.declared.definitions.scope.Scope.TheVariants.{Outside as InNode}
use Rattle.heap_reader.specs.Written.{TermFits}
use Rattle.proof_file.specs.Flaws.{term_flaw}
use Rattle.proof_file.specs.Written.{term_tree}

-- where universal terms alone may stand, the term is one
abbrev pub MayStand : Bool → Term → Type 0
MayStand true t = IsUniversal t
MayStand false t = Unit {0}

pub term_fits : (universal : Bool) (t : Term) → number_bound t ≤ 65535 → MayStand universal t → TermFits universal t
unfolding grammar.terms grammar.uterm grammar.term
term_fits true Nil b m = (tt, tt)
term_fits true (Univ n) b m = (tt, omega arith)
term_fits true (Exist n) b m = absurd m
term_fits false Nil b m = (tt, tt)
term_fits false (Univ n) b m = (tt, omega arith)
term_fits false (Exist n) b m = (tt, omega arith)

-- a universal term as a reason has it
pub uterm_fits : (t : Term) → IsTermWithin t → grammar.uterm.fits (term_tree t)
unfolding grammar.terms
uterm_fits t w = term_fits true t w.1 w.0

-- a term in which no flaw is found
abbrev pub IsFlawless : (ℕ → TermTree → Found) → Term → Type 0
IsFlawless flaw t = (k : ℕ) → flaw k (term_tree t) ≡ None

-- outside cases
pub term_flawless : (t : Term) → number_bound t ≤ 65535 → IsFlawless (term_flaw InNode) t
term_flawless Nil b k = refl
term_flawless (Univ n) b k = rw (le-ltb 65534 n (omega arith))
term_flawless (Exist n) b k = rw (le-ltb 65534 n (omega arith))
