-- A proof that is found has a text, and is said.
use Rattle.std.proofs.Common.{◌≡◌, ℕ, subst, sym, arith, Result, Ok, Err}
use Rattle.std.specs.Prelude.{IfOk}
use Rattle.std.proofs.lemmas.Option.{slice_get_within}
use Rattle.fo_formula.specs.declared.nodes.FoFile.{FoFile}
use Rattle.fo_file.specs.declared.values.problem.FoProblem.{FoProblem}
use Rattle.fo_file.specs.Questions.{IsFoQuestion}
use Rattle.fo_file.specs.Reading.{IsWritable, IsWritableProblem}
use Rattle.fo_file.proofs.Writable.{nodes-writable}
use Rattle.fo_search.specs.declared.prover.FoProved.{FoProved}
use Rattle.fo_search.specs.declared.prover.FoProved.TheVariants.{Found, NotFound, TooManyDerivations, TooManyStates}
use Rattle.fo_search.specs.Outcomes.{IsProofFor, IsProved}
use Rattle.cyc_runs.specs.declared.answers.Answer.{Answer}
use Rattle.command_answers.specs.Searches.{HasText, IsSearch, IsSearchSaid, proved_status, proved_text}

proof_text : (p : FoProblem) (f : FoFile) → IsFoQuestion p → IsWritableProblem p → IsProofFor p f → IsWritable f
proof_text p f question writable h =
    let theory = sym h.theory in
    let same : record { theory = p.theory; nodes = f.nodes } ≡ f = λ i. record { theory = theory i; nodes = f.nodes } in
    let some = slice_get_within f.nodes 0 h.root h.is_root in
    subst IsWritable same (nodes-writable p f.nodes question writable (omega (arith, some)) h.few h.within)

pub has_text : (p : FoProblem) (proved : FoProved) → IsFoQuestion p → IsWritableProblem p → IsProved p proved
    → HasText proved
has_text p (Found f) question writable h = proof_text p f question writable h
has_text p NotFound question writable h = tt
has_text p TooManyDerivations question writable h = tt
has_text p TooManyStates question writable h = tt

-- the answer of a search, from how it ends and what is written
pub said_by : {E : Type 0} (depth : ℕ) (p : FoProblem) (proved : FoProved) (r : Result Answer E)
    → IsSearch depth p proved → IfOk r (λ a. a.status ≡ proved_status proved)
    → IfOk r (λ a. a.text.items ≡ proved_text depth proved) → IfOk r (λ a. IsSearchSaid depth p a.status a.text.items)
said_by depth p proved (Ok a) is ends says = (proved, is, ends, says)
said_by depth p proved (Err e) is ends says = tt
