use Rattle.std.proofs.Common.{List, ℕ, Err, sym, subst}
use Rattle.std.proofs.lemmas.Result.{err_from_is_err_and}
use Rattle.file_reader.specs.declared.held.Held.TheVariants as kinds
use Rattle.file_reader.specs.Helds.{parts_of}
use Rattle.file_reader.specs.Lasts.{IsLastStretch, LastStretches}
use Rattle.file_reader.specs.Outcomes.{Outcome}
use Rattle.file_reader.specs.Pieces.{Tells}
use Rattle.file_reader.proofs.LastLaws.{running-comes, stops-outcome}
use Rattle.file_reader.proofs.finishing.finish_running.Goals as goal

pub returns-in_err-stretch : goal.returns-in_err-stretch
returns-in_err-stretch c =
    let r = c.args.running in
    let p = err_from_is_err_and c.from_residual.result c.from_residual.ensures.1 in
    rw (p.1, p.2) (stops-outcome (parts_of (kinds.Running r)) c.in_err-stretch.field-0.0 tt
    (subst (λ (b : List ℕ). LastStretches r.place r.comment b 0 (Err c.in_err-stretch.field-0.0))
    c.deref.ensures.value c.in_err-stretch.ensures))

pub returns : goal.returns
returns c =
    let r = c.args.running in
    let s = c.in_ok-stretch.stretch in
    let last = subst (λ (b : List ℕ). IsLastStretch r.place r.comment b r.found.tokens s)
    c.deref.ensures.value c.in_ok-stretch.ensures in
    subst (λ (o : Outcome). Tells o c.read_last.result) (sym (running-comes r s last)) c.read_last.ensures
