use Rattle.std.proofs.Common.{◌≡◌, ◌∙◌, ◌∷◌, ap, codes, map, string_bytes, subst, sym}
use Rattle.std.specs.Prelude.{is_some}
use Rattle.std.proofs.lemmas.Result.{IfOk-weaker}
use Rattle.cyc_words.specs.Words.{IsInRange, meaning_of_line}
use Rattle.cyc_words.proofs.Ranges.{meaning_range}
use Rattle.cyc_words.proofs.Taken.{meaning_is_taken}
use Rattle.cyc_words.proofs.task_of.Goals as goal

pub returns-clause-taken : goal.returns-clause-taken
returns-clause-taken c =
    let same : map (λ s. s.now) c.as_slice.result.now ≡ codes "cyclist"
    ∷ map string_bytes c.args.words.now = rw c.as_slice.ensures.value c.in_ok-line.ensures in
    IfOk-weaker c.task_of_line.result _ _ (λ task is. ap is_some (is ∙ ap meaning_of_line same)
    ∙ meaning_is_taken (codes "cyclist" ∷ map string_bytes c.args.words.now)) c.task_of_line.ensures

pub returns-clause-range : goal.returns-clause-range
returns-clause-range c =
    IfOk-weaker c.task_of_line.result _ _ (λ task is. subst IsInRange (sym is)
    (meaning_range (map (λ s. s.now) c.as_slice.result.now))) c.task_of_line.ensures
