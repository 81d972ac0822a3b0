-- Answers that no input bears on, and that of a search.
use Rattle.std.proofs.Common.{◌≡◌, ℕ, ◌+◌, ◌*◌, List, length, refl, sym, subst, Option, Some, None}
use Rattle.std.specs.Prelude.{◌≤◌, Result, Ok, Err, IfOk}
use Rattle.std.specs.Io.KnownBytes.{Appends}
use Rattle.cyc_io.specs.Bytes.{AppendsProperPrefix}
use Rattle.cyc_runs.specs.Texts.{ring_text}
use Rattle.cyc_words.specs.Words.{usage_text}
use Rattle.cyc_words.specs.declared.tasks.Task.{Task}
use Rattle.cyc_words.specs.declared.tasks.Task.TheVariants.{Ring}
use Rattle.cyc_runs.specs.declared.endings.Status.{Status}
use Rattle.cyc_runs.specs.declared.endings.Status.TheVariants.{Success, Usage}
use Rattle.cyc_runs.specs.declared.answers.Answer.{Answer}
use Rattle.cyc_runs.specs.Runs.{input_limit}
use Rattle.cyc_runs.proofs.Told.{some_told}
use Rattle.formula_reader.specs.declared.problem.Problem.{Problem}
use Rattle.formula_reader.specs.Reading as problems
use Rattle.proof_search.specs.declared.prover.Proved.{Proved}
use Rattle.cyc_top.specs.Answers.{IsSearch, IsSearched, WroteAnswer, WrotePart, proved_status, proved_text}

-- words without a meaning are answered so whatever the input is
pub usage_wrote : (told old new : Option (List ℕ)) (ending : Status) → (ending ≡ Usage) × Appends old new usage_text
    → WroteAnswer None told old new ending
usage_wrote told old new ending wrote = let t = some_told told in (usage_text, (t.0, t.1, (wrote.0, refl)), wrote.1)

pub usage_part : (told old new : Option (List ℕ)) → AppendsProperPrefix old new usage_text → WrotePart None told old new
usage_part told old new wrote = let t = some_told told in (Usage, (usage_text, (t.0, t.1, (refl, refl)), wrote))

-- so is a ring
pub ring_wrote : (k : ℕ) (told old new : Option (List ℕ)) (ending : Status)
    → (ending ≡ Success) × Appends old new (ring_text k (8 * k + 1) 1) → WroteAnswer (Some (Ring k)) told old new ending
ring_wrote k told old new ending wrote = let t = some_told told in
    (ring_text k (8 * k + 1) 1, (t.0, t.1, (wrote.0, refl)), wrote.1)

pub ring_part : (k : ℕ) (told old new : Option (List ℕ)) → AppendsProperPrefix old new (ring_text k (8 * k + 1) 1)
    → WrotePart (Some (Ring k)) told old new
ring_part k told old new wrote = let t = some_told told in
    (Success, (ring_text k (8 * k + 1) 1, (t.0, t.1, (refl, refl)), wrote))

-- the answer of a search, from how it ends and what is written
pub searched_by : {E : Type 0} (depth : ℕ) (input : List ℕ) (p : Problem) (proved : Proved) (r : Result Answer E)
    → length input ≤ input_limit → problems.IsRead input (Ok p) → IsSearch depth p proved
    → IfOk r (λ a. a.status ≡ proved_status proved) → IfOk r (λ a. a.text.items ≡ proved_text depth proved)
    → IfOk r (λ a. IsSearched depth input a.status a.text.items)
searched_by depth input p proved (Ok a) short read is ends says = (short, Ok p, read, (proved, is, ends, says))
searched_by depth input p proved (Err e) short read is ends says = tt

-- what was written for what a task is, was written for the task
pub part_as : (task meaning : Option Task) (told old new : Option (List ℕ)) → task ≡ meaning
    → WrotePart meaning told old new → WrotePart task told old new
part_as task meaning told old new e wrote = subst (λ t. WrotePart t told old new) (sym e) wrote

pub answer_as : (task meaning : Option Task) (told old new : Option (List ℕ)) (ending : Status) → task ≡ meaning
    → WroteAnswer meaning told old new ending → WroteAnswer task told old new ending
answer_as task meaning told old new ending e wrote = subst (λ t. WroteAnswer t told old new ending) (sym e) wrote

-- what a task is
pub task_is : (task : Option Task) (t u : Task) → task ≡ Some t → t ≡ u → task ≡ Some u
task_is task t u is e = subst (λ v. task ≡ Some v) e is

-- two facts of what came
pub both_ok : {A E : Type 0} (P Q : A → Type 0) (r : Result A E) → IfOk r P → IfOk r Q → IfOk r (λ a. P a × Q a)
both_ok P Q (Ok a) p q = (p, q)
both_ok P Q (Err e) p q = tt
