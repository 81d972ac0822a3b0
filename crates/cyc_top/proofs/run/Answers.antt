use Rattle.std.proofs.Common.{◌≡◌, subst, true}
use Rattle.cyc_words.specs.Words.{reads_input}
use Rattle.cyc_runs.specs.declared.endings.Status.TheVariants.{Success}
use Rattle.cyc_top.proofs.Exact.{correct_first_order, correct_succeeds, ended_so, found_succeeds, none_says}
use Rattle.cyc_top.proofs.Exact.{refusal_says, ring_ends, success_models, success_says, success_wrote}
use Rattle.cyc_top.proofs.Exact.{success_wrote_first_order, first_order_succeeds, told_status, wrote_as}
use Rattle.cyc_top.proofs.Upgraded.{success_upgraded, upgrade_succeeds}
use Rattle.cyc_top.proofs.run.Goals as goal

pub returns-in-Ok-clause-exact : goal.returns-in-Ok-clause-exact
returns-in-Ok-clause-exact g c =
    λ input status text told expected quiet no_faults.
    ended_so _ _ _ _ _ (wrote_as _ _ _ _ _ _ c.in-Ok.ensures.meaning c.run_task.ensures.answered) _ _ status
    (λ e. (c.run_task.ensures.read_fault e).0) (λ e. (c.run_task.ensures.write_fault e).0) quiet no_faults
    (λ xs answer. told_status _ _ input _ status xs text told expected answer)

pub returns-in-Ok-clause-headline : goal.returns-in-Ok-clause-headline
returns-in-Ok-clause-headline g c = success_says _ _ _ _ _
    (wrote_as _ _ _ _ _ _ c.in-Ok.ensures.meaning c.run_task.ensures.answered)

pub returns-in-Ok-clause-refusal : goal.returns-in-Ok-clause-refusal
returns-in-Ok-clause-refusal g c = refusal_says _ _ _ _ _
    (wrote_as _ _ _ _ _ _ c.in-Ok.ensures.meaning c.run_task.ensures.answered)

pub returns-in-Ok-clause-accepts : goal.returns-in-Ok-clause-accepts
returns-in-Ok-clause-accepts g c =
    λ input file is told short read correct few quiet no_faults.
    ended_so _ _ _ _ _ (wrote_as _ _ _ _ _ _ c.in-Ok.ensures.meaning c.run_task.ensures.answered) _ _ Success
    (λ e. (c.run_task.ensures.read_fault e).0) (λ e. (c.run_task.ensures.write_fault e).0) quiet no_faults
    (λ xs answer. correct_succeeds _ _ input file _ xs is told short read correct few answer)

pub returns-in-Ok-clause-accepts_first_order : goal.returns-in-Ok-clause-accepts_first_order
returns-in-Ok-clause-accepts_first_order g c =
    λ input file is told short read correct few quiet no_faults.
    ended_so _ _ _ _ _ (wrote_as _ _ _ _ _ _ c.in-Ok.ensures.meaning c.run_task.ensures.answered) _ _ Success
    (λ e. (c.run_task.ensures.read_fault e).0) (λ e. (c.run_task.ensures.write_fault e).0) quiet no_faults
    (λ xs answer. correct_first_order _ _ input file _ xs is told short read correct few answer)

pub returns-in-Ok-clause-complete : goal.returns-in-Ok-clause-complete
returns-in-Ok-clause-complete g c =
    λ depth input problem d is told short read found quiet no_faults.
    ended_so _ _ _ _ _ (wrote_as _ _ _ _ _ _ c.in-Ok.ensures.meaning c.run_task.ensures.answered) _ _ Success
    (λ e. (c.run_task.ensures.read_fault e).0) (λ e. (c.run_task.ensures.write_fault e).0) quiet no_faults
    (λ xs answer. found_succeeds depth _ _ input problem d _ xs is told short read found answer)

pub returns-in-Ok-clause-complete_first_order : goal.returns-in-Ok-clause-complete_first_order
returns-in-Ok-clause-complete_first_order g c =
    λ depth input problem d is told short read found quiet no_faults.
    ended_so _ _ _ _ _ (wrote_as _ _ _ _ _ _ c.in-Ok.ensures.meaning c.run_task.ensures.answered) _ _ Success
    (λ e. (c.run_task.ensures.read_fault e).0) (λ e. (c.run_task.ensures.write_fault e).0) quiet no_faults
    (λ xs answer. first_order_succeeds depth _ _ input problem d _ xs is told short read found answer)

pub returns-in-Ok-clause-first_order_proof : goal.returns-in-Ok-clause-first_order_proof
returns-in-Ok-clause-first_order_proof g c =
    λ depth is e.
    success_wrote_first_order _ _ _ _ _ (wrote_as _ _ _ _ _ _ c.in-Ok.ensures.meaning c.run_task.ensures.answered)
    depth is e

pub returns-in-Ok-clause-upgrades : goal.returns-in-Ok-clause-upgrades
returns-in-Ok-clause-upgrades g c =
    λ input file is told short read quiet no_faults.
    ended_so _ _ _ _ _ (wrote_as _ _ _ _ _ _ c.in-Ok.ensures.meaning c.run_task.ensures.answered) _ _ Success
    (λ e. (c.run_task.ensures.read_fault e).0) (λ e. (c.run_task.ensures.write_fault e).0) quiet no_faults
    (λ xs answer. upgrade_succeeds _ _ input file _ xs is told short read answer)

pub returns-in-Ok-clause-upgraded : goal.returns-in-Ok-clause-upgraded
returns-in-Ok-clause-upgraded g c = success_upgraded _ _ _ _ _
    (wrote_as _ _ _ _ _ _ c.in-Ok.ensures.meaning c.run_task.ensures.answered)

pub returns-in-Ok-clause-proof : goal.returns-in-Ok-clause-proof
returns-in-Ok-clause-proof g c = λ depth is e. success_wrote _ _ _ _ _
    (wrote_as _ _ _ _ _ _ c.in-Ok.ensures.meaning c.run_task.ensures.answered) depth is e

pub returns-in-Ok-clause-refuted : goal.returns-in-Ok-clause-refuted
returns-in-Ok-clause-refuted g c = λ cells is e. success_models _ _ _ _ _
    (wrote_as _ _ _ _ _ _ c.in-Ok.ensures.meaning c.run_task.ensures.answered) cells is e

pub returns-in-Ok-clause-unrefuted : goal.returns-in-Ok-clause-unrefuted
returns-in-Ok-clause-unrefuted g c = λ cells is e.
    none_says _ _ _ _ _ (wrote_as _ _ _ _ _ _ c.in-Ok.ensures.meaning c.run_task.ensures.answered) cells is e

pub returns-in-Ok-clause-ring : goal.returns-in-Ok-clause-ring
returns-in-Ok-clause-ring g c =
    λ k is. ring_ends _ _ _ _ _ (wrote_as _ _ _ _ _ _ c.in-Ok.ensures.meaning c.run_task.ensures.answered) k is
    (λ e. subst (λ t. reads_input t ≡ true) c.in-Ok.ensures.meaning (c.run_task.ensures.asked e))
