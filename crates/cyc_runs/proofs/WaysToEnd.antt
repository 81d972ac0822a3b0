-- The ways in which a run ends, told apart.
use Rattle.std.proofs.Common.{◌≡◌, ◌⊎◌, inl, inr, refl, true}
use Rattle.cyc_runs.specs.declared.endings.Status.{Status}
use Rattle.cyc_runs.specs.declared.endings.Status.TheVariants as status
use Rattle.cyc_lex.specs.declared.fault.ReadFault.{ReadFault}
use Rattle.cyc_lex.specs.declared.fault.ReadFault.TheVariants as faults
use Rattle.cyc_runs.specs.Endings.{is_answer}
use Rattle.cyc_runs.specs.Faults.{fault_status}

-- a run ends with an answer, or with a fault of the outside, or out of memory
pub ending_kind : (s : Status) → (is_answer s ≡ true) ⊎ ((s ≡ status.ReadFault)
    ⊎ ((s ≡ status.WriteFault) ⊎ (s ≡ status.OutOfMemory)))
ending_kind status.Success = inl refl
ending_kind status.Refused = inl refl
ending_kind status.Usage = inl refl
ending_kind status.Unreadable = inl refl
ending_kind status.IllFormed = inl refl
ending_kind status.Limit = inl refl
ending_kind status.NotFound = inl refl
ending_kind status.ReadFault = inr (inl refl)
ending_kind status.WriteFault = inr (inr (inl refl))
ending_kind status.OutOfMemory = inr (inr (inr refl))

-- what follows from each answer holds, if neither a read nor a write failed, or else memory ran out
pub ended_so : (s : Status) (reads writes wrote says : Type 0) → (is_answer s ≡ true → wrote)
    → (s ≡ status.ReadFault → reads) → (s ≡ status.WriteFault → writes) → ¬ reads → ¬ writes → (wrote → says)
    → says ⊎ (s ≡ status.OutOfMemory)
ended_so s reads writes wrote says answered read write quiet no_faults follows = elim (ending_kind s) [
  | inl answers ↦ inl (follows (answered answers))
  | inr (inl failed) ↦ absurd (quiet (read failed))
  | inr (inr (inl failed)) ↦ absurd (no_faults (write failed))
  | inr (inr (inr memory)) ↦ inr memory
]

-- no fault of the input ends with success
pub fault_fails : (fault : ReadFault) → status.Success ≡ fault_status fault → ⊥
fault_fails (faults.Lex fault) e = cc
fault_fails (faults.Syntax token line column) e = cc
fault_fails (faults.IllFormed fault token line column) e = cc
fault_fails (faults.Limit what token line column) e = cc
fault_fails faults.OutOfMemory e = cc

-- nor with a refusal
pub fault_is_no_refusal : (fault : ReadFault) → status.Refused ≡ fault_status fault → ⊥
fault_is_no_refusal (faults.Lex fault) e = cc
fault_is_no_refusal (faults.Syntax token line column) e = cc
fault_is_no_refusal (faults.IllFormed fault token line column) e = cc
fault_is_no_refusal (faults.Limit what token line column) e = cc
fault_is_no_refusal faults.OutOfMemory e = cc
