use Rattle.std.proofs.Common.{◌≡◌, ◌≤◌, ◌+◌, ℕ, drop, ◌↔◌, ◌⊎◌, vec_len, length}
use Rattle.std.specs.List.{sum_by}
use Rattle.heap_formula.specs.Words.{OneOf}
use Rattle.model_check.specs.WideMasks.{number}
use Rattle.model_check.specs.Tables.{HasMask}
use Rattle.model_check.proofs.solving.add_masks.Given as goal

abbrev pub invariant-loop-mask : goal.invariant-loop-mask
invariant-loop-mask l = record {
  members : (q m : ℕ) → (HasMask l.table.items q m ⊎ OneOf (λ y. (q ≡ l.head) × (number y ≡ m))
      (drop l.mask-index l.masks)) ↔ (HasMask l.initial.table.items q m
      ⊎ OneOf (λ y. (q ≡ l.head) × (number y ≡ m)) l.masks);
  rows : vec_len l.table ≡ vec_len l.initial.table;
  longer : vec_len l.initial.log ≤ vec_len l.log;
  same : vec_len l.log ≡ vec_len l.initial.log → l.table.items ≡ l.initial.table.items;
  counted : vec_len l.log + sum_by length l.initial.table.items ≡ vec_len l.initial.log + sum_by length l.table.items;
}
