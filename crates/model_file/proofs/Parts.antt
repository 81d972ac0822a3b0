-- What no flaw of a model file says of its parts.
use Rattle.std.proofs.Common.{◌≡◌, ℕ, ◌+◌, ◌*◌, ◌<◌, ◌≤◌, Bool, true, false, List, length, map, take, None, refl}
use Rattle.std.proofs.Common.{arith}
use Rattle.std.specs.Prelude.{◌||◌, nat_eq, nat_le}
use Rattle.std.specs.List.{list_any}
use Rattle.std.proofs.lemmas.Bool.{leb-false, ltb-false}
use Rattle.heap_formula.specs.Words.{Each}
use Rattle.cyc_basics.specs.Limits.{AreLimits, AreWithin}
use Rattle.cyc_basics.specs.declared.limits.Limits.{Limits}
use Rattle.cyc_lex.specs.declared.fault.IllFault.TheVariants.{Address}
use Rattle.cyc_lex.specs.declared.fault.What.TheVariants.{Arguments, Cells}
use Rattle.heap_reader.specs.Flaws.{over_if, or_later}
use Rattle.heap_reader.proofs.NoFlaw.{neither, not_over, not_ill, each_of, few_all}
use Rattle.heap_syntax.specs.declared.version.Version.{Version}
use Rattle.heap_syntax.specs.declared.version.Version.TheVariants as formats
use Rattle.heap_syntax.specs.Versions.{limits}
use Rattle.heap_reader.proofs.Fitting.{most_fits}
use Rattle.model_file.specs.declared.version.ModelVersion.{ModelVersion}
use Rattle.model_file.specs.declared.version.ModelVersion.TheVariants.{One, Three}
use Rattle.model_file.specs.Versions.{format_of, model_limits, version_for}
use Rattle.model_file.specs.Trees.{Cell, Model}
use Rattle.model_file.specs.Spans.{cell_span}
use Rattle.model_file.specs.Flaws.{address_of, stack_flaw, fields_flaw, address_flaw, cell_flaw, cells_flaw}
use Rattle.model_file.specs.Flaws.{allowed, first_value, first_cell, definitions_flaw, ask_flaw, model_flaw}

pub limits_fit : (v : ModelVersion) → AreLimits (model_limits v)
limits_fit v = most_fits (format_of v)

-- a model for a problem may have whatever the problem may
pub within_version : (v : Version) → AreWithin (limits v) (model_limits (version_for v))
within_version formats.One = record {
  arguments = omega arith;
  cases = omega arith;
  locals = omega arith;
  pure = omega arith;
  spatial = omega arith;
  cells = omega arith;
}
within_version formats.Two = record {
  arguments = omega arith;
  cases = omega arith;
  locals = omega arith;
  pure = omega arith;
  spatial = omega arith;
  cells = omega arith;
}
within_version formats.Three = record {
  arguments = omega arith;
  cases = omega arith;
  locals = omega arith;
  pure = omega arith;
  spatial = omega arith;
  cells = omega arith;
}

-- each version allows eight fields of a cell, and sixteen cells
pub eight_fields : (v : ModelVersion) → 8 ≤ (model_limits v).arguments
eight_fields One = omega arith
eight_fields Three = omega arith

pub sixteen_cells : (v : ModelVersion) → 16 ≤ (model_limits v).cells
sixteen_cells One = omega arith
sixteen_cells Three = omega arith

-- no part has a flaw
pub record Faultless (m : Model) : Type 0 where
  pub definitions : definitions_flaw m ≡ None
  pub stack : stack_flaw (first_value m) m.stack ≡ None
  pub cells : cells_flaw (allowed m) (first_cell m) m.cells ≡ None
  pub ask : ask_flaw m ≡ None

pub faultless : (m : Model) → model_flaw m ≡ None → Faultless m
faultless m e =
    let later = or_later (cells_flaw (allowed m) (first_cell m) m.cells) (ask_flaw m) in
    let a = neither (definitions_flaw m) (or_later (stack_flaw (first_value m) m.stack) later) e in
    let b = neither (stack_flaw (first_value m) m.stack) later a.1 in
    let c = neither (cells_flaw (allowed m) (first_cell m) m.cells) (ask_flaw m) b.1 in
    record { definitions = a.0; stack = b.0; cells = c.0; ask = c.1 }

-- ---- cells

-- a positive address, and no more fields than are allowed
pub record IsFine (most : Limits) (c : Cell) : Type 0 where
  pub positive : nat_eq c.address 0 ≡ false
  pub few : length c.fields ≤ most.arguments

neither_true : (a b : Bool) → a || b ≡ false → (a ≡ false) × (b ≡ false)
neither_true true b e = absurd cc
neither_true false b e = (refl, e)

pub fine_cell : (most : Limits) (all : List Cell) (n k : ℕ) (c : Cell) → cell_flaw most all n k c ≡ None
    → (n < most.cells) × IsFine most c
fine_cell most all n k c e =
    let before = map address_of (take n all) in
    let later = or_later (over_if (nat_le most.cells n) Cells k) (fields_flaw most (k + 3) c.fields) in
    let a = neither (address_flaw before k c.address) later e in
    let b = neither (over_if (nat_le most.cells n) Cells k) (fields_flaw most (k + 3) c.fields) a.1 in
    let own = neither_true (nat_eq c.address 0) (list_any (nat_eq c.address) before) (not_ill _ Address k a.0) in
    let short = ltb-false most.arguments (length c.fields) (not_over _ Arguments (k + 3 + 2 * most.arguments) b.1) in
    (leb-false most.cells n (not_over _ Cells k b.0), record { positive = own.0; few = short })

pub fine_cells : (most : Limits) (k : ℕ) (cs : List Cell) → cells_flaw most k cs ≡ None
    → Each (IsFine most) cs × (length cs ≤ most.cells)
fine_cells most k cs e = (
  each_of (cell_flaw most cs) cell_span (IsFine most) (λ n j c h. (fine_cell most cs n j c h).1) 0 k cs e,
  few_all (cell_flaw most cs) cell_span most.cells (λ n j c h. (fine_cell most cs n j c h).0) k cs e,
)
