-- What no flaw of a run file says of its parts.
use Rattle.std.proofs.Common.{◌≡◌, ◌+◌, ◌<◌, ◌≤◌, false, List, length, map, None, ◌∙◌}
use Rattle.std.specs.Prelude.{◌||◌, nat_eq, nat_lt}
use Rattle.std.proofs.lemmas.Bool.{ltb-false, or_parts}
use Rattle.std.proofs.lemmas.List.{length-map}
use Rattle.cyc_lex.specs.declared.fault.IllFault.TheVariants.{NoLine}
use Rattle.heap_reader.specs.Flaws.{ill_if, or_later, listed_flaw, heap_flaw}
use Rattle.heap_reader.proofs.NoFlaw.{neither, not_ill, positive}
use Rattle.heap_reader.specs.declared.definitions.scope.Scope.TheVariants.{Outside}
use Rattle.heap_reader.specs.DefinitionSpans.{term_span, definition_span}
use Rattle.heap_reader.specs.DefinitionFlaws.{headings, term_flaw, definition_flaw}
use Rattle.heap_reader.specs.LineValues.{line_value, variable_value, program_value}
use Rattle.heap_reader.specs.EndValues.{LineEnd, with_ends}
use Rattle.heap_reader.proofs.EndFitting.{as_many_commands}
use Rattle.proof_syntax.specs.Trees.{Line}
use Rattle.proof_file.specs.Building.{front_of}
use Rattle.proof_file.specs.Flaws.{first_line, first_end, program_flaw, program_ends_flaw}
use Rattle.proof_file.proofs.Fitting.{file_parts}
use Rattle.model_file.specs.Flaws.{stack_flaw, cells_flaw}
use Rattle.run_file.specs.Trees.{Run}
use Rattle.run_file.specs.Flaws.{format, allowed, picks_flaw, from_place, first_value, first_cell, first_pick}
use Rattle.run_file.specs.Flaws.{front_flaw, claim_flaw, state_given_flaw, run_flaw}

-- no part has a flaw
pub record Faultless (r : Run) : Type 0 where
  pub front : front_flaw r ≡ None
  pub definitions : listed_flaw (definition_flaw (allowed r) (headings r.definitions)) definition_span 0 4 r.definitions
      ≡ None
  pub program : program_flaw (allowed r) (first_line (front_of (format r) r.definitions r.lines r.ends)) r.lines
      ≡ None
  pub ends : program_ends_flaw (allowed r) (headings r.definitions) r.lines
      (first_end (front_of (format r) r.definitions r.lines r.ends)) r.ends ≡ None
  pub claim : claim_flaw r ≡ None
  pub line : (nat_eq r.line 0 || nat_lt (length r.lines) r.line) ≡ false
  pub precondition : heap_flaw (term_flaw Outside) term_span (allowed r) (headings r.definitions) (from_place r + 3)
      r.precondition ≡ None
  pub stack : stack_flaw (first_value r) r.stack ≡ None
  pub cells : cells_flaw (allowed r) (first_cell r) r.cells ≡ None
  pub picks : picks_flaw (allowed r) (first_pick r) r.picks ≡ None

pub faultless : (r : Run) → run_flaw r ≡ None → Faultless r
faultless r e =
    let picks = picks_flaw (allowed r) (first_pick r) r.picks in
    let a = neither (front_flaw r) (or_later (claim_flaw r) (or_later (state_given_flaw r) picks)) e in
    let b = neither (claim_flaw r) (or_later (state_given_flaw r) picks) a.1 in
    let c = neither (state_given_flaw r) picks b.1 in
    let d = neither (stack_flaw (first_value r) r.stack) (cells_flaw (allowed r) (first_cell r) r.cells) c.0 in
    let fronts = file_parts (front_of (format r) r.definitions r.lines r.ends) a.0 in
    let out = nat_eq r.line 0 || nat_lt (length r.lines) r.line in
    let claims = neither (ill_if out NoLine (from_place r + 1))
    (heap_flaw (term_flaw Outside) term_span (allowed r) (headings r.definitions) (from_place r + 3) r.precondition)
    b.0 in
    record {
      front = a.0;
      definitions = fronts.0;
      program = fronts.1;
      ends = fronts.2;
      claim = b.0;
      line = not_ill out NoLine (from_place r + 1) claims.0;
      precondition = claims.1;
      stack = d.0;
      cells = d.1;
      picks = c.1;
    }

-- the line is one of the program's
pub line_there : (r : Run) → Faultless r → (0 < r.line) × (r.line ≤ length r.lines)
line_there r p =
    let parts = or_parts (nat_eq r.line 0) (nat_lt (length r.lines) r.line) p.line in
    (positive r.line parts.0, ltb-false (length r.lines) r.line parts.1)

-- a program has a command for each line
pub program_long : (ls : List Line) (es : List LineEnd) → length (with_ends (program_value ls) es) ≡ length ls
program_long ls es = as_many_commands 0 (program_value ls) es ∙ length-map (map (line_value variable_value) ls) _
    ∙ length-map ls (line_value variable_value)
