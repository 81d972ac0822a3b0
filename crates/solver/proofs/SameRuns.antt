-- Whether a run is as its file tells is a matter of what the file says.
use Rattle.std.proofs.Common.{◌≡◌, ℕ, List, subst, sym}
use Rattle.heap_formula.specs.declared.commands.Command.{Command}
use Rattle.heap_formula.specs.Cells.{Cells}
use Rattle.heap_formula.specs.Definitions.{Definition}
use Rattle.heap_formula.specs.Meaning.{Satisfies}
use Rattle.heap_formula.specs.Programs.{start_at}
use Rattle.heap_formula.specs.Symbolic.{SymbolicHeap}
use Rattle.heap_formula.specs.Values.{Stack}
use Rattle.general_models.specs.declared.runs.picks.Pick.{Pick}
use Rattle.general_models.specs.Picks.{headroom_of}
use Rattle.run_file.specs.declared.tree.Outcome.{Outcome}
use Rattle.run_file.specs.declared.file.RunFile.{RunFile}
use Rattle.run_file.specs.Reading.{AreSame}
use Rattle.solver.specs.Runs.{EndsSo, IsRight}

record Said : Type 0 where
  pub definitions : List Definition
  pub lines : List Command
  pub line : ℕ
  pub precondition : SymbolicHeap
  pub stack : Stack
  pub heap : Cells
  pub picks : List Pick
  pub outcome : Outcome

said_by : RunFile → Said
said_by r = record {
  definitions = r.defs.list;
  lines = r.program;
  line = r.line;
  precondition = r.precondition;
  stack = r.stack;
  heap = r.heap;
  picks = r.picks.items;
  outcome = r.outcome;
}

Begins : Said → Type 0
Begins s = Satisfies s.definitions s.stack s.heap s.precondition

Ends : Said → Type 0
Ends s =
    EndsSo s.definitions s.lines (headroom_of s.picks) s.picks (start_at s.lines s.line s.stack s.heap) s.outcome

one_said : (r q : RunFile) → AreSame r q → said_by r ≡ said_by q
unfolding said_by
one_said r q same = λ i. record {
  definitions = same.definitions i;
  lines = same.program i;
  line = same.line i;
  precondition = same.precondition i;
  stack = same.stack i;
  heap = same.heap i;
  picks = same.picks i;
  outcome = same.outcome i;
}

pub same_right : (r q : RunFile) → AreSame r q → IsRight r → IsRight q
unfolding said_by Begins Ends
same_right r q same right = record {
  begins = subst Begins (one_said r q same) right.begins;
  run = subst Ends (one_said r q same) right.run;
}

pub turned_run : (r q : RunFile) → AreSame r q → AreSame q r
turned_run r q same = record {
  version = sym same.version;
  most = sym same.most;
  definitions = sym same.definitions;
  program = sym same.program;
  line = sym same.line;
  precondition = sym same.precondition;
  stack = sym same.stack;
  heap = sym same.heap;
  picks = sym same.picks;
  outcome = sym same.outcome;
}
