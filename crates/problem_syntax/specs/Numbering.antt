-- Numbers in place of names, by first occurrence.
use Rattle.std.specs.Prelude.{not, List, ◌++◌, map, filter, if◌then◌else◌, ℕ}
use Rattle.heap_syntax.specs.Trees.{Cell, Predicate, pure_of}
use Rattle.heap_syntax.specs.LineTrees as lines
use Rattle.problem_syntax.specs.Trees as named
use Rattle.problem_syntax.specs.Trees.{Named, Nil, Plain, Primed}
use Rattle.problem_syntax.specs.declared.numbering.tree.NumberedTerm.{NumberedTerm}
use Rattle.problem_syntax.specs.declared.numbering.tree.NumberedTerm.TheVariants.{Nil as NilTerm, Universal}
use Rattle.problem_syntax.specs.declared.numbering.tree.NumberedTerm.TheVariants.{Existential}
use Rattle.problem_syntax.specs.Names.{Name, has, firsts, place_of}
use Rattle.problem_syntax.specs.Occurrences.{plain, primed, heap_names, primed_names, program_names, goal_names}
use Rattle.problem_syntax.specs.Numbered.{Spatial, Heap, Line, End, Definition, Goal, Entailment, From}
use Rattle.problem_syntax.specs.Numbered.{Problem}

-- the names that number a heap: a case has parameters and locals, an antecedent universal variables alone, and a
-- disjunct existential ones too
pub data Scope : Type 0 where
  Case : List Name → List Name → Scope
  Antecedent : List Name → Scope
  Disjunct : List Name → List Name → Scope

-- ---- terms and heaps

abbrev pub universal : List Name → Name → NumberedTerm
universal ns n = Universal (place_of ns n) n.primed

abbrev pub existential : List Name → Name → NumberedTerm
existential ns n = Existential (place_of ns n) n.primed

-- in a case a name is a parameter if it is one, in a disjunct it is existential if it has a prime
abbrev pub variable : Scope → Name → NumberedTerm
variable (Case parameters locals) n = if has parameters n then universal parameters n else existential locals n
variable (Antecedent universals) n = universal universals n
variable (Disjunct universals existentials) n = if n.primed then existential existentials n else universal universals n

abbrev pub term : Scope → Named → NumberedTerm
term scope Nil = NilTerm
term scope (Plain s) = variable scope (plain s)
term scope (Primed s) = variable scope (primed s)

abbrev pub spatial : Scope → named.Spatial → Spatial
spatial scope (Cell t ts) = Cell (term scope t) (map (term scope) ts)
spatial scope (Predicate name ts) = Predicate name (map (term scope) ts)

abbrev pub heap : Scope → named.Heap → Heap
heap scope h = record { pure = map (pure_of (term scope)) h.pure; spatial = map (spatial scope) h.spatial }

-- ---- definitions: the locals of a case are its names that are no parameters

unfoldable pub locals : List Name → named.Heap → List Name
locals parameters h = firsts (filter (λ n. not (has parameters n)) (heap_names h))

unfoldable pub case : List Name → named.Heap → Heap
case parameters h = heap (Case parameters (locals parameters h)) h

abbrev pub parameter_names : named.Definition → List Name
parameter_names d = firsts (map plain d.parameters)

abbrev pub definition : named.Definition → Definition
definition d =
    record { name = d.name; parameters = d.parameters; cases = map (case (parameter_names d)) d.cases }

-- ---- lines

-- the number of the variable with this text, which has no prime
abbrev pub variable_in : List Name → List ℕ → ℕ
variable_in variables s = place_of variables (plain s)

abbrev pub line : List Name → named.Line → Line
line variables l = lines.line_of (variable_in variables) l

-- ---- ends and goals: each disjunct has existential variables of its own

unfoldable pub disjunct : List Name → named.Heap → Heap
disjunct universals h = heap (Disjunct universals (firsts (primed_names h))) h

abbrev pub end : List Name → named.End → End
end variables e = record { number = e.number; disjuncts = map (disjunct variables) e.disjuncts }

abbrev pub goal : List Name → named.Goal → Goal
goal universals (named.Entailment h ds) = Entailment (heap (Antecedent universals) h) (map (disjunct universals) ds)
goal universals (named.From n h) = From n (heap (Antecedent universals) h)

-- ---- problems: the goal's universal variables come after the program's variables

abbrev pub program_variables : named.Problem → List Name
program_variables p = firsts (program_names p)

abbrev pub universals : named.Problem → List Name
universals p = firsts (program_names p ++ goal_names p.goal)

abbrev pub numbered : named.Problem → Problem
numbered p =
    record {
      version = p.version;
      definitions = map definition p.definitions;
      lines = map (line (program_variables p)) p.lines;
      ends = map (end (program_variables p)) p.ends;
      goal = goal (universals p) p.goal;
    }
