-- What a contract sees of the code's names and scopes.
use Rattle.std.specs.Prelude.{List, map}
use Rattle.problem_syntax.specs.declared.numbering.names.NameUse.{NameUse}
use Rattle.problem_syntax.specs.declared.numbering.names.Names.{Names}
use Rattle.problem_syntax.specs.declared.numbering.scope.Scope.{Scope as TheScope}
use Rattle.problem_syntax.specs.declared.numbering.scope.Scope.TheVariants as scopes
use Rattle.problem_syntax.specs.Names.{Name}
use Rattle.problem_syntax.specs.Numbering.{Scope, Case, Antecedent, Disjunct}

abbrev pub name_of : NameUse → Name
name_of n = record { text = n.text.now; primed = n.primed }

abbrev pub names_of : Names → List Name
names_of n = map name_of n.all.keys

abbrev pub scope_of : TheScope → Scope
scope_of (scopes.Case parameters locals) = Case (names_of parameters.now) (names_of locals.now)
scope_of (scopes.Antecedent universals) = Antecedent (names_of universals.now)
scope_of (scopes.Disjunct universals existentials) = Disjunct (names_of universals.now) (names_of existentials.now)
