-- Rules of instances, each once.
use Rattle.std.specs.Prelude.{List, [], ◌∷◌, ◌++◌, Bool, false, ◌&&◌, if◌then◌else◌, nat_eq}
use Rattle.std.specs.List.{list_any}
use Rattle.heap_formula.specs.declared.proof_rules.Rule.{Rule}
use Rattle.heap_formula.specs.declared.proof_rules.Rule.TheVariants.{Absurd, Rewrite, Split, Distinct, Weaken, Unfold}
use Rattle.heap_formula.specs.declared.proof_rules.Rule.TheVariants.{Cut, Done, Choose, PureRight, Instantiate, Frame}
use Rattle.heap_formula.specs.declared.proof_rules.Rule.TheVariants.{UnfoldRight, Exec, Drop}
use Rattle.rule_table.specs.Tests.{same_term}
use Rattle.search_moves.specs.declared.instances.Instance.{Instance}
use Rattle.search_moves.specs.Entailments.{instance_rule}

-- the rule is to instantiate by the instance
abbrev pub is_rule_by : Instance → Rule → Bool
is_rule_by i Absurd = false
is_rule_by i (Rewrite k side) = false
is_rule_by i (Split t u) = false
is_rule_by i (Distinct k l) = false
is_rule_by i (Weaken k) = false
is_rule_by i (Unfold k) = false
is_rule_by i (Cut places f) = false
is_rule_by i Done = false
is_rule_by i (Choose k) = false
is_rule_by i (PureRight k) = false
is_rule_by i (Instantiate v t) = nat_eq i.variable v && same_term i.term t
is_rule_by i (Frame k l) = false
is_rule_by i (UnfoldRight k c) = false
is_rule_by i Exec = false
is_rule_by i (Drop k) = false

-- the rule of each instance once, where it comes first; these are done already
abbrev pub rules_once : List Rule → List Instance → List Rule
rules_once done [] = done
rules_once done (i ∷ is) = if list_any (is_rule_by i) done then rules_once done is else rules_once
    (done ++ instance_rule i ∷ []) is
