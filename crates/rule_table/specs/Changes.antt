-- Terms in place of others, as the program makes them: a number past the greatest becomes the number after it.
use Rattle.std.specs.Prelude.{◌+◌, ◌≤◌, min, slice_index_or}
use Rattle.heap_formula.specs.declared.terms.Term.{Term}
use Rattle.heap_formula.specs.declared.terms.Term.TheVariants.{Nil, Univ, Exist}
use Rattle.rule_table.specs.declared.changes.Change.{Change}
use Rattle.rule_table.specs.declared.changes.Change.TheVariants.{Left, Right, Opened, Instance}
use Rattle.rule_table.specs.Table.{instance_term}

-- the term that the change puts in a term's place
abbrev pub changed : Change → Term → Term
changed (Left args n) Nil = Nil
changed (Left args n) (Univ j) = slice_index_or args j Nil
changed (Left args n) (Exist j) = Univ (min (n + j) 65535)
changed (Right args n) Nil = Nil
changed (Right args n) (Univ j) = slice_index_or args j Nil
changed (Right args n) (Exist j) = Exist (min (n + j) 65535)
changed (Opened n) Nil = Nil
changed (Opened n) (Univ j) = Univ j
changed (Opened n) (Exist j) = Univ (min (n + j) 65535)
changed (Instance v t) u = instance_term v t u

-- the first number is at most the one after the greatest
abbrev pub IsSmall : Change → Type 0
IsSmall (Left args n) = n ≤ 65536
IsSmall (Right args n) = n ≤ 65536
IsSmall (Opened n) = n ≤ 65536
IsSmall (Instance v t) = Unit {0}
