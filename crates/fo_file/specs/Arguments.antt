-- Which argument of the application round it a term is, counted from 0. A ninth argument, of number 8, is one too many.
use Rattle.std.specs.Prelude.{ℕ, suc, nat_le, cond, List, [], ◌∷◌, ◌++◌, drop, Option, Some, None, option_map}
use Rattle.std.specs.List.{range_with_len}
use Rattle.cyc_basics.specs.declared.limits.TheConstants.{MOST_FIRST_ORDER_ARGUMENTS}
use Rattle.cyc_lex.specs.declared.fault.What.TheVariants.{Arguments}
use Rattle.heap_reader.specs.Flaws.{Found, over_if}
use Rattle.fo_syntax.specs.Trees.{Sign, arguments_of}

-- the numbers of n arguments
abbrev pub numbers : ℕ → List ℕ
numbers n = range_with_len 0 n

-- the numbers of the terms that come next, behind a sign that begins the first: its arguments, and then the others
abbrev pub numbers_behind : Sign → List ℕ → List ℕ
numbers_behind s ns = numbers (arguments_of s) ++ drop 1 ns

-- the next term is a ninth argument, or one behind it
abbrev pub argument_flaw : List ℕ → ℕ → Found
argument_flaw [] k = None
argument_flaw (n ∷ ns) k = over_if (nat_le MOST_FIRST_ORDER_ARGUMENTS n) Arguments k

-- how many of the next terms stand before a ninth argument, if one comes
abbrev pub until_ninth : List ℕ → Option ℕ
until_ninth [] = None
until_ninth (n ∷ ns) = cond (nat_le MOST_FIRST_ORDER_ARGUMENTS n) (Some 0) (option_map suc (until_ninth ns))
