-- Cases of two formulas that both hold.
use Rattle.std.specs.Prelude.{ℕ, ◌+◌, ◌/◌, max, Bool, not, ◌&&◌, ◌||◌, nat_lt, if◌then◌else◌, List, [], ◌∷◌, ◌++◌, map}
use Rattle.std.specs.Prelude.{length, Option, Some, None, Ok, Err}
use Rattle.heap_formula.specs.Substitution.{in_pure}
use Rattle.heap_syntax.specs.Versions.{limits}
use Rattle.heap_syntax.specs.declared.version.Version.TheVariants.{Three}
use Rattle.script_formulas.specs.declared.cases.refused.Unsupported.{Unsupported}
use Rattle.script_formulas.specs.declared.cases.refused.Unsupported.TheVariants as words
use Rattle.script_formulas.specs.declared.cases.joining.Way.{Way}
use Rattle.script_formulas.specs.declared.cases.joining.Way.TheVariants.{Conjunction, Separation}
use Rattle.script_formulas.specs.Cases.{SymbolicCase, Answer, after}
use Rattle.script_formulas.specs.Shifting.{shift_term, in_atom}

-- both cases in one: the quantified variables of the second come behind those of the first
abbrev pub both_cases : ℕ → SymbolicCase → SymbolicCase → SymbolicCase
both_cases d a b =
    record {
      quantified = a.quantified + b.quantified;
      any_heap = a.any_heap && b.any_heap;
      pure = a.pure ++ map (in_pure (shift_term d a.quantified)) b.pure;
      atoms = a.atoms ++ map (in_atom (shift_term d a.quantified)) b.atoms;
    }

-- one heap can't be said to be two things, and a part of a heap not to be anything; whether nothing is said is told of
-- both
abbrev pub way_refusal : Way → Bool → Bool → Option Unsupported
way_refusal Conjunction first second = if not first && not second then Some words.Conjunction else None
way_refusal Separation first second = if first || second then Some words.OpenPart else None

abbrev pub size_refusal : SymbolicCase → SymbolicCase → Option Unsupported
size_refusal a b =
    if nat_lt 1024 (a.quantified + b.quantified) then Some words.Quantifiers
    else (if nat_lt (limits Three).pure (length a.pure + length b.pure) then Some words.PureAtoms
    else (if nat_lt (limits Three).spatial (length a.atoms + length b.atoms) then Some words.HeapAtoms else None))

abbrev pub unless : {A : Type 0} → Option Unsupported → Answer A → Answer A
unless (Some e) r = Err e
unless None r = r

abbrev pub join : Way → ℕ → SymbolicCase → SymbolicCase → Answer SymbolicCase
join way d a b = unless (way_refusal way a.any_heap b.any_heap) (unless (size_refusal a b) (Ok (both_cases d a b)))

abbrev pub join_with : Way → ℕ → SymbolicCase → List SymbolicCase → Answer (List SymbolicCase)
join_with way d a [] = Ok []
join_with way d a (b ∷ ys) = after (join way d a b) (λ c. after (join_with way d a ys) (λ cs. Ok (c ∷ cs)))

abbrev pub join_lists : Way → ℕ → List SymbolicCase → List SymbolicCase → Answer (List SymbolicCase)
join_lists way d [] ys = Ok []
join_lists way d (a ∷ xs) ys = after (join_with way d a ys) (λ cs. after (join_lists way d xs ys) (λ ds. Ok (cs ++ ds)))

-- the cases in which a case of each list holds
abbrev pub join_all : Way → ℕ → List SymbolicCase → List SymbolicCase → Answer (List SymbolicCase)
join_all way d xs ys = if nat_lt (4096 / max 1 (length ys)) (length xs) then Err words.Cases else join_lists way d xs ys

-- the cases of both lists
abbrev pub all_of : List SymbolicCase → List SymbolicCase → Answer (List SymbolicCase)
all_of xs ys = if nat_lt 4096 (length xs + length ys) then Err words.Cases else Ok (xs ++ ys)
