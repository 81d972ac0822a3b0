-- Answers of rules, and faults of links, from the parts that are found one after another.
use Rattle.std.specs.Prelude.{ℕ, List, [], ◌∷◌, map, length, nat_eq, Option, slice_get}
use Rattle.std.specs.Option.{option_map}
use Rattle.fo_formula.specs.declared.atoms.FoAtom.{FoAtom}
use Rattle.fo_formula.specs.declared.nodes.FoLink.{FoLink}
use Rattle.fo_formula.specs.declared.numbers.Kind.TheVariants.{Locals}
use Rattle.fo_formula.specs.declared.sequents.FoSequent.{FoSequent}
use Rattle.fo_formula.specs.Bounds.{atoms_bound}
use Rattle.fo_formula.specs.Sizes.{words_size}
use Rattle.fo_formula.specs.Words.{Word}
use Rattle.fo_formula.specs.declared.table.faults.FoFault.{FoFault}
use Rattle.fo_formula.specs.declared.table.faults.FoFault.TheVariants.{NotVariable, NoSuchCase, TermCount, LinkRight}
use Rattle.fo_formula.specs.Answers.{Answer, needs, finds, limited}
use Rattle.fo_formula.specs.LinkTable.{map_place, linked, link_fault, link_premise, unless_fault}
use Rattle.fo_formula.specs.Table.{with_term, right_premise}
use Rattle.fo_formula.specs.Tests.{only_variable}

-- left atom i, an equation, with its other side for the variable that its named side is
abbrev pub named_answer : FoSequent → ℕ → Word → Word → Answer
named_answer s i named other =
    finds (only_variable named) NotVariable (λ n. limited s 0 (with_term s i n other ∷ []))

-- each atom of a case in place of right atom j
abbrev pub case_answer : FoSequent → ℕ → List Word → List Word → List FoAtom → Answer
case_answer s j args terms case =
    limited s (words_size terms) (map (right_premise s j args terms) case)

-- the same, where there is a term for each local of the case
abbrev pub numbered_answer : FoSequent → ℕ → List Word → List Word → List FoAtom → Answer
numbered_answer s j args terms case =
    needs (nat_eq (length terms) (atoms_bound Locals case)) TermCount
    (case_answer s j args terms case)

-- the same of case c, where there is one
abbrev pub chosen_answer : List (List FoAtom) → FoSequent → ℕ → ℕ → List Word → List Word → Answer
chosen_answer cases s j c args terms =
    finds (slice_get cases c) NoSuchCase (λ case. numbered_answer s j args terms case)

-- the first fault of a link's right map
abbrev pub right_link_fault : FoSequent → FoSequent → FoLink → Option FoFault
right_link_fault bud companion link =
    option_map LinkRight (map_place bud.right 0 link.right_map (linked link companion.right))

-- the companion, unless the link has a fault
abbrev pub companion_answer : FoSequent → FoSequent → FoLink → Answer
companion_answer bud companion link =
    unless_fault (link_fault bud companion link) (link_premise companion link)
