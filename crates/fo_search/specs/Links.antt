-- The links from a bud to a companion.
use Rattle.std.specs.Prelude.{ℕ, suc, ◌+◌, List, [], ◌∷◌, map, length, take, Bool, ◌&&◌, ◌||◌, nat_le, is_none}
use Rattle.std.specs.Prelude.{if◌then◌else◌}
use Rattle.std.specs.List.{filter, list_any, range_with_len, zip}
use Rattle.cyc_basics.specs.declared.limits.TheConstants.{MOST_TERMS}
use Rattle.fo_formula.specs.declared.atoms.FoAtom.{FoAtom}
use Rattle.fo_formula.specs.declared.nodes.FoLink.{FoLink}
use Rattle.fo_formula.specs.declared.nodes.FoReason.TheVariants.{Link}
use Rattle.fo_formula.specs.declared.sequents.FoSequent.{FoSequent}
use Rattle.fo_formula.specs.Bounds.{sequent_bound}
use Rattle.fo_formula.specs.Sizes.{sequent_size, reason_size}
use Rattle.fo_formula.specs.Words.{in_atom}
use Rattle.fo_formula.specs.Table.{Bindings, image_sign}
use Rattle.fo_formula.specs.Tests.{same_atom, has_variable}
use Rattle.fo_formula.specs.LinkTable.{link_fault}
use Rattle.fo_search.specs.Subterms.{terms_of_atom, subterms, lists_of}

-- the variable stands in an atom, in a sequent
abbrev pub stands_in_atom : ℕ → FoAtom → Bool
stands_in_atom n x = list_any (has_variable n) (terms_of_atom x)

abbrev pub stands_in : ℕ → FoSequent → Bool
stands_in n s = list_any (stands_in_atom n) s.left || list_any (stands_in_atom n) s.right

-- the variables of a sequent, ascending
abbrev pub variables : FoSequent → List ℕ
variables s = filter (λ n. stands_in n s) (range_with_len 0 (sequent_bound s))

-- the least place of an atom in a list, the list's length if it isn't there
abbrev pub least_place : List FoAtom → FoAtom → ℕ
least_place [] x = 0
least_place (y ∷ ys) x = if same_atom y x then 0 else suc (least_place ys x)

-- for each atom, after the substitution, its least place
abbrev pub least_places : List FoAtom → Bindings → List FoAtom → List ℕ
least_places ys s xs = map (λ x. least_place ys (in_atom (image_sign s) x)) xs

-- the link by a substitution, each entry of its maps the least that fits
abbrev pub link_by : FoSequent → FoSequent → ℕ → Bindings → FoLink
link_by bud companion number s =
    record {
      to = number;
      substitution = s;
      left_map = least_places bud.left s companion.left;
      right_map = least_places bud.right s companion.right;
    }

-- the link has no fault, and the bud with it at most 4,096 terms
abbrev pub is_fit : FoSequent → FoSequent → FoLink → Bool
is_fit bud companion link =
    is_none (link_fault bud companion link) && nat_le (sequent_size bud + reason_size (Link link)) MOST_TERMS

-- the substitutions of subterms of the bud for the companion's variables, in lexicographic order
abbrev pub substitutions : FoSequent → FoSequent → List Bindings
substitutions bud companion = map (zip (variables companion)) (lists_of (length (variables companion)) (subterms bud))

-- the first links from the bud to the companion, the node of this number
abbrev pub links_to : ℕ → FoSequent → FoSequent → ℕ → List FoLink
links_to most bud companion number =
    take most (filter (is_fit bud companion) (map (link_by bud companion number) (substitutions bud companion)))
