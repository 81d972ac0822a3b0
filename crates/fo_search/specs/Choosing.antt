-- Terms that are chosen one after another, and whether those chosen leave a choice possible.
use Rattle.std.specs.Prelude.{◌≤◌, ℕ, List, [], ◌∷◌, length, take, Bool, true, ◌&&◌, ◌||◌, not, nat_eq, nat_lt}
use Rattle.std.specs.Prelude.{replicate}
use Rattle.std.specs.List.{filter, list_any, list_all, zip}
use Rattle.cyc_basics.specs.declared.limits.TheConstants.{MOST_LEFT, MOST_RIGHT, MOST_TERMS}
use Rattle.fo_formula.specs.declared.terms.Sign.{Sign}
use Rattle.fo_formula.specs.declared.terms.Sign.TheVariants.{Universal, Local, Constructor}
use Rattle.fo_formula.specs.declared.atoms.FoAtom.{FoAtom}
use Rattle.fo_formula.specs.declared.nodes.FoLink.{FoLink}
use Rattle.fo_formula.specs.declared.sequents.FoSequent.{FoSequent}
use Rattle.fo_formula.specs.Sizes.{sequent_size}
use Rattle.fo_formula.specs.Words.{Word, in_atom}
use Rattle.fo_formula.specs.Table.{Bindings}
use Rattle.fo_formula.specs.Tests.{same_atom}
use Rattle.fo_rules.specs.declared.parts.changes.Change.{Change}
use Rattle.fo_rules.specs.declared.parts.changes.Change.TheVariants.{Instance, Substitution}
use Rattle.fo_rules.specs.Putting.{put}
use Rattle.back_links.specs.Branches.{below}
use Rattle.fo_search.specs.declared.moves.wanted.LinkValues.{LinkValues}
use Rattle.fo_search.specs.declared.moves.wanted.CaseLocals.{CaseLocals}
use Rattle.fo_search.specs.declared.moves.wanted.Wanted.{Wanted}
use Rattle.fo_search.specs.declared.moves.wanted.Wanted.TheVariants.{Values, Locals}
use Rattle.fo_search.specs.Subterms.{terms_of_atom, lists_of}
use Rattle.fo_search.specs.Links.{link_by, is_fit}
use Rattle.fo_search.specs.After.{holds_by, suits}

-- the substitution has a pair for the variable
abbrev pub has_pair : Bindings → ℕ → Bool
has_pair pairs n = list_any (λ (p : ℕ × Word). nat_eq n p.0) pairs

-- the change tells what stands in the sign's place, also where more terms are chosen
abbrev pub settles : Change → Sign → Bool
settles (Instance args locals) (Universal n) = true
settles (Instance args locals) (Local n) = nat_lt n (length locals)
settles (Instance args locals) (Constructor c k) = true
settles (Substitution pairs) (Universal n) = has_pair pairs n
settles (Substitution pairs) (Local n) = true
settles (Substitution pairs) (Constructor c k) = true

abbrev pub settles_word : Change → Word → Bool
settles_word change w = list_all (settles change) w

abbrev pub settles_atom : Change → FoAtom → Bool
settles_atom change x = list_all (settles_word change) (terms_of_atom x)

-- the atom stands among these after the change
abbrev pub stands_after : Change → List FoAtom → FoAtom → Bool
stands_after change atoms x = list_any (λ y. same_atom y (in_atom (put change) x)) atoms

-- the atom, if it is settled, stands among these after the change
abbrev pub may_stand : Change → List FoAtom → FoAtom → Bool
may_stand change atoms x = not (settles_atom change x) || stands_after change atoms x

-- the atom of a case, if it is settled, holds by the left side after the change
abbrev pub may_hold : Change → List FoAtom → FoAtom → Bool
may_hold change left x = not (settles_atom change x) || holds_by left (in_atom (put change) x)

-- the sequents are within the limits of a node
abbrev pub IsLimited : FoSequent → Type 0
IsLimited s = (length s.left ≤ MOST_LEFT) × (length s.right ≤ MOST_RIGHT) × (sequent_size s ≤ MOST_TERMS)

abbrev pub IsWithin : Wanted → Type 0
IsWithin (Values goal) = IsLimited goal.bud.now × IsLimited goal.companion.now
IsWithin (Locals goal) = Unit {0}

-- some choice of values that begins with these may be right
abbrev pub may_link : LinkValues → List Word → Bool
may_link goal made =
    list_all (may_stand (Substitution (zip goal.sources.now made)) goal.bud.now.left) goal.companion.now.left
    && list_all (may_stand (Substitution (zip goal.sources.now made)) goal.bud.now.right) goal.companion.now.right

abbrev pub may_suit : CaseLocals → List Word → Bool
may_suit goal made = list_all (may_hold (Instance goal.arguments.now made) goal.left.now) goal.case.now

abbrev pub may_do : Wanted → List Word → Bool
may_do (Values goal) made = may_link goal made
may_do (Locals goal) made = may_suit goal made

-- the link from the bud to the companion that puts these terms for the sources
abbrev pub link_with : LinkValues → List Word → FoLink
link_with goal terms =
    link_by goal.bud.now goal.companion.now goal.number (zip goal.sources.now terms)

-- the choice is right
abbrev pub does : Wanted → List Word → Bool
does (Values goal) terms = is_fit goal.bud.now goal.companion.now (link_with goal terms)
does (Locals goal) terms = suits goal.left.now goal.arguments.now goal.case.now terms

-- the choice alone, if it is right
abbrev pub if_right : (List Word → Bool) → List Word → List (List Word)
if_right test terms = filter test (terms ∷ [])

-- the right choices that begin with these terms and go on with k of the values
abbrev pub done_after : (List Word → Bool) → List Word → ℕ → List Word → List (List Word)
done_after test made k values = below (if_right test) made (replicate k values)

-- the first right choices of k of the values, in lexicographic order
abbrev pub first_choices : ℕ → Wanted → ℕ → List Word → List (List Word)
first_choices most wanted k values = take most (filter (does wanted) (lists_of k values))
