-- Rules that are told one by one, and which are left.
use Rattle.std.specs.Prelude.{ℕ, List, [], ◌++◌, map, Option, Some, None}
use Rattle.std.specs.List.{filter, flat_map}
use Rattle.fo_formula.specs.declared.atoms.FoAtom.{FoAtom}
use Rattle.fo_formula.specs.declared.nodes.FoRule.{FoRule}
use Rattle.fo_formula.specs.declared.nodes.FoRule.TheVariants.{Unfold, Right}
use Rattle.fo_formula.specs.declared.sequents.FoSequent.{FoSequent}
use Rattle.fo_formula.specs.Words.{Word}
use Rattle.fo_search.specs.declared.moves.rights.CaseLeft.{CaseLeft}
use Rattle.fo_search.specs.declared.moves.rights.LeftPlace.{LeftPlace}
use Rattle.fo_search.specs.declared.moves.told.RulesAfter.{RulesAfter}
use Rattle.fo_formula.specs.declared.theory.FoTheory.{FoTheory}
use Rattle.fo_search.specs.After.{suits}
use Rattle.fo_search.specs.Subterms.{subterms}
use Rattle.fo_search.specs.Walks.{choices_left}
use Rattle.fo_search.specs.Trying.{is_applicable_within}

-- Right with the terms that are left for a case
abbrev pub rights_left : List FoAtom → List Word → CaseLeft → List FoRule
rights_left left values c = map (Right c.atom c.case) (choices_left (suits left c.arguments c.body.now) values c.walk)

-- and for each of the cases
abbrev pub rights_of : List FoAtom → List Word → List CaseLeft → List FoRule
rights_of left values cases = flat_map (rights_left left values) cases

-- for the case that is at work, where there is one, and for those behind it
abbrev pub rights_in : List FoAtom → List Word → Option CaseLeft → List CaseLeft → List FoRule
rights_in left values None cases = []
rights_in left values (Some c) cases = rights_left left values c ++ rights_of left values cases

-- those that go at a place
abbrev pub going : LeftPlace → List FoRule → List FoRule
going at rules = filter (is_applicable_within at.most at.theory.now at.sequent.now) rules

-- the rules that are left
abbrev pub rules_left : RulesAfter → List FoRule
rules_left r =
    filter (is_applicable_within r.most r.theory.now r.sequent)
    (rights_in r.sequent.left r.values.items r.current r.cases.items ++ map Unfold r.unfolds.items)

-- what is left of Right for cases of a sequent
abbrev pub rights_going : ℕ → FoTheory → FoSequent → List CaseLeft → List FoRule
rights_going most t s cases = filter (is_applicable_within most t s) (rights_of s.left (subterms s) cases)
