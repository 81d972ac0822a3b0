-- The links that a goal is offered have no fault.
use Rattle.std.proofs.Common.{◌≡◌, Bool, true, List, Some, sym, subst}
use Rattle.std.specs.Prelude.{slice_get}
use Rattle.std.specs.Option.{is_none}
use Rattle.heap_formula.specs.declared.proof_rules.Link.{Link}
use Rattle.heap_formula.specs.Words.{Each}
use Rattle.rule_table.specs.LinkTable.{link_fault}
use Rattle.rule_table.specs.RuleBook.{variables_of}
use Rattle.rule_book.specs.ProgramLinks.{program_link_none}
use Rattle.back_links.specs.Listing.{links, candidates}
use Rattle.search_moves.specs.Nodes.{OpenGoal, MadeNode, judgement_of}
use Rattle.search_moves.specs.Trying.{Theory}
use Rattle.search_moves.specs.Offering.{links_offered}
use Rattle.proof_search.specs.Faultless.{IsLinked}
use Rattle.proof_search.proofs.Members.{each_passes}
use Rattle.proof_search.proofs.LinksWithin.{all_offered, links_target}
use Rattle.heap_formula.proofs.AllMembers.{each_imply, each_both}
use Rattle.cyc_basics.proofs.Options.{none_is}

pub links_fit : (t : Theory) (nodes : List MadeNode) (g : OpenGoal)
    → Each (IsLinked t nodes g.premise.judgement) (links_offered t nodes g)
links_fit t nodes g =
    let j = g.premise.judgement in
    all_offered (IsLinked t nodes j) t nodes g (λ k node e whole.
    let p = variables_of t.lines j in
    let passes : Link → Bool = λ link. is_none (link_fault j (judgement_of node) link p) in
    let found = links j (judgement_of node) k p in
    each_imply (λ (link : Link). (link.target ≡ k) × (passes link ≡ true)) (IsLinked t nodes j)
    (λ link h. (
      node,
      subst (λ v. slice_get nodes v ≡ Some node) (sym h.0) e,
      program_link_none t.lines j (judgement_of node) link
          (none_is (link_fault j (judgement_of node) link p) h.1) whole,
    )) found
    (each_both (λ (link : Link). link.target ≡ k) (λ (link : Link). passes link ≡ true) found
    (links_target j (judgement_of node) k p) (each_passes passes (candidates j (judgement_of node) k))))
