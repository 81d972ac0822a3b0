use Rattle.std.proofs.Common.{◌+◌, ◌-◌, arith, ap, Some, ◌∙◌}
use Rattle.derivations.proofs.Deepening.{goes_deeper}
use Rattle.derivations.specs.System.{IsFound}
use Rattle.derivations.specs.declared.search.Stop.TheVariants as stop
use Rattle.derivations.specs.Derivations.{reasons_in, search_in}
use Rattle.derivations.proofs.Searched.{follows, stopped, sized, same_reasons, found_proof}
use Rattle.derivations.specs.Outcomes.{reasons_of}
use Rattle.derivations.proofs.found.searching.search_proof.Goals as goal

pub returns-in-Some-TooManyDerivations-clause-outcome : goal.returns-in-Some-TooManyDerivations-clause-outcome
returns-in-Some-TooManyDerivations-clause-outcome g c =
    stopped g.S.Rules.calculus g.S.Rules.occurs g.S.Rules.allows c.args.start c.loop-bound.moves
    c.loop-bound.invariant.subject c.args.most c.args.depth c.loop-bound.bound stop.TooManyDerivations _
    (reasons_in c.search_depth.new.moves) (omega arith)
    c.in_ok-search_depth.ensures.searched (c.in-Some-TooManyDerivations.is
    ∙ ap Some c.in-Some-TooManyDerivations.field-0-is) c.loop-bound.invariant.searched

pub returns-in-Some-TooManyStates-clause-outcome : goal.returns-in-Some-TooManyStates-clause-outcome
returns-in-Some-TooManyStates-clause-outcome g c =
    stopped g.S.Rules.calculus g.S.Rules.occurs g.S.Rules.allows c.args.start c.loop-bound.moves
    c.loop-bound.invariant.subject c.args.most c.args.depth c.loop-bound.bound stop.TooManyStates _
    (reasons_in c.search_depth.new.moves) (omega arith)
    c.in_ok-search_depth.ensures.searched (c.in-Some-TooManyStates.is ∙ ap Some c.in-Some-TooManyStates.field-0-is)
    c.loop-bound.invariant.searched

pub proof_of-requires : goal.proof_of-requires
proof_of-requires g c =
    let found = stopped g.S.Rules.calculus g.S.Rules.occurs g.S.Rules.allows c.args.start c.loop-bound.moves
    c.loop-bound.invariant.subject c.args.most c.args.depth c.loop-bound.bound stop.Found _
    (reasons_in c.search_depth.new.moves) (omega arith)
    c.in_ok-search_depth.ensures.searched (c.in-Some-Found.is ∙ ap Some c.in-Some-Found.field-0-is)
    c.loop-bound.invariant.searched in
    sized g.S.Rules.calculus g.S.Rules.occurs g.S.Rules.allows c.args.start c.search_depth.new.moves
    (c.in_ok-search_depth.ensures.subject ∙ c.loop-bound.invariant.subject) (g.L.Logic.logic c.args.logic.now)
    c.requires.of c.requires.order c.in_ok-search_depth.ensures.order c.args.most c.args.depth found

pub returns-in-Some-Found : goal.returns-in-Some-Found
returns-in-Some-Found g c =
    let found = stopped g.S.Rules.calculus g.S.Rules.occurs g.S.Rules.allows c.args.start c.loop-bound.moves
    c.loop-bound.invariant.subject c.args.most c.args.depth c.loop-bound.bound stop.Found _
    (reasons_in c.search_depth.new.moves) (omega arith)
    c.in_ok-search_depth.ensures.searched (c.in-Some-Found.is ∙ ap Some c.in-Some-Found.field-0-is)
    c.loop-bound.invariant.searched in
    let same = c.in_ok-search_depth.ensures.subject ∙ c.loop-bound.invariant.subject in
    let l = g.L.Logic.logic c.args.logic.now in
    let are = c.in_ok-proof_of-in-Some-Found.ensures in record {
      outcome = ap IsFound
          (ap reasons_of are
          ∙ same_reasons g.S.Rules.calculus g.S.Rules.occurs g.S.Rules.allows c.args.start c.search_depth.new.moves same
          l c.requires.of c.requires.order c.in_ok-search_depth.ensures.order c.args.most c.args.depth found) ∙ found;
      proved = found_proof g.S.Rules.calculus g.S.Rules.occurs g.S.Rules.allows c.args.start c.search_depth.new.moves
          same l c.requires.of c.requires.order c.in_ok-search_depth.ensures.order c.args.most c.args.depth found _ are;
    }

pub loop-bound-preserved : goal.loop-bound-preserved
loop-bound-preserved g c =
    let same = c.in_ok-search_depth.ensures.subject ∙ c.loop-bound.invariant.subject in
    let s = search_in g.S.Rules.calculus c.args.start in record {
      order = c.in_ok-rewind-in-None.ensures.order;
      nothing = c.in_ok-rewind-in-None.ensures.nothing;
      subject = c.in_ok-rewind-in-None.ensures.subject ∙ same;
      searched =
          goes_deeper s c.args.most c.loop-bound.bound _ (c.args.depth + 1 - c.loop-bound.bound) _
          (reasons_in c.search_depth.new.moves) _ (omega arith) (omega arith)
          (c.in_ok-search_depth.ensures.searched s
          (follows g.S.Rules.calculus g.S.Rules.occurs g.S.Rules.allows c.args.start c.loop-bound.moves
          c.loop-bound.invariant.subject)) c.in-None.is
          ∙ c.loop-bound.invariant.searched;
    }
