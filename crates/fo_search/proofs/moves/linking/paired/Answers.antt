use Rattle.std.proofs.Common.{◌≡◌, ◌∙◌}
use Rattle.std.specs.List.{zip}
use Rattle.fo_search.proofs.Pairing.{pairs_all, pairs_end}
use Rattle.fo_search.proofs.moves.linking.paired.Goals as goal
use Rattle.fo_search.proofs.moves.linking.paired.Goals.{else-loop-k-test, then-loop-k-test+then-k-terms}

pub returns : goal.returns
returns c =
    let sources = c.args.sources.now in
    let terms = c.args.terms.now in
    let all : c.loop-k.pairs.items ≡ zip sources terms = elim c.loop-k-test.branch [
      | else-loop-k-test w ↦ pairs_all sources terms c.loop-k.k c.loop-k.pairs.items _ w.loop-k-test.false
          c.loop-k.invariant.0
      | then-loop-k-test+then-k-terms w ↦ pairs_end sources terms c.loop-k.k c.loop-k.pairs.items _ w.if-k-terms.true
          c.loop-k.invariant.0
    ] in
    c.from_vec.ensures ∙ all
