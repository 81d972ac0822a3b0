use Rattle.std.proofs.Common.{◌≡◌, ◌+◌, inl, inr, ◌∷◌, [], drop, sym, ◌∙◌, subst, arith}
use Rattle.std.proofs.lemmas.Grind.{common_steps}
use Rattle.std.proofs.lemmas.List.{drop_more}
use Rattle.std.proofs.Math.ListN.{drop_of_length-le}
use Rattle.pair_family.specs.Family.{InFamily}
use Rattle.pair_family.specs.Tables.{pairs_of}
use Rattle.cyc_basics.specs.Words.{IsMember}
use Rattle.sat_pairs.proofs.Taken.{at_member, grown_then}
use Rattle.sat_pairs.proofs.rounds.put_all.Goals as goal

pub put-requires-clause-member : goal.put-requires-clause-member
put-requires-clause-member c =
    let m = at_member c.args.found.now c.loop-known.known-index c.known-item.result c.loop-known-test.true
    (sym c.known-item.is) in
    subst (InFamily c.args.defs.now.list c.args.pred) (sym c.in_ok-copy.ensures.cases)
    (c.requires.members c.known-item.result m)

pub loop-known-preserved : goal.loop-known-preserved
loop-known-preserved c =
    let rest = drop (c.loop-known.known-index + 1) c.args.found.now in
    let here : drop c.loop-known.known-index c.args.found.now ≡ c.known-item.result ∷ rest = grind
    (arith, common_steps, drop_more c.args.found.now c.loop-known.known-index c.known-item.result) in
    record {
      part = c.in_ok-now.ensures.part.0;
      count = c.in_ok-now.ensures.part.1;
      grown = grown_then c.args.table.now c.loop-known.table c.put.new.table c.loop-known.invariant.grown
          c.in_ok-now.ensures.grown;
      done = λ b m. elim (c.loop-known.invariant.done b m) [
        | inl i ↦ elim (subst (IsMember b) here i) [
          | inl s ↦ inr (subst (λ z. IsMember z (pairs_of c.put.new.table c.args.pred)) (c.in_ok-copy.ensures.cases ∙ s)
              c.in_ok-now.ensures.taken)
          | inr r ↦ inl r
        ]
        | inr t ↦ inr (c.in_ok-now.ensures.grown.within c.args.pred b t)
      ];
    }

pub returns-clause-taken : goal.returns-clause-taken
returns-clause-taken c =
    let none : drop c.loop-known.known-index c.args.found.now
    ≡ [] = grind (arith, common_steps, drop_of_length-le c.args.found.now) in
    λ b m. elim (c.loop-known.invariant.done b m) [ inl i ↦ absurd (subst (IsMember b) none i) | inr t ↦ t ]
