use Rattle.std.proofs.Common.{◌-◌, inl, inr, length, take, drop, sym, subst}
use Rattle.cyc_basics.specs.Words.{IsMember}
use Rattle.sat_pairs.specs.Turns.{found_by}
use Rattle.sat_pairs.proofs.Turned.{rest_in, rest_or}
use Rattle.sat_pairs.proofs.rounds.put_found.Goals as goal

pub put_all-requires-clause-members : goal.put_all-requires-clause-members
put_all-requires-clause-members c =
    let t = c.args.turn.now in
    λ b m. c.requires.members b (rest_in (found_by t) t.put b
    (subst (λ z. IsMember b (take (length z - t.put) (drop t.put z))) c.found-found.ensures m))

pub returns-clause-taken : goal.returns-clause-taken
returns-clause-taken c =
    let t = c.args.turn.now in
    λ b m. elim (rest_or (found_by t) t.put b m) [
      | inl a ↦ c.in_ok-now.ensures.grown.within t.pred b (c.requires.given b a)
      | inr r ↦ c.in_ok-now.ensures.taken b
          (subst (λ z. IsMember b (take (length z - t.put) (drop t.put z))) (sym c.found-found.ensures) r)
    ]
