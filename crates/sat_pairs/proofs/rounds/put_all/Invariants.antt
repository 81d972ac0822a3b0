use Rattle.std.proofs.Common.{◌≡◌, ◌⊎◌, drop}
use Rattle.pair_family.specs.BasePairs.{BasePair}
use Rattle.pair_family.specs.Tables.{pairs_of}
use Rattle.cyc_basics.specs.Words.{IsMember}
use Rattle.sat_pairs.specs.Growth.{total, IsPartOf, IsGrown}
use Rattle.sat_pairs.proofs.rounds.put_all.Given as goal

abbrev pub invariant-loop-known : goal.invariant-loop-known
invariant-loop-known l = record {
  part : IsPartOf l.defs.list l.limits.pairs l.table;
  count : l.now ≡ total l.table;
  grown : IsGrown l.fn.table l.table;
  done : (b : BasePair) → IsMember b l.found → IsMember b (drop l.known-index l.found)
      ⊎ IsMember b (pairs_of l.table l.pred);
}
