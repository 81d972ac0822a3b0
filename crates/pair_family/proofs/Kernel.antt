-- What labels say has numbers within bounds.
use Rattle.std.proofs.Common.{ℕ, suc, ◌<◌, List, ◌&&◌, arith}
use Rattle.std.specs.Prelude.{nat_eq}
use Rattle.std.specs.List.{list_any}
use Rattle.heap_formula.specs.declared.terms.Term.{Term}
use Rattle.pair_family.specs.Within.{IsWithin}
use Rattle.pair_family.specs.Combination.{Two, upto, pairs_below, is_between, is_in_class, is_least, kept}
use Rattle.pair_family.proofs.Lists.{at_each, filter_in, upto_in, pairs_in}

pub kept_within : (k : ℕ) (at : ℕ → Term) (f : Term → ℕ) (ds : List Two) (cs : List Term)
    → IsWithin (suc k) (kept k at f ds cs)
kept_within k at f ds cs = record {
  same = at_each (λ q. (q.0 < suc k) × (q.1 < suc k)) (kept k at f ds cs).same
      (λ q m. let l = pairs_in (suc k) q (filter_in (λ q. nat_eq (f (at q.0)) (f (at q.1))) q (pairs_below (suc k)) m).0
      in (omega arith, l.1));
  differ = at_each (λ q. (q.0 < suc k) × (q.1 < suc k)) (kept k at f ds cs).differ
      (λ q m. let l = pairs_in (suc k) q (filter_in (λ q. list_any (is_between f at q.0 q.1) ds) q (pairs_below (suc k))
      m).0 in (omega arith, l.1));
  cells = at_each (λ i. i < suc k) (kept k at f ds cs).cells
      (λ i m. upto_in (suc k) i (filter_in (λ i. is_least f at i && list_any (is_in_class f at i) cs) i (upto (suc k))
      m).0);
}
